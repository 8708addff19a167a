use Rattle.std.proofs.Common.{◌≡◌, sym, ap, ◌∙◌}
use Rattle.std.specs.Prelude.{slice_set}
use Rattle.ca_value.specs.Pairs.{pairs_list}
use Rattle.ca_value.specs.View.{view, pair_view, pair_views}
use Rattle.ca_value.proofs.PairLaws.{pair_views_set, view_there}
use Rattle.ca_value.proofs.value.Pairs.set_value.Goals as goal

pub returns-clause-old : goal.returns-clause-old
returns-clause-old c =
    let there = view_there (pairs_list c.args.self.now) c.args.place c.replace-pair.result c.requires c.replace-pair.ensures.old in
    ap (λ p. p.1) (sym c.into_parts-key.ensures ∙ sym there)

pub returns-clause-set : goal.returns-clause-set
returns-clause-set c =
    let same : pair_view c.new-2.result ≡ ((pair_view c.replace-pair.result).0, view c.args.value) =
    c.new-2.ensures ∙ ap (λ p. (p.0, view c.args.value)) (sym c.into_parts-key.ensures) in
    ap pair_views (c.set.ensures.set ∙ ap (λ ys. slice_set ys c.args.place c.new-2.result) c.replace-pair.ensures.set)
    ∙ pair_views_set (pairs_list c.args.self.now) c.args.place c.replace-pair.result c.new.result c.new-2.result (view c.args.value)
    c.requires c.replace-pair.ensures.old same
