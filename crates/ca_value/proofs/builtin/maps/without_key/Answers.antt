use Rattle.std.proofs.Common.{◌≡◌, Some, None, sym, ap, ◌∙◌, arith}
use Rattle.std.proofs.lemmas.List.{length-map}
use Rattle.ca_value.specs.Pairs.{pairs_list}
use Rattle.ca_value.specs.View.{view, pair_view, pair_views}
use Rattle.ca_value.specs.Maps.{key_place}
use Rattle.ca_value.proofs.MapLaws.{at_place, absent}
use Rattle.ca_value.proofs.PairLaws.{pair_views_remove}
use Rattle.ca_value.proofs.builtin.maps.without_key.Goals as goal

pub without-requires : goal.without-requires
without-requires c =
    let there : key_place (pair_views (pairs_list c.args.pairs)) (view c.args.key.now) ≡ Some c.in-Some.place =
    ap (λ ps. key_place (pair_views ps) (view c.args.key.now)) (sym c.as_slice.ensures) ∙ sym c.place.ensures ∙ c.in-Some.is in
    let at = at_place (pair_views (pairs_list c.args.pairs)) (view c.args.key.now) c.in-Some.place there in
    omega (arith, at.within, length-map (pairs_list c.args.pairs) pair_view)

pub returns-in-Some : goal.returns-in-Some
returns-in-Some c =
    let there : key_place (pair_views (pairs_list c.args.pairs)) (view c.args.key.now) ≡ Some c.in-Some.place =
    ap (λ ps. key_place (pair_views ps) (view c.args.key.now)) (sym c.as_slice.ensures) ∙ sym c.place.ensures ∙ c.in-Some.is in
    let at = at_place (pair_views (pairs_list c.args.pairs)) (view c.args.key.now) c.in-Some.place there in
    ap pair_views c.without.ensures ∙ pair_views_remove (pairs_list c.args.pairs) c.in-Some.place ∙ sym at.left

pub returns-in-None : goal.returns-in-None
returns-in-None c =
    let gone : key_place (pair_views (pairs_list c.args.pairs)) (view c.args.key.now) ≡ None =
    ap (λ ps. key_place (pair_views ps) (view c.args.key.now)) (sym c.as_slice.ensures) ∙ sym c.place.ensures ∙ c.in-None.is in
    sym (absent (pair_views (pairs_list c.args.pairs)) (view c.args.key.now) gone).same
