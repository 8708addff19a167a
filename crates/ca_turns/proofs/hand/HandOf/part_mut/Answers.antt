use Rattle.std.proofs.Common.{rules, ◌<◌, ◌∙◌, length, sym, ap, refl}
use Rattle.ca_turns.specs.Lending.{with_part}
use mathlib.Core.Option.{some}
use lib.ListN.{get_elem?}
use Rattle.ca_turns.proofs.Lists.{in_range, read_at}
use Rattle.ca_turns.proofs.Keeping.{rewritten}
use Rattle.ca_turns.proofs.hand.HandOf.part_mut.Goals as goal

pub index_mut-requires : goal.index_mut-requires
index_mut-requires g c = let at = ap (λ v. get_elem? v.parts c.args.part) c.self.view_is ∙ c.requires.1 in let h : c.args.part < length c.self.inside.parts.items = in_range c.self.inside.parts.items c.args.part _ at in search (rules, h)

pub inside-requires : goal.inside-requires
inside-requires g c = (c.requires.0, c.index_mut.ensures.value ∙ read_at c.self.inside.parts.items c.args.part _ c.index_mut.result.now (ap (λ v. get_elem? v.parts c.args.part) c.self.view_is ∙ c.requires.1))

pub invariant_of-self-lent : goal.invariant_of-self-lent
invariant_of-self-lent g c w = rewritten c.self.inside.parts.items c.args.part c.requires.0 w (ap (λ v. get_elem? v.parts c.args.part) c.self.view_is ∙ c.requires.1) c.self.invariant

pub returns : goal.returns
returns g c = (
  (refl, λ w. ap (λ v. with_part v c.args.part w) c.self.view_is),
  record {
    writes_back = tt;
    value = c.requires.1 ∙ ap some (sym (c.index_mut.ensures.value ∙ read_at c.self.inside.parts.items c.args.part _ c.index_mut.result.now (ap (λ v. get_elem? v.parts c.args.part) c.self.view_is ∙ c.requires.1)) ∙ c.inside.ensures.value);
  },
)
