use Rattle.std.proofs.Common.{rules, ◌∙◌, ◌+◌, ◌∷◌, [], ◌++◌, length, map, sym, ap, length-append}
use Rattle.std.proofs.lemmas.List.{map-append}
use mathlib.Core.Option.{some}
use lib.ListN.{get_elem?}
use Rattle.std.specs.Prelude.{Some}
use Rattle.std.specs.Mem.Slots.{slots_items, slots_filled, slots_len}
use Rattle.crossbeam_utils.specs.Padded.{padded_value}
use Rattle.ca_turns.proofs.Rows.{all_some, take_one, more_left, more_gone}
use Rattle.ca_turns.proofs.Spread.{taken_out}
use Rattle.ca_turns.proofs.ends.emptied.Goals as goal

pub unreachable-requires : goal.unreachable-requires
unreachable-requires g c = all_some c.requires.full.1.0 c.loop-i.i (sym (ap (λ l. get_elem? l c.loop-i.i) c.requires.full.1.1) ∙ taken_out _ _ c.loop-i.i c.take.result _ c.loop-i.invariant.2 c.take.ensures.value c.into_inner.ensures ∙ ap some c.in-None.is)

pub loop-i-preserved : goal.loop-i-preserved
loop-i-preserved g c = let i = c.loop-i.invariant in let o = c.take.ensures.others in let p = c.push_reserved.ensures in let at = c.loop-i.i in (
  (λ k le lt. more_left (slots_filled c.loop-i.closed.slots) _ at (slots_len c.loop-i.closed.slots) o.1 i.0 k le (search (rules, lt, o.2))),
  more_gone (slots_filled c.loop-i.closed.slots) _ at o.1 i.1,
  o.0 ∙ i.2,
  o.2 ∙ i.3,
  ap (map Some) p.items ∙ map-append Some c.loop-i.rest.items (c.in-Some.x ∷ []) ∙ ap (λ l. l ++ Some c.in-Some.x ∷ []) i.4 ∙ sym (take_one (map padded_value (slots_items c.args.closed.slots)) at (Some c.in-Some.x) (taken_out _ _ at c.take.result _ i.2 c.take.ensures.value c.into_inner.ensures ∙ ap some c.in-Some.is)),
  ap length p.items ∙ length-append c.loop-i.rest.items (c.in-Some.x ∷ []) ∙ ap (λ n. n + 1) i.5,
  p.capacity ∙ i.6,
  p.in_place ∙ i.7,
)
