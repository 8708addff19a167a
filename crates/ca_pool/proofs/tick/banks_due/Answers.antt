use Rattle.std.proofs.Common.{◌∙◌, ◌++◌, ◌∷◌, [], ℕ, List, ap, subst, sym}
use Rattle.std.specs.List.Sorted.{IsPermutation}
use Rattle.std.proofs.lemmas.List.Sorted.{IsNonDecreasingBy-from_sort}
use Rattle.ca_value.specs.Deadlines.{due}
use Rattle.ca_solo.proofs.Ticking.{ordered_by_sort}
use Rattle.ca_pool.proofs.Ticked.{has_all, none_yet, one_more, took_all, took_more}
use Rattle.ca_pool.proofs.tick.banks_due.Goals as goal

pub loop-place-init : goal.loop-place-init
loop-place-init g c = (none_yet c.none-banks.result (due c.args.now c.args.timers.now.deadlines), c.clear.ensures.items)

pub loop-place-preserved : goal.loop-place-preserved
loop-place-preserved g c = let ds = due c.args.now c.args.timers.now.deadlines in (
  one_more c.loop-place.banks c.add.new.self ds c.loop-place.place c.in-Some.port.n c.loop-place.invariant.0 c.add.ensures (sym c.in-Some.ensures),
  c.in_ok-push-in-Some.ensures.items ∙ ap (λ (xs : List ℕ). xs ++ c.in-Some.port.n ∷ []) c.loop-place.invariant.1 ∙ sym (took_more ds c.loop-place.place c.in-Some.port.n (sym c.in-Some.ensures)),
)

pub returns-in-None-clause-homes : goal.returns-in-None-clause-homes
returns-in-None-clause-homes g c = has_all c.loop-place.banks (due c.args.now c.args.timers.now.deadlines) c.loop-place.place c.loop-place.invariant.0 (sym c.in-None.ensures)

pub returns-in-None-clause-ordered : goal.returns-in-None-clause-ordered
returns-in-None-clause-ordered g c = let ds = due c.args.now c.args.timers.now.deadlines in let s = c.sort_unstable in let us = s.new.self.items in
    ordered_by_sort ds us (subst (λ (xs : List ℕ). IsPermutation xs us) (c.loop-place.invariant.1 ∙ took_all ds c.loop-place.place (sym c.in-None.ensures)) s.ensures.permutation) (IsNonDecreasingBy-from_sort (λ (x : ℕ). x) us s.ensures.sorted)
