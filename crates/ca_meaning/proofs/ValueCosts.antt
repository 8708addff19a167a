-- What an event of a run shows weighs little.
use Rattle.std.proofs.Common.{◌*◌, ◌≤◌, List, [], ◌∷◌, arith}
use Rattle.ca_value.specs.Tree.{Tree, Trees, none as no_values, item as value_item}
use Rattle.ca_value.specs.Measure.{weight_of_items}
use Rattle.ca_value.specs.IsValue.{Scalars, AreValues}
use Rattle.ca_term.specs.Event.{EventView, BranchView, take_of, put_of, made, spawned, done, met, parked, posted, settled, defaulted, closed, registered, printed, ticked, over}
use Rattle.ca_term.specs.Cost.{weight_done, cost_of}
use Rattle.ca_meaning.specs.Operands.{count_of}
use Rattle.ca_meaning.specs.Sound.{Each}
use Rattle.ca_meaning.specs.RunValues.{IsOffered, OffersIn, EventHas, ShowsLittle}

module _ (scalars : Scalars) where
  items_weigh : (vs : Trees) → AreValues scalars vs → weight_of_items vs ≤ 131_072 * count_of vs
  items_weigh no_values h = omega arith
  items_weigh (value_item v vs) h = let k = items_weigh vs h.1 in let a = h.0.light in omega (arith, k, a)

  done_weighs : (b : BranchView) (a : Tree) → OffersIn scalars b → IsOffered scalars a → weight_done b a ≤ 131_000
  done_weighs (take_of p) a h i = i.light
  done_weighs (put_of p v) a h i = h.light

  pub shown_weighs : (e : EventView) → EventHas scalars e → ShowsLittle e
  shown_weighs (made t p what moment) h = omega arith
  shown_weighs (spawned t u kind result) h = omega arith
  shown_weighs (done t k b a) h = let w = done_weighs b a h.0 h.1 in omega (arith, w)
  shown_weighs (met t k side p v w o) h = let a = h.light in omega (arith, a)
  shown_weighs (parked t w bs) h = let n = h.1 in omega (arith, n)
  shown_weighs (posted t w p v) h = let a = h.light in omega (arith, a)
  shown_weighs (settled w k side p v) h = let a = h.light in omega (arith, a)
  shown_weighs (defaulted t v) h = let a = h.light in omega (arith, a)
  shown_weighs (closed t p) h = omega arith
  shown_weighs (registered t name args v) h = let k = items_weigh args h.0 in let n = h.1 in let a = h.2.light in omega (arith, k, n, a)
  shown_weighs (printed t line) h = omega (arith, h)
  shown_weighs (ticked m ports) h = omega arith
  shown_weighs (over t how) h = omega arith

  pub costs_little : (e : EventView) → EventHas scalars e → cost_of e ≤ 40_961
  costs_little e h = let w = shown_weighs e h in omega (arith, w)

  pub all_light : (es : List EventView) → Each (EventHas scalars) es → Each ShowsLittle es
  all_light [] h = tt
  all_light (e ∷ es) h = (shown_weighs e h.0, all_light es h.1)
