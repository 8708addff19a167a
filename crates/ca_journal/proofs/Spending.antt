-- Costs and ends of the main text, as events come behind others.
use Rattle.std.proofs.Common.{◌≡◌, ℕ, ◌+◌, ◌<◌, ◌^◌, List, [], ◌∷◌, ◌++◌, Bool, true, false, cond, suc, refl, ◌∙◌, ap, arith}
use Rattle.std.proofs.lemmas.Bool.{ltb-true}
use Rattle.ca_term.specs.Cost.{weight_shown, cost_of}
use Rattle.ca_term.specs.Event.{EventView}
use Rattle.ca_meaning.specs.Cost.{cost}
use Rattle.ca_journal.specs.Fitting.{is_light}
use Rattle.ca_journal.specs.Mains.{is_main, mains}
use Rattle.ca_journal.specs.Numbered.{Numbered, events_of}

pub light : (e : EventView) → is_light e ≡ true → weight_shown e < 2 ^ 64
light e h = ltb-true (weight_shown e) (2 ^ 64) h

pub cost_append : (xs ys : List EventView) → cost (xs ++ ys) ≡ cost xs + cost ys
cost_append [] ys = omega arith
cost_append (x ∷ xs) ys = let h = cost_append xs ys in omega (arith, h)

pub events_append : (xs ys : List Numbered) → events_of (xs ++ ys) ≡ events_of xs ++ events_of ys
events_append [] ys = refl
events_append (x ∷ xs) ys = ap (λ es. x.event ∷ es) (events_append xs ys)

pub mains_append : (xs ys : List EventView) → mains (xs ++ ys) ≡ mains xs + mains ys
mains_append [] ys = omega arith
mains_append (x ∷ xs) ys = by (is_main x) (mains_append xs ys) where
  by : (b : Bool) → mains (xs ++ ys) ≡ mains xs + mains ys → cond b (suc (mains (xs ++ ys))) (mains (xs ++ ys)) ≡ cond b (suc (mains xs)) (mains xs) + mains ys
  by true h = omega (arith, h)
  by false h = h

-- with one event more
pub cost_push : (xs : List Numbered) (x : Numbered) → cost (events_of (xs ++ x ∷ [])) ≡ cost (events_of xs) + cost_of x.event
cost_push xs x = ap cost (events_append xs (x ∷ [])) ∙ cost_append (events_of xs) (x.event ∷ []) ∙ (let h : cost (x.event ∷ []) ≡ cost_of x.event = omega arith in ap (λ (n : ℕ). cost (events_of xs) + n) h)
