-- The journal of a run that goes on to a quiet state has an end for each budget, where it is cut.
use Rattle.std.proofs.Common.{◌≡◌, ◌∙◌, ⊎_elim, ℕ, zero, suc, ◌-◌, ◌<◌, ◌≤◌, List, [], ◌∷◌, ◌++◌, take, refl, sym, ap, subst, arith, Bool, true, false, Option, Some, None, eqb-true}
use Rattle.std.specs.Prelude.{◌==◌, option_map, nat_le}
use Rattle.std.proofs.lemmas.Bool.Decides.{nat_tests}
use Rattle.ca_term.specs.declared.event.Ending.TheVariants.{Ended, Faulted}
use Rattle.ca_term.specs.Cost.{cost_of}
use Rattle.ca_term.specs.Event.{EventView, over}
use Rattle.ca_term.specs.Program.{ProgramView}
use Rattle.ca_meaning.specs.Cost.{cost}
use Rattle.ca_meaning.specs.Ends.{HasEnd, IsOpen, but_last}
use Rattle.ca_meaning.specs.EndsLaw.{IsQuiet}
use Rattle.ca_meaning.specs.Legal.{EndsLast, Legal, Reaches, is_end_of_main}
use Rattle.ca_meaning.specs.State.{State}
use Rattle.ca_meaning.specs.Steps.{Steps}
use Rattle.ca_meaning.proofs.Possible.{quiet_stuck}
use Rattle.ca_journal.specs.Cut.{End, end_in, first_end, kept, main_end, one_later, stops_at}
use Rattle.ca_journal.specs.declared.cut.CutAt.{CutAt}
use Rattle.ca_journal.specs.declared.cut.CutAt.TheVariants.{Limit}
use Rattle.ca_journal.proofs.Cuts.{cut_ends}
use Rattle.ca_pool.specs.PoolEnds.{ended_by}
use Rattle.ca_table.specs.Worked.{HasMainEnd}
use Rattle.ca_table.proofs.Having.{false_unless}

not_here : {G : Type 0} {X : Type 0} (x : X) → Some x ≡ None → G
not_here x e = absurd (let z : Some x ≡ None = e in cc)

-- an event with which the main text goes on
goes_with : (e : EventView) → main_end e ≡ None → is_end_of_main e ≡ false
goes_with (over zero Ended) h = not_here _ h
goes_with (over zero (Faulted f p r)) h = not_here _ h
goes_with (over (suc t) how) h = false_unless (suc t == 0) (λ e. let k = eqb-true (suc t) 0 e in omega (arith, k))
goes_with e h = refl

-- none of the events is the end of the main text
abbrev NoMain : List EventView → Type 0
NoMain [] = Unit {0}
NoMain (e ∷ es) = (main_end e ≡ None) × NoMain es

no_main_in : {G : Type 0} (es : List EventView) → NoMain es → HasMainEnd es → G
no_main_in [] calm h = absurd h.1
no_main_in (x ∷ es) calm h = ⊎_elim (λ is. absurd (let f : is_end_of_main h.0 ≡ false = ap is_end_of_main is ∙ goes_with x calm.0 in let z : false ≡ true = sym f ∙ h.2 in cc)) (λ k. no_main_in es calm.1 (h.0, k, h.2)) h.1

goes_more : (e : EventView) (es : List EventView) → is_end_of_main e ≡ false → EndsLast es → EndsLast (e ∷ es)
goes_more e [] calm go = tt
goes_more e (f ∷ es) calm go = (calm, go)

goes_all : (es : List EventView) → NoMain es → EndsLast es
goes_all [] calm = tt
goes_all (e ∷ es) calm = goes_more e es (goes_with e calm.0) (goes_all es calm.1)

last_of : (before : List EventView) (e : EventView) → NoMain (before ++ e ∷ []) → main_end e ≡ None
last_of [] e calm = calm.0
last_of (x ∷ before) e calm = last_of before e calm.1

open_all : (es : List EventView) → NoMain es → IsOpen es
open_all es calm = (λ h. not_here _ (last_of h.0 (over 0 Ended) (subst NoMain h.1 calm)), λ h. not_here _ (last_of h.3.0 (over 0 (Faulted h.0 h.1 h.2)) (subst NoMain h.3.1 calm)))

none_later : (r : Option End) → option_map one_later r ≡ None → r ≡ None
none_later None e = refl
none_later (Some c) e = not_here _ e

unspent : (left n : ℕ) → nat_le left n ≡ false → n < left
unspent left n t = grind (arith, nat_tests)

-- where no end is found the events don't cost the budget, and the main text goes on
found_none : (left : ℕ) (es : List EventView) → 0 < left → first_end left es ≡ None → (cost es < left) × NoMain es
found_none left [] lt h = (lt, tt)
found_none left (e ∷ es) lt h = by (main_end e) refl (nat_le left (cost_of e)) refl (found_none (left - cost_of e) es) h where
  by : (a : Option CutAt) → main_end e ≡ a → (b : Bool) → nat_le left (cost_of e) ≡ b → (0 < left - cost_of e → first_end (left - cost_of e) es ≡ None → (cost es < left - cost_of e) × NoMain es) → stops_at a b (first_end (left - cost_of e) es) ≡ None → (cost (e ∷ es) < left) × NoMain (e ∷ es)
  by (Some at) m b t later k = not_here _ k
  by None m true t later k = not_here _ k
  by None m false t later k = let room = unspent left (cost_of e) t in let r = later (omega (arith, room)) (none_later (first_end (left - cost_of e) es) k) in (let less = r.0 in omega (arith, less, room), (m, r.1))

same_end : (c d : End) → Some c ≡ Some d → c ≡ d
same_end c d e = cc

goes_to : (left : ℕ) (es : List EventView) (c : End) → first_end left es ≡ Some c → EndsLast (take c.0 es)
goes_to left [] c h = absurd (let z : None ≡ Some c = h in cc)
goes_to left (e ∷ es) c h = by (main_end e) refl (nat_le left (cost_of e)) (first_end (left - cost_of e) es) refl (goes_to (left - cost_of e) es) h where
  by : (a : Option CutAt) → main_end e ≡ a → (b : Bool) → (r : Option End) → first_end (left - cost_of e) es ≡ r → ((d : End) → first_end (left - cost_of e) es ≡ Some d → EndsLast (take d.0 es)) → stops_at a b r ≡ Some c → EndsLast (take c.0 (e ∷ es))
  by (Some at) m b r is later k = subst (λ (d : End). EndsLast (take d.0 (e ∷ es))) (same_end (1, at) c k) tt
  by None m true r is later k = subst (λ (d : End). EndsLast (take d.0 (e ∷ es))) (same_end (1, Limit) c k) tt
  by None m false None is later k = absurd (let z : None ≡ Some c = k in cc)
  by None m false (Some d) is later k = subst (λ (d : End). EndsLast (take d.0 (e ∷ es))) (same_end (one_later d) c k) (goes_more e (take d.0 es) (goes_with e m) (later d is))

steps_to : (program : ProgramView) (n : ℕ) (es : List EventView) (s s2 : State) → Steps program s es s2 → (s3 : State) × Steps program s (take n es) s3
steps_to program zero [] s s2 steps = (s, refl)
steps_to program zero (e ∷ es) s s2 steps = (s, refl)
steps_to program (suc n) [] s s2 steps = (s, refl)
steps_to program (suc n) (e ∷ es) s s2 steps = let r = steps_to program n es steps.0 s2 steps.2 in (r.0, (steps.0, steps.1, r.1))

cost_but_last : (es : List EventView) → cost (but_last es) ≤ cost es
cost_but_last [] = omega arith
cost_but_last (e ∷ []) = omega arith
cost_but_last (e ∷ (f ∷ es)) = let k = cost_but_last (f ∷ es) in omega (arith, k)

in_first_end : (budget : ℕ) (es : List EventView) → 0 < budget → end_in budget es ≡ first_end budget es
in_first_end zero es lt = absurd (omega (arith, lt))
in_first_end (suc n) es lt = refl

-- a budget that is used up, or the end of the main text, is an end
pub cut_by_cost : {G : Type 0} (budget : ℕ) (es : List EventView) → 0 < budget → budget ≤ cost es → end_in budget es ≡ None → G
cut_by_cost budget es lt le h = let r = found_none budget es lt (sym (in_first_end budget es lt) ∙ h) in let less = r.0 in absurd (omega (arith, less, le))

pub cut_by_main : {G : Type 0} (budget : ℕ) (es : List EventView) → 0 < budget → HasMainEnd es → end_in budget es ≡ None → G
cut_by_main budget es lt main h = no_main_in es (found_none budget es lt (sym (in_first_end budget es lt) ∙ h)).1 main

-- so a run that comes to a quiet state where nothing else ends it is cut where it has an end
pub cut_run : (program : ProgramView) (budget : ℕ) (es : List EventView) (s : State) → 0 < budget → Reaches program es s → (end_in budget es ≡ None → IsQuiet s)
    → Legal program (kept (end_in budget es) es) × HasEnd program budget (kept (end_in budget es) es) (ended_by (option_map (λ c. c.1) (end_in budget es)))
cut_run program budget es s lt reaches quiet = by (end_in budget es) refl where
  by : (o : Option End) → end_in budget es ≡ o → Legal program (kept o es) × HasEnd program budget (kept o es) (ended_by (option_map (λ c. c.1) o))
  by None h = let r = found_none budget es lt (sym (in_first_end budget es lt) ∙ h) in let less = r.0 in let few = cost_but_last es in let q = quiet h in
      (record { state = s; reaches = reaches; goes_on = goes_all es r.1 }, (omega (arith, less, few), open_all es r.1, less, (s, reaches, λ p. quiet_stuck program s p.1 p.0 q p.2)))
  by (Some c) h = let k = steps_to program c.0 es reaches.opening s reaches.steps in
      (record { state = k.0; reaches = record { opening = reaches.opening; opens = reaches.opens; steps = k.1 }; goes_on = goes_to budget es c (sym (in_first_end budget es lt) ∙ h) }, (cut_ends budget es c h).ends program)
