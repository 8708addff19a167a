-- A journal has one end for a budget.
use Rattle.std.proofs.Common.{◌≡◌, ◌∙◌, ◌++◌, ℕ, List, [], ◌∷◌, arith, refl, sym, ap, Some, None, Option}
use Rattle.ca_term.specs.declared.event.Ending.TheVariants.{Ended, Faulted}
use Rattle.ca_term.specs.Program.{ProgramView}
use Rattle.ca_term.specs.Event.{EventView, over}
use Rattle.ca_meaning.specs.Ends.{EndsWith, HasEnd, IsEnded, IsFaulted, RunEnd, ended, faulted, limit, stuck}

abbrev last_of : {A : Type 0} → List A → Option A
last_of [] = None
last_of (x ∷ []) = Some x
last_of (x ∷ (y ∷ xs)) = last_of (y ∷ xs)

ends_in : {A : Type 0} (xs : List A) (x : A) → last_of (xs ++ x ∷ []) ≡ Some x
ends_in [] x = refl
ends_in (y ∷ []) x = refl
ends_in (y ∷ (z ∷ xs)) x = ends_in (z ∷ xs) x

one_last : (journal : List EventView) (e f : EventView) → EndsWith journal e → EndsWith journal f → e ≡ f
one_last journal e f a b = let k : Some e ≡ Some f = sym (ends_in a.0 e) ∙ ap last_of (sym a.1 ∙ b.1) ∙ ends_in b.0 f in cc

not_both : {G : Type 0} (journal : List EventView) → IsEnded journal → IsFaulted journal → G
not_both journal a b = absurd (let k : over 0 Ended ≡ over 0 (Faulted b.0 b.1 b.2) = one_last journal _ _ a b.3 in cc)

pub one_end : (program : ProgramView) (budget : ℕ) (journal : List EventView) (a b : RunEnd) → HasEnd program budget journal a → HasEnd program budget journal b → a ≡ b
one_end program budget journal ended ended a b = refl
one_end program budget journal ended faulted a b = not_both journal a.1 b.1
one_end program budget journal ended limit a b = absurd (b.1.0 a.1)
one_end program budget journal ended stuck a b = absurd (b.1.0 a.1)
one_end program budget journal faulted ended a b = not_both journal b.1 a.1
one_end program budget journal faulted faulted a b = refl
one_end program budget journal faulted limit a b = absurd (b.1.1 a.1)
one_end program budget journal faulted stuck a b = absurd (b.1.1 a.1)
one_end program budget journal limit ended a b = absurd (a.1.0 b.1)
one_end program budget journal limit faulted a b = absurd (a.1.1 b.1)
one_end program budget journal limit limit a b = refl
one_end program budget journal limit stuck a b = absurd (omega (arith, a.2, b.2))
one_end program budget journal stuck ended a b = absurd (a.1.0 b.1)
one_end program budget journal stuck faulted a b = absurd (a.1.1 b.1)
one_end program budget journal stuck limit a b = absurd (omega (arith, a.2, b.2))
one_end program budget journal stuck stuck a b = refl
