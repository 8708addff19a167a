-- What the last event tells of the main text's end.
use Rattle.std.proofs.Common.{◌≡◌, ℕ, zero, suc, List, [], ◌∷◌, ◌++◌, refl, sym, ap, ◌∙◌, Some, None, true, false, arith}
use Rattle.std.specs.Prelude.{◌==◌}
use Rattle.std.proofs.lemmas.Bool.Decides.{nat_tests}
use Rattle.ca_term.specs.declared.event.Ending.TheVariants.{Ended, Faulted}
use Rattle.ca_term.specs.Event.{EventView, made, spawned, done, met, parked, posted, settled, defaulted, closed, registered, printed, ticked, over}
use Rattle.ca_meaning.specs.Ends.{EndsWith, IsEnded, IsFaulted, IsOpen}
use Rattle.ca_meaning.specs.Legal.{EndsLast, is_end_of_main}
use Rattle.ca_replay.specs.declared.main_end.MainEnd.{MainEnd}
use Rattle.ca_replay.specs.MainEnd.{main_text_end, last_end}

not_main : (t : ℕ) → (suc t == 0) ≡ false
not_main t = grind (arith, nat_tests)

none_is_some : {G : Type 0} (m : MainEnd) → None ≡ Some m → G
none_is_some m e = absurd (let k : None ≡ Some m = e in cc)

-- an event that isn't the end of the main text
goes_by : (e : EventView) → main_text_end e ≡ None → is_end_of_main e ≡ false
goes_by (over zero Ended) n = none_is_some MainEnd.Ended (sym n)
goes_by (over zero (Faulted f p r)) n = none_is_some MainEnd.Faulted (sym n)
goes_by (over (suc t) how) n = not_main t
goes_by e n = refl

-- an event that is
ends_by : (e : EventView) (m : MainEnd) → main_text_end e ≡ Some m → is_end_of_main e ≡ true
ends_by (over zero Ended) m e = refl
ends_by (over zero (Faulted f p r)) m e = refl
ends_by (over (suc t) how) m e = none_is_some m e
ends_by (made t p what moment) m e = none_is_some m e
ends_by (spawned t u kind r) m e = none_is_some m e
ends_by (done t n b a) m e = none_is_some m e
ends_by (met t n side p v w o) m e = none_is_some m e
ends_by (parked t w bs) m e = none_is_some m e
ends_by (posted t w p v) m e = none_is_some m e
ends_by (settled w n side p v) m e = none_is_some m e
ends_by (defaulted t v) m e = none_is_some m e
ends_by (closed t p) m e = none_is_some m e
ends_by (registered t name args v) m e = none_is_some m e
ends_by (printed t line) m e = none_is_some m e
ends_by (ticked n ports) m e = none_is_some m e

pub last_is : (es : List EventView) (e : EventView) → last_end (es ++ e ∷ []) ≡ main_text_end e
last_is [] e = refl
last_is (f ∷ []) e = refl
last_is (f ∷ (g ∷ es)) e = last_is (g ∷ es) e

-- one event more, where the main text isn't over
pub goes_more : (es : List EventView) (e : EventView) → last_end es ≡ None → EndsLast es → EndsLast (es ++ e ∷ [])
goes_more [] e n g = tt
goes_more (f ∷ []) e n g = (goes_by f n, tt)
goes_more (f ∷ (h ∷ es)) e n g = (g.0, goes_more (h ∷ es) e n g.1)

-- and none where it is
pub over_stops : (es : List EventView) (e : EventView) (m : MainEnd) → last_end es ≡ Some m → EndsLast (es ++ e ∷ []) → ⊥
over_stops [] e m is g = none_is_some m is
over_stops (f ∷ []) e m is g = let k : true ≡ false = sym (ends_by f m is) ∙ g.0 in cc
over_stops (f ∷ (h ∷ es)) e m is g = over_stops (h ∷ es) e m is g.1

-- each beginning goes on
pub goes_first : (xs ys : List EventView) → EndsLast (xs ++ ys) → EndsLast xs
goes_first [] ys g = tt
goes_first (e ∷ []) ys g = tt
goes_first (e ∷ (f ∷ xs)) ys g = (g.0, goes_first (f ∷ xs) ys g.1)

-- which event the last one is
abbrev EndsAs : MainEnd → List EventView → Type 0
EndsAs MainEnd.Ended es = IsEnded es
EndsAs MainEnd.Faulted es = IsFaulted es

apart : {G : Type 0} → Some MainEnd.Ended ≡ Some MainEnd.Faulted → G
apart e = absurd (let k : Some MainEnd.Ended ≡ Some MainEnd.Faulted = e in cc)

one_ends : (e : EventView) (m : MainEnd) → main_text_end e ≡ Some m → EndsAs m (e ∷ [])
one_ends (over zero Ended) MainEnd.Ended is = ([], refl)
one_ends (over zero Ended) MainEnd.Faulted is = apart is
one_ends (over zero (Faulted f p r)) MainEnd.Ended is = apart (sym is)
one_ends (over zero (Faulted f p r)) MainEnd.Faulted is = (f, p, r, ([], refl))
one_ends (over (suc t) how) m is = none_is_some m is
one_ends (made t p what moment) m is = none_is_some m is
one_ends (spawned t u kind r) m is = none_is_some m is
one_ends (done t n b a) m is = none_is_some m is
one_ends (met t n side p v w o) m is = none_is_some m is
one_ends (parked t w bs) m is = none_is_some m is
one_ends (posted t w p v) m is = none_is_some m is
one_ends (settled w n side p v) m is = none_is_some m is
one_ends (defaulted t v) m is = none_is_some m is
one_ends (closed t p) m is = none_is_some m is
one_ends (registered t name args v) m is = none_is_some m is
one_ends (printed t line) m is = none_is_some m is
one_ends (ticked n ports) m is = none_is_some m is

more_ends : (e : EventView) (es : List EventView) (m : MainEnd) → EndsAs m es → EndsAs m (e ∷ es)
more_ends e es MainEnd.Ended x = (e ∷ x.0, ap (λ (l : List EventView). e ∷ l) x.1)
more_ends e es MainEnd.Faulted x = (x.0, x.1, x.2, (e ∷ x.3.0, ap (λ (l : List EventView). e ∷ l) x.3.1))

ends_as : (es : List EventView) (m : MainEnd) → last_end es ≡ Some m → EndsAs m es
ends_as [] m is = none_is_some m is
ends_as (e ∷ []) m is = one_ends e m is
ends_as (e ∷ (f ∷ es)) m is = more_ends e (f ∷ es) m (ends_as (f ∷ es) m is)

pub ended : (es : List EventView) → last_end es ≡ Some MainEnd.Ended → IsEnded es
ended es is = ends_as es MainEnd.Ended is

pub faulted : (es : List EventView) → last_end es ≡ Some MainEnd.Faulted → IsFaulted es
faulted es is = ends_as es MainEnd.Faulted is

ends_with : (es : List EventView) (e : EventView) (m : MainEnd) → EndsWith es e → main_text_end e ≡ Some m → last_end es ≡ None → ⊥
ends_with es e m x is n = none_is_some m (sym n ∙ ap last_end x.1 ∙ last_is x.0 e ∙ is)

pub stays_open : (es : List EventView) → last_end es ≡ None → IsOpen es
stays_open es n = (λ x. ends_with es (over 0 Ended) MainEnd.Ended x refl n, λ x. ends_with es (over 0 (Faulted x.0 x.1 x.2)) MainEnd.Faulted x.3 refl n)
