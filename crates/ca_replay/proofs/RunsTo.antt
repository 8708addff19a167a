-- A legal run that leads to a state, and the next event: it goes on, or that event is the first that no legal run has there.
use Rattle.std.proofs.Common.{◌≡◌, ℕ, suc, ◌+◌, ◌<◌, ◌≤◌, List, [], ◌∷◌, ◌++◌, length, take, drop, refl, sym, ap, ◌∙◌, subst, Option, Some, None, true, false, append_assoc, arith}
use Rattle.std.specs.Prelude.{is_some}
use Rattle.std.proofs.lemmas.List.{take-append-drop, take-append-le}
use Rattle.ca_term.specs.Event.{EventView}
use Rattle.ca_term.specs.Program.{ProgramView}
use Rattle.ca_meaning.specs.Legal.{EndsLast, Reaches, Legal}
use Rattle.ca_meaning.specs.State.{State, Opening}
use Rattle.ca_meaning.specs.Steps.{Step, Steps}
use Rattle.ca_meaning.proofs.ChannelLaws.{steps_split}
use Rattle.ca_meaning.proofs.Single.{reached_once}
use Rattle.ca_replay.specs.declared.main_end.MainEnd.{MainEnd}
use Rattle.ca_replay.specs.MainEnd.{main_text_end}
use Rattle.ca_replay.specs.RunTo.{IsRunTo}
use Rattle.ca_replay.specs.Verdict.{IsFirstIllegal}
use Rattle.ca_replay.proofs.LastEnds.{last_is, goes_more, over_stops, goes_first}

steps_more : (program : ProgramView) (es : List EventView) (e : EventView) (s m f : State) → Steps program s es m → Step program m e f → Steps program s (es ++ e ∷ []) f
steps_more program [] e s m f x y = (f, subst (λ z. Step program z e f) x y, refl)
steps_more program (a ∷ es) e s m f (n, x, y) z = (n, x, steps_more program es e n m f y z)

reaches_more : (program : ProgramView) (es : List EventView) (e : EventView) (m f : State) → Reaches program es m → Step program m e f → Reaches program (es ++ e ∷ []) f
reaches_more program es e m f r x = record { opening = r.opening; opens = r.opens; steps = steps_more program es e r.opening m f r.steps x }

legal_first : (program : ProgramView) (xs ys : List EventView) (s : State) → Reaches program (xs ++ ys) s → EndsLast (xs ++ ys) → Legal program xs
legal_first program xs ys s r g =
    let m = steps_split program xs ys r.opening s r.steps in
    record { state = m.0; reaches = record { opening = r.opening; opens = r.opens; steps = m.1 }; goes_on = goes_first xs ys g }

-- an event that the state doesn't have makes the journal illegal
stops_here : (program : ProgramView) (es : List EventView) (e : EventView) (m : State) → Reaches program es m → ((f : State) → Step program m e f → ⊥) → Legal program (es ++ e ∷ []) → ⊥
stops_here program es e m r none legal =
    let l = steps_split program es (e ∷ []) legal.reaches.opening legal.state legal.reaches.steps in
    let here : Reaches program es l.0 = record { opening = legal.reaches.opening; opens = legal.reaches.opens; steps = l.1 } in
    none l.2.0 (subst (λ z. Step program z e l.2.0) (reached_once program es l.0 m here r) l.2.1)

-- the events before and the next one are the journal's first ones
first_more : (before : List EventView) (e : EventView) (rest : List EventView) → take (suc (length before)) (before ++ e ∷ rest) ≡ before ++ e ∷ []
first_more [] e rest = refl
first_more (a ∷ es) e rest = ap (λ (l : List EventView). a ∷ l) (first_more es e rest)

more_than : (before : List EventView) (e : EventView) (rest : List EventView) → length before < length (before ++ e ∷ rest)
more_than [] e rest = omega arith
more_than (a ∷ es) e rest = let k = more_than es e rest in omega (arith, k)

first_at : (program : ProgramView) (journal before : List EventView) (e : EventView) (rest : List EventView) (number : ℕ) → before ++ e ∷ rest ≡ journal → number ≡ length before → IsFirstIllegal program (before ++ e ∷ rest) (length before) → IsFirstIllegal program journal number
first_at program journal before e rest number whole is x = subst (IsFirstIllegal program journal) (sym is) (subst (λ l. IsFirstIllegal program l (length before)) whole x)

module _ (program : ProgramView) (before : List EventView) (s : State) where
  each_legal : (end : Option MainEnd) → IsRunTo program before s end → (rest : List EventView) (i : ℕ) → i ≤ length before → Legal program (take i (before ++ rest))
  each_legal end run rest i le =
      let whole : take i before ++ drop i before ≡ before = take-append-drop i before in
      let short : Legal program (take i before) =
      legal_first program (take i before) (drop i before) s (subst (λ es. Reaches program es s) (sym whole) run.reaches) (subst EndsLast (sym whole) run.goes_on) in
      subst (Legal program) (sym (take-append-le i before rest le)) short

  module _ (e : EventView) (rest : List EventView) where
    first_illegal : (end : Option MainEnd) → IsRunTo program before s end → (Legal program (before ++ e ∷ []) → ⊥) → IsFirstIllegal program (before ++ e ∷ rest) (length before)
    first_illegal end run stops = record {
      within = more_than before e rest;
      illegal = λ l. stops (subst (Legal program) (first_more before e rest) l);
      least = each_legal end run (e ∷ rest);
    }

    pub illegal_behind : (m : MainEnd) → IsRunTo program before s (Some m) → IsFirstIllegal program (before ++ e ∷ rest) (length before)
    illegal_behind m run = first_illegal (Some m) run (λ l. over_stops before e m (sym run.ends) l.goes_on)

    pub illegal_here : IsRunTo program before s None → ((f : State) → Step program s e f → ⊥) → IsFirstIllegal program (before ++ e ∷ rest) (length before)
    illegal_here run none = first_illegal None run (stops_here program before e s run.reaches none)

  -- the state behind the next event
  pub run_more : (e : EventView) (f : State) → IsRunTo program before s None → Step program s e f → IsRunTo program (before ++ e ∷ []) f (main_text_end e)
  run_more e f run step = record {
    reaches = reaches_more program before e s f run.reaches step;
    goes_on = goes_more before e (sym run.ends) run.goes_on;
    ends = sym (last_is before e);
  }

-- the next event of the journal is illegal where the main text is over
pub illegal_over : (program : ProgramView) (journal before : List EventView) (e : EventView) (rest : List EventView) (number : ℕ) (s : State) (end : Option MainEnd) → before ++ e ∷ rest ≡ journal → number ≡ length before → is_some end ≡ true → IsRunTo program before s end → IsFirstIllegal program journal number
illegal_over program journal before e rest number s None whole is some run = absurd (let k : false ≡ true = some in cc)
illegal_over program journal before e rest number s (Some m) whole is some run = first_at program journal before e rest number whole is (illegal_behind program before s e rest m run)

-- and where the state doesn't have it
pub illegal_next : (program : ProgramView) (journal before : List EventView) (e : EventView) (rest : List EventView) (number : ℕ) (s : State) → before ++ e ∷ rest ≡ journal → number ≡ length before → IsRunTo program before s None → ((f : State) → Step program s e f → ⊥) → IsFirstIllegal program journal number
illegal_next program journal before e rest number s whole is run none = first_at program journal before e rest number whole is (illegal_here program before s e rest run none)

-- the events before the next one are fewer than all
pub fewer : (before : List EventView) (e : EventView) (rest journal : List EventView) → before ++ e ∷ rest ≡ journal → length before < length journal
fewer before e rest journal whole = subst (λ l. length before < length l) whole (more_than before e rest)

pub moved_on : (before : List EventView) (e : EventView) (rest journal : List EventView) → before ++ e ∷ rest ≡ journal → (before ++ e ∷ []) ++ rest ≡ journal
moved_on before e rest journal whole = append_assoc before (e ∷ []) rest ∙ whole

pub one_longer : (before : List EventView) (e : EventView) → length (before ++ e ∷ []) ≡ length before + 1
one_longer [] e = refl
one_longer (f ∷ es) e = let k = one_longer es e in omega (arith, k)

pub still_open : (program : ProgramView) (before : List EventView) (s : State) (end : Option MainEnd) → is_some end ≡ false → IsRunTo program before s end → IsRunTo program before s None
still_open program before s None none run = run
still_open program before s (Some m) none run = absurd (let k : true ≡ false = none in cc)

pub run_first : (program : ProgramView) (s : State) → Opening program s → IsRunTo program [] s None
run_first program s opens = record { reaches = record { opening = s; opens = opens; steps = refl }; goes_on = tt; ends = refl }
