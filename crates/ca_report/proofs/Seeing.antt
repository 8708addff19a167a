-- What a tally may rely on at the next event of a legal journal.
use Rattle.std.proofs.Common.{◌≡◌, ⊎_elim, ℕ, ◌+◌, ◌*◌, ◌<◌, ◌≤◌, ◌^◌, List, [], ◌∷◌, ◌++◌, length, map, refl, sym, ap, ◌∙◌, subst, Option, None, arith}
use Rattle.ca_value.specs.IsValue.{any}
use Rattle.ca_term.specs.Operation.{WhatView}
use Rattle.ca_term.specs.Program.{ProgramView, IsProgram}
use Rattle.ca_term.specs.Event.{EventView, made}
use Rattle.ca_term.specs.Cost.{cost_of, weight_shown}
use Rattle.ca_meaning.specs.Cost.{cost}
use Rattle.ca_meaning.specs.Legal.{Reaches, Legal}
use Rattle.ca_meaning.specs.RunValues.{ShowsLittle}
use Rattle.ca_meaning.specs.Sound.{Each}
use Rattle.ca_meaning.specs.State.{State}
use Rattle.ca_meaning.specs.Steps.{Step}
use Rattle.ca_meaning.proofs.ChannelLaws.{steps_split}
use Rattle.ca_meaning.proofs.ValueRuns.{run_holds}
use Rattle.ca_meaning.proofs.ValuesWritten.{written_of, any_program}
use Rattle.ca_meaning.proofs.ValueCosts.{all_light}
use Rattle.ca_replay.specs.declared.world.World.{World}
use Rattle.ca_replay.specs.Judged.{IsWorldTold}
use Rattle.ca_replay.specs.World.{world_state}
use Rattle.ca_report.specs.declared.tally.Tally.{Tally}
use Rattle.ca_report.specs.Counts.{accepted, passed, given_out}
use Rattle.ca_report.specs.Made.{channels_made}
use Rattle.ca_report.specs.Passages.{passage_in}
use Rattle.ca_report.specs.Tallied.{IsTally, Rows, none_counted, with_new, with_passage, rows, rows_by, rows_after, row_of}
use Rattle.ca_report.proofs.Marking.{made_or_marked}
use Rattle.ca_report.proofs.Placing.{made_last}
use Rattle.ca_report.proofs.Tallying.{cost_last, counts_of, rows_last, rows_made, same_counts}
use Rattle.ca_report.proofs.Telling.{Balanced, Facts, absent, facts}

each_end : {A : Type 0} (P : A → Type 0) (xs : List A) (x : A) → Each P (xs ++ x ∷ []) → P x
each_end {A} P [] x all = all.0
each_end {A} P (y ∷ xs) x all = each_end P xs x all.1

each_front : {A : Type 0} (P : A → Type 0) (xs : List A) (x : A) → Each P (xs ++ x ∷ []) → Each P xs
each_front {A} P [] x all = tt
each_front {A} P (y ∷ xs) x all = (all.0, each_front P xs x all.1)

cost_little : (e : EventView) → ShowsLittle e → cost_of e ≤ 40_961
cost_little e le = omega arith

cost_within : (es : List EventView) → Each ShowsLittle es → cost es ≤ 40_961 * length es
cost_within [] all = omega arith
cost_within (e ∷ es) all = omega (arith, cost_little e all.0, cost_within es all.1)

module _ (program : ProgramView) (before : List EventView) (e : EventView) (checked : IsProgram program) (legal : Legal program (before ++ e ∷ [])) where
  shows : Each ShowsLittle (before ++ e ∷ [])
  shows = all_light any (before ++ e ∷ []) (run_holds any program (written_of any program checked (any_program program)) (before ++ e ∷ []) legal.state legal.reaches).1

  -- its weight fits
  pub light : weight_shown e < 2 ^ 64
  light = let le : weight_shown e ≤ 655_360 = each_end ShowsLittle before e shows in omega arith

  -- what all cost fits
  pub cheap : length before < 2 ^ 32 → cost before + cost_of e < 2 ^ 64
  cheap few = omega (arith, cost_within before (each_front ShowsLittle before e shows), cost_little e (each_end ShowsLittle before e shows))

  split : (s : State) × Reaches program before s × Step program s e legal.state
  split =
      let m = steps_split program before (e ∷ []) legal.reaches.opening legal.state legal.reaches.steps in
      (m.0, record { opening = legal.reaches.opening; opens = legal.reaches.opens; steps = m.1 }, subst (Step program m.0 e) (sym m.2.2) m.2.1)

  -- the rows with the event are those of the journal with it
  pub rows_seen : (old : Rows) → old ≡ map (row_of before) (channels_made before) → rows_after e old ≡ map (row_of (before ++ e ∷ [])) (channels_made (before ++ e ∷ []))
  rows_seen old is = ⊎_elim
      (λ y. subst (λ z. rows_after z old ≡ map (row_of (before ++ z ∷ [])) (channels_made (before ++ z ∷ []))) (sym y.4) (at_made y.0 y.1 y.2 y.3 (subst (λ z. Step program split.0 z legal.state) y.4 split.2)))
      (λ y. ap (λ o. rows_by o (passage_in e) old) y.2 ∙ ap (with_passage (passage_in e)) is ∙ sym (rows_last before e (channels_made before) here.rising) ∙ ap (map (row_of (before ++ e ∷ []))) (sym (made_last before e ∙ y.1 (channels_made before))))
      (made_or_marked e) where
        here : Facts before split.0
        here = facts program before split.0 split.1

        none_counted_yet : (q : ℕ) → split.0.channels q ≡ None → counts_of before q ≡ none_counted
        none_counted_yet q none = let b : Balanced before q None = subst (Balanced before q) none (here.balanced q) in same_counts (accepted q before) (passed q before) (given_out q before) 0 0 0 b.0 b.1 b.2

        at_made : (t q : ℕ) (what : WhatView) (moment : Option ℕ) → Step program split.0 (made t q what moment) legal.state → rows_after (made t q what moment) old ≡ map (row_of (before ++ made t q what moment ∷ [])) (channels_made (before ++ made t q what moment ∷ []))
        at_made t q what moment x = ap (with_new q what moment) is
            ∙ sym (rows_made before t q what moment (channels_made before) (absent split.0 q (channels_made before) x.3 here.there) (none_counted_yet q x.3))
            ∙ ap (map (row_of (before ++ made t q what moment ∷ []))) (sym (made_last before (made t q what moment)))

-- the tally of the events so far, with one more
pub tallied : (t u : Tally) (program : ProgramView) (before : List EventView) (e : EventView) → IsTally t before → IsProgram program → Legal program (before ++ e ∷ []) → u.events ≡ t.events + 1 → u.cost ≡ t.cost + cost_of e → rows u ≡ rows_after e (rows t) → IsTally u (before ++ e ∷ [])
tallied t u program before e saw checked legal events costs rows_are = record {
  events = omega (arith, events, saw.events, one_longer before e);
  cost = omega (arith, costs, saw.cost, cost_last before e);
  rows = rows_are ∙ rows_seen program before e checked legal (rows t) saw.rows;
} where
  one_longer : (xs : List EventView) (x : EventView) → length (xs ++ x ∷ []) ≡ length xs + 1
  one_longer [] x = refl
  one_longer (y ∷ xs) x = omega (arith, one_longer xs x)

-- what is told of a legal run
pub legal_told : (most : ℕ) (program : ProgramView) (before : List EventView) (e : EventView) (w : World) → IsWorldTold most program before e w → Legal program (before ++ e ∷ [])
legal_told most program before e w told = record { state = world_state w; reaches = told.run.run.reaches; goes_on = told.run.run.goes_on }
