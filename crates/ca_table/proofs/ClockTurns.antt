-- What a turn does to the clock: the answers that it gave, and that it failed.
use Rattle.std.proofs.Common.{◌≡◌, ◌∙◌, ⊎_elim, ℕ, ◌≤◌, List, [], ◌∷◌, ◌++◌, refl, sym, ap, subst, arith, Option, Some, None, Bool, true, false, eqb}
use Rattle.std.specs.Prelude.{◌||◌}
use mathlib.Core.List.{append-nil}
use Rattle.ca_value.specs.Tree.{Tree}
use Rattle.ca_term.specs.declared.event.Ending.TheVariants.{Ended, Faulted}
use Rattle.ca_term.specs.Event.{EventView, made, spawned, done, met, parked, posted, settled, defaulted, closed, registered, printed, ticked, over}
use Rattle.ca_term.specs.Operation.{SeedView}
use Rattle.ca_term.specs.Program.{ProgramView}
use Rattle.ca_timers.specs.Causes.{Rose}
use Rattle.ca_meaning.specs.Body.{At}
use Rattle.ca_commit.specs.Agents.{TaskAgent}
use Rattle.ca_commit.specs.Contents.{Parts, TimersPart, main_over}
use Rattle.ca_commit.specs.Moving.{MovesShown, MovesTurn}
use Rattle.ca_commit.specs.Running.{or_was}
use Rattle.ca_commit.specs.SilentMoves.{StayTold}
use Rattle.ca_commit.specs.TaskMoves.{GoOnBy, MarksEnd, with_mark}
use Rattle.ca_commit.specs.Touched as said
use Rattle.ca_commit.proofs.Laid.{IsPart, laid_parts}
use Rattle.ca_commit.proofs.Landing.{timers_as_before}
use Rattle.ca_commit.proofs.Seats.{some_same}
use Rattle.ca_table.specs.Moments.{ClockWent, NeverFall, StandIn, ToldWentOn, moment_told, moments_told, turn_asked}
use Rattle.ca_table.specs.Worked.{fails_clock}
use Rattle.ca_table.proofs.Having.{either_true}
use Rattle.ca_table.proofs.Moments.{fall_after, rises, went_after}

-- from the first timers to the second the clock gave these answers, and it failed where that is said
pub record Went (c c2 : TimersPart) (answers : List ℕ) (failed : Bool) : Type 0 where
  pub rise : NeverFall c.least answers c2.least
  pub told : ToldWentOn answers c.readings c2.readings
  pub faults : c.faults ≤ c2.faults
  pub rose : failed ≡ true → Rose c.faults c2.faults

pub went_both : (c c2 c3 : TimersPart) (ms ns : List ℕ) (a b : Bool) → Went c c2 ms a → Went c2 c3 ns b → Went c c3 (ms ++ ns) (a || b)
went_both c c2 c3 ms ns a b f g = record {
  rise = fall_after c.least c2.least c3.least ms ns f.rise g.rise;
  told = went_after ms ns c.readings c2.readings c3.readings f.told g.told;
  faults = let x = f.faults in let y = g.faults in omega (arith, x, y);
  rose = λ e. ⊎_elim (λ h. let x = f.rose h in let y = g.faults in omega (arith, x, y)) (λ h. let x = f.faults in let y = g.rose h in omega (arith, x, y)) (either_true a b e);
}

-- so it went in the whole run
pub clock_went : (c c2 : TimersPart) (journal : List EventView) (answers : List ℕ) (a b : Bool) → (b ≡ true → a ≡ true) → StandIn (moments_told journal) answers → Went c c2 answers a → ClockWent c.least c.faults c.readings journal b c2
clock_went c c2 journal answers a b so among w = record {
  time = record { answers = answers; last = c2.least; rise = w.rise; told = w.told; among = among };
  never_falls = rises c.least c2.least answers w.rise;
  faults_stay = w.faults;
  rose = λ e. w.rose (so e);
}

pub told_none : (o : Option (List ℕ)) → ToldWentOn [] o o
told_none None = tt
told_none (Some told) = ap Some (sym (append-nil told))

told_still : (o p : Option (List ℕ)) → StayTold o p → ToldWentOn [] o p
told_still None p e = tt
told_still (Some told) p e = e ∙ ap Some (sym (append-nil told))

told_one : (m : ℕ) (o p : Option (List ℕ)) → GoOnBy m o p → ToldWentOn (m ∷ []) o p
told_one m None p e = tt
told_one m (Some told) p e = e

-- nothing was asked of the clock
pub went_still : (c c2 : TimersPart) → c2.least ≡ c.least → c2.readings ≡ c.readings → c2.faults ≡ c.faults → Went c c2 [] false
went_still c c2 l r f = record {
  rise = omega (arith, l);
  told = subst (ToldWentOn [] c.readings) (sym r) (told_none c.readings);
  faults = omega (arith, f);
  rose = λ e. absurd (let z : false ≡ true = e in cc);
}

-- it answered m
went_one : (c c2 : TimersPart) (m : ℕ) → c.least ≤ m → c2.least ≡ m → GoOnBy m c.readings c2.readings → c2.faults ≡ c.faults → Went c c2 (m ∷ []) false
went_one c c2 m later l r f = record {
  rise = (later, (let z : m ≤ c2.least = omega (arith, l) in z));
  told = told_one m c.readings c2.readings r;
  faults = omega (arith, f);
  rose = λ e. absurd (let z : false ≡ true = e in cc);
}

module _ {A : Type 0} (now old new : Parts (TaskAgent A)) (part : IsPart old now) (c : TimersPart) (there : now.timers ≡ Some c) where
  -- the timers after a turn that took these answers
  abbrev pub GoesOn : List ℕ → Bool → Type 0
  GoesOn answers failed = (c2 : TimersPart) × ((laid_parts now new).timers ≡ Some c2) × Went c c2 answers failed

  as_before : new.timers ≡ old.timers → GoesOn [] false
  as_before e = (c, timers_as_before now old new part e ∙ there, went_still c c refl refl refl)

  -- they are touched
  touched : (c1 c2 : TimersPart) (answers : List ℕ) (failed : Bool) → old.timers ≡ Some c1 → new.timers ≡ Some c2 → Went c1 c2 answers failed → GoesOn answers failed
  touched c1 c2 answers failed was is w = (c2, ap (λ o. or_was o now.timers) is, subst (λ (z : TimersPart). Went z c2 answers failed) (some_same c1 c (sym (part.clocks c1 was) ∙ there)) w)

  main_ends : (b : Bool) → MarksEnd b old.timers new.timers → GoesOn [] false
  main_ends true x = touched x.0 (with_mark main_over x.0) [] false x.1 x.2 (went_still x.0 (with_mark main_over x.0) refl refl refl)
  main_ends false x = as_before x

  module _ (place : A → At) (advances : ProgramView → A → A → Type 0) (gives : A → Tree → A → Type 0) (starts : ProgramView → SeedView → A → Type 0) (w n : ℕ) where
    shown_goes : (e : EventView) → MovesShown place advances gives starts w n e old new → GoesOn (moment_told e) false
    shown_goes (made t p what None) x = as_before x.timers.1
    shown_goes (made t p what (Some m)) x = let y = x.timers in touched y.0 y.1 (m ∷ []) false y.2 y.3 (went_one y.0 y.1 m y.5.later y.5.least y.5.readings y.5.faults)
    shown_goes (spawned t u kind r) x = as_before x.timers
    shown_goes (done t k b v) x = as_before x.timers
    shown_goes (met t k side p v wait o) x = as_before x.timers
    shown_goes (parked t wait bs) x = as_before x.joins.timers
    shown_goes (posted t wait p v) x = as_before x.joins.timers
    shown_goes (settled wait k side p v) x = as_before x.timers
    shown_goes (defaulted t v) x = as_before x.timers
    shown_goes (closed t p) x = as_before x.timers
    shown_goes (registered t name args v) x = as_before x.timers
    shown_goes (printed t line) x = as_before x.timers
    shown_goes (ticked m ports) x = touched x.clock x.clock2 (m ∷ []) false x.was x.is (went_one x.clock x.clock2 m x.reads.later x.reads.least x.reads.readings x.reads.faults)
    shown_goes (over t Ended) x = main_ends (eqb t 0) x.halts.timers
    shown_goes (over t (Faulted f at r)) x = main_ends (eqb t 0) (⊎_elim (λ h. h.timers) (λ k. ⊎_elim (λ h. h.1.timers) (λ h. h.1.timers) k) x.halts)

    pub turn_goes : (what : said.Turn) → MovesTurn place advances gives starts w n what old new → (least : ℕ) × GoesOn (turn_asked what least) (fails_clock what)
    turn_goes (said.shown e) x = (0, shown_goes e x)
    turn_goes (said.picks r) x = (0, as_before x.others.timers)
    turn_goes said.yields x = (0, as_before x.others.timers)
    turn_goes (said.prunes side p wait) x = (0, as_before x.timers)
    turn_goes said.asks_clock x = (x.clock2.least, touched x.clock x.clock2 (x.clock2.least ∷ []) false x.was x.is (went_one x.clock x.clock2 x.clock2.least x.least refl x.how.1 x.how.0))
    turn_goes said.fails x = (0, touched x.clock x.clock2 [] true x.was x.is (record { rise = x.least; told = told_still x.clock.readings x.clock2.readings x.how.0; faults = x.how.1.0; rose = λ e. x.how.1.1 }))
    turn_goes said.stops x = (0, touched x.clock x.clock2 [] false x.was x.is (went_still x.clock x.clock2 (ap (λ (z : TimersPart). z.least) x.how) (ap (λ (z : TimersPart). z.readings) x.how) (ap (λ (z : TimersPart). z.faults) x.how)))
    turn_goes said.halts x = (0, touched x.clock x.clock2 [] false x.was x.is (went_still x.clock x.clock2 (ap (λ (z : TimersPart). z.least) x.how.0) (ap (λ (z : TimersPart). z.readings) x.how.0) (ap (λ (z : TimersPart). z.faults) x.how.0)))
    turn_goes said.stalls x = (0, as_before x.others.timers)
