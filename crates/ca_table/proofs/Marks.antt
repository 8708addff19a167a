-- The mark of a run is set where the main text ends, the clock fails or memory is wanted, and by no other turn.
use Rattle.std.proofs.Common.{◌≡◌, ◌∙◌, ⊎_elim, ℕ, refl, sym, ap, Bool, true, false, Option, Some, None, cond, eqb}
use Rattle.ca_value.specs.Tree.{Tree}
use Rattle.ca_term.specs.declared.event.Ending.TheVariants.{Ended, Faulted}
use Rattle.ca_term.specs.Event.{EventView, made, spawned, done, met, parked, posted, settled, defaulted, closed, registered, printed, ticked, over}
use Rattle.ca_term.specs.Operation.{SeedView, WhatView}
use Rattle.ca_term.specs.Program.{ProgramView}
use Rattle.ca_meaning.specs.Body.{At}
use Rattle.ca_meaning.specs.Legal.{is_end_of_main}
use Rattle.ca_commit.specs.Agents.{TaskAgent}
use Rattle.ca_commit.specs.Contents.{Parts, TimersPart, unmarked}
use Rattle.ca_commit.specs.Gathered.{Kind, away_kind, bank_kind, lane_kind, ready_kind, shard_kind, sorted, timers_kind, timers_of}
use Rattle.ca_commit.specs.Moving.{MovesShown, MovesTurn}
use Rattle.ca_commit.specs.Opening.{part_opened}
use Rattle.ca_commit.specs.Running.{or_was}
use Rattle.ca_commit.specs.TaskMoves.{MakesTimed, MarksEnd}
use Rattle.ca_commit.specs.Touched as said
use Rattle.ca_table.specs.Worked.{ends_main, gives_up}

same_timers : (c d : TimersPart) → Some c ≡ Some d → c ≡ d
same_timers c d e = cc

-- the timers are as marked as before
abbrev pub MarkStays : Option TimersPart → Option TimersPart → Type 0
MarkStays old new = (d : TimersPart) → new ≡ Some d → (c : TimersPart) × (old ≡ Some c) × (d.mark ≡ c.mark)

-- they aren't marked, if they are there
abbrev pub Unmarked : Option TimersPart → Type 0
Unmarked now = (c : TimersPart) → now ≡ Some c → c.mark ≡ unmarked

untouched : (old new : Option TimersPart) → new ≡ old → MarkStays old new
untouched old new e d is = (d, sym e ∙ is, refl)

changed : (old new : Option TimersPart) (c c2 : TimersPart) → old ≡ Some c → new ≡ Some c2 → c2.mark ≡ c.mark → MarkStays old new
changed old new c c2 was is same d e = (c, was, ap (λ (x : TimersPart). x.mark) (sym (same_timers c2 d (sym is ∙ e))) ∙ same)

timed : (moment : Option ℕ) (p : ℕ) (what : WhatView) (old new : Option TimersPart) → MakesTimed p what moment old new → MarkStays old new
timed None p what old new m = untouched old new m.1
timed (Some x) p what old new m = changed old new m.0 m.1 m.2 m.3 m.5.mark

other_end : (b : Bool) (old new : Option TimersPart) → b ≡ false → MarksEnd b old new → MarkStays old new
other_end true old new e m = absurd (let z : true ≡ false = e in cc)
other_end false old new e m = untouched old new m

module _ {A : Type 0} (place : A → At) (advances : ProgramView → A → A → Type 0) (gives : A → Tree → A → Type 0) (starts : ProgramView → SeedView → A → Type 0) (w n : ℕ) (old new : Parts (TaskAgent A)) where
  shown_keeps : (e : EventView) → is_end_of_main e ≡ false → MovesShown place advances gives starts w n e old new → MarkStays old.timers new.timers
  shown_keeps (made t p what moment) goes m = timed moment p what old.timers new.timers m.timers
  shown_keeps (spawned t u kind r) goes m = untouched old.timers new.timers m.timers
  shown_keeps (done t k b v) goes m = untouched old.timers new.timers m.timers
  shown_keeps (met t k side p v wait o) goes m = untouched old.timers new.timers m.timers
  shown_keeps (parked t wait bs) goes m = untouched old.timers new.timers m.joins.timers
  shown_keeps (posted t wait p v) goes m = untouched old.timers new.timers m.joins.timers
  shown_keeps (settled wait k side p v) goes m = untouched old.timers new.timers m.timers
  shown_keeps (defaulted t v) goes m = untouched old.timers new.timers m.timers
  shown_keeps (closed t p) goes m = untouched old.timers new.timers m.timers
  shown_keeps (registered t name args v) goes m = untouched old.timers new.timers m.timers
  shown_keeps (printed t line) goes m = untouched old.timers new.timers m.timers
  shown_keeps (ticked moment ports) goes m = changed old.timers new.timers m.clock m.clock2 m.was m.is m.reads.mark
  shown_keeps (over t Ended) goes m = other_end (eqb t 0) old.timers new.timers goes m.halts.timers
  shown_keeps (over t (Faulted f at r)) goes m = ⊎_elim (λ h. other_end (eqb t 0) old.timers new.timers goes h.timers) (λ k. ⊎_elim (λ h. other_end (eqb t 0) old.timers new.timers goes h.1.timers) (λ h. other_end (eqb t 0) old.timers new.timers goes h.1.timers) k) m.halts

  pub turn_keeps : (what : said.Turn) → ends_main what ≡ false → gives_up what ≡ false → MovesTurn place advances gives starts w n what old new → MarkStays old.timers new.timers
  turn_keeps (said.shown e) goes none m = shown_keeps e goes m
  turn_keeps (said.picks r) goes none m = untouched old.timers new.timers m.others.timers
  turn_keeps said.yields goes none m = untouched old.timers new.timers m.others.timers
  turn_keeps (said.prunes side p wait) goes none m = untouched old.timers new.timers m.timers
  turn_keeps said.asks_clock goes none m = changed old.timers new.timers m.clock m.clock2 m.was m.is m.how.2
  turn_keeps said.fails goes none m = absurd (let z : true ≡ false = none in cc)
  turn_keeps said.stops goes none m = absurd (let z : true ≡ false = none in cc)
  turn_keeps said.halts goes none m = changed old.timers new.timers m.clock m.clock2 m.was m.is (ap (λ (x : TimersPart). x.mark) m.how.0)
  turn_keeps said.stalls goes none m = untouched old.timers new.timers m.others.timers

-- so they stay unmarked, laid over what was there
pub unmarked_laid : (old new now : Option TimersPart) → ((c : TimersPart) → old ≡ Some c → now ≡ Some c) → MarkStays old new → Unmarked now → Unmarked (or_was new now)
unmarked_laid old None now within stays none c e = none c e
unmarked_laid old (Some d) now within stays none c e = let k = stays c e in k.2 ∙ none k.0 (within k.0 k.1)

-- as they are opened
pub unmarked_opening : {A : Type 0} (n : ℕ) (program : ProgramView) (main : A) (clock : TimersPart) (i : ℕ) (b : Bool) (k : Kind) → clock.mark ≡ unmarked → Unmarked (sorted (timers_of {A = TaskAgent A}) (cond b (Some (record { workers = n; held = part_opened n program main clock i k })) None))
unmarked_opening n program main clock i false k m c e = absurd (let z : None ≡ Some c = e in cc)
unmarked_opening n program main clock i true lane_kind m c e = absurd (let z : None ≡ Some c = e in cc)
unmarked_opening n program main clock i true bank_kind m c e = absurd (let z : None ≡ Some c = e in cc)
unmarked_opening n program main clock i true shard_kind m c e = absurd (let z : None ≡ Some c = e in cc)
unmarked_opening n program main clock i true timers_kind m c e = ap (λ (x : TimersPart). x.mark) (sym (same_timers clock c e)) ∙ m
unmarked_opening n program main clock i true ready_kind m c e = absurd (let z : None ≡ Some c = e in cc)
unmarked_opening n program main clock i true away_kind m c e = absurd (let z : None ≡ Some c = e in cc)
