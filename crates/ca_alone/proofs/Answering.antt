-- With each turn of a lone worker the clock gave just the answers that the turn took.
use Rattle.std.proofs.Common.{◌≡◌, ◌∙◌, ℕ, ◌≤◌, List, [], ◌++◌, ap, arith, Bool, Option}
use Rattle.ca_value.specs.Tree.{Tree}
use Rattle.ca_term.specs.Operation.{SeedView}
use Rattle.ca_term.specs.Program.{ProgramView}
use Rattle.ca_meaning.specs.Body.{At}
use Rattle.ca_commit.specs.Agents.{TaskAgent}
use Rattle.ca_commit.specs.Contents.{Content, Parts, TimersPart}
use Rattle.ca_commit.specs.Gathered.{parts_of}
use Rattle.ca_commit.specs.Moving.{Moves}
use Rattle.ca_commit.specs.Running.{AreAt, contents_written}
use Rattle.ca_commit.specs.Touched.{Drawn, touches}
use Rattle.ca_table.specs.Moments.{turn_asked}
use Rattle.ca_table.specs.Worked.{fails_clock}
use Rattle.ca_table.proofs.ClockTurns.{Went, told_none, turn_goes}
use Rattle.ca_table.proofs.Moments.{fall_after, went_after}
use Rattle.ca_alone.specs.Answers.{Gave, HasGiven}
use Rattle.ca_alone.proofs.Laying.{held_before, laid_over}

gave_after : (first c c2 : TimersPart) (ms rs : List ℕ) (failed : Bool) → Gave first ms c → Went c c2 rs failed → Gave first (ms ++ rs) c2
gave_after first c c2 ms rs failed g w = record { rise = fall_after first.least c.least c2.least ms rs g.rise w.rise; told = went_after ms rs first.readings c.readings c2.readings g.told w.told }

module _ {A : Type 0} (place : A → At) (advances : ProgramView → A → A → Type 0) (gives : A → Tree → A → Type 0) (starts : ProgramView → SeedView → A → Type 0)
    (d : Drawn) (now : ℕ → Option (Content (TaskAgent A))) (before after : List (Content (TaskAgent A))) (one : d.workers ≡ 1) (at : AreAt now (touches d) before) (m : Moves place advances gives starts d before after) where
  pub answers_go_on : (first : TimersPart) (ms : List ℕ) → HasGiven first ms now → (least : ℕ) × HasGiven first (ms ++ turn_asked d.what least) (contents_written now (touches d) after)
  answers_go_on first ms g =
      let l = laid_over place advances gives starts d now before after at m one in
      let k = turn_goes (parts_of 1 now) (held_before d before) (held_before d after) l.part g.clock g.in_timers place advances gives starts 0 1 d.what l.turn in
      (k.0, record { clock = k.1.0; in_timers = ap (λ (h : Parts (TaskAgent A)). h.timers) l.over ∙ k.1.1; gave = gave_after first g.clock k.1.0 ms (turn_asked d.what k.0) (fails_clock d.what) g.gave k.1.2 })

-- at the opening it gave none
pub gave_none : (c : TimersPart) → Gave c [] c
gave_none c = record { rise = let z : c.least ≤ c.least = omega arith in z; told = told_none c.readings }
