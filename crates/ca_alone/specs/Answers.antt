-- The answers that the clock gave to a lone worker.
use Rattle.std.specs.Prelude.{◌≡◌, ℕ, List, Option, Some}
use Rattle.ca_commit.specs.Contents.{Content, TimersPart}
use Rattle.ca_commit.specs.Agents.{TaskAgent}
use Rattle.ca_commit.specs.Gathered.{parts_of}
use Rattle.ca_table.specs.Moments.{NeverFall, ToldWentOn}

-- since it was as in the first timers' part
pub record Gave (first : TimersPart) (answers : List ℕ) (c : TimersPart) : Type 0 where
  pub rise : NeverFall first.least answers c.least
  pub told : ToldWentOn answers first.readings c.readings

-- by the timers' part of the run
pub record HasGiven {A : Type 0} (first : TimersPart) (answers : List ℕ) (now : ℕ → Option (Content (TaskAgent A))) : Type 0 where
  pub clock : TimersPart
  pub in_timers : (parts_of 1 now).timers ≡ Some clock
  pub gave : Gave first answers clock
