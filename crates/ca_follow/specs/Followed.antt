-- What following a journal comes to, and how far it has come.
use Rattle.std.specs.Prelude.{◌≡◌, List, Option}
use Rattle.ca_value.specs.Seq.{list}
use Rattle.ca_term.specs.Event.{EventView}
use Rattle.ca_term.specs.Program.{ProgramView}
use Rattle.ca_meaning.specs.Legal.{Legal}
use Rattle.ca_meaning.specs.State.{State}
use Rattle.ca_meaning.specs.Texts.{output}
use Rattle.ca_tasks.specs.declared.task.AnyTask.{AnyTask}
use Rattle.ca_replay.specs.declared.main_end.MainEnd.{MainEnd}
use Rattle.ca_replay.specs.RunTo.{IsRunTo}
use Rattle.ca_replay.specs.Verdict.{IsFirstIllegal}
use Rattle.ca_follow.specs.declared.following.Followed.{Followed}
use Rattle.ca_follow.specs.Follower.{FollowerStands}
use Rattle.ca_follow.specs.Has.{Has}

-- a legal run, with what it writes, or the first event that no legal run has there
abbrev pub IsFollowed : ProgramView → List EventView → Followed → Type 0
IsFollowed program journal (Followed.Written text) = Legal program journal × (list text ≡ output journal)
IsFollowed program journal (Followed.IllegalAt k) = IsFirstIllegal program journal k

-- the events are a legal run of the program to a state for which this stands; the end of the main text, where the last is that
pub record IsLed (program : ProgramView) (journal : List EventView) (h : Has AnyTask) (end : Option MainEnd) : Type 0 where
  pub state : State
  pub run : IsRunTo program journal state end
  pub stands : FollowerStands program h state
