-- What a table's contracts see of a part: the same as what the definitions of a run say of it, in a form that has a
-- code. Maps are finite ones.
use Rattle.std.specs.Prelude.{ℕ, List, [], Option}
use Rattle.std.specs.FinMap as map
use Rattle.std.specs.Ordering.{nat_cmp}
use Rattle.ca_term.specs.Program.{ProgramParts, program_view}
use Rattle.ca_states.specs.Code.{CodeView}
use Rattle.ca_meaning.specs.Registry.{Registry}
use Rattle.ca_commit.specs.Agents.{TaskAgent}
use Rattle.ca_commit.specs.Contents.{Content, Counts, PartContents, Kept, LaneView, Parked, TimersPart, a_bank, a_lane, a_ready, a_shard, away, the_timers}

pub record LaneSeen (A : Type 0) : Type 0 where
  pub program : ProgramParts
  pub task : Option (ℕ × TaskAgent A)
  pub since : ℕ
  pub counts : Counts

pub record BankSeen : Type 0 where
  pub channels : map.FinMap nat_cmp Kept
  pub registries : map.FinMap nat_cmp Registry

pub data HeldSeen (A : Type 0) : Type 0 where
  seen_lane : LaneSeen A → HeldSeen A
  seen_bank : BankSeen → HeldSeen A
  seen_shard : map.FinMap nat_cmp (Parked (TaskAgent A)) → HeldSeen A
  seen_timers : TimersPart → HeldSeen A
  seen_ready : List (ℕ × TaskAgent A) → HeldSeen A
  seen_away : HeldSeen A

-- with the code of the run that it is of
pub record PartSeen (A : Type 0) : Type 0 where
  pub workers : ℕ
  pub code : CodeView
  pub held : HeldSeen A

abbrev pub lane_of_seen : {A : Type 0} → LaneSeen A → LaneView (TaskAgent A)
lane_of_seen l = record { program = program_view l.program; task = l.task; since = l.since; counts = l.counts }

abbrev pub held_of : {A : Type 0} → HeldSeen A → PartContents (TaskAgent A)
held_of (seen_lane l) = a_lane (lane_of_seen l)
held_of (seen_bank b) = a_bank (record { channels = map.get b.channels; registries = map.get b.registries })
held_of (seen_shard s) = a_shard (map.get s)
held_of (seen_timers t) = the_timers t
held_of (seen_ready q) = a_ready q
held_of seen_away = away

-- as the definitions of a run have it
abbrev pub content_of : {A : Type 0} → PartSeen A → Content (TaskAgent A)
content_of p = record { workers = p.workers; held = held_of p.held }

abbrev pub no_code : CodeView
no_code = record { blocks = []; main = 0; identity = 0; bodies = []; functions = []; width = 0 }

-- stands where no value is made
abbrev pub nothing_seen : {A : Type 0} → PartSeen A
nothing_seen = record { workers = 0; code = no_code; held = seen_away }
