-- What a part shows to contracts.
use Rattle.std.specs.Prelude.{ℕ, List, Option, map as each, option_map}
use Rattle.std.specs.FinMap as map
use Rattle.std.specs.Ordering.{nat_cmp}
use Rattle.indexmap.specs.IndexMap.{IndexMap}
use Rattle.ca_states.specs.ValidCode.{valid_code}
use Rattle.ca_states.specs.declared.valid_code.ValidCode.{ValidCode}
use Rattle.ca_registry.specs.Registry.{registry_view}
use Rattle.ca_bank.specs.Room.{kept_view}
use Rattle.ca_bank.specs.declared.bank.Bank.{Bank}
use Rattle.ca_bank.specs.declared.shard.Shard.{Shard}
use Rattle.ca_commit.specs.Agents.{TaskAgent}
use Rattle.ca_commit.specs.Contents.{Counts as CountsView, StopMark as MarkView, Parked, TimersPart, unmarked, main_over, clock_failed, stopped}
use Rattle.ca_commit.specs.Showing.{parked_view}
use Rattle.ca_commit.specs.Tasks.{task_view, tasks_in}
use Rattle.ca_commit.specs.declared.task.Task.{Task}
use Rattle.ca_table.specs.Seen.{BankSeen, HeldSeen, LaneSeen, PartSeen, seen_away, seen_bank, seen_lane, seen_ready, seen_shard, seen_timers}
use Rattle.ca_table.specs.declared.part.Counts.{Counts}
use Rattle.ca_table.specs.declared.part.Lane.{Lane}
use Rattle.ca_table.specs.declared.part.Mark.{Mark}
use Rattle.ca_table.specs.declared.part.Mark.TheVariants.{Unmarked, MainOver, ClockFailed, Stopped}
use Rattle.ca_table.specs.declared.part.Clockwork.{Clockwork}
use Rattle.ca_table.specs.declared.part.Part.{Part}
use Rattle.ca_table.specs.declared.part.Contents.{Contents}
use Rattle.ca_table.specs.declared.part.Contents.TheVariants as P

-- the entries of a table as a finite map of what its values show
abbrev pub finite : {V X S : Type 0} → (V → X) → IndexMap ℕ V S → map.FinMap nat_cmp X
finite show m = map.from_entries (each (λ e. (e.0, show e.1)) m.entries)

abbrev pub counts_view : Counts → CountsView
counts_view c = record { tasks = c.tasks; ports = c.ports; waits = c.waits }

abbrev pub mark_view : Mark → MarkView
mark_view Unmarked = unmarked
mark_view MainOver = main_over
mark_view ClockFailed = clock_failed
mark_view Stopped = stopped

abbrev pub bank_seen : Bank → BankSeen
bank_seen b = record { channels = finite kept_view b.rooms; registries = finite registry_view b.registries }

module _ {A : Type 0} where
  abbrev pub lane_seen : Lane A → LaneSeen A
  lane_seen l = record { program = l.program.value; task = option_map task_view l.task; since = l.since; counts = counts_view l.counts }

  abbrev pub shard_seen : Shard (Task A) → map.FinMap nat_cmp (Parked (TaskAgent A))
  shard_seen s = finite parked_view s.waits

abbrev pub clockwork_seen : {C : Type 0} → (C → ℕ) → (C → ℕ) → (C → Option (List ℕ)) → Clockwork C → TimersPart
clockwork_seen least faults readings t = record { deadlines = t.timers.deadlines; now = t.timers.moment; least = least t.clock; faults = faults t.clock; readings = readings t.clock; mark = mark_view t.mark }

module _ {A C : Type 0} (least faults : C → ℕ) (readings : C → Option (List ℕ)) where
  abbrev pub contents_seen : Contents A C → HeldSeen A
  contents_seen (P.Lane l) = seen_lane (lane_seen l.value)
  contents_seen (P.Bank b) = seen_bank (bank_seen b.bank.value)
  contents_seen (P.Shard s) = seen_shard (shard_seen s.shard.value)
  contents_seen (P.Timers t) = seen_timers (clockwork_seen least faults readings t.value)
  contents_seen (P.Ready r) = seen_ready (tasks_in r)
  contents_seen P.Away = seen_away

  abbrev pub part_seen : Part A C → PartSeen A
  part_seen p = record { workers = p.workers; code = valid_code p.code.value; held = contents_seen p.contents }

-- a part of a run of n workers over that code
abbrev pub part_of : {A C : Type 0} → ℕ → ValidCode → Contents A C → Part A C
part_of n code x = record { workers = n; code = record { marker = record {}; value = code }; contents = x }

-- what stands in a hand for a part that was moved out
abbrev pub part_away : {A C : Type 0} → ℕ → ValidCode → Part A C
part_away n code = part_of n code P.Away
