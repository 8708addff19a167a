-- The parts of a run before its first event: idle lanes, empty banks and shards, and the main text in the first
-- ready part.
use Rattle.std.specs.Prelude.{ℕ, ◌+◌, List, [], ◌∷◌, Option, Some, None, cond, eqb, nat_lt}
use Rattle.ca_term.specs.Program.{ProgramView}
use Rattle.ca_commit.specs.Agents.{TaskAgent}
use Rattle.ca_commit.specs.Contents.{Content, PartContents, TimersPart, a_bank, a_lane, a_ready, a_shard, away, the_timers, unmarked}
use Rattle.ca_commit.specs.Gathered.{Kind, away_kind, bank_kind, kind_at, lane_kind, ready_kind, shard_kind, timers_kind}

-- a clock that nothing was asked of, or that has told these answers
abbrev pub unasked : ℕ → ℕ → Option (List ℕ) → TimersPart
unasked least faults readings = record { deadlines = []; now = 0; least = least; faults = faults; readings = readings; mark = unmarked }

abbrev pub main_agent : {A : Type 0} → A → TaskAgent A
main_agent a = record { result = None; alts = 0; agent = a }

module _ {A : Type 0} (n : ℕ) (program : ProgramView) (main : A) (clock : TimersPart) where
  abbrev pub part_opened : ℕ → Kind → PartContents (TaskAgent A)
  part_opened i lane_kind = a_lane (record { program = program; task = None; since = 0; counts = record { tasks = 0; ports = 0; waits = 0 } })
  part_opened i bank_kind = a_bank (record { channels = λ p. None; registries = λ p. None })
  part_opened i shard_kind = a_shard (λ w. None)
  part_opened i timers_kind = the_timers clock
  part_opened i ready_kind = a_ready (cond (eqb i (n + 33)) ((0, main_agent main) ∷ []) [])
  part_opened i away_kind = away

  abbrev pub opening_parts : ℕ → Option (Content (TaskAgent A))
  opening_parts i = cond (nat_lt i (n + 33 + n)) (Some (record { workers = n; held = part_opened i (kind_at n i) })) None
