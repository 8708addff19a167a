-- The parts of a run as its table is opened.
use Rattle.std.specs.Prelude.{ℕ, ◌-◌, List, [], ◌∷◌, ◌++◌, None, replicate}
use Rattle.std.specs.FinMap as map
use Rattle.ca_term.specs.Program.{ProgramParts}
use Rattle.ca_states.specs.Code.{CodeView}
use Rattle.ca_commit.specs.Contents.{TimersPart}
use Rattle.ca_commit.specs.Opening.{main_agent}
use Rattle.ca_table.specs.Seen.{BankSeen, HeldSeen, PartSeen, seen_bank, seen_lane, seen_ready, seen_shard, seen_timers}

abbrev pub no_channel : BankSeen
no_channel = record { channels = map.empty; registries = map.empty }

module _ {A : Type 0} (n : ℕ) (code : CodeView) where
  abbrev pub seen_part : HeldSeen A → PartSeen A
  seen_part x = record { workers = n; code = code; held = x }

  abbrev pub idle_lane : ProgramParts → PartSeen A
  idle_lane program = seen_part (seen_lane (record { program = program; task = None; since = 0; counts = record { tasks = 0; ports = 0; waits = 0 } }))

  abbrev pub empty_bank : PartSeen A
  empty_bank = seen_part (seen_bank no_channel)

  abbrev pub empty_shard : PartSeen A
  empty_shard = seen_part (seen_shard map.empty)

  abbrev pub none_ready : PartSeen A
  none_ready = seen_part (seen_ready [])

  -- the main text is the one task
  abbrev pub main_ready : A → PartSeen A
  main_ready main = seen_part (seen_ready ((0, main_agent main) ∷ []))

  -- idle lanes, empty banks and shards, and the main text in the first ready part
  abbrev pub opening_list : ProgramParts → A → TimersPart → List (PartSeen A)
  opening_list program main clock = replicate n (idle_lane program) ++ (replicate 16 empty_bank ++ (replicate 16 empty_shard ++ (seen_part (seen_timers clock) ∷ (main_ready main ∷ replicate (n - 1) none_ready))))
