-- How a run of workers came to its end, and what it was where one worker ran it.
use Rattle.std.specs.Prelude.{ℕ, List, Option, Some, None}
use Rattle.ca_term.specs.Event.{EventView}
use Rattle.ca_term.specs.Program.{ProgramView}
use Rattle.ca_meaning.specs.Ends.{RunEnd, ended, faulted, limit, stuck}
use Rattle.ca_meaning.specs.Solo.{Solo}
use Rattle.ca_journal.specs.Cut.{end_of}
use Rattle.ca_journal.specs.declared.cut.CutAt.{CutAt}
use Rattle.ca_table.specs.Moments.{NeverFall, ToldWentOn}
use Rattle.ca_pool.specs.declared.run_end.PoolEnd.{PoolEnd}
use Rattle.ca_pool.specs.declared.run_end.PoolEnd.TheVariants.{Ended, Faulted, Limit, Stuck}

-- as the definitions of ends have it
abbrev pub end_view : PoolEnd → RunEnd
end_view Ended = ended
end_view Faulted = faulted
end_view Stuck = stuck
end_view Limit = limit

-- the end where a journal is cut; where it isn't, the run is stuck
abbrev pub ended_by : Option CutAt → RunEnd
ended_by None = stuck
ended_by (Some at) = end_of at

-- The events are the run of the stated schedule over answers of the clock. These never fall, from `least` on, and where
-- the clock tells its answers, it told them one after another.
pub record IsSolo (program : ProgramView) (journal : List EventView) (least : ℕ) (before after : Option (List ℕ)) : Type 0 where
  pub answers : List ℕ
  pub solo : Solo program answers journal
  pub last : ℕ
  pub rise : NeverFall least answers last
  pub told : ToldWentOn answers before after
