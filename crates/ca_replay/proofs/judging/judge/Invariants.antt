use Rattle.std.proofs.Common.{◌≡◌, ◌++◌, List, length}
use Rattle.ca_term.specs.Event.{EventView}
use Rattle.ca_term.specs.Program.{program_view}
use Rattle.ca_journal.specs.Coming.{coming}
use Rattle.ca_journal.specs.Events.{events}
use Rattle.ca_replay.specs.Judged.{IsRun}
use Rattle.ca_replay.proofs.judging.judge.Given as goal

abbrev pub invariant-loop-entry : goal.invariant-loop-entry
invariant-loop-entry g l = record {
  before : List EventView;
  split : before ++ coming l.walk ≡ events l.journal;
  number : l.number ≡ length before;
  run : IsRun (program_view l.program) before l.world l.end;
  saw : g.O.Observer.saw l.observer before;
}

abbrev pub decreases-loop-entry : goal.decreases-loop-entry
decreases-loop-entry g l = length (coming l.walk)
