use Rattle.std.proofs.Common.{◌≡◌, ◌+◌}
use Rattle.ca_turns_counters.specs.Working.{IsReadyToCount, SameCountingWorker, Repeats, events_drawn}
use Rattle.ca_turns_counters.proofs.working.turn_times.Given as goal

abbrev pub invariant-loop : goal.invariant-loop
invariant-loop g l = IsReadyToCount l.table.id l.worker × SameCountingWorker l.initial.worker l.worker × (events_drawn l.worker ≡ events_drawn l.initial.worker + l.counter) × (Repeats l.event l.initial.worker → Repeats l.event l.worker) × (l.worker.spare ≡ l.initial.worker.spare)
