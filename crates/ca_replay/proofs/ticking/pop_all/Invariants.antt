use Rattle.std.proofs.Common.{◌≡◌, ◌+◌, length}
use Rattle.ca_value.specs.Deadlines.{due, open_after}
use Rattle.ca_timers.specs.Timers.{AreOrdered}
use Rattle.ca_replay.proofs.ticking.pop_all.Given as goal

abbrev pub invariant-loop-place : goal.invariant-loop-place
invariant-loop-place l = record {
  ordered : AreOrdered l.timers.deadlines;
  left : open_after l.now l.timers.deadlines ≡ open_after l.now l.initial.timers.deadlines;
  more : length (due l.now l.timers.deadlines) + l.place ≡ l.count;
  moment : l.timers.moment ≡ l.initial.timers.moment;
}
