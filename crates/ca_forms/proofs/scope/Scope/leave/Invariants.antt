use Rattle.std.proofs.Common.{◌≡◌, length, take, ◌-◌}
use Rattle.ca_forms.proofs.scope.Scope.leave.Given as goal

abbrev pub invariant-loop-left : goal.invariant-loop-left
invariant-loop-left l = record {
  same : take l.size l.self ≡ take l.size l.initial.self;
  number : l.left ≡ length l.self;
}

abbrev pub decreases-loop-left : goal.decreases-loop-left
decreases-loop-left l = l.left - l.size
