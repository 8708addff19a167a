use Rattle.std.proofs.Common.{ℕ, ◌<◌}
use Rattle.ca_pool.specs.Surveys.{IsStillAt}
use Rattle.ca_pool.proofs.survey.look_over.Given as goal

abbrev pub invariant-loop-at : goal.invariant-loop-at
invariant-loop-at g l = (i : ℕ) → i < l.at → IsStillAt g.C.Clock.least g.C.Clock.faults g.C.Clock.readings l.worker.hand i
