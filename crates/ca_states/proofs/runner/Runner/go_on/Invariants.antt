use Rattle.std.proofs.Common.{◌≡◌, true}
use Rattle.ca_states.specs.Code.{code_view, block_count}
use Rattle.ca_states.specs.Machine.{Move, ComesTo}
use Rattle.ca_states.specs.Standing.{state_view, RunnerStands, is_bare_halt}
use Rattle.ca_states.proofs.StandingLaws.{left}
use Rattle.ca_states.proofs.runner.Runner.go_on.Given as goal

abbrev pub invariant-loop-block : goal.invariant-loop-block
invariant-loop-block l = record {
  bare : is_bare_halt l.halt ≡ true;
  stands : RunnerStands (code_view l.code) (state_view l.self);
  reached : (m : Move) → ComesTo (code_view l.code) (state_view l.self) m → ComesTo (code_view l.code) (state_view l.fn.self) m;
}

abbrev pub decreases-loop-block : goal.decreases-loop-block
decreases-loop-block l = left (block_count (code_view l.code)) (state_view l.self)
