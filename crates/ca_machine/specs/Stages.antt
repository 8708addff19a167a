-- Where a machine stands, and what its runner is then ready for.
use Rattle.ca_value.specs.View.{view}
use Rattle.ca_term.specs.Operation.{want_view}
use Rattle.ca_meaning.specs.Body.{At, local, at_op, ended, faulted, nowhere}
use Rattle.ca_states.specs.declared.runner.Halt.{Halt}
use Rattle.ca_states.specs.declared.runner.Halt.TheVariants.{Cut, Ended, Faulted}
use Rattle.ca_states.specs.declared.runner.Runner.{Runner}
use Rattle.ca_states.specs.Code.{CodeView}
use Rattle.ca_states.specs.Standing.{state_view, RunnerStands, RunnerWaitsAt}
use Rattle.ca_machine.specs.declared.stage.Stage.{Stage}
use Rattle.ca_machine.specs.declared.stage.Stage.TheVariants.{Going, Halted, Spent}

abbrev pub halted_at : Halt → At
halted_at (Cut w) = at_op (want_view w)
halted_at (Ended v) = ended (view v)
halted_at (Faulted f p) = faulted f p

-- where it is paused; a machine that goes on is at a local step
abbrev pub stage_place : Stage → Halt → At
stage_place Going h = local
stage_place Halted h = halted_at h
stage_place Spent h = nowhere

-- over that code the runner can go on, or be answered
abbrev pub IsStageReady : CodeView → Runner → Stage → Halt → Type 0
IsStageReady C r Going h = RunnerStands C (state_view r)
IsStageReady C r Halted h = RunnerWaitsAt C h r
IsStageReady C r Spent h = Unit {0}
