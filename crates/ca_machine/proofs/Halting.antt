-- What a machine's runner halted as, and what it is ready for.
use Rattle.std.proofs.Common.{◌≡◌, true, false, refl}
use Rattle.ca_value.specs.View.{view}
use Rattle.ca_term.specs.Operation.{want_view}
use Rattle.ca_meaning.specs.Body.{At, local, at_op, ended, faulted, nowhere}
use Rattle.ca_meaning.specs.BodyViews.{is_at_op}
use Rattle.ca_states.specs.declared.runner.Halt.{Halt}
use Rattle.ca_states.specs.declared.runner.Halt.TheVariants.{Cut, Ended, Faulted}
use Rattle.ca_states.specs.declared.runner.Runner.{Runner}
use Rattle.ca_states.specs.Code.{CodeView}
use Rattle.ca_states.specs.Machine.{Move}
use Rattle.ca_states.specs.Standing.{HaltedAs, RunnerStands, RunnerWaits, state_view, waiting_slot}
use Rattle.ca_machine.specs.declared.stage.Stage.{Stage}
use Rattle.ca_machine.specs.declared.stage.Stage.TheVariants.{Going, Halted, Spent}
use Rattle.ca_machine.specs.Machines.{HaltsIn}
use Rattle.ca_machine.specs.Stages.{IsStageReady, halted_at, stage_place}

-- a machine whose runner came to that halt
pub halts_in : (C : CodeView) (m : Move) (h : Halt) (r : Runner) → HaltedAs m h r → HaltsIn m (record { code = C; state = state_view r; answer = waiting_slot r; place = halted_at h }) (halted_at h)
halts_in C m (Cut w) r e = e
halts_in C m (Ended v) r e = e
halts_in C m (Faulted f q) r e = e

-- at a local step the runner goes on
pub goes : (C : CodeView) (r : Runner) (s : Stage) (h : Halt) → stage_place s h ≡ local → IsStageReady C r s h → RunnerStands C (state_view r)
goes C r Going h at_it ready = ready
goes C r Halted (Cut w) at_it ready = absurd (let f : at_op (want_view w) ≡ local = at_it in cc)
goes C r Halted (Ended v) at_it ready = absurd (let f : ended (view v) ≡ local = at_it in cc)
goes C r Halted (Faulted f p) at_it ready = absurd (let g : faulted f p ≡ local = at_it in cc)
goes C r Spent h at_it ready = absurd (let f : nowhere ≡ local = at_it in cc)

-- at an operation it stands at its halt
pub at_a_halt : (s : Stage) (h : Halt) → is_at_op (stage_place s h) ≡ true → s ≡ Halted
at_a_halt Going h at_it = absurd (let f : false ≡ true = at_it in cc)
at_a_halt Halted h at_it = refl
at_a_halt Spent h at_it = absurd (let f : false ≡ true = at_it in cc)

-- there the runner waits for its answer
pub waits : (C : CodeView) (r : Runner) (s : Stage) (h : Halt) → is_at_op (stage_place s h) ≡ true → IsStageReady C r s h → RunnerWaits C r
waits C r Going h at_it ready = absurd (let f : false ≡ true = at_it in cc)
waits C r Halted (Cut w) at_it ready = ready
waits C r Halted (Ended v) at_it ready = absurd (let f : false ≡ true = at_it in cc)
waits C r Halted (Faulted f p) at_it ready = absurd (let f : false ≡ true = at_it in cc)
waits C r Spent h at_it ready = absurd (let f : false ≡ true = at_it in cc)
