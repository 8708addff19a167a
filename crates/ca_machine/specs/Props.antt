-- That a machine's runner is ready is one fact: it has one proof at most.
use Rattle.std.specs.Coded.{×_prop, Unit-prop, le_prop, Coded-set, coded_ℕ}
use Rattle.std.specs.Prelude.{ℕ, suc, ◌<◌, List, [], ◌∷◌, length}
use Rattle.ca_value.specs.Tree.{Tree}
use Rattle.ca_states.specs.declared.runner.Halt.{Halt}
use Rattle.ca_states.specs.declared.runner.Halt.TheVariants.{Cut, Ended, Faulted}
use Rattle.ca_states.specs.declared.runner.Runner.{Runner}
use Rattle.ca_states.specs.Code.{CodeView, block_count, block_at}
use Rattle.ca_states.specs.Machine.{Frame, RunnerState}
use Rattle.ca_states.specs.Standing.{HasSlots, AreFrames, RunnerStands, RunnerWaits, RunnerWaitsAt, state_view, waiting_slot}
use Rattle.ca_machine.specs.declared.stage.Stage.{Stage}
use Rattle.ca_machine.specs.declared.stage.Stage.TheVariants.{Going, Halted, Spent}
use Rattle.ca_machine.specs.Stages.{IsStageReady}

below-prop : (a b : ℕ) → IsProp (a < b)
below-prop a b = le_prop {n = suc a} {m = b}

HasSlots-prop : (C : CodeView) (n : ℕ) (s : List Tree) → IsProp (HasSlots C n s)
HasSlots-prop C n s = ×_prop (below-prop n (block_count C)) (Coded-set coded_ℕ (length s) (block_at C n).width)

AreFrames-prop : (C : CodeView) (fs : List Frame) → IsProp (AreFrames C fs)
AreFrames-prop C [] = Unit-prop
AreFrames-prop C (f ∷ fs) = λ x y i. (HasSlots-prop C f.next f.slots x.0 y.0 i, below-prop f.answer (length f.slots) x.1 y.1 i, AreFrames-prop C fs x.2 y.2 i)

RunnerStands-prop : (C : CodeView) (c : RunnerState) → IsProp (RunnerStands C c)
RunnerStands-prop C c = λ x y i. record {
  slots = HasSlots-prop C c.block c.slots x.slots y.slots i;
  frames = AreFrames-prop C c.frames x.frames y.frames i;
  turns = le_prop {n = c.turns} {m = 999_999} x.turns y.turns i;
  depth = le_prop {n = length c.frames} {m = 256} x.depth y.depth i;
}

RunnerWaits-prop : (C : CodeView) (r : Runner) → IsProp (RunnerWaits C r)
RunnerWaits-prop C r = λ x y i. record {
  stands = RunnerStands-prop C (state_view r) x.stands y.stands i;
  answer = below-prop (waiting_slot r) (length (state_view r).slots) x.answer y.answer i;
}

RunnerWaitsAt-prop : (C : CodeView) (h : Halt) (r : Runner) → IsProp (RunnerWaitsAt C h r)
RunnerWaitsAt-prop C (Cut w) r = RunnerWaits-prop C r
RunnerWaitsAt-prop C (Ended v) r = Unit-prop
RunnerWaitsAt-prop C (Faulted f p) r = Unit-prop

pub IsStageReady-prop : (C : CodeView) (r : Runner) (s : Stage) (h : Halt) → IsProp (IsStageReady C r s h)
IsStageReady-prop C r Going h = RunnerStands-prop C (state_view r)
IsStageReady-prop C r Halted h = RunnerWaitsAt-prop C h r
IsStageReady-prop C r Spent h = Unit-prop
