-- A runner of valid code, and where a runner may stand in code.
use Rattle.std.specs.Prelude.{◌≡◌, ℕ, ◌<◌, ◌≤◌, List, [], ◌∷◌, length, map, reverse, take, Bool, true, false, ◌&&◌, ◌==◌, IsTrue, Result, Ok, Err}
use Rattle.ca_value.specs.Tree.{Tree, nil, bool, int, port}
use Rattle.ca_value.specs.View.{view, views}
use Rattle.ca_value.specs.Builtins.{admits_arguments}
use Rattle.ca_term.specs.declared.fault.Fault.{Fault}
use Rattle.ca_term.specs.declared.place.Place.{Place}
use Rattle.ca_term.specs.Operation.{OpView, taking, putting, op_view, want_view}
use Rattle.ca_states.specs.declared.code.EntryPoint.{EntryPoint}
use Rattle.ca_states.specs.declared.code.Exit.{Exit}
use Rattle.ca_states.specs.declared.code.Exit.TheVariants.{Jump, Branch, Test, TestInt, Call, Return, Cut}
use Rattle.ca_states.specs.declared.calls.Calls.{Calls}
use Rattle.ca_states.specs.declared.calls.Frame.{Frame as FrameCode}
use Rattle.ca_states.specs.declared.runner.Runner.{Runner}
use Rattle.ca_states.specs.declared.runner.Start.{Start}
use Rattle.ca_states.specs.declared.runner.Start.TheVariants as begin
use Rattle.ca_states.specs.declared.stop.Stop.{Stop}
use Rattle.ca_states.specs.declared.runner.Halt.{Halt}
use Rattle.ca_states.specs.declared.runner.Halt.TheVariants as halt
use Rattle.ca_states.specs.Code.{CodeView, block_count, block_at, function_at, body_entry}
use Rattle.ca_states.specs.Machine.{Frame, RunnerState, Move, goes, ends, faults, waits, ComesTo, slots_from}
use Rattle.ca_states.specs.Valid.{are_below, takes, main_entry}

-- What a runner stands for: the frames' last one in the list is the innermost.
abbrev pub frame_view : FrameCode → Frame
frame_view f = record { next = f.next; answer = f.answer; slots = views f.slots.items }

abbrev pub frames_view : List FrameCode → List Frame
frames_view fs = reverse (map frame_view fs)

-- those that wait
abbrev pub calls_view : Calls → List Frame
calls_view c = frames_view (take c.depth c.frames.items)

abbrev pub state_view : Runner → RunnerState
state_view r = record { block = r.block; slots = views r.slots.items; frames = calls_view r.calls; turns = r.turns }

-- the slot that the answer to the operation comes into
abbrev pub waiting_slot : Runner → ℕ
waiting_slot r = r.answer

-- where a start begins, and whether the code has it and it takes so many values
abbrev pub entry_at : CodeView → Start → EntryPoint
entry_at C begin.Main = main_entry C
entry_at C (begin.Go n) = body_entry C n
entry_at C (begin.Function n) = function_at C n

abbrev pub is_start : CodeView → Start → ℕ → Bool
is_start C begin.Main count = count == 0
is_start C (begin.Go n) count = takes C.bodies n count
is_start C (begin.Function n) count = takes C.functions n count

abbrev pub IsStart : CodeView → Start → ℕ → Type 0
IsStart C start count = IsTrue (is_start C start count)

-- slots for that block: it is there, and they are as many as its text has
abbrev pub HasSlots : CodeView → ℕ → List Tree → Type 0
HasSlots C n s = (n < block_count C) × (length s ≡ (block_at C n).width)

abbrev pub AreFrames : CodeView → List Frame → Type 0
AreFrames C [] = Unit {0}
AreFrames C (f ∷ fs) = HasSlots C f.next f.slots × (f.answer < length f.slots) × AreFrames C fs

-- a runner that goes on in this code
pub record RunnerStands (C : CodeView) (c : RunnerState) : Type 0 where
  pub slots : HasSlots C c.block c.slots
  pub frames : AreFrames C c.frames
  pub turns : c.turns ≤ 999_999
  pub depth : length c.frames ≤ 256

-- a runner that halted at an operation of this code
pub record RunnerWaits (C : CodeView) (r : Runner) : Type 0 where
  pub stands : RunnerStands C (state_view r)
  pub answer : waiting_slot r < length (state_view r).slots

-- what a runner halted as
abbrev pub HaltedAs : Move → Halt → Runner → Type 0
HaltedAs m (halt.Cut w) r = m ≡ waits (want_view w) (waiting_slot r) (state_view r)
HaltedAs m (halt.Ended v) r = m ≡ ends (view v) (state_view r).turns
HaltedAs m (halt.Faulted f p) r = m ≡ faults f p (state_view r).turns

-- where it is overwritten, nothing of the value is to be let go
abbrev pub is_bare : Tree → Bool
is_bare nil = true
is_bare (bool b) = true
is_bare (int z) = true
is_bare (port n) = true
is_bare t = false

-- so of a halt
abbrev pub is_bare_op : OpView → Bool
is_bare_op (taking c) = is_bare c
is_bare_op (putting c v) = is_bare c && is_bare v
is_bare_op op = false

abbrev pub is_bare_halt : Halt → Bool
is_bare_halt (halt.Cut w) = is_bare_op (op_view w.op)
is_bare_halt (halt.Ended v) = is_bare (view v)
is_bare_halt (halt.Faulted f p) = true

-- the halt is at the operation that was asked for, or by its fault
abbrev pub HoldsAsked : Halt → Result OpView Fault → Place → Type 0
HoldsAsked (halt.Cut w) o p = (o ≡ Ok (op_view w.op)) × (w.place ≡ p)
HoldsAsked (halt.Ended v) o p = ⊥
HoldsAsked (halt.Faulted f q) o p = (o ≡ Err f) × (q ≡ p)

-- it is at the end, with that value
abbrev pub EndsAs : Halt → Tree → Type 0
EndsAs (halt.Cut w) t = ⊥
EndsAs (halt.Ended v) t = view v ≡ t
EndsAs (halt.Faulted f p) t = ⊥

-- it is by that fault
abbrev pub HoldsStop : Stop → Halt → Type 0
HoldsStop (Stop.Fault f p) h = h ≡ halt.Faulted f p
HoldsStop Stop.OutOfMemory h = ⊥

-- what a block or an exit that doesn't halt came to: the runner goes on, or stops; want of memory says nothing
abbrev pub Passed : Move → Bool → Stop → Runner → Type 0
Passed m true e r = m ≡ goes (state_view r)
Passed m false (Stop.Fault f p) r = m ≡ faults f p (state_view r).turns
Passed m false Stop.OutOfMemory r = Unit {0}

-- a runner with these parts goes on
abbrev pub runner_goes : ℕ → List Tree → List Frame → ℕ → Move
runner_goes block slots frames turns = goes (record { block = block; slots = slots; frames = frames; turns = turns })

-- an operation halts the runner, and a return where no call waits
abbrev pub halts_at : Exit → List Frame → Bool
halts_at (Jump next p) fs = false
halts_at (Branch a yes_to no_to) fs = false
halts_at (Test b to left right yes_to no_to p) fs = false
halts_at (TestInt b to left z yes_to no_to p) fs = false
halts_at (Call f a n answer next p) fs = false
halts_at (Return a) [] = true
halts_at (Return a) (f ∷ fs) = false
halts_at (Cut h a n answer next p) fs = true

-- from a state a runner came to this halt
abbrev pub HaltsAs : CodeView → RunnerState → Halt → Runner → Type 0
HaltsAs C c h r = (m : Move) × ComesTo C c m × HaltedAs m h r

-- a runner at an operation waits there
abbrev pub RunnerWaitsAt : CodeView → Halt → Runner → Type 0
RunnerWaitsAt C (halt.Cut w) r = RunnerWaits C r
RunnerWaitsAt C (halt.Ended v) r = Unit {0}
RunnerWaitsAt C (halt.Faulted f p) r = Unit {0}

-- the frames have the slot that the value of a call comes into
abbrev pub TakesValue : List Frame → Type 0
TakesValue [] = Unit {0}
TakesValue (f ∷ fs) = f.answer < length f.slots

-- an entry point whose text has slots for so many values
abbrev pub HasRoom : CodeView → EntryPoint → ℕ → Type 0
HasRoom C e count = (e.block < block_count C) × (count ≤ (block_at C e.block).width)

-- the exit's slots are there, and what it applies takes so many values
abbrev pub FitsExit : CodeView → Exit → RunnerState → Type 0
FitsExit C (Jump next p) c = Unit {0}
FitsExit C (Branch a yes_to no_to) c = a < length c.slots
FitsExit C (Test b to left right yes_to no_to p) c = IsTrue (admits_arguments b 2) × (left < length c.slots) × (right < length c.slots)
FitsExit C (TestInt b to left z yes_to no_to p) c = IsTrue (admits_arguments b 2) × (left < length c.slots)
FitsExit C (Call f a n answer next p) c = IsTrue (are_below (length c.slots) (slots_from a n)) × HasRoom C (function_at C f) n
FitsExit C (Return a) c = (a < length c.slots) × TakesValue c.frames
FitsExit C (Cut h a n answer next p) c = IsTrue (are_below (length c.slots) (slots_from a n))

-- the exit fits whatever the slots hold, as long as they are so many
abbrev pub FitsAnyway : CodeView → Exit → RunnerState → Type 0
FitsAnyway C x c = (s : List Tree) → length s ≡ length c.slots → FitsExit C x (record c { slots = s })

-- what is asked of an exit that the runner halts at
abbrev pub FitsHalt : Exit → RunnerState → Type 0
FitsHalt (Jump next p) c = Unit {0}
FitsHalt (Branch a yes_to no_to) c = Unit {0}
FitsHalt (Test b to left right yes_to no_to p) c = Unit {0}
FitsHalt (TestInt b to left z yes_to no_to p) c = Unit {0}
FitsHalt (Call f a n answer next p) c = Unit {0}
FitsHalt (Return a) c = a < length c.slots
FitsHalt (Cut h a n answer next p) c = IsTrue (are_below (length c.slots) (slots_from a n))
