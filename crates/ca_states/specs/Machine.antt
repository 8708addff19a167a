-- What a runner does. It stands at a block of the code, with a value in each slot; it runs the block's
-- instructions and then leaves by its exit. It knows no term.
use Rattle.std.specs.Prelude.{◌≡◌, ℕ, zero, suc, ◌-◌, List, [], ◌∷◌, ◌++◌, length, map, Bool, true, false, cond, nat_lt, replicate, slice_index_or, Result, Ok, Err}
use Rattle.ca_value.specs.Tree.{Tree, nil, int, port, trees_of}
use Rattle.ca_value.specs.Outcome.{Outcome}
use Rattle.ca_value.specs.Builtins.{builtin_result}
use Rattle.ca_value.specs.declared.builtin.Builtin.{Builtin}
use Rattle.ca_value.specs.declared.builtin.Builtin.TheVariants.{Conj, Assoc}
use Rattle.ca_term.specs.declared.place.Place.{Place}
use Rattle.ca_term.specs.declared.fault.Fault.{Fault}
use Rattle.ca_term.specs.declared.fault.Fault.TheVariants.{Spun, TooDeep}
use Rattle.ca_term.specs.Operation.{WantView, OpView}
use Rattle.ca_term.specs.Operands.{truth}
use Rattle.ca_term.specs.Asking.{task_fault, asked}
use Rattle.ca_term.specs.Turns.{is_spun, is_too_deep}
use Rattle.ca_states.specs.declared.code.EntryPoint.{EntryPoint}
use Rattle.ca_states.specs.declared.code.Exit.{Exit}
use Rattle.ca_states.specs.declared.code.Exit.TheVariants.{Jump, Branch, Test, TestInt, Call, Return, Cut}
use Rattle.ca_states.specs.Code.{Instruction, constant, copying, moving, clearing, one, two, two_int, pushing, putting, many, CodeView, block_at, function_at}

-- a slot's value; one that was never written holds nil
abbrev pub read : List Tree → ℕ → Tree
read s a = slice_index_or s a nil

-- the slots with another value in one of them; there are always enough
abbrev pub slot_written : List Tree → ℕ → Tree → List Tree
slot_written [] zero v = v ∷ []
slot_written [] (suc a) v = nil ∷ slot_written [] a v
slot_written (t ∷ s) zero v = v ∷ s
slot_written (t ∷ s) (suc a) v = t ∷ slot_written s a v

-- so many slots, from one on
abbrev pub slots_from : ℕ → ℕ → List ℕ
slots_from a zero = []
slots_from a (suc n) = a ∷ slots_from (suc a) n

-- the values of the slots
abbrev pub reads : List Tree → List ℕ → List Tree
reads s ks = map (read s) ks

-- nil, an integer or a port
abbrev pub is_plain_value : Tree → Bool
is_plain_value nil = true
is_plain_value (int z) = true
is_plain_value (port n) = true
is_plain_value t = false

-- What a slot holds once its value was taken out. These cost nothing to keep; nothing hangs on this.
unfoldable pub left_in_slot : Tree → Tree
left_in_slot t = cond (is_plain_value t) t nil

-- the slots with one value, and with several, taken out
abbrev pub slot_taken : List Tree → ℕ → List Tree
slot_taken s a = slot_written s a (left_in_slot (read s a))

abbrev pub taken_all : List Tree → List ℕ → List Tree
taken_all s [] = s
taken_all s (a ∷ ks) = taken_all (slot_taken s a) ks

-- what an instruction comes to: the slots after it, or a fault
pub data Effect : Type 0 where
  done : List Tree → Effect
  failed : Fault → Place → Effect

-- a builtin's value comes into a slot
abbrev pub slot_answered : List Tree → ℕ → Place → Outcome → Effect
slot_answered s to p (Ok v) = done (slot_written s to v)
slot_answered s to p (Err f) = failed (task_fault f) p

abbrev pub builtin_applied : Builtin → List Tree → Outcome
builtin_applied b vs = builtin_result b (trees_of vs)

abbrev pub effect : Instruction → List Tree → Effect
effect (constant to v) s = done (slot_written s to v)
effect (copying to a) s = done (slot_written s to (read s a))
effect (moving to a) s = done (slot_written (slot_taken s a) to (read s a))
effect (clearing a) s = done (slot_taken s a)
effect (one b to a p) s = slot_answered s to p (builtin_applied b (read s a ∷ []))
effect (two b to a c p) s = slot_answered s to p (builtin_applied b (read s a ∷ read s c ∷ []))
effect (two_int b to a z p) s = slot_answered s to p (builtin_applied b (read s a ∷ int z ∷ []))
effect (pushing to a c p) s = slot_answered (slot_taken s a) to p (builtin_applied Conj (read s a ∷ read s c ∷ []))
effect (putting to a k v p) s = slot_answered (slot_taken s a) to p (builtin_applied Assoc (read s a ∷ read s k ∷ read s v ∷ []))
effect (many b to a n p) s = slot_answered (taken_all s (slots_from a n)) to p (builtin_applied b (reads s (slots_from a n)))

-- a call that waits for its value: the block that goes on, the slot that the value comes into, and the slots
pub record Frame : Type 0 where
  pub next : ℕ
  pub answer : ℕ
  pub slots : List Tree

-- A runner: its block, its slots, the calls that wait, the innermost first, and the turns since the last event.
pub record RunnerState : Type 0 where
  pub block : ℕ
  pub slots : List Tree
  pub frames : List Frame
  pub turns : ℕ

-- What a runner comes to by one block.
pub data Move : Type 0 where
  goes : RunnerState → Move
  -- at the end, with that value and so many turns
  ends : Tree → ℕ → Move
  faults : Fault → Place → ℕ → Move
  -- at an operation: its answer comes into that slot of the runner that goes on
  waits : WantView → ℕ → RunnerState → Move

-- new slots, so many, with the values in the first of them
abbrev pub begun : ℕ → List Tree → List Tree
begun width vs = vs ++ replicate (width - length vs) nil

abbrev pub begun_at : CodeView → EntryPoint → List Tree → List Tree
begun_at C e vs = begun (block_at C e.block).width vs

-- the next turn, unless it is the 1,000,000th since the last event
abbrev pub turned : ℕ → Place → Move → Move
turned turns p m = cond (is_spun turns) (faults Spun p turns) m

-- the next call, unless it would stand inside 256; Spun is tested first
abbrev pub called : ℕ → List Frame → Place → Move → Move
called turns frames p m = turned turns p (cond (is_too_deep (length frames)) (faults TooDeep p turns) m)

-- the runner at that block
abbrev pub at_block : ℕ → RunnerState → RunnerState
at_block n c = record c { block = n }

abbrev pub test_answered : Place → RunnerState → ℕ → ℕ → Outcome → Move
test_answered p c yes_to no_to (Ok v) = goes (at_block (cond (truth v) yes_to no_to) c)
test_answered p c yes_to no_to (Err f) = faults (task_fault f) p c.turns

abbrev pub returned : Tree → List Frame → ℕ → Move
returned v [] turns = ends v turns
returned v (f ∷ fs) turns = goes (record { block = f.next; slots = slot_written f.slots f.answer v; frames = fs; turns = turns })

abbrev pub waits_or_faults : Place → ℕ → RunnerState → Result OpView Fault → Move
waits_or_faults p answer c (Ok op) = waits (record { op = op; place = p }) answer c
waits_or_faults p answer c (Err f) = faults f p c.turns

-- a function begins with the values, and the runner waits for its value
abbrev pub entered : CodeView → EntryPoint → List Tree → Frame → RunnerState → RunnerState
entered C e vs f c = record { block = e.block; slots = begun_at C e vs; frames = f ∷ c.frames; turns = suc c.turns }

-- the runner at that block, by a turn where its number isn't greater
abbrev pub jumped : ℕ → Place → RunnerState → Move
jumped next p c = cond (nat_lt c.block next) (goes (at_block next c)) (turned c.turns p (goes (record c { block = next; turns = suc c.turns })))

-- the runner, at the end of its block, leaves by the exit
abbrev pub leaves : CodeView → Exit → RunnerState → Move
leaves C (Jump next p) c = jumped next p c
leaves C (Branch a yes_to no_to) c = goes (at_block (cond (truth (read c.slots a)) yes_to no_to) c)
leaves C (Test b to left right yes_to no_to p) c = test_answered p c yes_to no_to (builtin_applied b (read c.slots left ∷ read c.slots right ∷ []))
leaves C (TestInt b to left z yes_to no_to p) c = test_answered p c yes_to no_to (builtin_applied b (read c.slots left ∷ int z ∷ []))
leaves C (Call n a k answer next p) c =
    called c.turns c.frames p
    (goes (entered C (function_at C n) (reads c.slots (slots_from a k)) (record { next = next; answer = answer; slots = taken_all c.slots (slots_from a k) }) c))
leaves C (Return a) c = returned (read c.slots a) c.frames c.turns
leaves C (Cut head a k answer next p) c =
    waits_or_faults p answer (record c { block = next; slots = taken_all c.slots (slots_from a k) }) (asked head (trees_of (reads c.slots (slots_from a k))) p)

abbrev pub went : Effect → RunnerState → (RunnerState → Move) → Move
went (done s) c m = m (record c { slots = s })
went (failed f p) c m = faults f p c.turns

-- the rest of a block, from an instruction on
abbrev pub runs_block : CodeView → List Instruction → Exit → RunnerState → Move
runs_block C [] x c = leaves C x c
runs_block C (i ∷ is) x c = went (effect i c.slots) c (runs_block C is x)

-- one block
abbrev pub move : CodeView → RunnerState → Move
move C c = runs_block C (block_at C c.block).instrs (block_at C c.block).exit c

-- a new runner at an entry point
abbrev pub runner_started : CodeView → EntryPoint → List Tree → RunnerState
runner_started C e vs = record { block = e.block; slots = begun_at C e vs; frames = []; turns = 0 }

-- What waits for a function that is called by itself: the text that has the value which comes into its first slot.
abbrev pub outermost : CodeView → Frame
outermost C = record { next = C.identity; answer = 0; slots = begun (block_at C C.identity).width [] }

-- A new runner that calls a function by itself: the call is a turn, and the function stands in one call.
abbrev pub calling : CodeView → ℕ → List Tree → RunnerState
calling C n vs = record { block = (function_at C n).block; slots = begun_at C (function_at C n) vs; frames = outermost C ∷ []; turns = 1 }

-- the runner with the answer to its operation in the slot that it named; the turns are 0 again
abbrev pub resumed : Tree → ℕ → RunnerState → RunnerState
resumed v answer c = record c { slots = slot_written c.slots answer v; turns = 0 }

-- an end, a fault or an operation
abbrev pub IsHalt : Move → Type 0
IsHalt (goes c) = ⊥
IsHalt (ends v turns) = Unit {0}
IsHalt (faults f p turns) = Unit {0}
IsHalt (waits want answer c) = Unit {0}

-- the runner comes to this, block by block
pub data ComesTo (C : CodeView) : RunnerState → Move → Type 0 where
  halts : {c : RunnerState} → IsHalt (move C c) → ComesTo C c (move C c)
  goes_on : (c d : RunnerState) (m : Move) → move C c ≡ goes d → ComesTo C d m → ComesTo C c m
