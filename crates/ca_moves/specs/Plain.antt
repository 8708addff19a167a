-- Code with each move a copy, in which no value is let go and each test is the instruction and the branch that it stands
-- for. What differs only in what it moves and lets go, and in its tests, has the same plain code.
use Rattle.std.specs.Prelude.{List, [], ◌∷◌, ◌++◌, map, cond, Bool, true, false}
use Rattle.ca_value.specs.declared.builtin.Builtin.TheVariants.{Conj}
use Rattle.ca_states.specs.declared.code.Exit.{Exit}
use Rattle.ca_states.specs.declared.code.Exit.TheVariants.{Jump, Branch, Test, TestInt, Call, Return, Cut}
use Rattle.ca_states.specs.Code.{Slots, Instruction, constant, copying, moving, clearing, one, two, two_int, pushing, putting, many, BlockView, CodeView}

abbrev pub plain_instruction : Instruction → Instruction
plain_instruction (constant to v) = constant to v
plain_instruction (copying to a) = copying to a
plain_instruction (moving to a) = copying to a
plain_instruction (clearing a) = clearing a
plain_instruction (one b to a p) = one b to a p
plain_instruction (two b to a c p) = two b to a c p
plain_instruction (two_int b to a z p) = two_int b to a z p
plain_instruction (pushing to a c p) = two Conj to a c p
plain_instruction (putting to a k v p) = putting to a k v p
plain_instruction (many b to a n p) = many b to a n p

-- all but to let a value go
abbrev pub does_something : Instruction → Bool
does_something (constant to v) = true
does_something (copying to a) = true
does_something (moving to a) = true
does_something (clearing a) = false
does_something (one b to a p) = true
does_something (two b to a c p) = true
does_something (two_int b to a z p) = true
does_something (pushing to a c p) = true
does_something (putting to a k v p) = true
does_something (many b to a n p) = true

abbrev pub doing : List Instruction → List Instruction
doing [] = []
doing (i ∷ is) = cond (does_something i) (i ∷ doing is) (doing is)

-- the builtin of a test, whose value comes into a slot, and the branch by that slot
abbrev pub exit_tests : Exit → List Instruction
exit_tests (Jump next p) = []
exit_tests (Branch a yes_to no_to) = []
exit_tests (Test b to left right yes_to no_to p) = two b to left right p ∷ []
exit_tests (TestInt b to left z yes_to no_to p) = two_int b to left z p ∷ []
exit_tests (Call f a n answer next p) = []
exit_tests (Return a) = []
exit_tests (Cut h a n answer next p) = []

abbrev pub untested : Exit → Exit
untested (Jump next p) = Jump next p
untested (Branch a yes_to no_to) = Branch a yes_to no_to
untested (Test b to left right yes_to no_to p) = Branch to yes_to no_to
untested (TestInt b to left z yes_to no_to p) = Branch to yes_to no_to
untested (Call f a n answer next p) = Call f a n answer next p
untested (Return a) = Return a
untested (Cut h a n answer next p) = Cut h a n answer next p

-- all that a block does before its branch
abbrev pub plain_instrs : List Instruction → Exit → List Instruction
plain_instrs is x = doing (map plain_instruction is) ++ exit_tests x

abbrev pub no_slots : Slots
no_slots = record { below = 0; holes = [] }

-- with no entry slots named
abbrev pub plain_block : BlockView → BlockView
plain_block b = record { width = b.width; entry = no_slots; instrs = plain_instrs b.instrs b.exit; exit = untested b.exit }

abbrev pub plain_code : CodeView → CodeView
plain_code C = record { blocks = map plain_block C.blocks; main = C.main; identity = C.identity; bodies = C.bodies; functions = C.functions; width = C.width }
