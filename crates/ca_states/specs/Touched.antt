-- Which slots an instruction or an exit reads, takes values out of, and writes; and where an exit leads. The slot of a
-- test, into which its value doesn't come, counts as one that a value was taken out of: it is unknown afterwards.
use Rattle.std.specs.Prelude.{ℕ, List, [], ◌∷◌}
use Rattle.ca_states.specs.declared.code.Exit.{Exit}
use Rattle.ca_states.specs.declared.code.Exit.TheVariants.{Jump, Branch, Test, TestInt, Call, Return, Cut}
use Rattle.ca_states.specs.Code.{Instruction, constant, copying, moving, clearing, one, two, two_int, pushing, putting, many}
use Rattle.ca_states.specs.Machine.{slots_from}

abbrev pub read_by : Instruction → List ℕ
read_by (constant to v) = []
read_by (copying to a) = a ∷ []
read_by (moving to a) = a ∷ []
read_by (clearing a) = []
read_by (one b to a p) = a ∷ []
read_by (two b to a c p) = a ∷ c ∷ []
read_by (two_int b to a z p) = a ∷ []
read_by (pushing to a c p) = a ∷ c ∷ []
read_by (putting to a k v p) = a ∷ k ∷ v ∷ []
read_by (many b to a n p) = slots_from a n

abbrev pub emptied_by : Instruction → List ℕ
emptied_by (constant to v) = []
emptied_by (copying to a) = []
emptied_by (moving to a) = a ∷ []
emptied_by (clearing a) = a ∷ []
emptied_by (one b to a p) = []
emptied_by (two b to a c p) = []
emptied_by (two_int b to a z p) = []
emptied_by (pushing to a c p) = a ∷ []
emptied_by (putting to a k v p) = a ∷ []
emptied_by (many b to a n p) = slots_from a n

abbrev pub written_by : Instruction → List ℕ
written_by (constant to v) = to ∷ []
written_by (copying to a) = to ∷ []
written_by (moving to a) = to ∷ []
written_by (clearing a) = []
written_by (one b to a p) = to ∷ []
written_by (two b to a c p) = to ∷ []
written_by (two_int b to a z p) = to ∷ []
written_by (pushing to a c p) = to ∷ []
written_by (putting to a k v p) = to ∷ []
written_by (many b to a n p) = to ∷ []

abbrev pub read_at : Exit → List ℕ
read_at (Jump next p) = []
read_at (Branch a yes_to no_to) = a ∷ []
read_at (Test b to left right yes_to no_to p) = left ∷ right ∷ []
read_at (TestInt b to left z yes_to no_to p) = left ∷ []
read_at (Call f a n answer next p) = slots_from a n
read_at (Return a) = a ∷ []
read_at (Cut h a n answer next p) = slots_from a n

abbrev pub emptied_at : Exit → List ℕ
emptied_at (Jump next p) = []
emptied_at (Branch a yes_to no_to) = []
emptied_at (Test b to left right yes_to no_to p) = to ∷ []
emptied_at (TestInt b to left z yes_to no_to p) = to ∷ []
emptied_at (Call f a n answer next p) = slots_from a n
emptied_at (Return a) = []
emptied_at (Cut h a n answer next p) = slots_from a n

-- the slot that a call's value or an operation's answer comes into
abbrev pub answered_at : Exit → List ℕ
answered_at (Jump next p) = []
answered_at (Branch a yes_to no_to) = []
answered_at (Test b to left right yes_to no_to p) = []
answered_at (TestInt b to left z yes_to no_to p) = []
answered_at (Call f a n answer next p) = answer ∷ []
answered_at (Return a) = []
answered_at (Cut h a n answer next p) = answer ∷ []

-- the blocks that go on in the same text
abbrev pub targets : Exit → List ℕ
targets (Jump next p) = next ∷ []
targets (Branch a yes_to no_to) = yes_to ∷ no_to ∷ []
targets (Test b to left right yes_to no_to p) = yes_to ∷ no_to ∷ []
targets (TestInt b to left z yes_to no_to p) = yes_to ∷ no_to ∷ []
targets (Call f a n answer next p) = next ∷ []
targets (Return a) = []
targets (Cut h a n answer next p) = next ∷ []
