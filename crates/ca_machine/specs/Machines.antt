-- A machine: a runner over its code, and where it is paused. What it stands for, and how it goes on.
use Rattle.std.specs.Prelude.{◌≡◌, ◌≢◌, ℕ, ◌<◌, [], ◌∷◌, ◌++◌, length}
use Rattle.ca_value.specs.Tree.{Tree, Trees, port}
use Rattle.ca_term.specs.Operation.{SeedView, go, system}
use Rattle.ca_term.specs.Program.{ProgramView, arity}
use Rattle.ca_meaning.specs.Body.{BodyView, At, local, at_op, ended, faulted, nowhere, at, fill, new_body}
use Rattle.ca_meaning.specs.Operands.{values_in}
use Rattle.ca_meaning.specs.Rest.{Rest}
use Rattle.ca_meaning.specs.Started.{procedure_at, started as started_text}
use Rattle.ca_meaning.specs.Task.{TaskBody, script, system_task}
use Rattle.ca_agent.specs.Seeds.{go_body}
use Rattle.ca_states.specs.Code.{CodeView}
use Rattle.ca_states.specs.Machine.{RunnerState, Move, ends, faults, waits, resumed, ComesTo}
use Rattle.ca_lower.specs.Lowered.{StandsFor}
use Rattle.ca_machine.specs.Tasks.{HasTaskAt}

pub record MachineView : Type 0 where
  -- the code that it was made over
  pub code : CodeView
  pub state : RunnerState
  -- the slot that the answer to its operation comes into
  pub answer : ℕ
  pub place : At

-- Paused as the body is, with as many turns, and after any answer its runner goes as the body with that answer; one
-- that goes on does so as a body that comes to rest here.
abbrev pub GoesAs : ProgramView → MachineView → At → BodyView → Type 0
GoesAs P m local b = (begun : BodyView) × StandsFor P m.code m.state begun × Rest P begun b
GoesAs P m (at_op w) b = (at b ≡ at_op w) × (b.turns ≡ m.state.turns) × ((v : Tree) → StandsFor P m.code (resumed v m.answer m.state) (fill v b))
GoesAs P m (ended v) b = (at b ≡ ended v) × (b.turns ≡ m.state.turns)
GoesAs P m (faulted f p) b = (at b ≡ faulted f p) × (b.turns ≡ m.state.turns)
GoesAs P m nowhere b = ⊥

-- a machine stands for a script's text, never for a system task
abbrev pub MachineStandsAs : ProgramView → MachineView → TaskBody → Type 0
MachineStandsAs P m (script b) = GoesAs P m m.place b
MachineStandsAs P m (system_task b) = ⊥

-- what its runner came to is told by where it is paused
abbrev pub HaltsIn : Move → MachineView → At → Type 0
HaltsIn k m local = ⊥
HaltsIn k m (at_op w) = k ≡ waits w m.answer m.state
HaltsIn k m (ended v) = k ≡ ends v m.state.turns
HaltsIn k m (faulted f p) = k ≡ faults f p m.state.turns
HaltsIn k m nowhere = ⊥

-- its runner goes on to a halt
abbrev pub RunsToHalt : MachineView → MachineView → Type 0
RunsToHalt m n = (n.code ≡ m.code) × (k : Move) × ComesTo m.code m.state k × HaltsIn k n n.place

-- to its next pause; where it is paused it stays
abbrev pub AdvancesFrom : At → MachineView → MachineView → Type 0
AdvancesFrom local m n = RunsToHalt m n
AdvancesFrom (at_op w) m n = n ≡ m
AdvancesFrom (ended v) m n = n ≡ m
AdvancesFrom (faulted f p) m n = n ≡ m
AdvancesFrom nowhere m n = ⊥

abbrev pub Advances : MachineView → MachineView → Type 0
Advances m n = AdvancesFrom m.place m n

-- the answer comes into its slot, and the machine goes on
abbrev pub MachineGives : MachineView → Tree → MachineView → Type 0
MachineGives m v n = (n.code ≡ m.code) × (n.state ≡ resumed v m.answer m.state) × (n.place ≡ local)

-- it is new, and goes as that body does
abbrev pub MachineBegins : ProgramView → MachineView → BodyView → Type 0
MachineBegins P m b = (m.place ≡ local) × StandsFor P m.code m.state b

-- a new machine of a go block's seed, none of another
abbrev pub Starts : ProgramView → SeedView → MachineView → Type 0
Starts P (go n values result place) m = MachineBegins P m (go_body P n values result)
Starts P (system kind values place) m = ⊥

-- made over that code, not refused memory, and at no operation that starts a task which the code hasn't
abbrev pub IsOver : CodeView → MachineView → Type 0
IsOver C m = (m.code ≡ C) × (m.place ≢ nowhere) × HasTaskAt C m.place
