-- The wait law: each operation has one event, and each wait is completed once. (core.async API
-- reference: `alts!`, at most one of its operations is done; `>!`, `<!`, which park until they are done.)
use Rattle.std.specs.Prelude.{◌≡◌, ℕ, ◌≤◌, List, [], ◌∷◌, ◌++◌, Some, Bool, true, false}
use Rattle.ca_value.specs.Tree.{Tree}
use Rattle.ca_term.specs.Operation.{OpView, taking, putting, choosing, posting, making, spawning, closing, registering, printing}
use Rattle.ca_term.specs.declared.event.Ending.TheVariants.{Ended, Faulted}
use Rattle.ca_term.specs.Program.{ProgramView}
use Rattle.ca_term.specs.Event.{BranchView, EventView, made, spawned, done, met, parked, posted, settled, defaulted, closed, registered, printed, ticked, over as is_over}
use Rattle.ca_meaning.specs.Body.{At, local, at_op, ended, faulted, nowhere}
use Rattle.ca_meaning.specs.Task.{TaskBody, body_at, body_fill, BodyRest}
use Rattle.ca_meaning.specs.State.{State, Task, Mode, running, waiting, over, runs}
use Rattle.ca_meaning.specs.Steps.{Step}
use Rattle.ca_meaning.specs.Legal.{Reaches}
use Rattle.ca_meaning.specs.History.{MakesBranch, completed_by, completes_wait, makes, count}
use Rattle.ca_meaning.specs.EndsLaw.{is_of}

-- an operation that takes, puts or chooses
abbrev pub chooses_op : OpView → Bool
chooses_op (taking c) = true
chooses_op (putting c v) = true
chooses_op (choosing ports priority default) = true
chooses_op (posting c v) = true
chooses_op (making what) = false
chooses_op (spawning seed) = false
chooses_op (closing c) = false
chooses_op (registering name args) = false
chooses_op (printing line) = false

abbrev pub chooses : At → Bool
chooses (at_op want) = chooses_op want.op
chooses local = false
chooses (ended v) = false
chooses (faulted f p) = false
chooses nowhere = false

-- the task got an answer and went on: its operation is done with
abbrev pub WentOn : ProgramView → Task → Task → Type 0
WentOn program x y = (v : Tree) × (b : TaskBody) × BodyRest program (body_fill v x.body) b × (y ≡ runs x.result b)

-- what an event of its own leaves of a task
abbrev pub OwnEvent : ProgramView → Task → EventView → Task → Type 0
-- the events of an operation that takes, puts or chooses, of which a Park leaves the task waiting there
OwnEvent program x (done t k b a) y = (chooses (body_at x.body) ≡ true) × WentOn program x y
OwnEvent program x (met t k side p v w o) y = (chooses (body_at x.body) ≡ true) × WentOn program x y
OwnEvent program x (defaulted t v) y = (chooses (body_at x.body) ≡ true) × WentOn program x y
OwnEvent program x (posted t w p v) y = (chooses (body_at x.body) ≡ true) × WentOn program x y
OwnEvent program x (parked t w bs) y = (chooses (body_at x.body) ≡ true) × (y ≡ record x { mode = waiting w })
-- the events of the other operations
OwnEvent program x (made t p what moment) y = (chooses (body_at x.body) ≡ false) × WentOn program x y
OwnEvent program x (spawned t u kind result) y = (chooses (body_at x.body) ≡ false) × WentOn program x y
OwnEvent program x (closed t p) y = (chooses (body_at x.body) ≡ false) × WentOn program x y
OwnEvent program x (registered t name args v) y = (chooses (body_at x.body) ≡ false) × WentOn program x y
OwnEvent program x (printed t line) y = (chooses (body_at x.body) ≡ false) × WentOn program x y
-- no operation that takes, puts or chooses ends its task but by a fault
OwnEvent program x (is_over t Ended) y = (chooses (body_at x.body) ≡ false) × (y ≡ record x { mode = over })
OwnEvent program x (is_over t (Faulted fault place result)) y = y ≡ record x { mode = over }
OwnEvent program x (settled w k side p v) y = ⊥
OwnEvent program x (ticked m ports) y = ⊥

-- what an event leaves of task t, which is in this mode
abbrev pub Told : ProgramView → ℕ → Mode → Task → EventView → Task → Type 0
-- a task that runs stays where it is until its own event
Told program t running x e y = (is_of t e ≡ false → y ≡ x) × (is_of t e ≡ true → OwnEvent program x e y)
-- a task that waits has no event, and goes on exactly where its wait is completed
Told program t (waiting w) x e y = (is_of t e ≡ false) × (completes_wait w e ≡ false → y ≡ x) × (completes_wait w e ≡ true → WentOn program x y)
-- a task that is over has no event
Told program t over x e y = (is_of t e ≡ false) × (y ≡ x)

-- task t, which is x in the state s, through the events and the states that they lead to: each of its
-- operations has exactly one event, or at most one if the task still stands at it at the end
abbrev pub Lives : ProgramView → ℕ → State → Task → List EventView → Type 0
Lives program t s x [] = Unit {0}
Lives program t s x (e ∷ es) = (s2 : State) × (y : Task) × Step program s e s2 × (s2.tasks t ≡ Some y) × Told program t x.mode x e y × Lives program t s2 y es

pub record WaitLaw (program : ProgramView) (journal : List EventView) : Type 0 where
  -- each wait number is made by one Park or Post at most
  pub made_once : (w : ℕ) → count (makes w) journal ≤ 1
  -- at most one Meet or Settle completes it
  pub completed_once : (w : ℕ) → count (completes_wait w) journal ≤ 1
  -- it comes later, at a branch that the Park or Post names, with that port, side and put value
  pub named : (before after : List EventView) (e : EventView) (w k : ℕ) (b : BranchView) → journal ≡ before ++ e ∷ after → completed_by e ≡ Some (w, k, b)
      → (early : List EventView) × (offer : EventView) × (late : List EventView) × (before ≡ early ++ offer ∷ late) × MakesBranch w k b offer
  -- from each place of the journal on, each task that is there lives so
  pub operations : (before after : List EventView) → journal ≡ before ++ after → (s : State) × Reaches program before s × ((t : ℕ) (x : Task) → s.tasks t ≡ Some x → Lives program t s x after)
