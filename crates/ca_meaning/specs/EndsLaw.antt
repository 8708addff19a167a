-- The law under the ends: a run stops by itself only where nothing can go on.
use Rattle.std.specs.Prelude.{◌≡◌, ℕ, [], Some, Bool, true, false, eqb}
use Rattle.ca_term.specs.declared.event.Side.TheVariants.{Take, Put}
use Rattle.ca_term.specs.Program.{ProgramView}
use Rattle.ca_term.specs.Event.{EventView, made, spawned, done, met, parked, posted, settled, defaulted, closed, registered, printed, ticked, over}
use Rattle.ca_meaning.specs.Channel.{Channel}
use Rattle.ca_meaning.specs.Wait.{front}
use Rattle.ca_meaning.specs.Row.{unsettled, settle_row}
use Rattle.ca_meaning.specs.State.{State, Task, running}
use Rattle.ca_meaning.specs.Steps.{Step}

-- the event is one of task t; a Settle and a Tick are of no task
abbrev pub is_of : ℕ → EventView → Bool
is_of t (made u p what moment) = eqb u t
is_of t (spawned u v kind result) = eqb u t
is_of t (done u k b a) = eqb u t
is_of t (met u k side p v w o) = eqb u t
is_of t (parked u w bs) = eqb u t
is_of t (posted u w p v) = eqb u t
is_of t (settled w k side p v) = false
is_of t (defaulted u v) = eqb u t
is_of t (closed u p) = eqb u t
is_of t (registered u name args v) = eqb u t
is_of t (printed u line) = eqb u t
is_of t (ticked m ports) = false
is_of t (over u how) = eqb u t

-- an event of task t is possible
abbrev pub HasEvent : ProgramView → State → ℕ → Type 0
HasEvent program s t = (e : EventView) × (s2 : State) × Step program s e s2 × (is_of t e ≡ true)

-- no task runs, no channel settles, no deadline is open
pub record IsQuiet (s : State) : Type 0 where
  pub no_task : (t : ℕ) (x : Task) → s.tasks t ≡ Some x → x.mode ≡ running → ⊥
  pub no_settle : (p : ℕ) (c : Channel) → s.channels p ≡ Some c → settle_row c (front Take p s.waits) (front Put p s.waits) ≡ unsettled
  pub no_deadline : s.deadlines ≡ []
