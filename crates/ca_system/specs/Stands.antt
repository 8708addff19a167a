-- Where a table stands, and what follows on an answer, in the words of the meaning.
use Rattle.ca_value.specs.Tree.{nil}
use Rattle.ca_term.specs.Operation.{want_view}
use Rattle.ca_meaning.specs.Body.{At, at_op, ended, faulted}
use Rattle.ca_term.specs.declared.place.Place.{Place}
use Rattle.ca_meaning.specs.Asks.{Next, to, stop, fail}
use Rattle.ca_meaning.specs.System.{SystemBody}
use Rattle.ca_system.specs.declared.running.Running.{Running}
use Rattle.ca_system.specs.declared.stand.Stand.{Stand}
use Rattle.ca_system.specs.declared.stand.Stand.TheVariants.{AtOp, Ended, Faulted}
use Rattle.ca_system.specs.declared.stand.Next.{Next as NextState}
use Rattle.ca_system.specs.declared.stand.Next.TheVariants.{To, Stop, Fail}

abbrev pub stand_at : Stand → At
stand_at (AtOp w) = at_op (want_view w)
stand_at Ended = ended nil
stand_at (Faulted f p) = faulted f p

abbrev pub next_view : {S T : Type 0} → (S → T) → NextState S → Next T
next_view state (To s) = to (state s)
next_view state Stop = stop
next_view state (Fail f) = fail f

-- the body of a running task
abbrev pub running_body : {K S : Type 0} → (K → Place → NextState S → SystemBody) → Running K S → SystemBody
running_body body r = body r.kind r.place r.state
