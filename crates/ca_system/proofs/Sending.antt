-- A running task of a kind may go to another thread where the kind may.
use denote.RattleType.{RattleType}
use denote.Param.Send.{IsSend, sendable}
use denote.Param.SendFields.{declared_send, variants_send}
use Rattle.ca_term.proofs.fault.Fault.TheSendSync as fault
use Rattle.ca_term.proofs.place.Place.TheSendSync as place
use Rattle.ca_system.specs.contracts.running.Running as Running
use Rattle.ca_system.specs.contracts.stand.Next as Next

-- what follows on an answer, where a state may
pub next_send : (S : RattleType) → IsSend S → IsSend (Next.the_row S)
next_send S s = variants_send (Next.enum S) (search (sendable, s), (tt, (search (sendable, fault.the_send) depth 20, tt)))

-- a task of a kind, where the kind may and its states
pub running_send : (K S : RattleType) → IsSend K → IsSend S → IsSend (Running.the_row K S)
running_send K S k s = declared_send (Running.the_type K S) (search (sendable, k), (search (sendable, place.the_send) depth 20, (search (sendable, s, next_send), tt)))
