-- For those who send hands to threads and share a table there: both may cross where the parts may be sent, whatever contents and events are.
use denote.RattleType.{RattleType}
use denote.Param.Send.{IsSend, IsSync}
use Rattle.ca_turns.specs.declared.object.Object.{Ghosts}
use Rattle.ca_turns.specs.contracts.hand.HandOf as hand
use Rattle.ca_turns.specs.contracts.table.Table as table
use Rattle.ca_turns.proofs.hand.HandOf.TheSendSync as hand_crosses
use Rattle.ca_turns.proofs.table.Table.TheSendSync as table_crosses

pub hand_send : (P C E : RattleType) → IsSend P → IsSend (hand.the_row P C E)
hand_send P C E s = hand_crosses.the_send P C E s

module _ (O P C E : RattleType) (g : Ghosts O.Denot P.Denot C.Denot E.Denot) (s : IsSend P) where
  pub table_send : IsSend (table.the_row O P C E g)
  table_send = table_crosses.the_send O P C E g s

  pub table_sync : IsSync (table.the_row O P C E g)
  table_sync = table_crosses.the_sync O P C E g s
