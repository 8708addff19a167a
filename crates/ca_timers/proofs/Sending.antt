-- Timers may be given to another thread, and be seen from several at once.
use denote.Param.Send.{IsSend, sendable, view_send}
use denote.Param.SendFields.{declared_send}
use Rattle.std.proofs.Crossing.{Box-send, Box-sync, crosses}
use Rattle.ca_timers.specs.contracts.tree.Tree as Tree
use Rattle.ca_timers.specs.contracts.tree.Node as Node
use Rattle.ca_timers.specs.contracts.queue.DeadlineQueue as DeadlineQueue
use Rattle.ca_timers.specs.contracts.timers.Timers as Timers
use Rattle.ca_timers.proofs.tree.Tree.TheLaws.TheKnot as knot
use Rattle.ca_timers.proofs.deadline.OpenDeadline.TheSendSync as deadline
use Rattle.ca_timers.specs.contracts.timers.Timers.TheInside as Stored
use Rattle.ca_timers.specs.contracts.queue.DeadlineQueue.TheInside as Queued

tree_send : IsSend Tree.the_row
tree_send =
    knot.both_send-Tree (search sendable) (λ h s y. Box-send h s) (search (sendable, deadline.the_send)) (search sendable) (λ h s y. Box-sync h y) (search (sendable, deadline.the_sync))

node_send : IsSend Node.the_row
node_send = declared_send Node.the_type (search (sendable, tree_send, deadline.the_send) depth 20)

queued_send : IsSend Queued.the_row
queued_send = declared_send Queued.the_type (search (sendable, crosses, tree_send, node_send, deadline.the_send) depth 20)

queue_send : IsSend DeadlineQueue.the_row
queue_send = search (sendable, view_send, queued_send)

stored_send : IsSend Stored.the_row
stored_send = declared_send Stored.the_type (search (sendable, crosses, queue_send, deadline.the_send) depth 20)

pub timers_send : IsSend Timers.the_row
timers_send = search (sendable, view_send, stored_send)
