-- A value may be given to another thread, and be seen from several at once. The check writes what is left
-- to show for each type of the cycle (`TheKnot`): that lists, handles and scalars may.
use denote.Param.Send.{IsSend, IsSync, sendable}
use denote.Param.SendFields.{declared_send, declared_sync, variants_send, variants_sync}
use denote.Builtin.{u8}
use Rattle.std.proofs.Crossing.{crosses, Arc-send, Arc-sync}
use Rattle.std.specs.contracts.sync.Arc as Arc
use Rattle.std.specs.contracts.alloc.Global as Heap
use Rattle.std.specs.contracts.impls.GlobalAllocator.TheImpl.{ghosts}
use Rattle.ca_value.specs.contracts.seq.Seq as Seq
use Rattle.ca_value.specs.contracts.value.Value as Value
use Rattle.ca_value.specs.contracts.value.Vector as Vector
use Rattle.ca_value.specs.contracts.value.Map as Map
use Rattle.ca_value.specs.contracts.value.Pair as Pair
use Rattle.ca_value.specs.contracts.value.Pairs as Pairs
use Rattle.ca_value.specs.contracts.value.Spine as Spine
use Rattle.ca_value.specs.contracts.value.Table as Table
use Rattle.ca_value.proofs.value.Spine.TheLaws.TheKnot as knot
use Rattle.ca_value.proofs.seq.Seq.TheSendSync as seq
use Rattle.ca_value.proofs.value.PortId.TheSendSync as port

text_send : IsSend (Arc.the_row (Seq.the_row u8) Heap.the_row ghosts)
text_send = Arc-send (Seq.the_row u8) (seq.the_send u8 (search sendable)) (seq.the_sync u8 (search sendable))

text_sync : IsSync (Arc.the_row (Seq.the_row u8) Heap.the_row ghosts)
text_sync = Arc-sync (Seq.the_row u8) (seq.the_send u8 (search sendable)) (seq.the_sync u8 (search sendable))

spine_send : IsSend Spine.the_row
spine_send =
    knot.both_send-Spine
    (λ h s y. seq.the_send h s) (search sendable) (search sendable) (search sendable) (search (sendable, text_send)) (search (sendable, port.the_send)) Arc-send
    (λ h s y. seq.the_sync h y) (search sendable) (search sendable) (search sendable) (search (sendable, text_sync)) (search (sendable, port.the_sync)) Arc-sync

spine_sync : IsSync Spine.the_row
spine_sync =
    knot.both_sync-Spine
    (λ h s y. seq.the_send h s) (search sendable) (search sendable) (search sendable) (search (sendable, text_send)) (search (sendable, port.the_send)) Arc-send
    (λ h s y. seq.the_sync h y) (search sendable) (search sendable) (search sendable) (search (sendable, text_sync)) (search (sendable, port.the_sync)) Arc-sync

table_send : IsSend Table.the_row
table_send =
    knot.both_send-Table
    (λ h s y. seq.the_send h s) (search sendable) (search sendable) (search sendable) (search (sendable, text_send)) (search (sendable, port.the_send)) Arc-send
    (λ h s y. seq.the_sync h y) (search sendable) (search sendable) (search sendable) (search (sendable, text_sync)) (search (sendable, port.the_sync)) Arc-sync

table_sync : IsSync Table.the_row
table_sync =
    knot.both_sync-Table
    (λ h s y. seq.the_send h s) (search sendable) (search sendable) (search sendable) (search (sendable, text_send)) (search (sendable, port.the_send)) Arc-send
    (λ h s y. seq.the_sync h y) (search sendable) (search sendable) (search sendable) (search (sendable, text_sync)) (search (sendable, port.the_sync)) Arc-sync

pub vector_send : IsSend Vector.the_row
vector_send = declared_send Vector.the_type (search (sendable, crosses, spine_send, spine_sync) depth 20)

pub vector_sync : IsSync Vector.the_row
vector_sync = declared_sync Vector.the_type (search (sendable, crosses, spine_send, spine_sync) depth 20)

pub map_send : IsSend Map.the_row
map_send = declared_send Map.the_type (search (sendable, crosses, table_send, table_sync) depth 20)

pub map_sync : IsSync Map.the_row
map_sync = declared_sync Map.the_type (search (sendable, crosses, table_send, table_sync) depth 20)

pub value_send : IsSend Value.the_row
value_send = variants_send Value.enum (tt, (search sendable, (search sendable, (search (sendable, text_send), (search (sendable, text_send), ((vector_send, tt), ((map_send, tt), (search (sendable, port.the_send), tt))))))))

pub value_sync : IsSync Value.the_row
value_sync = variants_sync Value.enum (tt, (search sendable, (search sendable, (search (sendable, text_sync), (search (sendable, text_sync), ((vector_sync, tt), ((map_sync, tt), (search (sendable, port.the_sync), tt))))))))

pub pair_send : IsSend Pair.the_row
pair_send = declared_send Pair.the_type (value_send, (value_send, tt))

pub pair_sync : IsSync Pair.the_row
pair_sync = declared_sync Pair.the_type (value_sync, (value_sync, tt))

pub pairs_send : IsSend Pairs.the_row
pairs_send = declared_send Pairs.the_type (search (sendable, seq.the_send, pair_send) depth 20)

pub pairs_sync : IsSync Pairs.the_row
pairs_sync = declared_sync Pairs.the_type (search (sendable, seq.the_sync, pair_sync) depth 20)

-- for the search of an upper crate's types that hold values
pub ruleset values_cross = (value_send, value_sync, pair_send, pair_sync, pairs_send, pairs_sync, vector_send, vector_sync, map_send, map_sync)
