-- What the workers of a run share, and what each has, may go to other threads where agents and clocks may.
use denote.RattleType.{RattleType}
use denote.Param.Send.{IsSend, IsSync, sendable}
use denote.Param.SendFields.{declared_send, variants_send}
use Rattle.std.proofs.Crossing.{Vec-send, crosses}
use Rattle.std.specs.contracts.snapshot.Snapshot as Snapshot
use Rattle.ca_term.specs.contracts.program.Program as Program
use Rattle.ca_value.proofs.Crosses.{value_send}
use Rattle.ca_value.proofs.seq.Seq.TheSendSync as seq
use Rattle.ca_value.proofs.value.PortId.TheSendSync as port
use Rattle.ca_term.proofs.event.Ending.TheSendSync as ending
use Rattle.ca_term.proofs.event.Side.TheSendSync as side
use Rattle.ca_term.proofs.event.WaitId.TheSendSync as wait
use Rattle.ca_term.proofs.head.RegisterName.TheSendSync as name
use Rattle.ca_term.proofs.event.TaskKind.TheSendSync as kind
use Rattle.ca_term.specs.contracts.event.Branch as Branch
use Rattle.ca_term.specs.contracts.event.Event as Event
use Rattle.ca_term.specs.contracts.operation.What as What
use Rattle.ca_journal.proofs.entry.Spot.TheSendSync as spot
use Rattle.ca_journal.specs.contracts.entries.Entries as Entries
use Rattle.ca_journal.specs.contracts.entry.Entry as Entry
use Rattle.ca_journal.specs.contracts.note.Note as Note
use Rattle.ca_buffers.specs.contracts.any.AnyBuffer as AnyBuffer
use Rattle.ca_buffers.specs.contracts.dropping.Dropping as Dropping
use Rattle.ca_buffers.specs.contracts.fixed.Fixed as Fixed
use Rattle.ca_buffers.specs.contracts.promise.Promise as Promise
use Rattle.ca_buffers.specs.contracts.ring.Ring as Ring
use Rattle.ca_buffers.specs.contracts.sliding.Sliding as Sliding
use Rattle.ca_bank.specs.contracts.bank.Bank as Bank
use Rattle.ca_bank.specs.contracts.handler.Handler as Handler
use Rattle.ca_registry.specs.contracts.publication.Publication as Publication
use Rattle.ca_registry.specs.contracts.registry.Registry as Registry
use Rattle.ca_bank.specs.contracts.room.Room as Room
use Rattle.ca_registry.specs.contracts.topic.Topic as Topic
use Rattle.ca_registry.specs.contracts.topic.TopicList as TopicList
use Rattle.ca_registry.proofs.mix.Mix.TheSendSync as mix
use Rattle.ca_registry.proofs.mult.Mult.TheSendSync as mult
use Rattle.indexmap.proofs.map.IndexMap.TheSendSync as map
use Rattle.ca_commit.proofs.held.HeldShard.TheSendSync as shard
use Rattle.ca_commit.proofs.task.Ready.TheSendSync as ready
use Rattle.ca_commit.proofs.task.Task.TheSendSync as task
use Rattle.ca_commit.specs.contracts.held.HeldBank as HeldBank
use Rattle.ca_commit.specs.contracts.held.HeldShard as HeldShard
use Rattle.ca_commit.specs.contracts.task.Ready as Ready
use Rattle.ca_commit.specs.contracts.task.Task as Task
use Rattle.ca_timers.proofs.Sending.{timers_send}
use Rattle.ca_turns.specs.contracts.table.Table as Table
use Rattle.ca_turns.specs.declared.object.Object.{Ghosts}
use Rattle.ca_turns.proofs.Sending.{hand_send, table_sync}
use Rattle.ca_table.proofs.answer.PoolStop.TheSendSync as pool_stop
use Rattle.ca_table.proofs.answer.WorkEnd.TheSendSync as work_end
use Rattle.ca_table.proofs.part.Counts.TheSendSync as counts
use Rattle.ca_table.proofs.part.Mark.TheSendSync as mark
use Rattle.ca_table.specs.contracts.drawn.Drawn as Drawn
use Rattle.ca_table.specs.contracts.part.Clockwork as Clockwork
use Rattle.ca_table.specs.contracts.part.Contents as Contents
use Rattle.ca_table.specs.contracts.part.Lane as Lane
use Rattle.ca_table.specs.contracts.part.Part as Part
use Rattle.ca_table.specs.contracts.pool.Seen as Seen
use Rattle.ca_table.specs.contracts.worker.Worker as Worker

ruleset small = (sendable, value_send, port.the_send, side.the_send, wait.the_send, kind.the_send, name.the_send, ending.the_send, seq.the_send)

branch_send : IsSend Branch.the_row
branch_send = variants_send Branch.enum (search (small, crosses) depth 20)

what_send : IsSend What.the_row
what_send = variants_send What.enum (search (small, crosses) depth 20)

ruleset shown = (small, branch_send, what_send)

event_send : IsSend Event.the_row
event_send = variants_send Event.enum (search (shown, crosses) depth 20, (search (shown, crosses) depth 20, (search (shown, crosses) depth 20, (search (shown, crosses) depth 20, (search (shown, crosses) depth 20, (search (shown, crosses) depth 20, (search (shown, crosses) depth 20, (search (shown, crosses) depth 20, (search (shown, crosses) depth 20, (search (shown, crosses) depth 20, (search (shown, crosses) depth 20, (search (shown, crosses) depth 20, (search (shown, crosses) depth 20, tt)))))))))))))

note_send : IsSend Note.the_row
note_send = variants_send Note.enum (search (small, crosses, event_send) depth 20)

entry_send : IsSend Entry.the_row
entry_send = declared_send Entry.the_type (search (sendable, note_send) depth 20)

entries_send : IsSend Entries.the_row
entries_send = declared_send Entries.the_type (Vec-send _ (Vec-send Entry.the_row entry_send), (Vec-send Entry.the_row entry_send, (Vec-send _ spot.the_send, (search sendable, (search sendable, (search (sendable, crosses, event_send) depth 20, tt))))))

-- a channel's values
ring_send : IsSend Ring.the_row
ring_send = declared_send Ring.the_type (search (sendable, crosses, value_send) depth 20)

fixed_send : IsSend Fixed.the_row
fixed_send = declared_send Fixed.the_type (search (sendable, ring_send) depth 20)

dropping_send : IsSend Dropping.the_row
dropping_send = declared_send Dropping.the_type (search (sendable, ring_send) depth 20)

sliding_send : IsSend Sliding.the_row
sliding_send = declared_send Sliding.the_type (search (sendable, ring_send) depth 20)

promise_send : IsSend Promise.the_row
promise_send = declared_send Promise.the_type (search (sendable, value_send) depth 20)

buffer_send : IsSend AnyBuffer.the_row
buffer_send = variants_send AnyBuffer.enum (search (sendable, fixed_send, dropping_send, sliding_send, promise_send) depth 20)

-- a bank
handler_send : IsSend Handler.the_row
handler_send = declared_send Handler.the_type (search (small, crosses) depth 20)

room_send : IsSend Room.the_row
room_send = declared_send Room.the_type (search (sendable, crosses, buffer_send, handler_send) depth 20)

topic_send : IsSend Topic.the_row
topic_send = declared_send Topic.the_type (search (sendable, value_send) depth 20)

topics_send : IsSend TopicList.the_row
topics_send = declared_send TopicList.the_type (search (sendable, crosses, map.the_send, topic_send) depth 20)

publication_send : IsSend Publication.the_row
publication_send = declared_send Publication.the_type (search (sendable, topics_send) depth 20)

registry_send : IsSend Registry.the_row
registry_send = variants_send Registry.enum (search (sendable, mult.the_send, mix.the_send, publication_send) depth 20)

bank_send : IsSend Bank.the_row
bank_send = declared_send Bank.the_type (search (sendable, crosses, map.the_send, room_send, registry_send) depth 20)

held_bank_send : IsSend HeldBank.the_row
held_bank_send = declared_send HeldBank.the_type (search (sendable, crosses, bank_send) depth 20)

-- the program, with no bytes
pub text_sync : IsSync (Snapshot.the_row Program.the_row)
text_sync = search (sendable, crosses) depth 20

-- the parts, and a worker
module _ (A C : RattleType) (s : IsSend A) (t : IsSend C) where
  task_send : IsSend (Task.the_row A)
  task_send = task.the_send A s

  shard_send : IsSend (HeldShard.the_row A)
  shard_send = shard.the_send A s

  ready_send : IsSend (Ready.the_row A)
  ready_send = ready.the_send A s

  lane_send : IsSend (Lane.the_row A)
  lane_send = declared_send (Lane.the_type A) (search (sendable, crosses) depth 20, (search (sendable, crosses, task_send) depth 20, (search sendable, (search (sendable, counts.the_send), tt))))

  clockwork_send : IsSend (Clockwork.the_row C)
  clockwork_send = declared_send (Clockwork.the_type C) (search (sendable, timers_send), (search (sendable, t), (search (sendable, mark.the_send), tt)))

  contents_send : IsSend (Contents.the_row A C)
  contents_send = variants_send (Contents.enum A C) (search (sendable, crosses, lane_send) depth 20, (search (sendable, held_bank_send) depth 20, (search (sendable, shard_send) depth 20, (search (sendable, crosses, clockwork_send) depth 20, (search (sendable, ready_send) depth 20, (tt, tt))))))

  pub part_send : IsSend (Part.the_row A C)
  part_send = declared_send (Part.the_type A C) (search sendable, (search (sendable, crosses) depth 20, (search (sendable, contents_send), tt)))

  pub pool_sync : (O : RattleType) (g : Ghosts O.Denot (Part.the_row A C).Denot (Seen.the_row A).Denot (Drawn.the_row).Denot) → IsSync (Table.the_row O (Part.the_row A C) (Seen.the_row A) Drawn.the_row g)
  pool_sync O g = table_sync O (Part.the_row A C) (Seen.the_row A) Drawn.the_row g part_send

  pub worker_send : IsSend (Worker.the_row A C)
  worker_send = declared_send (Worker.the_type A C) (search sendable, (search sendable, (search (sendable, crosses) depth 20, (search (sendable, crosses) depth 20, (hand_send (Part.the_row A C) (Seen.the_row A) Drawn.the_row part_send, (entries_send, (search (sendable, work_end.the_send, pool_stop.the_send) depth 20, tt)))))))
