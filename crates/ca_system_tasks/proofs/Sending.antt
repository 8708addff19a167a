-- A system task's table may go to another thread.
use denote.Param.Send.{IsSend, sendable}
use denote.Param.SendFields.{variants_send}
use Rattle.ca_jobs.proofs.Sending.{job_send}
use Rattle.ca_mix.proofs.Sending.{mix_send}
use Rattle.ca_mult.proofs.Sending.{deliver_send, mult_send}
use Rattle.ca_pipes.proofs.Sending.{collect_send, feed_send, merge_send, onto_send, pipe_send}
use Rattle.ca_pubsub.proofs.Sending.{pub_send}
use Rattle.ca_system_tasks.specs.contracts.table.SystemTable as SystemTable

pub table_send : IsSend SystemTable.the_row
table_send = variants_send SystemTable.enum (search (sendable, mult_send, deliver_send, mix_send, pub_send, pipe_send, merge_send, onto_send, feed_send, job_send, collect_send) depth 20)
