use Rattle.std.proofs.Common.{◌≡◌, drop, Ok}
use Rattle.ca_pool.specs.Answers.{joined_from}
use Rattle.ca_table.specs.declared.answer.WorkEnd.TheVariants.{Spent}
use Rattle.ca_pool.proofs.rounds.answer_of.Given as goal

abbrev pub invariant-loop-worker : goal.invariant-loop-worker
invariant-loop-worker g l = joined_from l.answer (drop l.worker-index l.workers) ≡ joined_from (Ok Spent) l.workers
