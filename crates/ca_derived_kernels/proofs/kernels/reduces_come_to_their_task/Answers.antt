use Rattle.ca_derived_kernels.proofs.WalkingReduce.{reduce_walked, reduce_starts, reduce_binds}
use Rattle.ca_derived_kernels.proofs.kernels.reduces_come_to_their_task.Goals as goal

pub returns-clause-walked : goal.returns-clause-walked
returns-clause-walked c = reduce_walked

pub returns-clause-started : goal.returns-clause-started
returns-clause-started c = reduce_starts

pub returns-clause-bound : goal.returns-clause-bound
returns-clause-bound c = reduce_binds
