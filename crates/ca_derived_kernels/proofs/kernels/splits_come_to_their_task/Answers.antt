use Rattle.ca_derived_kernels.proofs.WalkingSplit.{split_walked, split_starts, split_binds}
use Rattle.ca_derived_kernels.proofs.kernels.splits_come_to_their_task.Goals as goal

pub returns-clause-walked : goal.returns-clause-walked
returns-clause-walked c = split_walked

pub returns-clause-started : goal.returns-clause-started
returns-clause-started c = split_starts

pub returns-clause-bound : goal.returns-clause-bound
returns-clause-bound c = split_binds
