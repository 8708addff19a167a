use Rattle.ca_derived_kernels.proofs.Walking.{takes_walked, texts_start, take_binds}
use Rattle.ca_derived_kernels.proofs.kernels.takes_come_to_their_task.Goals as goal

pub returns-clause-walked : goal.returns-clause-walked
returns-clause-walked c = takes_walked

pub returns-clause-started : goal.returns-clause-started
returns-clause-started c = texts_start

pub returns-clause-bound : goal.returns-clause-bound
returns-clause-bound c = take_binds
