use Rattle.ca_timers.proofs.Order.{pop_leaves, none_leaves}
use Rattle.ca_timers.proofs.law.popping_leaves_the_open_ones.Goals as goal

pub returns-clause-some : goal.returns-clause-some
returns-clause-some c = pop_leaves

pub returns-clause-none : goal.returns-clause-none
returns-clause-none c = none_leaves
