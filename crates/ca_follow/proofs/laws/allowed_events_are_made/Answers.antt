use Rattle.ca_follow.proofs.Only.{only_event}
use Rattle.ca_follow.proofs.OnlyEnds.{only_ended, only_faulted, only_refused, only_running}
use Rattle.ca_follow.proofs.OnlyNew.{only_new}
use Rattle.ca_follow.proofs.OnlySettled.{only_settled, only_ticked}
use Rattle.ca_follow.proofs.laws.allowed_events_are_made.Goals as goal

pub returns-clause-running : goal.returns-clause-running
returns-clause-running g c program = only_running g.A.Agent.place g.A.Agent.stands program

pub returns-clause-made : goal.returns-clause-made
returns-clause-made g c program h s s2 e t u p w m a op at q is = only_event g.A.Agent.place g.A.Agent.stands program h s s2 e t u p w m a op at q is.follows is.all is.task is.halted

pub returns-clause-new : goal.returns-clause-new
returns-clause-new g c program = only_new g.A.Agent.place g.A.Agent.stands program

pub returns-clause-refused : goal.returns-clause-refused
returns-clause-refused g c program h s s2 e t start a op at f is = only_refused g.A.Agent.place g.A.Agent.stands program h s s2 e t start a op at f is.follows is.all is.task is.halted

pub returns-clause-ended : goal.returns-clause-ended
returns-clause-ended g c program = only_ended g.A.Agent.place g.A.Agent.stands program

pub returns-clause-faulted : goal.returns-clause-faulted
returns-clause-faulted g c program = only_faulted g.A.Agent.place g.A.Agent.stands program

pub returns-clause-settled : goal.returns-clause-settled
returns-clause-settled g c program = only_settled g.A.Agent.place g.A.Agent.stands program

pub returns-clause-ticked : goal.returns-clause-ticked
returns-clause-ticked g c program = only_ticked g.A.Agent.place g.A.Agent.stands program
