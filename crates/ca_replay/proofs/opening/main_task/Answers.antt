use Rattle.std.proofs.Common.{ap, subst, IfOk}
use Rattle.ca_term.specs.Program.{program_view}
use Rattle.ca_meaning.specs.Task.{TaskBody, script}
use Rattle.ca_replay.specs.Goings.{IsRested}
use Rattle.ca_replay.proofs.opening.main_task.Goals as goal

pub returns-clause-rested : goal.returns-clause-rested
returns-clause-rested c = subst (λ (b : TaskBody). IfOk c.rested.result (λ x. IsRested (program_view c.args.program.now) b x)) (ap script c.in_ok-body.ensures.begins) c.rested.ensures.rested
