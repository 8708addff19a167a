use denote.Param.Send.{sendable}
use Rattle.ca_term.specs.Program.{program_view}
use Rattle.ca_meaning.specs.Body.{new_body}
use Rattle.ca_meaning.specs.Task.{script}
use Rattle.ca_meaning.proofs.Possible.{body_rests}
use Rattle.ca_tasks.proofs.Sending.{task_send}
use Rattle.ca_run_rows.proofs.opened.work_of.Goals as goal

pub open_pool-requires-clause-main : goal.open_pool-requires-clause-main
open_pool-requires-clause-main g c =
    let program = program_view c.args.program.now in
    let rest = body_rests program (script (new_body program.main)) in
    (rest.0, rest.1, c.in_ok-main.ensures.stands program rest.0 c.in_ok-code.ensures.lowered rest.1)

pub work_beside_holder-requires-send-A : goal.work_beside_holder-requires-send-A
work_beside_holder-requires-send-A g c κs within = search (sendable, task_send) depth 20
