use Rattle.std.proofs.Common.{◌+◌, length}
use Rattle.ca_value.specs.Seq.{list}
use Rattle.ca_value.specs.View.{trees}
use Rattle.ca_term.specs.Operation.{go}
use Rattle.ca_term.specs.Program.{ProgramView}
use Rattle.ca_states.specs.ValidCode.{valid_code}
use Rattle.ca_lower.specs.Gos.{SameGos}
use Rattle.ca_lower.specs.Lowered.{Lowered}
use Rattle.ca_agent.specs.Seeds.{HasGo}
use Rattle.ca_machine.specs.Machines.{Starts}
use Rattle.ca_machine.specs.View.{machine_view}
use Rattle.ca_machine.proofs.Results.{if_ok}
use Rattle.ca_machine.proofs.starting.new_machine.Goals as goal

pub returns-clause-starts : goal.returns-clause-starts
returns-clause-starts c =
    let K = valid_code c.args.code.now in
    let seed = c.args.seed in
    let count = length (list seed.values) + 1 in
    let task = go seed.body (trees (list seed.values)) seed.result.n seed.place in
    if_ok c.from_seed.result (λ m. (program : ProgramView) → Lowered program K → HasGo program seed.body count → Starts program task (machine_view m))
    (λ m. (program : ProgramView) → Lowered program K → SameGos program K → Starts program task (machine_view m))
    (λ m h program low same. h program low (same.each seed.body count c.requires))
    c.from_seed.ensures.starts
