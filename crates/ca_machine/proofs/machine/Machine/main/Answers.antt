use Rattle.std.proofs.Common.{sym, ap, subst}
use Rattle.ca_value.specs.Seq.{list}
use Rattle.ca_value.specs.View.{views}
use Rattle.ca_term.specs.Program.{ProgramView}
use Rattle.ca_meaning.specs.Body.{BodyView, new_body}
use Rattle.ca_meaning.specs.Task.{TaskBody, BodyRest, script}
use Rattle.ca_states.specs.Machine.{runner_started}
use Rattle.ca_states.specs.Valid.{main_entry}
use Rattle.ca_states.specs.ValidCode.{valid_code}
use Rattle.ca_lower.specs.Lowered.{Lowered, StandsFor}
use Rattle.ca_machine.specs.Machines.{MachineBegins, MachineStandsAs}
use Rattle.ca_machine.specs.MachineLaws.{machine_begun}
use Rattle.ca_machine.specs.View.{machine_view}
use Rattle.ca_machine.proofs.Results.{if_ok}
use Rattle.ca_machine.proofs.machine.Machine.main.Goals as goal

pub returns-clause-begins : goal.returns-clause-begins
returns-clause-begins c =
    let C = valid_code c.args.code.now in
    let vs = views (list c.new.result) in
    if_ok c.start.result (λ m. (program : ProgramView) (b : BodyView) → StandsFor program C (runner_started C (main_entry C) vs) b → MachineBegins program (machine_view m) b)
    (λ m. (program : ProgramView) → Lowered program C → MachineBegins program (machine_view m) (new_body program.main))
    (λ m h program low. h program (new_body program.main) (subst (λ us. StandsFor program C (runner_started C (main_entry C) us) (new_body program.main)) (sym (ap views c.new.ensures)) low.main))
    c.start.ensures.begins

pub returns-clause-stands : goal.returns-clause-stands
returns-clause-stands c =
    let C = valid_code c.args.code.now in
    if_ok c.start.result (λ m. (program : ProgramView) → Lowered program C → MachineBegins program (machine_view m) (new_body program.main))
    (λ m. (program : ProgramView) (b : TaskBody) → Lowered program C → BodyRest program (script (new_body program.main)) b → MachineStandsAs program (machine_view m) b)
    (λ m h program b low r. subst (MachineStandsAs program (machine_view m)) (sym r.2) (machine_begun program (machine_view m) (new_body program.main) r.0 (h program low) r.1))
    (returns-clause-begins c)
