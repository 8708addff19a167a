use Rattle.std.proofs.Common.{◌+◌, length, ◌∙◌, subst}
use Rattle.ca_value.specs.Seq.{list}
use Rattle.ca_value.specs.View.{views, trees}
use Rattle.ca_value.specs.declared.value.Value.TheVariants.{Port}
use Rattle.ca_term.specs.Program.{ProgramView}
use Rattle.ca_meaning.specs.Body.{BodyView, new_body}
use Rattle.ca_meaning.specs.Started.{procedure_at, started as started_text}
use Rattle.ca_states.specs.Code.{body_entry}
use Rattle.ca_states.specs.Machine.{runner_started}
use Rattle.ca_states.specs.ValidCode.{valid_code}
use Rattle.ca_lower.specs.Lowered.{Lowered, StandsFor}
use Rattle.ca_agent.specs.Seeds.{HasGo, go_body}
use Rattle.ca_agent.proofs.SeedLaws.{values_pushed, count_pushed}
use Rattle.ca_machine.specs.Machines.{MachineBegins}
use Rattle.ca_machine.specs.View.{machine_view}
use Rattle.ca_machine.proofs.Results.{if_ok}
use Rattle.ca_machine.proofs.machine.Machine.from_seed.Goals as goal

pub returns-clause-starts : goal.returns-clause-starts
returns-clause-starts c =
    let C = valid_code c.args.code.now in
    let seed = c.args.seed in
    let xs = list seed.values in
    let zs = list c.push.new.self in
    let same = values_pushed xs (list c.reserve.new.self) zs (Port seed.result) c.push.ensures.added c.reserve.ensures.same in
    let count = count_pushed xs (list c.reserve.new.self) zs (Port seed.result) c.push.ensures.added c.reserve.ensures.same in
    if_ok c.start.result (λ m. (program : ProgramView) (b : BodyView) → StandsFor program C (runner_started C (body_entry C seed.body) (views zs)) b → MachineBegins program (machine_view m) b)
    (λ m. (program : ProgramView) → Lowered program C → HasGo program seed.body (length xs + 1) → MachineBegins program (machine_view m) (go_body program seed.body (trees xs) seed.result.n))
    (λ m h program low has. h program (go_body program seed.body (trees xs) seed.result.n)
    (subst (λ vs. StandsFor program C (runner_started C (body_entry C seed.body) (views zs)) (new_body (started_text (procedure_at program.bodies seed.body) vs))) same
    (low.bodies seed.body (views zs) has.0 (count ∙ has.1))))
    c.start.ensures.begins
