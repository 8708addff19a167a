use Rattle.std.proofs.Common.{◌≡◌, Some, subst, rules, eqb}
use Rattle.indexmap.specs.IndexMap.{get}
use Rattle.ca_value.specs.View.{view}
use Rattle.ca_term.specs.Program.{program_view}
use Rattle.ca_replay.specs.Goings.{IsAnswered, TaskWentOn}
use Rattle.ca_replay.proofs.going.go_on_in.Goals as goal

pub returns-clause-went : goal.returns-clause-went
returns-clause-went c =
    let there : Some c.in-Some.old ≡ get eqb c.args.tasks.now c.args.task = search rules in
    let put : get eqb c.insert.new.self c.args.task ≡ Some c.in_ok-next.next = search rules in
    let done : IsAnswered (program_view c.args.program.now) c.in-Some.old (view c.args.answer) c.in_ok-next.next = search rules in
    subst (λ o. TaskWentOn (program_view c.args.program.now) o (view c.args.answer) (get eqb c.insert.new.self c.args.task)) there (c.in_ok-next.next, put, done)
