use Rattle.ca_value.specs.Seq.{list}
use Rattle.ca_value.specs.declared.value.Value.TheVariants.{Port}
use Rattle.ca_term.specs.Program.{arity, program_view}
use Rattle.ca_meaning.specs.BodyViews.{body_view}
use Rattle.ca_meaning.specs.Started.{procedure_at}
use Rattle.ca_replay.proofs.Seeded.{go_begins, go_count}
use Rattle.ca_replay.proofs.spawning.go_body.Goals as goal

pub go-requires-clause-count : goal.go-requires-clause-count
go-requires-clause-count c =
    let seed = c.args.seed in
    go_count (program_view c.args.program.now) seed.body (arity (procedure_at (program_view c.args.program.now).bodies seed.body)) (list seed.values) (list c.reserve.new.self) (list c.push.new.self) (Port seed.result) c.push.ensures.added c.reserve.ensures.same c.requires.1

pub returns-clause-begins : goal.returns-clause-begins
returns-clause-begins c =
    let seed = c.args.seed in
    go_begins (program_view c.args.program.now) seed.body (list seed.values) (list c.reserve.new.self) (list c.push.new.self) (Port seed.result) (body_view c.in_ok-go.field-0) c.push.ensures.added c.reserve.ensures.same c.in_ok-go.ensures.begins
