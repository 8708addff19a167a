use Rattle.std.proofs.Common.{◌∙◌, ap, sym, subst}
use Rattle.ca_term.specs.declared.operation.Seed.{Seed}
use Rattle.ca_term.specs.Operation.{seed_view}
use Rattle.ca_term.specs.Program.{program_view}
use Rattle.ca_meaning.specs.Task.{new_task, system_task}
use Rattle.ca_system.specs.Applications.{function_of}
use Rattle.ca_replay.specs.SceneOf.{HasFunction}
use Rattle.ca_replay.specs.Seeds.{IsSeedOf}
use Rattle.ca_replay.proofs.spawning.new_body.Goals as goal

pub go_body-requires : goal.go_body-requires
go_body-requires c = subst (λ (s : Seed). IsSeedOf (program_view c.args.program.now) (seed_view s)) c.in-Go.is c.requires

pub returns-in_ok-go_body-in-Go-clause-begins : goal.returns-in_ok-go_body-in-Go-clause-begins
returns-in_ok-go_body-in-Go-clause-begins c = c.in_ok-go_body-in-Go.ensures.begins ∙ ap (λ (s : Seed). new_task (program_view c.args.program.now) (seed_view s)) (sym c.in-Go.is)

pub returns-in-System-clause-begins : goal.returns-in-System-clause-begins
returns-in-System-clause-begins c = ap system_task c.new.ensures ∙ ap (λ (s : Seed). new_task (program_view c.args.program.now) (seed_view s)) (sym c.in-System.is)

pub returns-in-System-clause-known : goal.returns-in-System-clause-known
returns-in-System-clause-known c = subst (λ b. HasFunction (program_view c.args.program.now) (function_of b)) (sym c.new.ensures) (subst (λ (s : Seed). IsSeedOf (program_view c.args.program.now) (seed_view s)) c.in-System.is c.requires)
