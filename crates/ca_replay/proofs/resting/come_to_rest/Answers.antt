use Rattle.std.proofs.Common.{OnOk, Result, Ok, Err, sym, ap, ◌∙◌, subst}
use Rattle.ca_term.specs.Program.{program_view}
use Rattle.ca_system.specs.Applications.{function_of, pending_application}
use Rattle.ca_system.specs.Applied.{application_view, returned_view}
use Rattle.ca_system.proofs.Applications.{applied_once, came, function_kept, function_pending}
use Rattle.ca_system_tasks.specs.Tables.{table_body}
use Rattle.ca_replay.specs.SceneOf.{HasFunction}
use Rattle.ca_replay.proofs.resting.come_to_rest.Goals as goal

then : {T E A B : Type 0} (r : Result T E) → (A → B) → OnOk r A → OnOk r B
then (Ok x) f a = f a
then (Err e) f a = a

pub apply_function-requires : goal.apply_function-requires
apply_function-requires c = subst (HasFunction (program_view c.args.program.now)) (function_pending (table_body c.args.table.now) (application_view c.in-Some.application) (sym c.in-Some.ensures)) c.requires

pub returns-clause-rests : goal.returns-clause-rests
returns-clause-rests c = then c.applied.result (λ e.
    came (program_view c.args.program.now) (table_body c.args.table.now) (table_body c.applied.new.self) (application_view c.in-Some.application) (returned_view c.in_ok-returned-in-Some.returned) (sym c.in-Some.ensures) c.in_ok-returned-in-Some.ensures e) c.applied.ensures

pub returns-clause-applies : goal.returns-clause-applies
returns-clause-applies c = then c.applied.result (λ e. ap pending_application e ∙ applied_once (returned_view c.in_ok-returned-in-Some.returned) (table_body c.args.table.now)) c.applied.ensures

pub returns-clause-function : goal.returns-clause-function
returns-clause-function c = then c.applied.result (λ e. ap function_of e ∙ function_kept (returned_view c.in_ok-returned-in-Some.returned) (table_body c.args.table.now)) c.applied.ensures
