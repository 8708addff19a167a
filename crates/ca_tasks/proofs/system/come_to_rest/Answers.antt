use Rattle.std.proofs.Common.{OnOk, Result, Ok, Err, sym, ap, ◌∙◌}
use Rattle.ca_system.specs.Applications.{pending_application}
use Rattle.ca_system.specs.Applied.{application_view, returned_view}
use Rattle.ca_system.proofs.Applications.{applied_once, came}
use Rattle.ca_system_tasks.specs.Tables.{table_body}
use Rattle.ca_tasks.proofs.system.come_to_rest.Goals as goal

then : {T E A B : Type 0} (r : Result T E) → (A → B) → OnOk r A → OnOk r B
then (Ok x) f a = f a
then (Err e) f a = a

pub returns-clause-rests : goal.returns-clause-rests
returns-clause-rests c = then c.applied.result (λ e program low.
    came program (table_body c.args.table.now) (table_body c.applied.new.self) (application_view c.in-Some.application) (returned_view c.in_ok-returned-in-Some.returned) (sym c.in-Some.ensures) (c.in_ok-returned-in-Some.ensures program low) e) c.applied.ensures

pub returns-clause-applies : goal.returns-clause-applies
returns-clause-applies c = then c.applied.result (λ e. ap pending_application e ∙ applied_once (returned_view c.in_ok-returned-in-Some.returned) (table_body c.args.table.now)) c.applied.ensures
