use Rattle.std.proofs.Common.{IfOk, Result, Ok, Err, Some, sym, subst}
use Rattle.ca_value.specs.View.{view}
use Rattle.ca_term.specs.declared.head.PlainFunction.{PlainFunction}
use Rattle.ca_term.specs.Program.{program_view}
use Rattle.ca_meaning.specs.Applied.{Applied}
use Rattle.ca_system.specs.Applied.{returned_view}
use Rattle.ca_replay.specs.SceneOf.{HasFunction}
use Rattle.ca_replay.proofs.calling.apply_function.Goals as goal

each : {T E : Type 0} (r : Result T E) (A B : T → Type 0) → ((x : T) → A x → B x) → IfOk r A → IfOk r B
each (Ok x) A B f a = f x a
each (Err e) A B f a = a

pub call-requires : goal.call-requires
call-requires c = (subst (λ (f : PlainFunction). HasFunction (program_view c.args.program.now) (Some f)) c.in-Defined.is c.requires).1.0

pub apply_builtin-requires : goal.apply_builtin-requires
apply_builtin-requires c = (subst (λ (f : PlainFunction). HasFunction (program_view c.args.program.now) (Some f)) c.in-Builtin.is c.requires).1

pub returns-in_ok-copy-in-Defined : goal.returns-in_ok-copy-in-Defined
returns-in_ok-copy-in-Defined c =
    let P = program_view c.args.program.now in
    let a = c.args.application in
    each c.call.result _ _ (λ r h. subst (λ (f : PlainFunction). Applied P f (view a.keyword.now) a.place (view a.value.now) (returned_view r)) (sym c.in-Defined.is)
    (subst (λ v. Applied P (PlainFunction.Defined c.in-Defined.number) (view a.keyword.now) a.place v (returned_view r)) c.in_ok-copy-in-Defined.ensures (h (view a.keyword.now)))) c.call.ensures
