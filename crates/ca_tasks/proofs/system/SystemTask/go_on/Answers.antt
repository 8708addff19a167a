use Rattle.std.proofs.Common.{OnOk, Result, Ok, Err, sym, subst}
use Rattle.ca_states.specs.ValidCode.{valid_code}
use Rattle.ca_tasks.specs.Systems.{HasItsFunction, system_view}
use Rattle.ca_tasks.proofs.Tasks.{at_its}
use Rattle.ca_tasks.proofs.system.SystemTask.go_on.Goals as goal

both : {T E A B D : Type 0} (r : Result T E) → (A → B → D) → OnOk r A → OnOk r B → OnOk r D
both (Ok x) f a b = f a b
both (Err e) f a b = a

pub returns-clause-over : goal.returns-clause-over
returns-clause-over c =
    let C = valid_code c.args.code.now in
    let t = system_view c.pause.new.self in
    both c.pause.result (λ e at. (subst (HasItsFunction C) (sym e) c.in_ok-come_to_rest.ensures.over, at_its C t.place t.body at)) c.pause.ensures.body c.pause.ensures.there
