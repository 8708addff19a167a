use Rattle.std.proofs.Common.{◌≡◌, length, arith, sym, subst}
use Rattle.std.proofs.lemmas.Grind.{common_steps}
use Rattle.std.proofs.lemmas.List.{length-map}
use Rattle.ca_value.specs.Seq.{list}
use Rattle.ca_value.specs.View.{view, views}
use Rattle.ca_states.specs.declared.runner.Runner.{Runner}
use Rattle.ca_states.specs.Code.{function_at}
use Rattle.ca_states.specs.Machine.{calling}
use Rattle.ca_states.specs.ValidCode.{valid_code}
use Rattle.ca_states.specs.Standing.{state_view, HasRoom, RunnerStands}
use Rattle.ca_states.proofs.StandingLaws.{valid_parts, takes_room}
use Rattle.ca_states.proofs.Calling.{calling_standing}
use Rattle.ca_states.proofs.runner.Runner.start_call.Goals as goal

pub returns-clause-stands : goal.returns-clause-stands
returns-clause-stands c =
    let C = valid_code c.args.code.now in
    let n = c.args.function in
    let xs = list c.args.values in
    let old = c.in_ok-runner.runner in
    let r : Runner = record { block = old.block; slots = old.slots; calls = c.in_ok-calls.calls; turns = 1; answer = old.answer } in
    let same : state_view r ≡ calling C n (views xs) = grind (arith, common_steps) in
    let v = valid_parts C c.code-code.ensures.valid in
    let room = takes_room C v C.functions v.functions n (length xs) c.requires in
    subst (RunnerStands C) (sym same) (calling_standing C v n (views xs) (subst (HasRoom C (function_at C n)) (sym (length-map xs view)) room))
