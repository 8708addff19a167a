use Rattle.std.proofs.Common.{[], ◌∷◌, ◌++◌, List, sym, ap, ◌∙◌, option_map, slice_get}
use Rattle.ca_value.specs.Deadlines.{due}
use Rattle.ca_value.specs.Seq.{list}
use Rattle.ca_value.specs.declared.value.PortId.{PortId}
use Rattle.ca_term.specs.Event.{port_number}
use Rattle.ca_commit.proofs.Dues.{due_end, due_step, none_of}
use Rattle.ca_commit.proofs.clock.due_ports.Goals as goal

pub loop-port-preserved : goal.loop-port-preserved
loop-port-preserved c =
    let all = due c.args.now c.args.timers.now.deadlines in
    due_step (list c.loop-port.ports) (list c.push.new.self) c.in-Some.port all (c.push.ensures.added ∙ ap (λ (z : List PortId). z ++ c.in-Some.port ∷ []) c.reserve.ensures.same)
    (ap (slice_get all) (sym c.len.ensures) ∙ sym c.due.ensures ∙ ap (option_map port_number) c.in-Some.is) c.loop-port.invariant

pub returns : goal.returns
returns c =
    let all = due c.args.now c.args.timers.now.deadlines in
    due_end (list c.loop-port.ports) all (ap (slice_get all) (sym c.len.ensures) ∙ sym c.due.ensures ∙ ap (option_map port_number) (none_of c.due.result c.in_default.not-Some)) c.loop-port.invariant
