use Rattle.std.proofs.Common.{◌≡◌, subst, arith, length-append}
use Rattle.ca_value.specs.Deadlines.{opened}
use Rattle.ca_timers.specs.Timers.{deadline_view, AreOrdered}
use Rattle.ca_timers.specs.Nodes.{node_deadlines}
use Rattle.ca_timers.proofs.Order.{ordered_front, ordered_back, opened_before, opened_behind, length-opened}
use Rattle.ca_timers.proofs.tree.Tree.+insert.Goals as goal
use Rattle.ca_timers.proofs.tree.Tree.+insert.Goals.{Joined-is_before, then-is_before, else-is_before}

pub insert-requires : goal.insert-requires
insert-requires t c =
    let whole : c.args.self.now.deadlines ≡ node_deadlines c.deref_mut.result.now = grind arith in
    let ordered = subst AreOrdered whole c.requires.ordered in
    (grind (arith, length-append), (ordered_front _ _ ordered, grind (arith, length-append)))

pub insert-requires-else-is_before : goal.insert-requires-else-is_before
insert-requires-else-is_before t c =
    let whole : c.args.self.now.deadlines ≡ node_deadlines c.deref_mut-else-is_before.result.now = grind arith in
    let ordered = subst AreOrdered whole c.requires.ordered in
    (grind (arith, length-append), (ordered_back _ _ _ ordered, grind (arith, length-append)))

-- the node with one side changed has the deadline opened among the others
changed : (t : _) (c : Joined-is_before t) → node_deadlines c.if-is_before.node.value ≡ opened (deadline_view c.args.new.value.deadline) c.args.self.now.deadlines
changed t c =
    let whole : c.args.self.now.deadlines ≡ node_deadlines c.in-Fork.node.value = grind arith in
    let ordered = subst AreOrdered whole c.requires.ordered in
    elim c.if-is_before.branch [
      | then-is_before w ↦ let e = opened_before (deadline_view c.args.new.value.deadline) c.in-Fork.node.value.before.deadlines (deadline_view c.in-Fork.node.value.deadline) c.in-Fork.node.value.behind.deadlines in grind arith
      | else-is_before w ↦ let e = opened_behind (deadline_view c.args.new.value.deadline) c.in-Fork.node.value.before.deadlines (deadline_view c.in-Fork.node.value.deadline) c.in-Fork.node.value.behind.deadlines in grind arith
    ]

pub settled-requires-clause-room : goal.settled-requires-clause-room
settled-requires-clause-room t c = let e = changed t c in grind (arith, length-opened)

pub returns-clause-opened : goal.returns-clause-opened
returns-clause-opened t c = let e = changed t (goal.at.returns-clause-opened t c).Joined-is_before in grind arith
