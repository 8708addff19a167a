use Rattle.std.proofs.Common.{◌++◌, map, length, sym, ap, subst, arith, length-append}
use Rattle.std.proofs.lemmas.List.{length-map}
use Rattle.ca_timers.specs.Timers.{deadline_view, AreOrdered}
use Rattle.ca_timers.proofs.Order.{ordered_front}
use Rattle.ca_timers.proofs.Queues.{first_moved}
use Rattle.ca_timers.proofs.queue.pour.Goals as goal

pub stow-requires-clause-ordered : goal.stow-requires-clause-ordered
stow-requires-clause-ordered c =
    ordered_front c.loop-first.tree.deadlines (map deadline_view c.loop-first.row.items) (subst AreOrdered (sym c.loop-first.invariant.same) c.requires.ordered)

pub stow-requires-clause-room : goal.stow-requires-clause-room
stow-requires-clause-room c = let same = ap length c.loop-first.invariant.same in grind (arith, length-append, length-map)

pub loop-first-preserved : goal.loop-first-preserved
loop-first-preserved c = record {
  same = first_moved c.loop-first.tree.deadlines c.stow.new.tree.deadlines (deadline_view c.in-Some.first) (map deadline_view c.loop-first.row.items) (map deadline_view c.pop_early.new.row.items) (c.args.tree.now.deadlines ++ map deadline_view c.args.row.now.items) c.requires.ordered c.loop-first.invariant.same c.in-Some.ensures.popped c.stow.ensures.opened;
  unused = grind arith;
  capacity = grind arith;
  row = grind arith;
}
