use Rattle.std.proofs.Common.{◌≡◌, ◌∷◌, ◌++◌, [], List, map, length, sym, ◌∙◌, ap, subst, arith, length-append}
use Rattle.std.proofs.lemmas.List.{length-map}
use Rattle.ca_value.specs.Deadlines.{Deadline, opened}
use Rattle.ca_timers.specs.Timers.{deadline_view, AreOrdered}
use Rattle.ca_timers.proofs.Order.{opened_ordered, ordered_front, length-opened}
use Rattle.ca_timers.proofs.Queues.{row_joined, tree_joined}
use Rattle.ca_timers.proofs.queue.DeadlineQueue.insert.Goals as goal

pub invariant_of-self : goal.invariant_of-self
invariant_of-self c =
    let d : Deadline = deadline_view c.args.deadline in
    let ds : List Deadline = c.self.inside.tree.deadlines ++ map deadline_view c.self.inside.row.items in
    let is : c.args.self.now.deadlines ≡ ds = grind arith in
    let last : opened d ds ≡ ds ++ d ∷ [] = subst (λ (xs : List Deadline). opened d xs ≡ xs ++ d ∷ []) is (c.stands_last.ensures c.if-stands_last.true) in
    let joined = row_joined c.self.inside.tree.deadlines c.self.inside.row.items c.push_back_reserved.new.self.items c.args.deadline c.push_back_reserved.ensures.items in
    record {
      ordered = subst AreOrdered (last ∙ sym joined) (opened_ordered d ds c.self.invariant.ordered);
      row = grind arith;
      unused = grind arith;
      places = grind arith;
    }

pub returns-then-stands_last-clause-opened : goal.returns-then-stands_last-clause-opened
returns-then-stands_last-clause-opened c =
    let is : c.args.self.now.deadlines ≡ c.self.inside.tree.deadlines ++ map deadline_view c.self.inside.row.items = grind arith in
    let joined = row_joined c.self.inside.tree.deadlines c.self.inside.row.items c.push_back_reserved.new.self.items c.args.deadline c.push_back_reserved.ensures.items in
    joined ∙ ap (λ (xs : List Deadline). xs ++ deadline_view c.args.deadline ∷ []) (sym is) ∙ sym (c.stands_last.ensures c.if-stands_last.true)

pub stow-requires-clause-ordered : goal.stow-requires-clause-ordered
stow-requires-clause-ordered c = ordered_front c.pour.new.tree.deadlines (map deadline_view c.pour.new.row.items) (subst AreOrdered (sym c.pour.ensures.same) c.self.invariant.ordered)

pub stow-requires-clause-room : goal.stow-requires-clause-room
stow-requires-clause-room c = let same = ap length c.pour.ensures.same in grind (arith, length-append, length-map)

pub invariant_of-self-else-stands_last : goal.invariant_of-self-else-stands_last
invariant_of-self-else-stands_last c =
    let d : Deadline = deadline_view c.args.deadline in
    let ds : List Deadline = c.self.inside.tree.deadlines ++ map deadline_view c.self.inside.row.items in
    let joined : c.stow.new.tree.deadlines ++ map deadline_view c.pour.new.row.items ≡ opened d ds =
    tree_joined c.pour.new.tree.deadlines c.stow.new.tree.deadlines (map deadline_view c.pour.new.row.items) ds d c.pour.ensures.same c.stow.ensures.opened c.pour.ensures.front
    in
    let all = ap length joined in
    record {
      ordered = subst AreOrdered (sym joined) (opened_ordered d ds c.self.invariant.ordered);
      row = grind arith;
      unused = grind (arith, length-append, length-map, length-opened);
      places = grind (arith, length-append, length-map, length-opened);
    }

pub returns-else-stands_last-clause-opened : goal.returns-else-stands_last-clause-opened
returns-else-stands_last-clause-opened c =
    let is : c.self.inside.tree.deadlines ++ map deadline_view c.self.inside.row.items ≡ c.args.self.now.deadlines = grind arith in
    tree_joined c.pour.new.tree.deadlines c.stow.new.tree.deadlines (map deadline_view c.pour.new.row.items) c.args.self.now.deadlines (deadline_view c.args.deadline) (c.pour.ensures.same ∙ is) c.stow.ensures.opened c.pour.ensures.front
