use Rattle.std.proofs.Common.{◌≡◌, List, Option, Some, slice_get, sym, ◌∙◌, ap, subst, arith}
use Rattle.ca_value.specs.Deadlines.{Deadline, opened}
use Rattle.ca_timers.specs.Timers.{deadline_view, AreOrdered}
use Rattle.ca_timers.specs.Stored.{earlier_deadline}
use Rattle.ca_timers.proofs.Order.{opened_ordered, first_opened}
use Rattle.ca_timers.proofs.timers.Timers.add.Goals as goal

pub invariant_of-self : goal.invariant_of-self
invariant_of-self c =
    let d : Deadline = record { moment = c.args.deadline; port = c.args.port.n } in
    let ds : List Deadline = c.self.inside.queue.deadlines in
    let tree : c.insert.new.self.deadlines ≡ opened d ds = grind arith in
    let first : deadline_view c.first_of.result ≡ earlier_deadline (slice_get ds 0) d = c.first_of.ensures ∙ ap (λ (o : Option Deadline). earlier_deadline o d) c.self.invariant.1 in (
      subst AreOrdered (sym tree) (opened_ordered d ds c.self.invariant.0),
      ap (λ (x : Deadline). Some x) first ∙ first_opened d ds ∙ ap (λ (xs : List Deadline). slice_get xs 0) (sym tree),
    )
