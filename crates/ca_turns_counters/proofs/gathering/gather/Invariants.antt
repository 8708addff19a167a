use Rattle.std.proofs.Common.{◌≡◌, ◌+◌, List, ◌++◌, length}
use Rattle.std.specs.Prelude.{All}
use Rattle.ca_turns.specs.Places.{total}
use Rattle.ca_turns_counters.specs.declared.counters.Event.{Event}
use Rattle.ca_turns_counters.specs.declared.workers.Worker.{Worker}
use Rattle.ca_turns_counters.specs.Working.{IsReadyToCount, Repeats, stand, events_drawn}
use Rattle.ca_turns_counters.proofs.gathering.gather.Given as goal

abbrev pub invariant-loop-others : goal.invariant-loop-others
invariant-loop-others l = (IsReadyToCount l.table.id l.all × (l.all.spare ≡ l.initial.all.spare)) × ((rest : List Worker) × (l.initial.others.items ≡ l.others.items ++ rest))
    × (stand l.all + total stand l.others.items ≡ stand l.initial.all + total stand l.initial.others.items) × (events_drawn l.all + total events_drawn l.others.items ≡ events_drawn l.initial.all + total events_drawn l.initial.others.items)
    × (l.all.hand.view.opening ≡ l.initial.all.hand.view.opening) × (l.all.hand.view.hands ≡ l.initial.all.hand.view.hands)
    × ((e : Event) → Repeats e l.initial.all → All (Repeats e) l.initial.others.items → Repeats e l.all)

abbrev pub decreases-loop-others : goal.decreases-loop-others
decreases-loop-others l = length l.others.items
