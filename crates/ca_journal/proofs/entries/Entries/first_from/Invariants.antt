use Rattle.std.proofs.Common.{◌≡◌, ◌-◌, length}
use Rattle.ca_journal.specs.Left.{left_from}
use Rattle.ca_journal.proofs.entries.Entries.first_from.Given as goal

abbrev pub invariant-loop-spot : goal.invariant-loop-spot
invariant-loop-spot l = left_from l.self.full.items l.self.last l.spot ≡ left_from l.self.full.items l.self.last l.fn.spot

abbrev pub decreases-loop-spot : goal.decreases-loop-spot
decreases-loop-spot l = length l.self.full.items - l.spot.piece
