-- What timers show.
use Rattle.std.specs.Prelude.{◌≡◌, ℕ, List, [], ◌∷◌, true, false}
use Rattle.ca_value.specs.declared.value.PortId.{PortId}
use Rattle.ca_value.specs.Deadlines.{Deadline, is_before}
use Rattle.ca_timers.specs.declared.deadline.OpenDeadline.{OpenDeadline}

-- the open deadlines in order, the last moment, and how many more deadlines fit with no growth
pub record TimersView : Type 0 where
  pub deadlines : List Deadline
  pub moment : ℕ
  pub spare : ℕ

abbrev pub deadline_port : PortId → ℕ
deadline_port p = p.n

abbrev pub deadline_view : OpenDeadline → Deadline
deadline_view d = record { moment = d.moment; port = d.port.n }

-- none of the deadlines stands before it
abbrev pub NoDeadlineBefore : Deadline → List Deadline → Type 0
NoDeadlineBefore d [] = Unit {0}
NoDeadlineBefore d (e ∷ es) = (is_before e d ≡ false) × NoDeadlineBefore d es

-- each stands no later than those behind it
abbrev pub AreOrdered : List Deadline → Type 0
AreOrdered [] = Unit {0}
AreOrdered (d ∷ ds) = NoDeadlineBefore d ds × AreOrdered ds

-- it stands before the first one, where there is any
abbrev pub IsInFront : Deadline → List Deadline → Type 0
IsInFront d [] = Unit {0}
IsInFront d (e ∷ es) = is_before d e ≡ true
