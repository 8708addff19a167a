-- What an event makes, and at which channel it moves a value.
use Rattle.std.specs.Prelude.{ℕ, ◌+◌, Option, Some, None, option_map}
use Rattle.std.specs.Borrow.{Bor}
use Rattle.ca_value.specs.declared.value.PortId.{PortId}
use Rattle.ca_term.specs.declared.operation.What.{What}
use Rattle.ca_term.specs.Operation.{WhatView, what_view}
use Rattle.ca_term.specs.Event.{EventView, made, done, met, settled}
use Rattle.ca_meaning.specs.Wait.{port_of}
use Rattle.ca_meaning.specs.History.{Mark, accept, give, give_none, pass, no_mark, mark_of_done, mark_of_settled}
use Rattle.ca_report.specs.declared.passage.Passage.{Passage}
use Rattle.ca_report.specs.declared.passage.Passage.TheVariants.{Accepted, Passed, Given}
use Rattle.ca_report.specs.declared.passage.Counts.{Counts}

abbrev pub passage_of : Mark → Option Passage
passage_of (accept v) = Some Accepted
passage_of (pass v) = Some Passed
passage_of (give v) = Some Given
passage_of give_none = None
passage_of no_mark = None

abbrev pub told_passage : PortId × Passage → ℕ × Passage
told_passage r = (r.0.n, r.1)

abbrev pub at_port : ℕ → Option Passage → Option (ℕ × Passage)
at_port p o = option_map (λ x. (p, x)) o

abbrev pub passage_in : EventView → Option (ℕ × Passage)
passage_in (done t k b a) = at_port (port_of b) (passage_of (mark_of_done b a))
passage_in (met t k side p v w o) = Some (p, Passed)
passage_in (settled w k side p v) = at_port p (passage_of (mark_of_settled side v))
passage_in e = None

-- what an event makes: the port, what is there, and the moment of a timeout's making
abbrev pub made_by_event : EventView → Option (ℕ × WhatView × Option ℕ)
made_by_event (made t p what moment) = Some (p, what, moment)
made_by_event e = None

abbrev pub told_made : PortId × Bor What × Option ℕ → ℕ × WhatView × Option ℕ
told_made r = (r.0.n, what_view r.1.now, r.2)

-- with one more
abbrev pub more : Passage → Counts → Counts
more Accepted c = record c { accepted = c.accepted + 1 }
more Passed c = record c { passed = c.passed + 1 }
more Given c = record c { given = c.given + 1 }
