-- Each event's line has a byte at least.
use Rattle.std.proofs.Common.{◌≤◌, ℕ, suc, List, [], ◌∷◌, length, length-append, decimal, arith}
use Rattle.ca_term.specs.Event.{EventView}
use Rattle.ca_meaning.specs.Journal.{event_text, event_line, lines_from}
use Rattle.ca_meaning.specs.Texts.{◌⋅◌}

line_has_one : (k : ℕ) (e : EventView) → 1 ≤ length (event_line k e)
line_has_one k e = omega (arith, length-append (decimal k ⋅ event_text e) (10 ∷ []))

pub lines_long : (k : ℕ) (es : List EventView) → length es ≤ length (lines_from k es)
lines_long k [] = omega arith
lines_long k (e ∷ es) = omega (arith, length-append (event_line k e) (lines_from (suc k) es), line_has_one k e, lines_long (suc k) es)
