-- The weights of events that show little.
use Rattle.std.proofs.Common.{◌≤◌, List, [], ◌∷◌, arith}
use Rattle.ca_term.specs.Cost.{weight_shown}
use Rattle.ca_term.specs.Event.{EventView}
use Rattle.ca_meaning.specs.Sound.{Each}
use Rattle.ca_meaning.specs.RunValues.{ShowsLittle}
use Rattle.ca_journal.specs.Cut.{AllFit}

pub little_fits : (es : List EventView) → Each ShowsLittle es → AllFit es
little_fits [] h = tt
little_fits (e ∷ es) h = let little : weight_shown e ≤ 655_360 = h.0 in (omega (arith, little), little_fits es h.1)
