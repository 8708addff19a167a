-- What the events of a journal cost together.
use Rattle.std.specs.Prelude.{ℕ, ◌+◌, List, [], ◌∷◌}
use Rattle.ca_term.specs.Event.{EventView}
use Rattle.ca_term.specs.Cost.{cost_of}

abbrev pub cost : List EventView → ℕ
cost [] = 0
cost (e ∷ es) = cost_of e + cost es
