-- What an event costs: 1, and 1 more for each 16 of the weight of the values that its line shows.
use Rattle.std.specs.Prelude.{ℕ, ◌+◌, ◌/◌, List, [], ◌∷◌, length, suc}
use Rattle.ca_value.specs.Tree.{Tree}
use Rattle.ca_value.specs.Measure.{weight_of, weight_of_items}
use Rattle.ca_term.specs.Event.{BranchView, take_of, put_of, EventView, made, spawned, done, met, parked, posted, settled, defaulted, closed, registered, printed, ticked, over}

-- of the branches only the values that are put
abbrev pub weight_of_branches : List BranchView → ℕ
weight_of_branches [] = 0
weight_of_branches (take_of p ∷ bs) = weight_of_branches bs
weight_of_branches (put_of p v ∷ bs) = weight_of v + weight_of_branches bs

-- at a put the value is shown, at a take the answer
abbrev pub weight_done : BranchView → Tree → ℕ
weight_done (take_of p) a = weight_of a
weight_done (put_of p v) a = weight_of v

abbrev pub weight_shown : EventView → ℕ
weight_shown (done t k b a) = weight_done b a
weight_shown (met t k side p v w o) = weight_of v
weight_shown (parked t w bs) = weight_of_branches bs
weight_shown (posted t w p v) = weight_of v
weight_shown (settled w k side p v) = weight_of v
weight_shown (defaulted t v) = weight_of v
weight_shown (registered t name args v) = weight_of_items args + weight_of v
-- a line is a text
weight_shown (printed t line) = suc (length line)
weight_shown (made t p what moment) = 0
weight_shown (spawned t u kind result) = 0
weight_shown (closed t p) = 0
weight_shown (ticked m ports) = 0
weight_shown (over t how) = 0

abbrev pub cost_of : EventView → ℕ
cost_of e = suc (weight_shown e / 16)
