-- A plan that a worker makes for the task in its lane.
use Rattle.std.specs.Prelude.{◌≡◌}
use Rattle.ca_term.specs.Operation.{WantView}
use Rattle.ca_meaning.specs.Body.{At, at_op}
use Rattle.ca_commit.specs.Agents.{TaskAgent}
use Rattle.ca_commit.specs.Planning.{Planned, planned}
use Rattle.ca_commit.specs.Showing.{seen}
use Rattle.ca_commit.specs.declared.held.Held.{Held}

-- It is what `plan` answers for the operation at which the task is paused, with the number of its earlier alts as start.
abbrev pub IsOwnPlanFor : {A : Type 0} → (A → At) → Held A → Planned → TaskAgent A → Type 0
IsOwnPlanFor place h p a = (want : WantView) × (place a.agent ≡ at_op want) × (p ≡ planned (seen h.banks h.shards) want.op a.alts)
