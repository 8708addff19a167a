-- Going round the branches of an alts.
use Rattle.std.specs.Prelude.{◌≡◌, ℕ, ◌+◌, ◌-◌, ◌<◌, List, length, slice_get, Some, cond, nat_lt}
use Rattle.ca_term.specs.Event.{BranchView}
use Rattle.ca_meaning.specs.Row.{not_ready}
use Rattle.ca_meaning.specs.State.{State}
use Rattle.ca_meaning.specs.Choice.{row}

-- branch number h of the round of n branches that begins at the start
abbrev pub in_round : ℕ → ℕ → ℕ → ℕ
in_round n start h = cond (nat_lt (start + h) n) (start + h) (start + h - n)

-- the branches that the round comes to before branch number i of it aren't ready
abbrev pub UnreadyBefore : State → List BranchView → ℕ → ℕ → Type 0
UnreadyBefore s bs start i = (h : ℕ) (o : BranchView) → h < i → slice_get bs (in_round (length bs) start h) ≡ Some o → row s o ≡ not_ready
