-- What a hand of a table of counters is between its turns.
use Rattle.std.specs.Prelude.{◌≡◌, ◌≢◌, ℕ, ◌+◌, List, [], ◌∷◌, ◌++◌}
use Rattle.ca_turns.specs.Hands.{Held, IsPartSettled, IsWithout}
use Rattle.ca_turns.specs.Views.{new_turn}
use Rattle.ca_turns_counters.specs.declared.counters.Event.{Event}

abbrev pub Counting : Type 0
Counting = Held ℕ ℕ Event

-- the hand holds this part, as last settled, and no other
abbrev pub HoldsOnly : ℕ → Counting → Type 0
HoldsOnly part h = IsPartSettled (λ n. n) h part × ((i : ℕ) → i ≢ part → IsWithout h i)

-- the hand holds this part and the next, as last settled, and no other
abbrev pub HoldsPair : ℕ → Counting → Type 0
HoldsPair low h = IsPartSettled (λ n. n) h low × IsPartSettled (λ n. n) h (low + 1) × ((i : ℕ) → i ≢ low → i ≢ low + 1 → IsWithout h i)

-- the same hand of the same table
pub record Same (old new : Counting) : Type 0 where
  pub table : new.table ≡ old.table
  pub opening : new.view.opening ≡ old.view.opening
  pub opened_for : new.view.hands ≡ old.view.hands
  pub stands_for : new.view.stands_for ≡ old.view.stands_for

-- it drew one event more, at this number
abbrev pub DrewEvent : Event → ℕ → Counting → Counting → Type 0
DrewEvent e n old new = (before : List ℕ) × (after : List ℕ) × (new.view.turns ≡ old.view.turns ++ new_turn n e before after ∷ [])
