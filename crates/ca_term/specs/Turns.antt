-- How far a task goes between two events. Its calls and recurs are its turns.
use Rattle.std.specs.Prelude.{ℕ, Bool, nat_le}

-- the next turn would be the 1,000,000th since the task's last event
abbrev pub is_spun : ℕ → Bool
is_spun turns = nat_le 999_999 turns

-- one more call would stand inside 256
abbrev pub is_too_deep : ℕ → Bool
is_too_deep depth = nat_le 256 depth
