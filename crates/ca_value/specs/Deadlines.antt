-- Open timeouts, in the order in which their channels close.
use Rattle.std.specs.Prelude.{ℕ, List, [], ◌∷◌, Bool, not, ◌&&◌, ◌||◌, cond, eqb, nat_lt, nat_le, filter, map}

-- an open timeout: the moment at which it closes its channel
pub record Deadline : Type 0 where
  pub moment : ℕ
  pub port : ℕ

-- the earlier deadline stands first, of equal ones that of the lower port
abbrev pub is_before : Deadline → Deadline → Bool
is_before d e = nat_lt d.moment e.moment || (eqb d.moment e.moment && nat_lt d.port e.port)

abbrev pub opened : Deadline → List Deadline → List Deadline
opened d [] = d ∷ []
opened d (e ∷ es) = cond (is_before d e) (d ∷ e ∷ es) (e ∷ opened d es)

-- the channels that are due at the moment, in order
abbrev pub due : ℕ → List Deadline → List ℕ
due m ds = map (λ d. d.port) (filter (λ d. nat_le d.moment m) ds)

-- the deadlines that stay open after the moment
abbrev pub open_after : ℕ → List Deadline → List Deadline
open_after m ds = filter (λ d. not (nat_le d.moment m)) ds
