-- Faults of a device beside those of a list of calls.
use Rattle.std.proofs.Common.{◌≡◌, ℕ, ◌+◌, ◌≤◌, Err, arith}
use Rattle.ca_timers.specs.Causes.{HasCause, one_more}

pub rose_beside : {T E : Type 0} (d e a b : ℕ) (x : E) → e ≡ d → a ≤ b → b ≡ one_more a → HasCause {T = T} {E = E} (d + a) (e + b) (Err x)
rose_beside d e a b x same later rose = record { later = omega arith; failed = omega arith }
