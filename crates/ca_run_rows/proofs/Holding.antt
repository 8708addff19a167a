-- What a hand holds after it took one more part.
use Rattle.std.proofs.Common.{ℕ, ◌+◌, ◌<◌, sym, ◌∙◌, ⊎_elim, arith}
use Rattle.std.proofs.lemmas.Bool.{cases_eq}
use Rattle.ca_turns.specs.Hands.{Held, IsHolding, SameBut}

pub still_below : {P C E : Type 0} (old new : Held P C E) (part : ℕ) → SameBut part old new → ((i : ℕ) → IsHolding old i → i < part) → (i : ℕ) → IsHolding new i → i < part + 1
still_below old new part same below i h =
    ⊎_elim (λ e. omega (arith, e)) (λ ne. let lt = below i (h.0, sym (same i ne).0 ∙ h.1) in omega (arith, lt)) (cases_eq i part)
