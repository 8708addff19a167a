-- A walk takes the first event of those that are kept.
use Rattle.std.proofs.Common.{◌≡◌, ℕ, suc, ◌-◌, List, ◌∷◌, take, Some, ap, arith}
use Rattle.ca_journal.specs.Kept.{upto}

pub upto_cons : {A : Type 0} (n : ℕ) (e : A) (es : List A) → upto (Some (suc n)) (e ∷ es) ≡ e ∷ upto (Some (suc n - 1)) es
upto_cons {A} n e es = let k : n ≡ suc n - 1 = omega arith in ap (λ (m : ℕ). e ∷ take m es) k
