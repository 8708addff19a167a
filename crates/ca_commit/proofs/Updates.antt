-- A map with one entry changed, seen through a view.
use Rattle.std.proofs.Common.{◌≡◌, ℕ, refl, sym, ap, Bool, true, false, cond, Option, Some, None, option_map, eqb, eqb-true}
use Rattle.std.specs.Map.{update}
use Rattle.ca_bank.specs.Bank.{with_made}
use Rattle.ca_commit.specs.Running.{or_was}

pub mapped_update : {X Y : Type 0} (view : X → Y) (m : ℕ → Option X) (n : ℕ) (o : Option X) (q : ℕ) → option_map view (update eqb m n o q) ≡ update eqb (λ k. option_map view (m k)) n (option_map view o) q
mapped_update view m n o q = by (eqb n q) where
  by : (b : Bool) → option_map view (cond b o (m q)) ≡ cond b (option_map view o) (option_map view (m q))
  by true = refl
  by false = refl

-- what is made at an entry, or what was there
pub made_at : {X : Type 0} (o : Option X) (m : ℕ → Option X) (p q : ℕ) → with_made p o m q ≡ update eqb m p (or_was o (m p)) q
made_at (Some x) m p q = refl
made_at None m p q = by (eqb p q) refl where
  by : (b : Bool) → eqb p q ≡ b → m q ≡ cond b (m p) (m q)
  by true e = ap m (sym (eqb-true p q e))
  by false e = refl
