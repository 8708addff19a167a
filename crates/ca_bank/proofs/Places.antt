-- Each channel of a bank stands at some place of the bank's own order.
use Rattle.std.proofs.Common.{◌≡◌, ℕ, suc, List, [], ◌∷◌, Some, None, Bool, true, false, cond, refl, sym, ap}
use Rattle.std.specs.Prelude.{option_map, nat_eq, slice_get}
use Rattle.std.specs.Map.{lookup}
use Rattle.std.proofs.lemmas.Bool.{eqb-true}
use Rattle.ca_bank.specs.Bank.{channel_at, kept_at}
use Rattle.ca_bank.specs.Kept.{Kept}
use Rattle.ca_bank.specs.declared.bank.Bank.{Bank}

module _ {V X : Type 0} (show : V → X) where
  place_in : (p : ℕ) (x : X) (es : List (ℕ × V)) → option_map show (lookup (nat_eq p) es) ≡ Some x → (i : ℕ) × (option_map (λ (e : ℕ × V). e.0) (slice_get es i) ≡ Some p)
  place_in p x [] h = absurd (let z : None ≡ Some x = h in cc)
  place_in p x (e ∷ es) h = by (nat_eq p e.0) refl (place_in p x es) h where
    by : (b : Bool) → nat_eq p e.0 ≡ b → (option_map show (lookup (nat_eq p) es) ≡ Some x → (i : ℕ) × (option_map (λ (e : ℕ × V). e.0) (slice_get es i) ≡ Some p)) → option_map show (cond b (Some e.1) (lookup (nat_eq p) es)) ≡ Some x → (i : ℕ) × (option_map (λ (e : ℕ × V). e.0) (slice_get (e ∷ es) i) ≡ Some p)
    by true is later k = (0, ap Some (sym (eqb-true p e.0 is)))
    by false is later k = let r = later k in (suc r.0, r.1)

pub has_place : (b : Bank) (p : ℕ) (k : Kept) → kept_at b p ≡ Some k → (i : ℕ) × (channel_at b i ≡ Some p)
has_place b p k h = place_in _ p k b.rooms.entries h
