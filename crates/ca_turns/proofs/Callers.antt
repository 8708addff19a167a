-- For those who call a table: what a hand has after some calls.
pub use Rattle.atomic_table.proofs.Lists.{set_here, set_else}
use Rattle.std.proofs.Common.{◌≡◌, ◌≢◌, ℕ, List, ◌∷◌, sym, refl, ap, ◌∙◌}
use mathlib.Core.Option.{some}
use native.Mathlib.Decide.{ℕ_discrete}
use lib.ListN.{get_elem?}
use Rattle.std.specs.Prelude.{Option, Some, None}
use Rattle.ca_turns.specs.Lending.{with_part}
use Rattle.ca_turns.specs.Hands.{Held, HoldsNothing, IsWithout, SameBut, look, look_one}
use Rattle.ca_turns.proofs.Lists.{in_range, read_at}

-- what `look` sees at a place that has something
pub look_at : {A : Type 0} (h : List (Option A)) (i : ℕ) (is : List ℕ) (x : A) → get_elem? h i ≡ some (Some x) → look h (i ∷ is) ≡ x ∷ look h is
look_at h i is x e = ap (λ o. look_one o (look h is)) (read_at h i (Some x) None e)

module _ {P C E : Type 0} where
  -- a hand that held nothing holds no other part than the one that it took
  pub nothing_else : (i : ℕ) (old new : Held P C E) → SameBut i old new → HoldsNothing old → (k : ℕ) → k ≢ i → IsWithout new k
  nothing_else i old new same none k ne x e = none k x (sym (same k ne).0 ∙ e)

  -- once a hand is without a part, and held no other, it holds nothing
  pub nothing_left : (i : ℕ) (old new : Held P C E) → ((k : ℕ) → k ≢ i → IsWithout old k) → ((k : ℕ) → k ≢ i → get_elem? new.parts k ≡ get_elem? old.parts k) → IsWithout new i → HoldsNothing new
  nothing_left i old new others same without k x e = elim (ℕ_discrete k i) [ yes is ↦ without x (ap (get_elem? new.parts) (sym is) ∙ e) | no ne ↦ others k ne x (sym (same k ne) ∙ e) ]

  -- a part that was lent comes back as it was written, and the others stay
  pub lent_here : (h : Held P C E) (i : ℕ) (x y : P) → get_elem? h.parts i ≡ some (Some x) → get_elem? (with_part h i y).parts i ≡ some (Some y)
  lent_here h i x y e = set_here h.parts i (Some y) (in_range h.parts i (Some x) e)

  pub lent_else : (h : Held P C E) (i : ℕ) (y : P) → SameBut i h (with_part h i y)
  lent_else h i y k ne = (set_else h.parts i k (Some y) ne, refl)
