-- Two parts that stand side by side, each written once.
use Rattle.std.proofs.Common.{◌≡◌, ◌≢◌, ◌+◌, ◌∙◌, ℕ, List, set, ap, arith}
use mathlib.Core.Option.{some}
use lib.ListN.{get_elem?}
use Rattle.std.specs.Prelude.{Option, Some}
use Rattle.ca_turns.proofs.Callers.{set_here, set_else}
use Rattle.ca_turns.proofs.Lists.{in_range}

pub apart : (low : ℕ) → low + 1 ≢ low
apart low e = omega arith

before : (low : ℕ) → low ≢ low + 1
before low e = omega arith

pub second_written : (low : ℕ) (ps qs : List (Option ℕ)) (n m : ℕ) → get_elem? ps (low + 1) ≡ some (Some n) → qs ≡ set ps (low + 1) (Some m) → get_elem? qs (low + 1) ≡ some (Some m)
second_written low ps qs n m at e = ap (λ l. get_elem? l (low + 1)) e ∙ set_here ps (low + 1) (Some m) (in_range ps (low + 1) (Some n) at)

pub first_written : (low : ℕ) (ps qs rs : List (Option ℕ)) (n m k : ℕ) → get_elem? ps low ≡ some (Some n) → qs ≡ set ps low (Some m) → rs ≡ set qs (low + 1) (Some k) → get_elem? rs low ≡ some (Some m)
first_written low ps qs rs n m k at e f = ap (λ l. get_elem? l low) f ∙ set_else qs (low + 1) low (Some k) (before low) ∙ ap (λ l. get_elem? l low) e ∙ set_here ps low (Some m) (in_range ps low (Some n) at)

pub same_else : (low k : ℕ) (ps qs rs : List (Option ℕ)) (m n : ℕ) → k ≢ low → k ≢ low + 1 → qs ≡ set ps low (Some m) → rs ≡ set qs (low + 1) (Some n) → get_elem? rs k ≡ get_elem? ps k
same_else low k ps qs rs m n ne ne' e f = ap (λ l. get_elem? l k) f ∙ set_else qs (low + 1) k (Some n) ne' ∙ ap (λ l. get_elem? l k) e ∙ set_else ps low k (Some m) ne
