-- Scopes in which the names below a number are public, and the next ones get roles in order.
use Rattle.std.proofs.Common.{◌≡◌, ⊎_elim, ℕ, suc, ◌<◌, ◌≤◌, List, [], ◌∷◌, refl, sym, ◌∙◌, subst, arith, Some, None, Bool, true, false, cond, eqb}
use Rattle.std.proofs.lemmas.Bool.{cases_lt}
use Rattle.std.proofs.lemmas.Map.{update_here, update_apart}
use Rattle.ca_term.specs.Closed.{IsIn}
use Rattle.ca_sealed.proofs.Used.{Below}
use Rattle.ca_roles.specs.Roles.{Role, public, Roles, known_as}
use Rattle.ca_roles.specs.Sealed.{all_public}

-- a name from n on has no role
abbrev pub Fresh : ℕ → Roles → Type 0
Fresh n scope = (k : ℕ) → n ≤ k → scope k ≡ None

-- the names below n are public, of those below base the ones in the list; the next ones have no role
abbrev pub Stands : ℕ → List ℕ → ℕ → Roles → Type 0
Stands base us n scope = ((k : ℕ) → k < n → (k < base → IsIn k us) → scope k ≡ Some public) × Fresh n scope

pub here : (scope : Roles) (n k : ℕ) (r : Role) → k ≡ n → known_as scope n r k ≡ Some r
here scope n k r e = subst (λ x. known_as scope n r x ≡ Some r) (sym e) (update_here scope n (Some r))

pub apart : (scope : Roles) (n k : ℕ) (r : Role) → (k ≡ n → ⊥) → known_as scope n r k ≡ scope k
apart scope n k r d = update_apart scope n (Some r) k d

pub fresh_next : (scope : Roles) (n : ℕ) (r : Role) → Fresh n scope → Fresh (suc n) (known_as scope n r)
fresh_next scope n r f k l = apart scope n k r (λ e. omega (arith, e, l)) ∙ f k (omega (arith, l))

pub stands_next : (base : ℕ) (us : List ℕ) (n : ℕ) (scope : Roles) → Stands base us n scope → Stands base us (suc n) (known_as scope n public)
stands_next base us n scope s = (λ k l u. ⊎_elim (λ b. apart scope n k public (λ e. omega (arith, e, b)) ∙ s.0 k b u) (λ b. here scope n k public (omega (arith, l, b))) (cases_lt k n), fresh_next scope n public s.1)

-- these roles for the names from m on
abbrev pub with_roles : ℕ → List Role → Roles → Roles
with_roles m [] scope = scope
with_roles m (r ∷ rs) scope = with_roles (suc m) rs (known_as scope m r)

pub before : (m : ℕ) (rs : List Role) (scope : Roles) (k : ℕ) → k < m → with_roles m rs scope k ≡ scope k
before m [] scope k l = refl
before m (r ∷ rs) scope k l = before (suc m) rs (known_as scope m r) k (omega (arith, l)) ∙ apart scope m k r (λ e. omega (arith, e, l))

pub first : (m : ℕ) (r : Role) (rs : List Role) (scope : Roles) (k : ℕ) → k ≡ m → with_roles m (r ∷ rs) scope k ≡ Some r
first m r rs scope k e = before (suc m) rs (known_as scope m r) k (omega (arith, e)) ∙ here scope m k r e

-- the scope of a text with these parameters
pub public_behind : (scope : Roles) (n k : ℕ) → scope k ≡ Some public → known_as scope n public k ≡ Some public
public_behind scope n k e = by (eqb n k) where
  by : (b : Bool) → cond b (Some public) (scope k) ≡ Some public
  by true = refl
  by false = e

pub parameters_public : (ns : List ℕ) (k : ℕ) → IsIn k ns → all_public ns k ≡ Some public
parameters_public [] k h = absurd h
parameters_public (n ∷ ns) k h = ⊎_elim (λ e. here (all_public ns) n k public e) (λ i. public_behind (all_public ns) n k (parameters_public ns k i)) h

pub parameters_fresh : (ns : List ℕ) (n : ℕ) → Below n ns → Fresh n (all_public ns)
parameters_fresh [] n b k l = refl
parameters_fresh (m ∷ ns) n b k l = apart (all_public ns) m k public (λ e. omega (arith, e, l, b.0)) ∙ parameters_fresh ns n b.1 k l
