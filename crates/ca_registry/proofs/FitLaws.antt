-- Operands in turn.
use Rattle.std.proofs.Common.{◌≡◌, ◌≢◌, ℕ, zero, suc, ◌+◌, ◌<◌, ◌≤◌, List, [], ◌∷◌, length, map, drop, refl, sym, ap, ap₂, ◌∙◌, arith, Bool, true, false, cond, Some, None, nat_lt, slice_get, ◌-◌, get_or, drop-cons, add-one, ltb-true, ltb-false}
use Rattle.ca_value.specs.Tree.{Trees}
use Rattle.ca_value.specs.View.{view, trees}
use Rattle.ca_value.specs.declared.value.Value.{Value}
use Rattle.ca_term.specs.declared.fault.Fault.TheVariants.{NotAPort, TooManyPorts}
use Rattle.ca_meaning.specs.Operands.{operand_at, count_of, first_of, is_pair, or_else, port_of_value, rest_of, values_in}
use Rattle.ca_meaning.specs.State.{State}
use Rattle.ca_meaning.specs.TaskSteps.{last_port}
use Rattle.ca_meaning.specs.Refusal.{bad_choice, bad_ports, meets_need, not_needed, unmet}
use Rattle.ca_registry.specs.Needs.{from_place, need_view}
use Rattle.ca_registry.specs.declared.need.Need.{Need}

pub not_a_pair : (vs : List Value) → length vs ≢ 2 → is_pair (trees vs) ≡ false
not_a_pair [] h = refl
not_a_pair (a ∷ []) h = refl
not_a_pair (a ∷ b ∷ []) h = absurd (h refl)
not_a_pair (a ∷ b ∷ c ∷ vs) h = refl

counted : (vs : List Value) → count_of (trees vs) ≡ length vs
counted [] = refl
counted (v ∷ vs) = ap suc (counted vs)

pub too_many : (s : State) (vs : List Value) → 256 < length vs → bad_choice s (trees vs) ≡ Some TooManyPorts
too_many s [] lt = absurd (omega (arith, lt))
too_many s (v ∷ vs) lt = ap (λ n. cond (nat_lt 256 n) (Some TooManyPorts) (bad_ports s (trees (v ∷ vs)))) (counted (v ∷ vs)) ∙ by (nat_lt 256 (length (v ∷ vs))) refl where
  by : (b : Bool) → nat_lt 256 (length (v ∷ vs)) ≡ b → cond b (Some TooManyPorts) (bad_ports s (trees (v ∷ vs))) ≡ Some TooManyPorts
  by true e = refl
  by false e = absurd (let le = ltb-false 256 (length (v ∷ vs)) e in omega (arith, le, lt))

pub not_too_many : (s : State) (vs : List Value) → 0 < length vs → length vs ≤ 256 → bad_choice s (trees vs) ≡ bad_ports s (trees vs)
not_too_many s [] some le = absurd (omega (arith, some))
not_too_many s (v ∷ vs) some le = ap (λ n. cond (nat_lt 256 n) (Some TooManyPorts) (bad_ports s (trees (v ∷ vs)))) (counted (v ∷ vs)) ∙ by (nat_lt 256 (length (v ∷ vs))) refl where
  by : (b : Bool) → nat_lt 256 (length (v ∷ vs)) ≡ b → cond b (Some TooManyPorts) (bad_ports s (trees (v ∷ vs))) ≡ bad_ports s (trees (v ∷ vs))
  by true e = absurd (let lt = ltb-true 256 (length (v ∷ vs)) e in omega (arith, le, lt))
  by false e = refl

operand_is : (i : ℕ) (vs : Trees) → first_of (from_place i vs) ≡ operand_at i vs
operand_is zero vs = refl
operand_is (suc i) vs = operand_is i (rest_of vs)

rest_is : (i : ℕ) (vs : Trees) → rest_of (from_place i vs) ≡ from_place (suc i) vs
rest_is zero vs = refl
rest_is (suc i) vs = rest_is i (rest_of vs)

unmet_step : (s : State) (needs : List Need) (i : ℕ) (vs : Trees) (d : Need) → i < length needs
    → unmet s (map need_view (drop i needs)) (from_place i vs) ≡ or_else (not_needed s (need_view (get_or needs i d)) (operand_at i vs)) (unmet s (map need_view (drop (i + 1) needs)) (from_place (i + 1) vs))
unmet_step s needs i vs d lt = ap (λ l. unmet s (map need_view l) (from_place i vs)) (drop-cons needs i d lt)
    ∙ ap₂ (λ v us. or_else (not_needed s (need_view (get_or needs i d)) v) (unmet s (map need_view (drop (suc i) needs)) us)) (operand_is i vs) (rest_is i vs)
    ∙ ap (λ k. or_else (not_needed s (need_view (get_or needs i d)) (operand_at i vs)) (unmet s (map need_view (drop k needs)) (from_place k vs))) (sym (add-one i))

-- an operand that isn't what is needed
pub unmet_here : (s : State) (needs : List Need) (i : ℕ) (vs : Trees) (d : Need) → i < length needs → meets_need s (need_view (get_or needs i d)) (operand_at i vs) ≡ false → unmet s (map need_view (drop i needs)) (from_place i vs) ≡ Some NotAPort
unmet_here s needs i vs d lt f = unmet_step s needs i vs d lt ∙ ap (λ b. or_else (cond b None (Some NotAPort)) (unmet s (map need_view (drop (i + 1) needs)) (from_place (i + 1) vs))) f

-- and one that is
pub met_here : (s : State) (needs : List Need) (i : ℕ) (vs : Trees) (d : Need) → i < length needs → meets_need s (need_view (get_or needs i d)) (operand_at i vs) ≡ true → unmet s (map need_view (drop i needs)) (from_place i vs) ≡ unmet s (map need_view (drop (i + 1) needs)) (from_place (i + 1) vs)
met_here s needs i vs d lt f = unmet_step s needs i vs d lt ∙ ap (λ b. or_else (cond b None (Some NotAPort)) (unmet s (map need_view (drop (i + 1) needs)) (from_place (i + 1) vs))) f

-- the last of several values
pub last_none : (vs : List Value) → slice_get vs (length vs - 1) ≡ None → last_port (values_in (trees vs)) ≡ None
last_none [] h = refl
last_none (u ∷ []) h = absurd cc
last_none (u ∷ w ∷ vs) h =
    let e : suc (suc (length vs)) - 1 ≡ suc (length vs) = omega arith in
    let d : suc (length vs) - 1 ≡ length vs = omega arith in
    last_none (w ∷ vs) (ap (slice_get (w ∷ vs)) d ∙ sym (ap (slice_get (u ∷ w ∷ vs)) e) ∙ h)

pub last_some : (vs : List Value) (v : Value) → slice_get vs (length vs - 1) ≡ Some v → last_port (values_in (trees vs)) ≡ Some (port_of_value (view v))
last_some [] v h = absurd cc
last_some (u ∷ []) v h = ap (λ x. Some (port_of_value (view x))) (let e : u ≡ v = cc in e)
last_some (u ∷ w ∷ vs) v h =
    let e : suc (suc (length vs)) - 1 ≡ suc (length vs) = omega arith in
    let d : suc (length vs) - 1 ≡ length vs = omega arith in
    last_some (w ∷ vs) v (ap (slice_get (w ∷ vs)) d ∙ sym (ap (slice_get (u ∷ w ∷ vs)) e) ∙ h)
