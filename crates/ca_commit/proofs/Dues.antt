-- The ports that are due, gathered one by one.
use Rattle.std.proofs.Common.{◌≡◌, ℕ, zero, suc, ◌+◌, List, [], ◌∷◌, ◌++◌, length, map, drop, refl, sym, ap, ◌∙◌, Option, Some, None, OnSome, option_map, slice_get, subst, append_assoc, append-nil, length-append, arith}
use Rattle.std.proofs.lemmas.List.{map-append}
use Rattle.ca_value.specs.Deadlines.{Deadline, due, open_after}
use Rattle.ca_value.specs.declared.value.PortId.{PortId}
use Rattle.ca_timers.specs.Timers.{AreOrdered}
use Rattle.ca_timers.proofs.Order.{none_leaves, pop_leaves}
use Rattle.ca_term.specs.Event.{port_number}
use Rattle.ca_bank.specs.Kept.{Kept, closed_channel}
use Rattle.ca_commit.specs.Listing.{changed_at}
use Rattle.ca_commit.specs.Ticking.{closed_all}
use Rattle.ca_commit.proofs.Laid.{same_map}

pub drop_at : {X : Type 0} (xs : List X) (n : ℕ) (x : X) → slice_get xs n ≡ Some x → drop n xs ≡ x ∷ drop (n + 1) xs
drop_at [] n x e = absurd (let k : None ≡ Some x = e in cc)
drop_at (y ∷ xs) zero x e = let k : y ≡ x = cc in ap (λ z. z ∷ xs) k
drop_at (y ∷ xs) (suc n) x e = let s : suc n + 1 ≡ suc (n + 1) = omega arith in drop_at xs n x e ∙ ap (λ (k : ℕ). x ∷ drop k (y ∷ xs)) (sym s)

pub drop_none : {X : Type 0} (xs : List X) (n : ℕ) → slice_get xs n ≡ None → drop n xs ≡ []
drop_none [] zero e = refl
drop_none [] (suc n) e = refl
drop_none (y ∷ xs) zero e = absurd (let k : Some y ≡ None = e in cc)
drop_none (y ∷ xs) (suc n) e = drop_none xs n e

-- one port more
pub due_step : (ports new : List PortId) (p : PortId) (all : List ℕ) → new ≡ ports ++ p ∷ [] → slice_get all (length ports) ≡ Some p.n → map port_number ports ++ drop (length ports) all ≡ all → map port_number new ++ drop (length new) all ≡ all
due_step ports new p all e is h =
    let many : length new ≡ length ports + 1 = ap (λ (z : List PortId). length z) e ∙ length-append ports (p ∷ []) in
    let front : map port_number new ≡ map port_number ports ++ p.n ∷ [] = ap (map port_number) e ∙ map-append port_number ports (p ∷ []) in
    ap (λ (z : List ℕ). z ++ drop (length new) all) front ∙ append_assoc (map port_number ports) (p.n ∷ []) (drop (length new) all)
    ∙ ap (λ (n : ℕ). map port_number ports ++ p.n ∷ drop n all) many ∙ ap (λ (z : List ℕ). map port_number ports ++ z) (sym (drop_at all (length ports) p.n is)) ∙ h

pub due_end : (ports : List PortId) (all : List ℕ) → slice_get all (length ports) ≡ None → map port_number ports ++ drop (length ports) all ≡ all → map port_number ports ≡ all
due_end ports all is h = sym (append-nil (map port_number ports)) ∙ ap (λ (z : List ℕ). map port_number ports ++ z) (sym (drop_none all (length ports) is)) ∙ h

-- one channel more is closed
pub closed_step : (p : ℕ) (ps all : List ℕ) (m new : ℕ → Option (ℕ → Option Kept)) → all ≡ p ∷ ps → ((i : ℕ) → new i ≡ changed_at p (option_map closed_channel) m i) → (i : ℕ) → closed_all ps new i ≡ closed_all all m i
closed_step p ps all m new is e i = ap (λ f. closed_all ps f i) (same_map new (changed_at p (option_map closed_channel) m) e) ∙ ap (λ z. closed_all z m i) (sym is)

length_zero : {X : Type 0} (xs : List X) → length xs ≡ 0 → slice_get xs 0 ≡ None
length_zero [] e = refl
length_zero (x ∷ xs) e = absurd (let k : suc (length xs) ≡ 0 = e in cc)

-- the first deadline was due, and is gone
pub popped_one : (m n : ℕ) (ds ds2 : List Deadline) (o : Option PortId) → AreOrdered ds → option_map port_number o ≡ slice_get (due m ds) 0 → OnSome o (ds2 ≡ drop 1 ds) → length (due m ds) ≡ suc n → AreOrdered ds2 × (open_after m ds2 ≡ open_after m ds) × (length (due m ds2) ≡ n)
popped_one m n ds ds2 o ordered is popped many = by (due m ds) refl o is popped where
  tail : (ds : List Deadline) → AreOrdered ds → AreOrdered (drop 1 ds)
  tail [] a = tt
  tail (d ∷ ds) a = a.1

  by : (xs : List ℕ) → due m ds ≡ xs → (o : Option PortId) → option_map port_number o ≡ slice_get (due m ds) 0 → OnSome o (ds2 ≡ drop 1 ds) → AreOrdered ds2 × (open_after m ds2 ≡ open_after m ds) × (length (due m ds2) ≡ n)
  by [] e o is popped = absurd (let k : 0 ≡ suc n = sym (ap (λ (z : List ℕ). length z) e) ∙ many in cc)
  by (x ∷ xs) e None is popped = absurd (let k : None ≡ Some x = is ∙ ap (λ (z : List ℕ). slice_get z 0) e in cc)
  by (x ∷ xs) e (Some p) is popped = let left = pop_leaves m ds p.n ordered (sym is) in
      let rest : due m (drop 1 ds) ≡ xs = left.0 ∙ ap (λ (z : List ℕ). drop 1 z) e in
      let count : suc (length xs) ≡ suc n = sym (ap (λ (z : List ℕ). length z) e) ∙ many in
      (subst AreOrdered (sym popped) (tail ds ordered), ap (open_after m) popped ∙ left.1, ap (λ (z : List Deadline). length (due m z)) popped ∙ ap (λ (z : List ℕ). length z) rest ∙ (let k : length xs ≡ n = omega (arith, count) in k))

-- none is left that is due
pub popped_all : (m : ℕ) (ds : List Deadline) → AreOrdered ds → length (due m ds) ≡ 0 → ds ≡ open_after m ds
popped_all m ds ordered none = sym (none_leaves m ds ordered (length_zero (due m ds) none))

pub none_of : {X : Type 0} (o : Option X) → ((x : X) → o ≡ Some x → ⊥) → o ≡ None
none_of None f = refl
none_of (Some x) f = absurd (f x refl)
