-- Slots, and the names that stand in them.
use Rattle.std.proofs.Common.{◌≡◌, ℕ, zero, suc, ◌+◌, ◌-◌, ◌<◌, ◌≤◌, List, [], ◌∷◌, ◌++◌, length, refl, sym, ap, ap₂, ◌∙◌, subst, arith, Bool, true, false, cond, ◌⊎◌, ⊎_elim, eq-eqb, append_assoc}
use Rattle.std.specs.Prelude.{◌==◌, replicate}
use Rattle.ca_value.specs.Tree.{Tree, nil}
use Rattle.ca_term.specs.Kernel.{Bindings, Founds, const, var, empty, binding, puts}
use Rattle.ca_term.specs.Fits.{count_bindings}
use Rattle.ca_meaning.specs.Started.{named}
use Rattle.ca_states.specs.Machine.{read, slot_written, reads, slot_taken, taken_all, left_in_slot, slots_from, begun}
use Rattle.ca_lower.specs.Implements.{Scope, slot_of, IsInScope, in_slots, names_bound}
use Rattle.ca_lower.proofs.Puts.{puts-const}

pub read-write_same : (s : List Tree) (d : ℕ) (v : Tree) → read (slot_written s d v) d ≡ v
read-write_same [] zero v = refl
read-write_same [] (suc d) v = read-write_same [] d v
read-write_same (x ∷ s) zero v = refl
read-write_same (x ∷ s) (suc d) v = read-write_same s d v

pub read-write_other : (s : List Tree) (d : ℕ) (v : Tree) (k : ℕ) → (k ≡ d → ⊥) → read (slot_written s d v) k ≡ read s k
read-write_other [] zero v zero ne = absurd (ne refl)
read-write_other [] zero v (suc k) ne = refl
read-write_other [] (suc d) v zero ne = refl
read-write_other [] (suc d) v (suc k) ne = read-write_other [] d v k (λ e. ne (ap suc e))
read-write_other (x ∷ s) zero v zero ne = absurd (ne refl)
read-write_other (x ∷ s) zero v (suc k) ne = refl
read-write_other (x ∷ s) (suc d) v zero ne = refl
read-write_other (x ∷ s) (suc d) v (suc k) ne = read-write_other s d v k (λ e. ne (ap suc e))

-- the slots below h are the same
abbrev pub Same : ℕ → List Tree → List Tree → Type 0
Same h s t = (k : ℕ) → k < h → read t k ≡ read s k

pub same_trans : (g h : ℕ) (s t u : List Tree) → g ≤ h → Same g s t → Same h t u → Same g s u
same_trans g h s t u le a b k lt = let lt' : k < h = omega (arith, lt, le) in b k lt' ∙ a k lt

pub same_less : (g h : ℕ) (s t : List Tree) → g ≤ h → Same h s t → Same g s t
same_less g h s t le a k lt = let lt' : k < h = omega (arith, lt, le) in a k lt'

pub same_write : (h d : ℕ) (v : Tree) (s : List Tree) → h ≤ d → Same h s (slot_written s d v)
same_write h d v s le k lt = read-write_other s d v k (λ e. omega (arith, le, lt, e))

pub same_then_write : (h d : ℕ) (v : Tree) (s t : List Tree) → h ≤ d → Same h s t → Same h s (slot_written t d v)
same_then_write h d v s t le a k lt = read-write_other t d v k (λ e. omega (arith, le, lt, e)) ∙ a k lt

pub same_taken : (h a : ℕ) (s : List Tree) → h ≤ a → Same h s (slot_taken s a)
same_taken h a s le = same_write h a (left_in_slot (read s a)) s le

pub same_taken_all : (h a n : ℕ) (s : List Tree) → h ≤ a → Same h s (taken_all s (slots_from a n))
same_taken_all h a zero s le = λ k lt. refl
same_taken_all h a (suc n) s le = same_trans h h s (slot_taken s a) (taken_all (slot_taken s a) (slots_from (suc a) n)) (omega arith) (same_taken h a s le) (same_taken_all h (suc a) n (slot_taken s a) (omega (arith, le)))

-- each name's slot is below h and holds the name's value
abbrev pub Holds : Scope → Founds → List Tree → ℕ → Type 0
Holds [] [] s h = Unit {0}
Holds (b ∷ names) (f ∷ fs) s h = (b.0 ≡ f.0) × (b.1 < h) × (read s b.1 ≡ f.1) × Holds names fs s h
Holds [] (f ∷ fs) s h = ⊥
Holds (b ∷ names) [] s h = ⊥

pub holds_same : (names : Scope) (fs : Founds) (s t : List Tree) (g h : ℕ) → g ≤ h → Same g s t → Holds names fs s g → Holds names fs t h
holds_same [] [] s t g h le a p = tt
holds_same (b ∷ names) (f ∷ fs) s t g h le a p =
    let below = p.1 in
    let lt : b.1 < h = omega (arith, le, below) in (p.0, lt, a b.1 p.1 ∙ p.2, holds_same names fs s t g h le a p.3)
holds_same [] (f ∷ fs) s t g h le a p = absurd p
holds_same (b ∷ names) [] s t g h le a p = absurd p

-- a name's value is in its slot
pub puts_var : (names : Scope) (fs : Founds) (s : List Tree) (h x : ℕ) → Holds names fs s h → IsInScope x names → puts fs (var x) ≡ const (read s (slot_of names x))
puts_var [] fs s h x p is = absurd is
puts_var (b ∷ names) [] s h x p is = absurd p
puts_var (b ∷ names) (f ∷ fs) s h x p is =
    subst (λ n. puts fs (cond (x == n) (const f.1) (var x)) ≡ const (read s (cond (x == b.0) b.1 (slot_of names x)))) p.0
    (by (x == b.0) refl (λ is2. puts_var names fs s h x p.3 is2))
  where
    by : (o : Bool) → (x == b.0) ≡ o → (IsInScope x names → puts fs (var x) ≡ const (read s (slot_of names x))) → puts fs (cond o (const f.1) (var x)) ≡ const (read s (cond o b.1 (slot_of names x)))
    by true e more = puts-const fs f.1 ∙ ap const (sym p.2)
    by false e more = ⊎_elim (λ same. absurd (let g : (x == b.0) ≡ true = eq-eqb x b.0 same in cc)) more is

-- and below h
pub holds_below : (names : Scope) (fs : Founds) (s : List Tree) (h x : ℕ) → Holds names fs s h → IsInScope x names → slot_of names x < h
holds_below [] fs s h x p is = absurd is
holds_below (b ∷ names) [] s h x p is = absurd p
holds_below (b ∷ names) (f ∷ fs) s h x p is = by (x == b.0) refl (λ is2. holds_below names fs s h x p.3 is2) is
  where
    by : (o : Bool) → (x == b.0) ≡ o → (IsInScope x names → slot_of names x < h) → (x ≡ b.0) ⊎ IsInScope x names → cond o b.1 (slot_of names x) < h
    by true e more i = p.1
    by false e more i = ⊎_elim (λ same. absurd (let g : (x == b.0) ≡ true = eq-eqb x b.0 same in cc)) more i

pub holds_append : (names : Scope) (fs : Founds) (names2 : Scope) (fs2 : Founds) (s : List Tree) (h : ℕ) → Holds names fs s h → Holds names2 fs2 s h → Holds (names ++ names2) (fs ++ fs2) s h
holds_append [] [] names2 fs2 s h p q = q
holds_append (b ∷ names) (f ∷ fs) names2 fs2 s h p q = (p.0, p.1, p.2, holds_append names fs names2 fs2 s h p.3 q)
holds_append [] (f ∷ fs) names2 fs2 s h p q = absurd p
holds_append (b ∷ names) [] names2 fs2 s h p q = absurd p

-- one more name, in slot h
pub holds_one : (x : ℕ) (names : Scope) (fs : Founds) (s t : List Tree) (h : ℕ) → Same h s t → Holds names fs s h → Holds (names ++ (x, h) ∷ []) (fs ++ (x, read t h) ∷ []) t (suc h)
holds_one x names fs s t h a p =
    let le : h ≤ suc h = omega arith in
    let lt : h < suc h = omega arith in
    holds_append names fs ((x, h) ∷ []) ((x, read t h) ∷ []) t (suc h) (holds_same names fs s t h (suc h) le a p) (refl, lt, refl, tt)

-- more names, in the slots from a on
abbrev pub founds_at : List Tree → List ℕ → ℕ → Founds
founds_at s [] a = []
founds_at s (x ∷ xs) a = (x, read s a) ∷ founds_at s xs (suc a)

pub holds_range : (xs : List ℕ) (a h : ℕ) (s : List Tree) → a + length xs ≤ h → Holds (in_slots xs a) (founds_at s xs a) s h
holds_range [] a h s le = tt
holds_range (x ∷ xs) a h s le =
    let lt : a < h = omega (arith, le) in
    let le' : suc a + length xs ≤ h = omega (arith, le) in
    (refl, lt, refl, holds_range xs (suc a) h s le')

pub founds_named : (s : List Tree) (xs : List ℕ) (a : ℕ) → founds_at s xs a ≡ named xs (reads s (slots_from a (length xs)))
founds_named s [] a = refl
founds_named s (x ∷ xs) a = ap (λ l. (x, read s a) ∷ l) (founds_named s xs (suc a))

pub founds_same : (h : ℕ) (s t : List Tree) (xs : List ℕ) (a : ℕ) → a + length xs ≤ h → Same h s t → founds_at t xs a ≡ founds_at s xs a
founds_same h s t [] a le same = refl
founds_same h s t (x ∷ xs) a le same =
    let e : read t a ≡ read s a = same a (omega (arith, le)) in
    ap₂ (λ v l. (x, v) ∷ l) e (founds_same h s t xs (suc a) (omega (arith, le)) same)

pub length-bound : (bs : Bindings) → length (names_bound bs) ≡ count_bindings bs
length-bound empty = refl
length-bound (binding n t bs) = ap suc (length-bound bs)

pub length-reads : (s : List Tree) (a n : ℕ) → length (reads s (slots_from a n)) ≡ n
length-reads s a zero = refl
length-reads s a (suc n) = ap suc (length-reads s (suc a) n)

-- slots after so many moves, from a on to d on
abbrev pub moved : List Tree → ℕ → ℕ → List Tree
moved s d a = slot_written (slot_taken s a) d (read s a)

abbrev pub move_slots : List Tree → ℕ → ℕ → ℕ → List Tree
move_slots s d a zero = s
move_slots s d a (suc n) = move_slots (moved s d a) (suc d) (suc a) n

pub same_moved : (h d a : ℕ) (s : List Tree) → h ≤ d → h ≤ a → Same h s (moved s d a)
same_moved h d a s le la = same_then_write h d (read s a) s (slot_taken s a) le (same_taken h a s la)

pub same_moves : (h : ℕ) (s : List Tree) (d a n : ℕ) → h ≤ d → h ≤ a → Same h s (move_slots s d a n)
same_moves h s d a zero le la = λ k lt. refl
same_moves h s d a (suc n) le la =
    same_trans h h s (moved s d a) (move_slots (moved s d a) (suc d) (suc a) n) (omega arith) (same_moved h d a s le la) (same_moves h (moved s d a) (suc d) (suc a) n (omega (arith, le)) (omega (arith, la)))

reads-write : (s : List Tree) (d : ℕ) (v : Tree) (a n : ℕ) → d < a → reads (slot_written s d v) (slots_from a n) ≡ reads s (slots_from a n)
reads-write s d v a zero lt = refl
reads-write s d v a (suc n) lt =
    ap₂ (λ x xs. x ∷ xs) (read-write_other s d v a (λ e. omega (arith, lt, e))) (reads-write s d v (suc a) n (omega (arith, lt)))

pub reads_moved : (s : List Tree) (d a n : ℕ) → d + n ≤ a → reads (move_slots s d a n) (slots_from d n) ≡ reads s (slots_from a n)
reads_moved s d a zero le = refl
reads_moved s d a (suc n) le =
    let s' = moved s d a in
    let le1 : suc d + n ≤ suc a = omega (arith, le) in
    let la : suc d ≤ suc a = omega (arith, le) in
    let lt : d < suc a = omega (arith, le) in
    let first : read (move_slots s' (suc d) (suc a) n) d ≡ read s a = same_moves (suc d) s' (suc d) (suc a) n (omega arith) la d (omega arith) ∙ read-write_same (slot_taken s a) d (read s a) in
    let rest : reads s' (slots_from (suc a) n) ≡ reads s (slots_from (suc a) n) =
    reads-write (slot_taken s a) d (read s a) (suc a) n lt ∙ reads-write s a (left_in_slot (read s a)) (suc a) n (omega arith) in
    ap₂ (λ x xs. x ∷ xs) first (reads_moved s' (suc d) (suc a) n le1 ∙ rest)

-- a text's values in its first slots
read_begun : (vs fill : List Tree) (k : ℕ) → k < length vs → read (vs ++ fill) k ≡ read vs k
read_begun [] fill k lt = absurd (omega (arith, lt))
read_begun (v ∷ vs) fill zero lt = refl
read_begun (v ∷ vs) fill (suc k) lt = read_begun vs fill k (omega (arith, lt))

values_after : (before vs fill : List Tree) (a : ℕ) → length before ≡ a → reads (before ++ (vs ++ fill)) (slots_from a (length vs)) ≡ vs
values_after b [] fill a e = refl
values_after b (v ∷ vs) fill a e =
    let one : read (b ++ ((v ∷ vs) ++ fill)) a ≡ v = at_end b v (vs ++ fill) a e in
    let more : reads ((b ++ v ∷ []) ++ (vs ++ fill)) (slots_from (suc a) (length vs)) ≡ vs = values_after (b ++ v ∷ []) vs fill (suc a) (length_end b v ∙ ap suc e) in
    ap₂ (λ x xs. x ∷ xs) one (ap (λ s. reads s (slots_from (suc a) (length vs))) (sym (append_assoc b (v ∷ []) (vs ++ fill))) ∙ more)
  where
    at_end : (b : List Tree) (v : Tree) (r : List Tree) (a : ℕ) → length b ≡ a → read (b ++ v ∷ r) a ≡ v
    at_end [] v r zero e = refl
    at_end [] v r (suc a) e = absurd (omega (arith, e))
    at_end (x ∷ b) v r zero e = absurd (omega (arith, e))
    at_end (x ∷ b) v r (suc a) e = at_end b v r a (omega (arith, e))

    length_end : (b : List Tree) (v : Tree) → length (b ++ v ∷ []) ≡ suc (length b)
    length_end [] v = refl
    length_end (x ∷ b) v = ap suc (length_end b v)

pub holds_begun : (xs : List ℕ) (vs : List Tree) (width : ℕ) → length vs ≡ length xs → Holds (in_slots xs 0) (named xs vs) (begun width vs) (length xs)
holds_begun xs vs width e =
    let s = begun width vs in
    let same : reads s (slots_from 0 (length xs)) ≡ vs =
    ap (λ n. reads s (slots_from 0 n)) (sym e) ∙ values_after [] vs (replicate (width - length vs) nil) 0 refl in
    subst (λ fs. Holds (in_slots xs 0) fs s (length xs)) (founds_named s xs 0 ∙ ap (named xs) same) (holds_range xs 0 (length xs) s (omega arith))
