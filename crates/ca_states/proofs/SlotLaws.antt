-- A runner's slots as trees: one is read, written and taken out.
use Rattle.std.proofs.Common.{◌≡◌, ℕ, ℤ, zero, suc, ◌+◌, ◌-◌, ◌++◌, append_assoc, ◌<◌, ◌≤◌, List, [], ◌∷◌, length, get_or, set, take, drop, true, false, Some, None, refl, sym, ap, ◌∙◌, subst, arith}
use Rattle.std.specs.Prelude.{cond, if◌then◌else◌, max, nat_le, IsTrue, slice_get, ok_or, Result, Ok, Err, IfOk, IfErr}
use Rattle.std.proofs.lemmas.List.{length-map}
use Rattle.ca_value.specs.Tree.{Tree, nil, bool, int, text, key, vector, map, port, trees_of}
use Rattle.ca_value.proofs.Lists.{items_of_trees_of}
use Rattle.ca_value.specs.Builtins.{builtin_result}
use Rattle.ca_value.specs.Vectors.{item_at, item_or_else}
use Rattle.ca_value.specs.declared.builtin.Builtin.TheVariants.{Nth, Vector as Pair}
use Rattle.ca_value.specs.declared.fault.ValueFault.TheVariants.{OutOfRange, TooHeavy, TooNested}
use Rattle.ca_value.specs.Measure.{weight_of, depth_of}
use Rattle.ca_value.specs.View.{view, views}
use Rattle.ca_value.specs.Outcome.{Outcome, judged, Gives, IsFault}
use Rattle.ca_value.specs.declared.value.Value.{Value}
use Rattle.ca_value.specs.declared.value.Value.TheVariants.{Nil}
use Rattle.ca_value.specs.declared.fault.ApplyError.{ApplyError}
use Rattle.ca_states.specs.Valid.{are_below}
use Rattle.ca_states.specs.Machine.{is_plain_value, read, slot_written, reads, slot_taken, taken_all, left_in_slot, slots_from, builtin_applied}
use Rattle.ca_states.proofs.RowLaws.{row_first, row_within}

pub read_view : (xs : List Value) (a : ℕ) (v : Value) → a < length xs → v ≡ get_or xs a v → view v ≡ read (views xs) a
read_view [] a v lt e = absurd (omega (arith, lt))
read_view (x ∷ xs) zero v lt e = ap view e
read_view (x ∷ xs) (suc a) v lt e = read_view xs a v (omega (arith, lt)) e

pub write_view : (xs : List Value) (a : ℕ) (v : Value) → a < length xs → views (set xs a v) ≡ slot_written (views xs) a (view v)
write_view [] a v lt = absurd (omega (arith, lt))
write_view (x ∷ xs) zero v lt = refl
write_view (x ∷ xs) (suc a) v lt = ap (λ r. view x ∷ r) (write_view xs a v (omega (arith, lt)))

-- a call whose value and whose fault are this outcome's gives it
pub gives_by : (r : Result Value ApplyError) (o : Outcome) → IfOk r (λ v. o ≡ Ok (view v)) → IfErr r (λ e. IsFault e o) → Gives r o
gives_by (Ok v) o h k = h
gives_by (Err e) o h k = k

pub write_read : (s : List Tree) (a : ℕ) → a < length s → slot_written s a (read s a) ≡ s
write_read [] a lt = absurd (omega (arith, lt))
write_read (t ∷ s) zero lt = refl
write_read (t ∷ s) (suc a) lt = ap (λ r. t ∷ r) (write_read s a (omega (arith, lt)))

-- a slot that holds the value already
pub write_held : (xs : List Value) (a : ℕ) (t : Tree) → a < length xs → read (views xs) a ≡ t → slot_written (views xs) a t ≡ views xs
write_held xs a t lt e =
    let within : a < length (views xs) = subst (λ n. a < n) (sym (length-map xs view)) lt in
    ap (slot_written (views xs) a) (sym e) ∙ write_read (views xs) a within

-- a plain value stays where it is taken out
pub left_plain : (t : Tree) → is_plain_value t ≡ true → left_in_slot t ≡ t
unfolding left_in_slot
left_plain t e = ap (λ b. cond b t nil) e

pub taken_plain : (xs : List Value) (a : ℕ) → a < length xs → is_plain_value (read (views xs) a) ≡ true → views xs ≡ slot_taken (views xs) a
taken_plain xs a lt e =
    let within : a < length (views xs) = subst (λ n. a < n) (sym (length-map xs view)) lt in
    sym (ap (slot_written (views xs) a) (left_plain (read (views xs) a) e) ∙ write_read (views xs) a within)

-- a plain value that is moved stays where it was
pub moved_plain : (xs : List Value) (a to : ℕ) → a < length xs → is_plain_value (read (views xs) a) ≡ true → slot_written (views xs) to (read (views xs) a) ≡ slot_written (slot_taken (views xs) a) to (read (views xs) a)
moved_plain xs a to lt e = ap (λ r. slot_written r to (read (views xs) a)) (taken_plain xs a lt e)

left_other : (t : Tree) → is_plain_value t ≡ false → left_in_slot t ≡ nil
unfolding left_in_slot
left_other t e = ap (λ b. cond b t nil) e

-- another value leaves nil behind
pub nil_left : (s : List Tree) (a : ℕ) → is_plain_value (read s a) ≡ false → slot_written s a nil ≡ slot_taken s a
nil_left s a e = ap (slot_written s a) (sym (left_other (read s a) e))

pub taken_other : (xs : List Value) (a : ℕ) → a < length xs → is_plain_value (read (views xs) a) ≡ false → views (set xs a Nil) ≡ slot_taken (views xs) a
taken_other xs a lt e = write_view xs a Nil lt ∙ nil_left (views xs) a e

-- the values of slots in a row, read one after another
pub read_next : (s vs : List Tree) (a i n : ℕ) (v : Tree) → i < n → v ≡ read s (a + i)
    → (vs ++ v ∷ []) ++ reads s (slots_from (a + (i + 1)) (n - (i + 1))) ≡ vs ++ reads s (slots_from (a + i) (n - i))
read_next s vs a i n v lt e =
    append_assoc vs (v ∷ []) (reads s (slots_from (a + (i + 1)) (n - (i + 1))))
    ∙ ap (λ t. vs ++ t ∷ reads s (slots_from (a + (i + 1)) (n - (i + 1)))) e
    ∙ ap (λ r. vs ++ reads s r) (sym (row_first a i n lt))

pub take_next : (s t : List Tree) (a i n : ℕ) → i < n → t ≡ slot_taken s (a + i) → taken_all t (slots_from (a + (i + 1)) (n - (i + 1))) ≡ taken_all s (slots_from (a + i) (n - i))
take_next s t a i n lt e = ap (λ z. taken_all z (slots_from (a + (i + 1)) (n - (i + 1)))) e ∙ ap (taken_all s) (sym (row_first a i n lt))

pub views_push : (xs : List Value) (x : Value) → views (xs ++ x ∷ []) ≡ views xs ++ view x ∷ []
views_push [] x = refl
views_push (y ∷ xs) x = ap (λ r. view y ∷ r) (views_push xs x)

pub length_reads : (s : List Tree) (a n : ℕ) → length (reads s (slots_from a n)) ≡ n
length_reads s a zero = refl
length_reads s a (suc n) = ap suc (length_reads s (suc a) n)

-- a slot before another is written
pub read_other : (s : List Tree) (a k : ℕ) (v : Tree) → a < k → read (slot_written s a v) k ≡ read s k
read_other [] zero zero v lt = absurd (omega (arith, lt))
read_other [] zero (suc k) v lt = refl
read_other [] (suc a) zero v lt = absurd (omega (arith, lt))
read_other [] (suc a) (suc k) v lt = read_other [] a k v (omega (arith, lt))
read_other (t ∷ s) zero zero v lt = absurd (omega (arith, lt))
read_other (t ∷ s) zero (suc k) v lt = refl
read_other (t ∷ s) (suc a) zero v lt = absurd (omega (arith, lt))
read_other (t ∷ s) (suc a) (suc k) v lt = read_other s a k v (omega (arith, lt))

judged_plain : (t : Tree) → is_plain_value t ≡ true → judged (Ok t) ≡ Ok t
judged_plain nil e = refl
judged_plain (bool b) e = absurd (let f : false ≡ true = e in cc)
judged_plain (int z) e = refl
judged_plain (text s) e = absurd (let f : false ≡ true = e in cc)
judged_plain (key s) e = absurd (let f : false ≡ true = e in cc)
judged_plain (vector ts) e = absurd (let f : false ≡ true = e in cc)
judged_plain (map ps) e = absurd (let f : false ≡ true = e in cc)
judged_plain (port n) e = refl

-- `nth` of a vector, where that is plain
pub nth_plain : (xs : List Tree) (i : ℤ) (t : Tree) → item_at xs i ≡ Some t → is_plain_value t ≡ true → builtin_applied Nth (vector (trees_of xs) ∷ int i ∷ []) ≡ Ok t
unfolding builtin_result
nth_plain xs i t e s =
    ap (λ us. judged (ok_or (item_or_else (item_at us i) None) OutOfRange)) (items_of_trees_of xs)
    ∙ ap (λ o. judged (ok_or (item_or_else o None) OutOfRange)) e
    ∙ judged_plain t s

-- a plain value weighs 1, and has depth 1
weight_plain : (t : Tree) → is_plain_value t ≡ true → weight_of t ≡ 1
weight_plain nil e = refl
weight_plain (bool b) e = absurd (let f : false ≡ true = e in cc)
weight_plain (int z) e = refl
weight_plain (text s) e = absurd (let f : false ≡ true = e in cc)
weight_plain (key s) e = absurd (let f : false ≡ true = e in cc)
weight_plain (vector ts) e = absurd (let f : false ≡ true = e in cc)
weight_plain (map ps) e = absurd (let f : false ≡ true = e in cc)
weight_plain (port n) e = refl

depth_plain : (t : Tree) → is_plain_value t ≡ true → depth_of t ≡ 1
depth_plain nil e = refl
depth_plain (bool b) e = absurd (let f : false ≡ true = e in cc)
depth_plain (int z) e = refl
depth_plain (text s) e = absurd (let f : false ≡ true = e in cc)
depth_plain (key s) e = absurd (let f : false ≡ true = e in cc)
depth_plain (vector ts) e = absurd (let f : false ≡ true = e in cc)
depth_plain (map ps) e = absurd (let f : false ≡ true = e in cc)
depth_plain (port n) e = refl

-- what is within the limits is answered
judged_by : (t : Tree) (w d : ℕ) → weight_of t ≡ w → depth_of t ≡ d → judged (Ok t) ≡ (if nat_le w 65536 then (if nat_le d 64 then Ok t else Err TooNested) else Err TooHeavy)
judged_by t w d ew ed =
    ap (λ n. if nat_le n 65536 then (if nat_le (depth_of t) 64 then Ok t else Err TooNested) else Err TooHeavy) ew
    ∙ ap (λ n. if nat_le w 65536 then (if nat_le n 64 then Ok t else Err TooNested) else Err TooHeavy) ed

-- `vector` of two plain values
pub pair_of_plain : (a b : Tree) → is_plain_value a ≡ true → is_plain_value b ≡ true → builtin_applied Pair (a ∷ b ∷ []) ≡ Ok (vector (trees_of (a ∷ b ∷ [])))
unfolding builtin_result
pair_of_plain a b ea eb =
    let w : weight_of (vector (trees_of (a ∷ b ∷ []))) ≡ 3 = ap (λ n. suc (n + (weight_of b + 0))) (weight_plain a ea) ∙ ap (λ n. suc (1 + (n + 0))) (weight_plain b eb) in
    let d : depth_of (vector (trees_of (a ∷ b ∷ []))) ≡ 2 = ap (λ n. suc (max n (max (depth_of b) 0))) (depth_plain a ea) ∙ ap (λ n. suc (max 1 (max n 0))) (depth_plain b eb) in
    judged_by (vector (trees_of (a ∷ b ∷ []))) 3 2 w d
