-- The order of deadlines, and what it means for those that are due.
use Rattle.std.proofs.Common.{◌≡◌, ℕ, zero, suc, List, [], ◌∷◌, ◌++◌, ◌+◌, ◌-◌, length, drop, map, Bool, true, false, cond, Option, Some, None, refl, sym, ◌∙◌, ap, subst, arith}
use Rattle.std.proofs.lemmas.List.{append-nil}
use Rattle.std.specs.Prelude.{slice_get, filter, nat_le, not}
use Rattle.std.proofs.lemmas.Bool.Decides.{nat_tests}
use Rattle.ca_value.specs.Deadlines.{Deadline, is_before, opened, due, open_after}
use Rattle.ca_timers.specs.Timers.{NoDeadlineBefore, AreOrdered, IsInFront}
use Rattle.ca_timers.specs.Stored.{earlier_deadline}

-- what stands no earlier than a later one is later too
pub before_later : (d a b : Deadline) → is_before d a ≡ true → is_before b a ≡ false → is_before d b ≡ true
before_later d a b h k = grind (arith, nat_tests)

pub before_not_after : (d a : Deadline) → is_before d a ≡ true → is_before a d ≡ false
before_not_after d a h = grind (arith, nat_tests)

pub opened_none_before : (e d : Deadline) (ds : List Deadline) → is_before d e ≡ false → NoDeadlineBefore e ds → NoDeadlineBefore e (opened d ds)
opened_none_before e d [] h all = (h, tt)
opened_none_before e d (a ∷ ds) h all = by (is_before d a) (opened_none_before e d ds h all.1) where
  by : (b : Bool) → NoDeadlineBefore e (opened d ds) → NoDeadlineBefore e (cond b (d ∷ a ∷ ds) (a ∷ opened d ds))
  by true k = (h, all)
  by false k = (all.0, k)

pub none_before_later : (d a : Deadline) (ds : List Deadline) → is_before d a ≡ true → NoDeadlineBefore a ds → NoDeadlineBefore d ds
none_before_later d a [] h all = tt
none_before_later d a (b ∷ ds) h all = (before_not_after d b (before_later d a b h all.0), none_before_later d a ds h all.1)

pub opened_ordered : (d : Deadline) (ds : List Deadline) → AreOrdered ds → AreOrdered (opened d ds)
opened_ordered d [] o = (tt, tt)
opened_ordered d (e ∷ ds) o = by (is_before d e) refl (opened_ordered d ds o.1) where
  by : (b : Bool) → is_before d e ≡ b → AreOrdered (opened d ds) → AreOrdered (cond b (d ∷ e ∷ ds) (e ∷ opened d ds))
  by true h k = ((before_not_after d e h, none_before_later d e ds h o.0), o)
  by false h k = (opened_none_before e d ds h o.0, k)

-- the port of a deadline that is due
abbrev pub due_port : ℕ → Option Deadline → Option ℕ
due_port m None = None
due_port m (Some d) = cond (nat_le d.moment m) (Some d.port) None

-- no deadline is due behind one that is not
none_due : (m : ℕ) (d : Deadline) (ds : List Deadline) → nat_le d.moment m ≡ false → NoDeadlineBefore d ds → due m ds ≡ []
none_due m d [] h all = refl
none_due m d (e ∷ ds) h all = by (nat_le e.moment m) (later e all.0) (none_due m d ds h all.1) where
  later : (e : Deadline) → is_before e d ≡ false → nat_le e.moment m ≡ false
  later e k = grind (arith, nat_tests)

  by : (b : Bool) → b ≡ false → due m ds ≡ [] → map (λ (d : Deadline). d.port) (cond b (e ∷ filter (λ (d : Deadline). nat_le d.moment m) ds) (filter (λ (d : Deadline). nat_le d.moment m) ds)) ≡ []
  by true e r = absurd (let q : true ≡ false = e in cc)
  by false e r = r

-- the due ones stand in front
pub due_at : (m : ℕ) (ds : List Deadline) (k : ℕ) → AreOrdered ds → slice_get (due m ds) k ≡ due_port m (slice_get ds k)
due_at m [] k o = refl
due_at m (d ∷ ds) k o = by (nat_le d.moment m) refl k (λ j. due_at m ds j o.1) where
  none : (r : Option Deadline) (x : Option ℕ) → x ≡ None → x ≡ due_port m r → None ≡ due_port m r
  none r x e f = sym e ∙ f

  behind : nat_le d.moment m ≡ false → (j : ℕ) → slice_get (due m ds) j ≡ None
  behind h j = ap (λ (xs : List ℕ). slice_get xs j) (none_due m d ds h o.0)

  by : (b : Bool) → nat_le d.moment m ≡ b → (k : ℕ) → ((j : ℕ) → slice_get (due m ds) j ≡ due_port m (slice_get ds j)) → slice_get (map (λ (d : Deadline). d.port) (cond b (d ∷ filter (λ (d : Deadline). nat_le d.moment m) ds) (filter (λ (d : Deadline). nat_le d.moment m) ds))) k ≡ due_port m (slice_get (d ∷ ds) k)
  by true h zero r = ap (λ (b : Bool). cond b (Some d.port) None) (sym h)
  by true h (suc j) r = r j
  by false h zero r = behind h 0 ∙ ap (λ (b : Bool). cond b (Some d.port) None) (sym h)
  by false h (suc j) r = behind h (suc j) ∙ none (slice_get ds j) (slice_get (due m ds) j) (behind h j) (r j)

-- where a deadline is not due, those behind it stay open
stay_behind : (m : ℕ) (d : Deadline) (ds : List Deadline) → nat_le d.moment m ≡ false → NoDeadlineBefore d ds → open_after m ds ≡ ds
stay_behind m d [] h all = refl
stay_behind m d (e ∷ ds) h all = by (nat_le e.moment m) (later e all.0) (stay_behind m d ds h all.1) where
  later : (e : Deadline) → is_before e d ≡ false → nat_le e.moment m ≡ false
  later e k = grind (arith, nat_tests)

  by : (b : Bool) → b ≡ false → open_after m ds ≡ ds → cond (not b) (e ∷ open_after m ds) (open_after m ds) ≡ e ∷ ds
  by true k r = absurd (let q : true ≡ false = k in cc)
  by false k r = ap (λ (s : List Deadline). e ∷ s) r

-- without the first due deadline the others are due, and the same stay open
pub pop_leaves : (m : ℕ) (ds : List Deadline) (p : ℕ) → AreOrdered ds → slice_get (due m ds) 0 ≡ Some p → (due m (drop 1 ds) ≡ drop 1 (due m ds)) × (open_after m (drop 1 ds) ≡ open_after m ds)
pop_leaves m [] p o h = absurd (let q : None ≡ Some p = h in cc)
pop_leaves m (d ∷ ds) p o h = by (nat_le d.moment m) refl h where
  by : (b : Bool) → nat_le d.moment m ≡ b → slice_get (map (λ (d : Deadline). d.port) (cond b (d ∷ filter (λ (d : Deadline). nat_le d.moment m) ds) (filter (λ (d : Deadline). nat_le d.moment m) ds))) 0 ≡ Some p → (due m ds ≡ drop 1 (map (λ (d : Deadline). d.port) (cond b (d ∷ filter (λ (d : Deadline). nat_le d.moment m) ds) (filter (λ (d : Deadline). nat_le d.moment m) ds)))) × (open_after m ds ≡ cond (not b) (d ∷ open_after m ds) (open_after m ds))
  by true k r = (refl, refl)
  by false k r =
      let gone : slice_get (due m ds) 0 ≡ None = ap (λ (xs : List ℕ). slice_get xs 0) (none_due m d ds k o.0) in
      absurd (let q : None ≡ Some p = sym gone ∙ r in cc)

-- where none is due, all stay open
pub none_leaves : (m : ℕ) (ds : List Deadline) → AreOrdered ds → slice_get (due m ds) 0 ≡ None → open_after m ds ≡ ds
none_leaves m [] o h = refl
none_leaves m (d ∷ ds) o h = by (nat_le d.moment m) refl h where
  by : (b : Bool) → nat_le d.moment m ≡ b → slice_get (map (λ (d : Deadline). d.port) (cond b (d ∷ filter (λ (d : Deadline). nat_le d.moment m) ds) (filter (λ (d : Deadline). nat_le d.moment m) ds))) 0 ≡ None → cond (not b) (d ∷ open_after m ds) (open_after m ds) ≡ d ∷ ds
  by true k r = absurd (let q : Some d.port ≡ None = r in cc)
  by false k r = ap (λ (s : List Deadline). d ∷ s) (stay_behind m d ds k o.0)

-- parts of an ordered list are ordered
none_in_front : (d : Deadline) (xs ys : List Deadline) → NoDeadlineBefore d (xs ++ ys) → NoDeadlineBefore d xs
none_in_front d [] ys all = tt
none_in_front d (x ∷ xs) ys all = (all.0, none_in_front d xs ys all.1)

none_there : (d e : Deadline) (xs ys : List Deadline) → NoDeadlineBefore d (xs ++ e ∷ ys) → is_before e d ≡ false
none_there d e [] ys all = all.0
none_there d e (x ∷ xs) ys all = none_there d e xs ys all.1

pub ordered_front : (xs ys : List Deadline) → AreOrdered (xs ++ ys) → AreOrdered xs
ordered_front [] ys o = tt
ordered_front (x ∷ xs) ys o = (none_in_front x xs ys o.0, ordered_front xs ys o.1)

pub ordered_back : (xs : List Deadline) (e : Deadline) (ys : List Deadline) → AreOrdered (xs ++ e ∷ ys) → AreOrdered ys
ordered_back [] e ys o = o.1
ordered_back (x ∷ xs) e ys o = ordered_back xs e ys o.1

-- a deadline is opened on the side of another on which it stands
pub opened_before : (d : Deadline) (xs : List Deadline) (e : Deadline) (ys : List Deadline) → is_before d e ≡ true → opened d (xs ++ e ∷ ys) ≡ opened d xs ++ e ∷ ys
opened_before d [] e ys h = ap (λ (b : Bool). cond b (d ∷ e ∷ ys) (e ∷ opened d ys)) h
opened_before d (x ∷ xs) e ys h = by (is_before d x) (opened_before d xs e ys h) where
  by : (b : Bool) → opened d (xs ++ e ∷ ys) ≡ opened d xs ++ e ∷ ys → cond b (d ∷ x ∷ (xs ++ e ∷ ys)) (x ∷ opened d (xs ++ e ∷ ys)) ≡ cond b (d ∷ x ∷ xs) (x ∷ opened d xs) ++ e ∷ ys
  by true k = refl
  by false k = ap (λ (r : List Deadline). x ∷ r) k

not_earlier : (d e x : Deadline) → is_before d e ≡ false → is_before e x ≡ false → is_before d x ≡ false
not_earlier d e x h k = grind (arith, nat_tests)

pub opened_behind : (d : Deadline) (xs : List Deadline) (e : Deadline) (ys : List Deadline) → is_before d e ≡ false → AreOrdered (xs ++ e ∷ ys) → opened d (xs ++ e ∷ ys) ≡ xs ++ e ∷ opened d ys
opened_behind d [] e ys h o = ap (λ (b : Bool). cond b (d ∷ e ∷ ys) (e ∷ opened d ys)) h
opened_behind d (x ∷ xs) e ys h o =
    ap (λ (b : Bool). cond b (d ∷ x ∷ (xs ++ e ∷ ys)) (x ∷ opened d (xs ++ e ∷ ys))) (not_earlier d e x h (none_there x e xs ys o.0)) ∙ ap (λ (r : List Deadline). x ∷ r) (opened_behind d xs e ys h o.1)

pub length-opened : (d : Deadline) (xs : List Deadline) → length (opened d xs) ≡ length xs + 1
length-opened d [] = refl
length-opened d (x ∷ xs) = by (is_before d x) (length-opened d xs) where
  by : (b : Bool) → length (opened d xs) ≡ length xs + 1 → length (cond b (d ∷ x ∷ xs) (x ∷ opened d xs)) ≡ length (x ∷ xs) + 1
  by true h = grind arith
  by false h = grind arith

-- which deadline is the first one, when one more is opened
pub first_opened : (d : Deadline) (ds : List Deadline) → Some (earlier_deadline (slice_get ds 0) d) ≡ slice_get (opened d ds) 0
first_opened d [] = refl
first_opened d (e ∷ ds) = by (is_before d e) where
  by : (b : Bool) → Some (cond b d e) ≡ slice_get (cond b (d ∷ e ∷ ds) (e ∷ opened d ds)) 0
  by true = refl
  by false = refl

-- a deadline behind which none stands is opened last
pub opened_end : (d : Deadline) (xs ys : List Deadline) → AreOrdered (xs ++ d ∷ ys) → opened d xs ≡ xs ++ d ∷ []
opened_end d [] ys o = refl
opened_end d (x ∷ xs) ys o = ap (λ (b : Bool). cond b (d ∷ x ∷ xs) (x ∷ opened d xs)) (none_there x d xs ys o.0) ∙ ap (λ (r : List Deadline). x ∷ r) (opened_end d xs ys o.1)

-- it doesn't stand before the other one, if there is one
abbrev pub NotBefore : Deadline → Option Deadline → Type 0
NotBefore d None = Unit {0}
NotBefore d (Some e) = is_before d e ≡ false

not_before_first : (d x y : Deadline) (ys : List Deadline) → NoDeadlineBefore x (y ∷ ys) → NotBefore d (slice_get (y ∷ ys) (length ys)) → is_before d x ≡ false
not_before_first d x y [] all h = not_earlier d y x h all.0
not_before_first d x y (z ∷ zs) all h = not_before_first d x z zs all.1 h

opened_behind_all : (d x : Deadline) (xs : List Deadline) → AreOrdered (x ∷ xs) → NotBefore d (slice_get (x ∷ xs) (length xs)) → opened d (x ∷ xs) ≡ (x ∷ xs) ++ d ∷ []
opened_behind_all d x [] o h = ap (λ (b : Bool). cond b (d ∷ x ∷ []) (x ∷ d ∷ [])) h
opened_behind_all d x (y ∷ ys) o h =
    ap (λ (b : Bool). cond b (d ∷ x ∷ y ∷ ys) (x ∷ opened d (y ∷ ys))) (not_before_first d x y ys o.0 h) ∙ ap (λ (r : List Deadline). x ∷ r) (opened_behind_all d y ys o.1 h)

pub opened_last : (d : Deadline) (ds : List Deadline) (n : ℕ) (o : Option Deadline) → AreOrdered ds → n ≡ length ds - 1 → o ≡ slice_get ds n → NotBefore d o → opened d ds ≡ ds ++ d ∷ []
opened_last d [] n o r e s h = refl
opened_last d (x ∷ xs) n o r e s h =
    let last : n ≡ length xs = omega arith in
    opened_behind_all d x xs r (subst (NotBefore d) (s ∙ ap (slice_get (x ∷ xs)) last) h)

-- a deadline that stands before those of the second list is opened in the first one
pub opened_in_front : (d : Deadline) (xs ys : List Deadline) → IsInFront d ys → opened d (xs ++ ys) ≡ opened d xs ++ ys
opened_in_front d xs [] h = ap (opened d) (append-nil xs) ∙ sym (append-nil (opened d xs))
opened_in_front d xs (e ∷ ys) h = opened_before d xs e ys h
