-- Outcomes of walks, and how many names there are. (As in `ca_check`, which shows them to no other crate.)
use Rattle.std.proofs.Common.{◌≡◌, inl, inr, ⊎_elim, ℕ, zero, suc, ◌+◌, ◌<◌, ◌≤◌, List, [], ◌∷◌, length, map, refl, ap, ◌∙◌, arith, Option, Some, Bool, true, false, cond, All}
use Rattle.std.specs.Str.{bytes_eq}
use Rattle.std.proofs.lemmas.List.{length-append, length-map}
use Rattle.std.proofs.lemmas.Bool.{cases_lt}
use Rattle.ca_term.specs.declared.place.Place.{Place}
use Rattle.ca_term.specs.Closed.{IsIn}
use Rattle.ca_term.specs.Fits.{count_bindings}
use Rattle.ca_term.specs.Kernel.{Bindings, empty, binding}
use Rattle.ca_forms.specs.Outcome.{Gathered, WalkOutcome, done, refused, after_walk}
use Rattle.ca_forms.specs.Meaning.{Env, Meaning, Named, size, behind_name, behind, bindings_joined, last_position}
use Rattle.ca_forms.specs.Binders.{Binder, Bound, one, many, spread_items, spread_one, spread, width}
use Rattle.ca_forms.specs.Plain.{again}
use Rattle.ca_forms.specs.Tops.{Tops, numbers, same_names, names_of}
use Rattle.ca_forms.specs.Binders.{whole_name}
use Rattle.ca_sealed.proofs.Used.{Below}
use Rattle.ca_meaning.specs.Sound.{Each}

pub all_of_each : {A : Type 0} (P : A → Type 0) (xs : List A) → Each P xs → All P xs
all_of_each P [] e k d l = absurd (omega (arith, l))
all_of_each P (x ∷ xs) e zero d l = e.0
all_of_each P (x ∷ xs) e (suc k) d l = all_of_each P xs e.1 k d (omega (arith, l))

-- where something was done, it is this
abbrev pub IfDone : {A : Type 0} → WalkOutcome A → (A → Gathered → Type 0) → Type 0
IfDone (done a s) P = P a s
IfDone (refused e p) P = Unit {0}

pub if_after : {A B : Type 0} (o : WalkOutcome A) (f : A → Gathered → WalkOutcome B) (P : A → Gathered → Type 0) (Q : B → Gathered → Type 0)
    → IfDone o P → ((a : A) (s : Gathered) → P a s → IfDone (f a s) Q) → IfDone (after_walk o f) Q
if_after (done a s) f P Q h g = g a s h
if_after (refused e p) f P Q h g = tt

pub any_done : {A : Type 0} (o : WalkOutcome A) → IfDone o (λ a s. Unit {0})
any_done (done a s) = tt
any_done (refused e p) = tt

pub if_cond : {A : Type 0} (b : Bool) (x y : WalkOutcome A) (Q : A → Gathered → Type 0) → IfDone x Q → IfDone y Q → IfDone (cond b x y) Q
if_cond true x y Q g h = g
if_cond false x y Q g h = h

pub size_named : (x : List ℕ) (env : Env) → size (behind_name x env) ≡ suc (size env)
size_named x env = length-append env.scope (x ∷ []) ∙ omega arith

pub size_behind : (bs : List Named) (env : Env) → size (behind bs env) ≡ size env + length bs
size_behind bs env = length-append env.scope (map (λ b. b.name) bs) ∙ ap (λ n. size env + n) (length-map bs (λ b. b.name))

pub joined_count : (bs cs : Bindings) → count_bindings (bindings_joined bs cs) ≡ count_bindings bs + count_bindings cs
joined_count empty cs = omega arith
joined_count (binding n t bs) cs = omega (arith, joined_count bs cs)

-- a name's number is one of the scope
pub below_of : (x : List ℕ) (ys : List (List ℕ)) (i : ℕ) (best : Option ℕ) (n : ℕ) → ((m : ℕ) → best ≡ Some m → m < i) → last_position x ys i best ≡ Some n → n < i + length ys
below_of x [] i best n f e = omega (arith, f n e)
below_of x (y ∷ ys) i best n f e = omega (arith, below_of x ys (suc i) (cond (bytes_eq x y) (Some i) best) n (more (bytes_eq x y)) e) where
  more : (b : Bool) (m : ℕ) → cond b (Some i) best ≡ Some m → m < suc i
  more true m h = grind arith
  more false m h = omega (arith, f m h)

pub items_length : (p : Place) (h : ℕ) (xs : List (List ℕ)) (i : ℕ) → length (spread_items p h xs i) ≡ length xs
items_length p h [] i = refl
items_length p h (x ∷ xs) i = ap suc (items_length p h xs (suc i))

pub spread_one_length : (p : Place) (n : ℕ) (b : Binder) (m : Meaning) → length (spread_one p n b m) ≡ width b
spread_one_length p n (one x) m = refl
spread_one_length p n (many xs q) m = ap suc (items_length p n xs 0)

abbrev pub widths : List Bound → ℕ
widths [] = 0
widths (b ∷ bs) = width b.by + widths bs

pub spread_length : (p : Place) (n : ℕ) (bs : List Bound) → length (spread p n bs) ≡ widths bs
spread_length p n [] = refl
spread_length p n (b ∷ bs) = length-append (spread_one p n b.by b.means) (spread p (n + width b.by) bs) ∙ omega (arith, spread_one_length p n b.by b.means, spread_length p (n + width b.by) bs)

pub again_length : (n : ℕ) (bs : List Bound) → length (again n bs) ≡ length bs
again_length n [] = refl
again_length n (b ∷ bs) = ap suc (again_length (n + width b.by) bs)

pub names_length : (bs : List Binder) → length (names_of bs) ≡ length bs
names_length bs = length-map bs whole_name

pub same_names_length : (n : ℕ) (xs : List (List ℕ)) → length (same_names n xs) ≡ length xs
same_names_length n [] = refl
same_names_length n (x ∷ xs) = ap suc (same_names_length (suc n) xs)

pub numbers_below : (n m : ℕ) (xs : List (List ℕ)) → n + length xs ≤ m → Below m (numbers n xs)
numbers_below n m [] l = tt
numbers_below n m (x ∷ xs) l = (omega (arith, l), numbers_below (suc n) m xs (omega (arith, l)))

pub in_numbers : (n m : ℕ) (xs : List (List ℕ)) → n ≤ m → m < n + length xs → IsIn m (numbers n xs)
in_numbers n m [] l u = absurd (omega (arith, l, u))
in_numbers n m (x ∷ xs) l u = ⊎_elim (λ b. inr (in_numbers (suc n) m xs (omega (arith, b)) (omega (arith, u)))) (λ b. inl (omega (arith, l, b))) (cases_lt n m)

abbrev pub start : Tops
start = record { scope = []; functions = []; procedures = []; defined = 0 }

abbrev pub untouched : Gathered
untouched = record { bodies = []; deep = false }
