-- Bindings are judged two forms at a time.
use Rattle.std.proofs.Common.{◌≡◌, ℕ, suc, List, [], ◌∷◌, length, drop, get_or, ◌<◌, ◌≤◌, ◌+◌, ◌-◌, ◌*◌, ◌/◌, refl, sym, ap, ◌∙◌, add-one, drop-cons, length-drop, arith, Bool, true, false, cond, nat_eq, nat_lt, Option, None, Some, is_some, subst, rules}
use Rattle.std.proofs.lemmas.Bool.{eq-eqb, eqb-true, lt-ltb, le-ltb}
use Rattle.ca_term.specs.declared.place.Place.{Place}
use Rattle.ca_value.specs.declared.seq.Seq.{Seq}
use Rattle.ca_value.specs.Seq.{list}
use Rattle.ca_reader.specs.declared.form.Form.{Form, the_lemmas as form_lemmas}
use Rattle.ca_reader.specs.declared.form.Shape.{Text, Key, Symbol, Vector, the_lemmas as shape_lemmas}
use Rattle.ca_reader.specs.declared.form.Bracket.TheVariants.{Round, Square, Curly}
use Rattle.ca_reader.specs.Form.{FormTree, FormTrees, form, atom, group, none, item, nil, bool, int, text, key, symbol}
use Rattle.ca_reader.specs.View.{form_tree, form_trees, shape_tree}
use Rattle.ca_forms.specs.declared.error.CheckErrorKind.{CheckErrorKind}
use Rattle.ca_forms.specs.declared.error.CheckErrorKind.TheVariants.{BadForm, TooMany}
use Rattle.ca_forms.specs.Binders.{Pair, Binder, Bound, one, many, is_reserved, name_in, names_in, with_name, binder, single, pattern, bounds, with_bound, Part, is_vector, bindings_in, letting}
use Rattle.ca_forms.specs.Meaning.{Meaning, Env, fail_with, block}
use Rattle.ca_forms.specs.Outcome.{Gathered, refused}
use Rattle.ca_forms.specs.Plain.{meanings, row_let, let_of}
use Rattle.ca_forms.specs.Walk.{walk}
use Rattle.ca_forms.specs.Judged.{bounds_error, total_name, total_names, total_binder, total_bounds, let_parts}
use Rattle.ca_forms.specs.WalkView.{form_pairs}

pub given : {A : Type 0} → (x y : A) → Some x ≡ Some y → x ≡ y
given x y h = cc

pub drop_pair : (fs : List Form) (i : ℕ) (f : Form) → i + 1 < length fs → f ≡ get_or fs i f
    → form_pairs (drop i fs) ≡ record { form = form_tree f; means = walk (form_tree f) } ∷ record { form = form_tree (get_or fs (i + 1) f); means = walk (form_tree (get_or fs (i + 1) f)) } ∷ form_pairs (drop (i + 2) fs)
drop_pair fs i f h x =
    let one : drop i fs ≡ f ∷ drop (suc i) fs = rw (drop-cons fs i f (omega (arith, h))) (ap (λ z. z ∷ drop (suc i) fs) (sym x)) in
    let two : drop (suc i) fs ≡ get_or fs (suc i) f ∷ drop (suc (suc i)) fs = drop-cons fs (suc i) f (omega (arith, h)) in
    let up : suc i ≡ i + 1 = omega arith in
    let upper : suc (suc i) ≡ i + 2 = omega arith in
    ap form_pairs (one ∙ ap (λ z. f ∷ z) (two ∙ ap (λ n. get_or fs n f ∷ drop (suc (suc i)) fs) up ∙ ap (λ n. get_or fs (i + 1) f ∷ drop n fs) upper))

pub bounds_good : (fs : List Form) (i : ℕ) (f : Form) → i + 1 < length fs → f ≡ get_or fs i f → is_some (binder (form_tree f)) ≡ true
    → is_some (bounds (form_pairs (drop i fs))) ≡ is_some (bounds (form_pairs (drop (i + 2) fs)))
bounds_good fs i f h x t = rw (drop_pair fs i f h x) (by (binder (form_tree f)) (bounds (form_pairs (drop (i + 2) fs))) t) where
  by : (b : Option Binder) (o : Option (List Bound)) → is_some b ≡ true → is_some (with_bound b (walk (form_tree (get_or fs (i + 1) f))) o) ≡ is_some o
  by None o t = cc
  by (Some b) None t = refl
  by (Some b) (Some bs) t = refl

pub bounds_bad : (fs : List Form) (i : ℕ) (f : Form) → i + 1 < length fs → f ≡ get_or fs i f → is_some (binder (form_tree f)) ≡ false
    → is_some (bounds (form_pairs (drop i fs))) ≡ false
bounds_bad fs i f h x t = rw (drop_pair fs i f h x) (by (binder (form_tree f)) (bounds (form_pairs (drop (i + 2) fs))) t) where
  by : (b : Option Binder) (o : Option (List Bound)) → is_some b ≡ false → is_some (with_bound b (walk (form_tree (get_or fs (i + 1) f))) o) ≡ false
  by None o t = refl
  by (Some b) o t = cc

pub bounds_end : (fs : List Form) (i : ℕ) → length fs ≤ i + 1 → i ≤ length fs → nat_eq i (length fs) ≡ is_some (bounds (form_pairs (drop i fs)))
bounds_end fs i h g = by (drop i fs) (length-drop i fs) where
  by : (gs : List Form) → length gs ≡ length fs - i → nat_eq i (length fs) ≡ is_some (bounds (form_pairs gs))
  by [] e = eq-eqb i (length fs) (omega (arith, e, g))
  by (k ∷ []) e = neq-eqb (nat_eq i (length fs)) refl where
    differs : i ≡ length fs → ⊥
    differs x = omega (arith, e, x)

    neq-eqb : (b : Bool) → nat_eq i (length fs) ≡ b → nat_eq i (length fs) ≡ false
    neq-eqb true x = absurd (differs (eqb-true i (length fs) x))
    neq-eqb false x = x
  by (k ∷ m ∷ gs) e = absurd (omega (arith, h, e))

-- each binding is a pair
pub bounds_length : (qs : List Pair) (bs : List Bound) → bounds qs ≡ Some bs → 2 * length bs ≡ length qs
bounds_length [] bs h = subst (λ z. 2 * length z ≡ 0) (given [] bs h) refl
bounds_length (q ∷ []) bs h = cc
bounds_length (q ∷ r ∷ qs) bs h = by (binder q.form) (bounds qs) (λ cs e. bounds_length qs cs e) h where
  by : (b : Option Binder) (o : Option (List Bound)) → ((cs : List Bound) → o ≡ Some cs → 2 * length cs ≡ length qs) → with_bound b r.means o ≡ Some bs → 2 * length bs ≡ suc (suc (length qs))
  by None o ih h = cc
  by (Some b) None ih h = cc
  by (Some b) (Some cs) ih h = subst (λ z. 2 * length z ≡ suc (suc (length qs))) (given (record { by = b; means = r.means } ∷ cs) bs h) (omega (arith, ih cs refl))

pub pairs_length : (fs : List Form) → length (form_pairs fs) ≡ length fs
pairs_length [] = refl
pairs_length (f ∷ fs) = ap suc (pairs_length fs)

pub items_bad : (fs : List Form) → is_some (bounds (form_pairs fs)) ≡ false → bounds_error (bounds (form_pairs fs)) ≡ Some BadForm
items_bad fs h = by (bounds (form_pairs fs)) h where
  by : (o : Option (List Bound)) → is_some o ≡ false → bounds_error o ≡ Some BadForm
  by None h = refl
  by (Some bs) h = cc

pub items_good : (fs : List Form) → is_some (bounds (form_pairs fs)) ≡ true → bounds_error (bounds (form_pairs fs)) ≡ cond (nat_lt 64 (length fs / 2)) (Some TooMany) None
items_good fs h = by (bounds (form_pairs fs)) (λ bs e. bounds_length (form_pairs fs) bs e ∙ pairs_length fs) h where
  by : (o : Option (List Bound)) → ((bs : List Bound) → o ≡ Some bs → 2 * length bs ≡ length fs) → is_some o ≡ true → bounds_error o ≡ cond (nat_lt 64 (length fs / 2)) (Some TooMany) None
  by None f h = cc
  by (Some bs) f h = ap (λ n. cond (nat_lt 64 n) (Some TooMany) None) (half (f bs refl)) where
    half : 2 * length bs ≡ length fs → length bs ≡ length fs / 2
    half e = omega (arith, e)

-- names read without a test are those that are read with one
free_is : (s : List ℕ) (b : Bool) (x : List ℕ) → cond b None (Some s) ≡ Some x → x ≡ s
free_is s true x h = cc
free_is s false x h = cc

name_is : (f : FormTree) (x : List ℕ) → name_in f ≡ Some x → x ≡ total_name f
name_is (form (atom (symbol s)) p) x h = free_is s (is_reserved s) x h
name_is (form (atom nil) p) x h = cc
name_is (form (atom (bool b)) p) x h = cc
name_is (form (atom (int z)) p) x h = cc
name_is (form (atom (text s)) p) x h = cc
name_is (form (atom (key s)) p) x h = cc
name_is (form (group b fs) p) x h = cc

names_are : (fs : FormTrees) (xs : List (List ℕ)) → names_in fs ≡ Some xs → xs ≡ total_names fs
names_are none xs h = sym (given [] xs h)
names_are (item f fs) xs h = by (name_in f) (names_in fs) (name_is f) (names_are fs) h where
  by : (a : Option (List ℕ)) (r : Option (List (List ℕ))) → ((x : List ℕ) → a ≡ Some x → x ≡ total_name f) → ((ys : List (List ℕ)) → r ≡ Some ys → ys ≡ total_names fs)
      → with_name a r ≡ Some xs → xs ≡ total_name f ∷ total_names fs
  by None r u v h = cc
  by (Some x) None u v h = cc
  by (Some x) (Some ys) u v h = sym (given (x ∷ ys) xs h) ∙ ap (λ z. z ∷ ys) (u x refl) ∙ ap (λ z. total_name f ∷ z) (v ys refl)

pub binder_is : (f : FormTree) (b : Binder) → binder f ≡ Some b → b ≡ total_binder f
binder_is (form (atom (symbol s)) p) b h = by (is_reserved s) h where
  by : (r : Bool) → single (cond r None (Some s)) ≡ Some b → b ≡ one s
  by true h = cc
  by false h = cc
binder_is (form (atom nil) p) b h = cc
binder_is (form (atom (bool c)) p) b h = cc
binder_is (form (atom (int z)) p) b h = cc
binder_is (form (atom (text s)) p) b h = cc
binder_is (form (atom (key s)) p) b h = cc
binder_is (form (group Square fs) p) b h = by (names_in fs) (names_are fs) h where
  by : (o : Option (List (List ℕ))) → ((xs : List (List ℕ)) → o ≡ Some xs → xs ≡ total_names fs) → pattern o p ≡ Some b → b ≡ many (total_names fs) p
  by None u h = cc
  by (Some xs) u h = sym (given (many xs p) b h) ∙ ap (λ z. many z p) (u xs refl)
binder_is (form (group Round fs) p) b h = cc
binder_is (form (group Curly fs) p) b h = cc

pub bounds_are : (qs : List Pair) (bs : List Bound) → bounds qs ≡ Some bs → bs ≡ total_bounds qs
bounds_are [] bs h = sym (given [] bs h)
bounds_are (q ∷ []) bs h = cc
bounds_are (q ∷ r ∷ qs) bs h = by (binder q.form) (bounds qs) (binder_is q.form) (bounds_are qs) h where
  by : (b : Option Binder) (o : Option (List Bound)) → ((c : Binder) → b ≡ Some c → c ≡ total_binder q.form) → ((cs : List Bound) → o ≡ Some cs → cs ≡ total_bounds qs)
      → with_bound b r.means o ≡ Some bs → bs ≡ record { by = total_binder q.form; means = r.means } ∷ total_bounds qs
  by None o u v h = cc
  by (Some b) None u v h = cc
  by (Some b) (Some cs) u v h = sym (given (record { by = b; means = r.means } ∷ cs) bs h)
      ∙ ap (λ z. record { by = z; means = r.means } ∷ cs) (u b refl) ∙ ap (λ z. record { by = total_binder q.form; means = r.means } ∷ z) (v cs refl)

pub drop_two : (fs : List Form) (i : ℕ) (f g : Form) → 2 * i + 1 < length fs → f ≡ get_or fs (2 * i) f → g ≡ get_or fs (2 * i + 1) g
    → drop (2 * i) fs ≡ f ∷ g ∷ drop (2 * (i + 1)) fs
drop_two fs i f g h x y =
    let one : drop (2 * i) fs ≡ f ∷ drop (suc (2 * i)) fs = rw (drop-cons fs (2 * i) f (omega (arith, h))) (ap (λ z. z ∷ drop (suc (2 * i)) fs) (sym x)) in
    let next : suc (2 * i) ≡ 2 * i + 1 = omega arith in
    let two : drop (suc (2 * i)) fs ≡ g ∷ drop (suc (suc (2 * i))) fs = rw (drop-cons fs (suc (2 * i)) g (omega (arith, h))) (ap (λ z. z ∷ drop (suc (suc (2 * i))) fs) (ap (λ n. get_or fs n g) next ∙ sym y)) in
    let both : suc (suc (2 * i)) ≡ 2 * (i + 1) = omega arith in
    one ∙ ap (λ z. f ∷ z) (two ∙ ap (λ n. g ∷ drop n fs) both)

pub names_step : (fs : List Form) (i : ℕ) (f : Form) → i < length fs → f ≡ get_or fs i f → is_some (name_in (form_tree f)) ≡ true
    → is_some (names_in (form_trees (drop i fs))) ≡ is_some (names_in (form_trees (drop (i + 1) fs)))
names_step fs i f h x t = rw (add-one, drop-cons fs i f h, ← x) (by (name_in (form_tree f)) (names_in (form_trees (drop (suc i) fs))) t) where
  by : (a : Option (List ℕ)) (r : Option (List (List ℕ))) → is_some a ≡ true → is_some (with_name a r) ≡ is_some r
  by None r t = cc
  by (Some a) None t = refl
  by (Some a) (Some r) t = refl

pub items_many : (fs : List Form) → is_some (bounds (form_pairs fs)) ≡ true → 64 < length fs / 2 → bounds_error (bounds (form_pairs fs)) ≡ Some TooMany
items_many fs t h = items_good fs t ∙ ap (λ b. cond b (Some TooMany) None) (lt-ltb 64 (length fs / 2) h)

pub items_few : (fs : List Form) → is_some (bounds (form_pairs fs)) ≡ true → length fs / 2 ≤ 64 → bounds_error (bounds (form_pairs fs)) ≡ None
items_few fs t h = items_good fs t ∙ ap (λ b. cond b (Some TooMany) None) (le-ltb 64 (length fs / 2) h)

-- a `let` by what its bindings are judged to be
pub row_let_right : (p : Place) (b : Part) (es : List Part) (e : Env) → bounds_error (bindings_in b) ≡ None → row_let p (b ∷ es) e ≡ let_parts p (b ∷ es) e
row_let_right p b es e h = by (is_vector b.form) (bounds b.within) (bounds_are b.within) h where
  tested : (c : Bool) (bs : List Bound) → bs ≡ total_bounds b.within → cond c (Some TooMany) None ≡ None
      → cond c (fail_with TooMany p) (letting bs (block (meanings es)) p) e ≡ let_parts p (b ∷ es) e
  tested true bs u h = absurd (cc)
  tested false bs u h = ap (λ z. letting z (block (meanings es)) p e) u

  by : (v : Bool) (o : Option (List Bound)) → ((bs : List Bound) → o ≡ Some bs → bs ≡ total_bounds b.within) → bounds_error (cond v o None) ≡ None
      → let_of (cond v o None) (block (meanings es)) p e ≡ let_parts p (b ∷ es) e
  by false o u h = absurd (cc)
  by true None u h = absurd (cc)
  by true (Some bs) u h = tested (nat_lt 64 (length bs)) bs (u bs refl) h

pub row_let_wrong : (p : Place) (b : Part) (es : List Part) (e : Env) (s : Gathered) (k : CheckErrorKind) → bounds_error (bindings_in b) ≡ Some k → row_let p (b ∷ es) e s ≡ refused k p
row_let_wrong p b es e s k h = by (bindings_in b) h where
  tested : (c : Bool) (m : Meaning) → cond c (Some TooMany) None ≡ Some k → cond c (fail_with TooMany p) m e s ≡ refused k p
  tested true m h = ap (λ z. refused z p) (given TooMany k h)
  tested false m h = absurd (cc)

  by : (o : Option (List Bound)) → bounds_error o ≡ Some k → let_of o (block (meanings es)) p e s ≡ refused k p
  by None h = ap (λ z. refused z p) (given BadForm k h)
  by (Some bs) h = tested (nat_lt 64 (length bs)) (letting bs (block (meanings es)) p) h

pub names_count : (fs : List Form) → length (total_names (form_trees fs)) ≡ length fs
names_count [] = refl
names_count (f ∷ fs) = ap suc (names_count fs)

-- a form by its shape
pub tree_is : (f : Form) → form_tree f ≡ form (shape_tree f.shape) f.place
tree_is f = search (rules, form_lemmas)

pub tree_text : (f : Form) (s : Seq ℕ) → f.shape ≡ Text s → form_tree f ≡ form (atom (text (list s))) f.place
tree_text f s e = tree_is f ∙ ap (λ sh. form (shape_tree sh) f.place) e ∙ search (rules, shape_lemmas)

pub tree_key : (f : Form) (s : Seq ℕ) → f.shape ≡ Key s → form_tree f ≡ form (atom (key (list s))) f.place
tree_key f s e = tree_is f ∙ ap (λ sh. form (shape_tree sh) f.place) e ∙ search (rules, shape_lemmas)

pub tree_symbol : (f : Form) (s : Seq ℕ) → f.shape ≡ Symbol s → form_tree f ≡ form (atom (symbol (list s))) f.place
tree_symbol f s e = tree_is f ∙ ap (λ sh. form (shape_tree sh) f.place) e ∙ search (rules, shape_lemmas)

pub tree_vector : (f : Form) (s : Seq Form) → f.shape ≡ Vector s → form_tree f ≡ form (group Square (form_trees (list s))) f.place
tree_vector f s e = tree_is f ∙ ap (λ sh. form (shape_tree sh) f.place) e ∙ search (rules, shape_lemmas)

pub vector_binder : (f : Form) (s : Seq Form) → f.shape ≡ Vector s → total_binder (form_tree f) ≡ many (total_names (form_trees (list s))) f.place
vector_binder f s e = ap total_binder (tree_vector f s e)
