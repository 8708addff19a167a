-- Forms that bind a tested value, and forms with the only binding of a vector of two.
use Rattle.std.proofs.Common.{◌≡◌, ℕ, ◌<◌, List, [], ◌∷◌, ◌++◌, length, drop, get_or, refl, sym, ap, ap₂, ◌∙◌, arith, Option, None, Some, is_some, Bool, true, false}
use Rattle.ca_value.specs.declared.seq.Seq.{Seq}
use Rattle.ca_value.specs.Seq.{list}
use Rattle.ca_term.specs.declared.place.Place.{Place}
use Rattle.ca_term.specs.Kernel.{Kernel, var, branch, bind, empty, binding}
use Rattle.ca_reader.specs.declared.form.Form.{Form}
use Rattle.ca_reader.specs.declared.form.Shape.{Vector}
use Rattle.ca_reader.specs.declared.form.Bracket.TheVariants.{Round, Square, Curly}
use Rattle.ca_reader.specs.Form.{FormTree, form, atom, group, none, item, nil, bool, int, text, key, symbol}
use Rattle.ca_reader.specs.View.{form_tree, form_trees}
use Rattle.ca_forms.specs.declared.error.CheckError.{CheckError}
use Rattle.ca_forms.specs.declared.error.CheckError.TheVariants.{Fault, OutOfMemory}
use Rattle.ca_forms.specs.declared.error.CheckErrorKind.TheVariants.{BadForm}
use Rattle.ca_forms.specs.Binders.{Pair, Part, Binder, Bound, one, many, free_name, name_in, names_in, binder, single, pattern, bounds, with_bound, bindings_in, whole_name}
use Rattle.ca_check.specs.Choices.{first_in, second_means, only_means, tested_by, row_bound, bound_shape, bound_body, bound_other, test_term, bound_choice}
use Rattle.ca_forms.specs.Judged.{total_name, total_binder}
use Rattle.ca_forms.specs.Meaning.{Env, Meaning, Named, size, inner, behind_name, block, hide, iff, local_name, name_as, nothing}
use Rattle.ca_forms.specs.Outcome.{Gathered, WalkOutcome, done, refused, after_walk, limited}
use Rattle.ca_forms.specs.Plain.{meanings, one_bound, if_bound}
use Rattle.ca_forms.specs.Rounds.{under}
use Rattle.ca_forms.specs.Walk.{walk, within}
use Rattle.ca_forms.specs.WalkView.{part, form_parts, form_pairs, Fails}
use Rattle.ca_forms.proofs.PartLaws.{after_after, after_fails, parts_second}
use Rattle.ca_forms.proofs.RoundLaws.{block_one}
use Rattle.ca_forms.proofs.ShapeLaws.{given, binder_is, tree_vector}

-- a binding's name is that of its form
pub whole_is : (f : FormTree) → whole_name (total_binder f) ≡ total_name f
whole_is (form (atom (symbol s)) p) = refl
whole_is (form (atom nil) p) = refl
whole_is (form (atom (bool b)) p) = refl
whole_is (form (atom (int z)) p) = refl
whole_is (form (atom (text s)) p) = refl
whole_is (form (atom (key s)) p) = refl
whole_is (form (group Square fs) p) = refl
whole_is (form (group Round fs) p) = refl
whole_is (form (group Curly fs) p) = refl

-- two bindings aren't one
pub some_bound : (g : Pair) (qs : List Pair) → bounds (g ∷ qs) ≡ Some [] → ⊥
some_bound g [] h = cc
some_bound g (k ∷ qs) h = by (binder g.form) (bounds qs) h where
  by : (b : Option Binder) (o : Option (List Bound)) → with_bound b k.means o ≡ Some [] → ⊥
  by None o h = cc
  by (Some b) None h = cc
  by (Some b) (Some bs) h = let e : record { by = b; means = k.means } ∷ bs ≡ [] = given (record { by = b; means = k.means } ∷ bs) [] h in cc

not_one : (b : Option Binder) (m : Meaning) (o : Option (List Bound)) → (o ≡ Some [] → ⊥) → one_bound (with_bound b m o) ≡ None
not_one None m o h = refl
not_one (Some b) m None h = refl
not_one (Some b) m (Some []) h = absurd (h refl)
not_one (Some b) m (Some (d ∷ bs)) h = refl

one_named : (t : FormTree) (m : Meaning) (y : Named) → one_bound (with_bound (binder t) m (Some [])) ≡ Some y → (y.name ≡ total_name t) × (y.means ≡ m)
one_named t m y h = by (binder t) (binder_is t) h where
  by : (b : Option Binder) → ((c : Binder) → b ≡ Some c → c ≡ total_binder t) → one_bound (with_bound b m (Some [])) ≡ Some y → (y.name ≡ total_name t) × (y.means ≡ m)
  by None u h = absurd (cc)
  by (Some (many xs q)) u h = absurd (cc)
  by (Some (one x)) u h =
      let e : record { name = x; means = m } ≡ y = given (record { name = x; means = m }) y h in
      (ap (λ z. z.name) (sym e) ∙ ap whole_name (u (one x) refl) ∙ whole_is t, ap (λ z. z.means) (sym e))

pub only_is : (f : FormTree) (y : Named) → one_bound (bindings_in (record { form = f; means = walk f; within = within f })) ≡ Some y
    → (y.name ≡ total_name (first_in f)) × (y.means ≡ only_means f)
only_is (form (atom a) p) y h = absurd (cc)
only_is (form (group Round fs) p) y h = absurd (cc)
only_is (form (group Curly fs) p) y h = absurd (cc)
only_is (form (group Square none) p) y h = absurd (cc)
only_is (form (group Square (item b none)) p) y h = absurd (cc)
only_is (form (group Square (item b (item e none))) p) y h = one_named b (walk e) y h
only_is (form (group Square (item b (item e (item g fs)))) p) y h =
    let off : one_bound (bindings_in (record { form = form (group Square (item b (item e (item g fs)))) p; means = walk (form (group Square (item b (item e (item g fs)))) p); within = within (form (group Square (item b (item e (item g fs)))) p) })) ≡ None
    = not_one (binder b) (walk e) _ (some_bound (record { form = g; means = walk g }) _) in
    absurd (clash off h) where
      clash : {o : Option Named} → o ≡ None → o ≡ Some y → ⊥
      clash u v = cc

-- whether the only binding is that of a name
one_some : (t : FormTree) (m : Meaning) → is_some (one_bound (with_bound (binder t) m (Some []))) ≡ is_some (name_in t)
one_some (form (atom a) p) m = by (free_name a) where
  by : (o : Option (List ℕ)) → is_some (one_bound (with_bound (single o) m (Some []))) ≡ is_some o
  by None = refl
  by (Some x) = refl
one_some (form (group Square fs) p) m = by (names_in fs) where
  by : (o : Option (List (List ℕ))) → is_some (one_bound (with_bound (pattern o p) m (Some []))) ≡ false
  by None = refl
  by (Some xs) = refl
one_some (form (group Round fs) p) m = refl
one_some (form (group Curly fs) p) m = refl

-- a vector form
pub vector_bindings : (f : Form) (s : Seq Form) → f.shape ≡ Vector s → bindings_in (part f) ≡ bounds (form_pairs (list s))
vector_bindings f s e = ap (λ (t : FormTree). bindings_in (record { form = t; means = walk t; within = within t })) (tree_vector f s e)

pub only_name : (f : Form) (s : Seq Form) (b : Form) → f.shape ≡ Vector s → length (list s) ≡ 2 → b ≡ get_or (list s) 0 b → is_some (name_in (form_tree b)) ≡ is_some (one_bound (bindings_in (part f)))
only_name f s b e h x = by (list s) h x ∙ ap (λ o. is_some (one_bound o)) (sym (vector_bindings f s e)) where
  by : (fs : List Form) → length fs ≡ 2 → b ≡ get_or fs 0 b → is_some (name_in (form_tree b)) ≡ is_some (one_bound (bounds (form_pairs fs)))
  by [] h x = absurd (omega (arith, h))
  by (k ∷ []) h x = absurd (omega (arith, h))
  by (k ∷ g ∷ []) h x = ap (λ z. is_some (name_in (form_tree z))) x ∙ sym (one_some (form_tree k) (walk (form_tree g)))
  by (k ∷ g ∷ m ∷ fs) h x = absurd (omega (arith, h))

pub only_off : (f : Form) (s : Seq Form) → f.shape ≡ Vector s → (length (list s) ≡ 2 → ⊥) → false ≡ is_some (one_bound (bindings_in (part f)))
only_off f s e h = by (list s) h ∙ ap (λ o. is_some (one_bound o)) (sym (vector_bindings f s e)) where
  by : (fs : List Form) → (length fs ≡ 2 → ⊥) → false ≡ is_some (one_bound (bounds (form_pairs fs)))
  by [] h = refl
  by (k ∷ []) h = refl
  by (k ∷ g ∷ []) h = absurd (h refl)
  by (k ∷ g ∷ m ∷ fs) h = ap (λ o. is_some o) (sym (not_one (binder (form_tree k)) (walk (form_tree g)) _ (some_bound (record { form = form_tree m; means = walk (form_tree m) }) (form_pairs fs))))

pub first_is : (f : Form) (s : Seq Form) (b : Form) → f.shape ≡ Vector s → length (list s) ≡ 2 → b ≡ get_or (list s) 0 b → form_tree b ≡ first_in (form_tree f)
first_is f s b e h x = by (list s) h x ∙ ap first_in (sym (tree_vector f s e)) where
  by : (fs : List Form) → length fs ≡ 2 → b ≡ get_or fs 0 b → form_tree b ≡ first_in (form (group Square (form_trees fs)) f.place)
  by [] h x = absurd (omega (arith, h))
  by (k ∷ []) h x = absurd (omega (arith, h))
  by (k ∷ g ∷ []) h x = ap form_tree x
  by (k ∷ g ∷ m ∷ fs) h x = absurd (omega (arith, h))

pub first_off : (f : Form) (s : Seq Form) → f.shape ≡ Vector s → (length (list s) ≡ 2 → ⊥) → form_tree f ≡ first_in (form_tree f)
first_off f s e h = tree_vector f s e ∙ by (list s) h ∙ ap first_in (sym (tree_vector f s e)) where
  by : (fs : List Form) → (length fs ≡ 2 → ⊥) → form (group Square (form_trees fs)) f.place ≡ first_in (form (group Square (form_trees fs)) f.place)
  by [] h = refl
  by (k ∷ []) h = refl
  by (k ∷ g ∷ []) h = absurd (h refl)
  by (k ∷ g ∷ m ∷ fs) h = refl

pub second_off : (fs : List Form) → (length fs ≡ 2 → ⊥) → second_means (form_trees fs) ≡ nothing
second_off [] h = refl
second_off (k ∷ []) h = refl
second_off (k ∷ g ∷ []) h = absurd (h refl)
second_off (k ∷ g ∷ m ∷ fs) h = refl

-- the tested value under a name
pub then_walked : (x : List ℕ) (n : ℕ) (body : Meaning) (e : Env) (sc2 : List (List ℕ)) (u : Kernel) (s s2 : Gathered) → sc2 ≡ e.scope ++ x ∷ [] → body (record e { scope = sc2 }) s ≡ done u s2
    → name_as x (local_name n) body e s ≡ limited (bind (binding (size e) (var n) empty) u) s2
then_walked x n body e sc2 u s s2 c h = ap (λ (o : WalkOutcome Kernel). after_walk o (λ u s. limited (bind (binding (size e) (var n) empty) u) s)) (ap (λ sc. body (record e { scope = sc }) s) (sym c) ∙ h)

pub then_fails : (q : CheckError) (x : List ℕ) (n : ℕ) (body : Meaning) (e : Env) (sc2 : List (List ℕ)) (s : Gathered) → sc2 ≡ e.scope ++ x ∷ [] → Fails q (body (record e { scope = sc2 }) s)
    → Fails q (name_as x (local_name n) body e s)
then_fails OutOfMemory x n body e sc2 s c h = tt
then_fails (Fault k p) x n body e sc2 s c h = ap (λ (o : WalkOutcome Kernel). after_walk o (λ u s. limited (bind (binding (size e) (var n) empty) u) s)) (ap (λ sc. body (record e { scope = sc }) s) (sym c) ∙ h)

-- a form under a hidden name whose value was walked
pub hide_walked : (m : Meaning) (k : ℕ → Meaning) (e : Env) (v : Kernel) (s s1 : Gathered) (o : WalkOutcome Kernel) → m (inner e) s ≡ done v s1 → k (size e) (behind_name [] e) s1 ≡ o
    → hide m k e s ≡ after_walk o (λ w s. under (size e) (v ∷ []) w s)
hide_walked m k e v s s1 o h g = rw h (ap (λ z. after_walk z (λ u s. limited (bind (binding (size e) v empty) u) s)) (block_one (k (size e)) (behind_name [] e) s1)
    ∙ after_after (k (size e) (behind_name [] e) s1) _ _ ∙ ap (λ z. after_walk z (λ w s. under (size e) (v ∷ []) w s)) g)

pub hide_fails : (x : CheckError) (m : Meaning) (k : ℕ → Meaning) (e : Env) (s : Gathered) → Fails x (m (inner e) s) → Fails x (hide m k e s)
hide_fails x m k e s h = after_fails x _ _ (after_fails x _ _ h)

pub hidden_fails : (x : CheckError) (m : Meaning) (k : ℕ → Meaning) (e : Env) (v : Kernel) (s s1 : Gathered) → m (inner e) s ≡ done v s1 → Fails x (k (size e) (behind_name [] e) s1) → Fails x (hide m k e s)
hidden_fails OutOfMemory m k e v s s1 h g = tt
hidden_fails (Fault q p) m k e v s s1 h g = hide_walked m k e v s s1 (refused q p) h g

test_is : (some : Bool) (p : Place) (n : ℕ) (e : Env) (s : Gathered) → tested_by some p n e s ≡ done (test_term some n p) s
test_is true p n e s = refl
test_is false p n e s = refl

-- the form by its parts
abbrev pub tested_form : Bool → Place → FormTree → Meaning → Meaning → Meaning
tested_form some p f body other = hide (only_means f) (λ h. iff (tested_by some p h) (name_as (total_name (first_in f)) (local_name h) body) other)

module _ (some : Bool) (p : Place) (f : FormTree) (body other : Meaning) (e : Env) (s : Gathered) where
  pub bound_walked : (v u w : Kernel) (s1 s2 s3 : Gathered) → only_means f (inner e) s ≡ done v s1
      → name_as (total_name (first_in f)) (local_name (size e)) body (behind_name [] e) s1 ≡ done u s2 → other (behind_name [] e) s2 ≡ done w s3
      → tested_form some p f body other e s ≡ bound_choice some (size e) (v ∷ []) u w p s3
  bound_walked v u w s1 s2 s3 h g k = hide_walked (only_means f) (λ h. iff (tested_by some p h) (name_as (total_name (first_in f)) (local_name h) body) other) e v s s1 (limited (branch (test_term some (size e) p) u w) s3) h
      (rw (test_is some p (size e) (inner (behind_name [] e)) s1, g, k) refl)

  pub bound_value_fails : (x : CheckError) → Fails x (only_means f (inner e) s) → Fails x (tested_form some p f body other e s)
  bound_value_fails x h = hide_fails x (only_means f) (λ h. iff (tested_by some p h) (name_as (total_name (first_in f)) (local_name h) body) other) e s h

  pub bound_body_fails : (x : CheckError) (v : Kernel) (s1 : Gathered) → only_means f (inner e) s ≡ done v s1
      → Fails x (name_as (total_name (first_in f)) (local_name (size e)) body (behind_name [] e) s1) → Fails x (tested_form some p f body other e s)
  bound_body_fails OutOfMemory v s1 h g = tt
  bound_body_fails (Fault q r) v s1 h g = hidden_fails (Fault q r) (only_means f) (λ h. iff (tested_by some p h) (name_as (total_name (first_in f)) (local_name h) body) other) e v s s1 h (rw (test_is some p (size e) (inner (behind_name [] e)) s1, g) refl)

  pub bound_other_fails : (x : CheckError) (v u : Kernel) (s1 s2 : Gathered) → only_means f (inner e) s ≡ done v s1
      → name_as (total_name (first_in f)) (local_name (size e)) body (behind_name [] e) s1 ≡ done u s2 → Fails x (other (behind_name [] e) s2) → Fails x (tested_form some p f body other e s)
  bound_other_fails OutOfMemory v u s1 s2 h g k = tt
  bound_other_fails (Fault q r) v u s1 s2 h g k = hidden_fails (Fault q r) (only_means f) (λ h. iff (tested_by some p h) (name_as (total_name (first_in f)) (local_name h) body) other) e v s s1 h (rw (test_is some p (size e) (inner (behind_name [] e)) s1, g, k) refl)

-- a row by what its shape is judged to be
module _ (some : Bool) (p : Place) (x : Part) (nm : List ℕ) (m : Meaning) (e : Env) (s : Gathered) where
  right_some : (o : Option Named) (a b : Meaning) → ((y : Named) → o ≡ Some y → (y.name ≡ nm) × (y.means ≡ m)) → is_some o ≡ true
      → if_bound (tested_by some) o a b p e s ≡ hide m (λ h. iff (tested_by some p h) (name_as nm (local_name h) a) b) e s
  right_some None a b f h = absurd (cc)
  right_some (Some y) a b f h = ap₂ (λ z w. hide w (λ h. iff (tested_by some p h) (name_as z (local_name h) a) b) e s) (f y refl).0 (f y refl).1

  wrong_some : (o : Option Named) (a b : Meaning) → is_some o ≡ false → if_bound (tested_by some) o a b p e s ≡ refused BadForm p
  wrong_some None a b h = refl
  wrong_some (Some y) a b h = absurd (cc)

  row_right : (branches : Bool) (ps : List Part) → ((y : Named) → one_bound (bindings_in x) ≡ Some y → (y.name ≡ nm) × (y.means ≡ m)) → bound_shape branches (x ∷ ps) ≡ true
      → row_bound some branches p (x ∷ ps) e s ≡ hide m (λ h. iff (tested_by some p h) (name_as nm (local_name h) (bound_body branches ps)) (bound_other branches ps)) e s
  row_right true [] f h = absurd (cc)
  row_right true (a ∷ []) f h = right_some (one_bound (bindings_in x)) (block (a.means ∷ [])) nothing f h
  row_right true (a ∷ b ∷ []) f h = right_some (one_bound (bindings_in x)) (block (a.means ∷ [])) b.means f h
  row_right true (a ∷ b ∷ d ∷ ps) f h = absurd (cc)
  row_right false ps f h = right_some (one_bound (bindings_in x)) (block (meanings ps)) nothing f h

  row_wrong : (branches : Bool) (ps : List Part) → bound_shape branches (x ∷ ps) ≡ false → row_bound some branches p (x ∷ ps) e s ≡ refused BadForm p
  row_wrong true [] h = refl
  row_wrong true (a ∷ []) h = wrong_some (one_bound (bindings_in x)) (block (a.means ∷ [])) nothing h
  row_wrong true (a ∷ b ∷ []) h = wrong_some (one_bound (bindings_in x)) (block (a.means ∷ [])) b.means h
  row_wrong true (a ∷ b ∷ d ∷ ps) h = refl
  row_wrong false ps h = wrong_some (one_bound (bindings_in x)) (block (meanings ps)) nothing h

module _ (some branches : Bool) (p : Place) (fs : List Form) (b : Form) (e : Env) (s : Gathered) (h : 1 < length fs) (x : b ≡ get_or fs 1 b) where
  pub bound_right : bound_shape branches (form_parts (drop 1 fs)) ≡ true
      → row_bound some branches p (form_parts (drop 1 fs)) e s ≡ tested_form some p (form_tree b) (bound_body branches (form_parts (drop 2 fs))) (bound_other branches (form_parts (drop 2 fs))) e s
  bound_right k = ap (λ ps. row_bound some branches p ps e s) (parts_second fs b h x)
      ∙ row_right some p (part b) (total_name (first_in (form_tree b))) (only_means (form_tree b)) e s branches (form_parts (drop 2 fs)) (only_is (form_tree b)) (ap (bound_shape branches) (sym (parts_second fs b h x)) ∙ k)

pub bound_off : (some branches : Bool) (p : Place) (fs : List Form) (e : Env) (s : Gathered) → bound_shape branches (form_parts (drop 1 fs)) ≡ false → row_bound some branches p (form_parts (drop 1 fs)) e s ≡ refused BadForm p
bound_off some branches p fs e s k = by (form_parts (drop 1 fs)) k where
  none_there : (b : Bool) → row_bound some b p [] e s ≡ refused BadForm p
  none_there true = refl
  none_there false = refl

  by : (ps : List Part) → bound_shape branches ps ≡ false → row_bound some branches p ps e s ≡ refused BadForm p
  by [] h = none_there branches
  by (x ∷ ps) h = row_wrong some p x [] nothing e s branches ps h

pub shape_less : (branches : Bool) (fs : List Form) → length fs < 2 → bound_shape branches (form_parts (drop 1 fs)) ≡ false
shape_less true [] h = refl
shape_less false [] h = refl
shape_less true (f ∷ []) h = refl
shape_less false (f ∷ []) h = refl
shape_less branches (f ∷ g ∷ fs) h = absurd (omega (arith, h))

pub shape_some : (fs : List Form) (b : Form) → 2 < length fs → length fs < 5 → b ≡ get_or fs 1 b → is_some (one_bound (bindings_in (part b))) ≡ bound_shape true (form_parts (drop 1 fs))
shape_some [] b l u x = absurd (omega (arith, l))
shape_some (f ∷ []) b l u x = absurd (omega (arith, l))
shape_some (f ∷ g ∷ []) b l u x = absurd (omega (arith, l))
shape_some (f ∷ g ∷ k ∷ []) b l u x = ap (λ z. is_some (one_bound (bindings_in (part z)))) x
shape_some (f ∷ g ∷ k ∷ m ∷ []) b l u x = ap (λ z. is_some (one_bound (bindings_in (part z)))) x
shape_some (f ∷ g ∷ k ∷ m ∷ n ∷ fs) b l u x = absurd (omega (arith, u))

pub shape_few : (fs : List Form) → length fs < 3 → false ≡ bound_shape true (form_parts (drop 1 fs))
shape_few [] h = refl
shape_few (f ∷ []) h = refl
shape_few (f ∷ g ∷ []) h = refl
shape_few (f ∷ g ∷ k ∷ fs) h = absurd (omega (arith, h))

pub shape_many : (fs : List Form) → 4 < length fs → false ≡ bound_shape true (form_parts (drop 1 fs))
shape_many [] h = absurd (omega (arith, h))
shape_many (f ∷ []) h = absurd (omega (arith, h))
shape_many (f ∷ g ∷ []) h = absurd (omega (arith, h))
shape_many (f ∷ g ∷ k ∷ []) h = absurd (omega (arith, h))
shape_many (f ∷ g ∷ k ∷ m ∷ []) h = absurd (omega (arith, h))
shape_many (f ∷ g ∷ k ∷ m ∷ n ∷ fs) h = refl

pub other_less : (branches : Bool) (fs : List Form) → length fs < 4 → bound_other branches (form_parts (drop 2 fs)) ≡ nothing
other_less false fs h = refl
other_less true [] h = refl
other_less true (f ∷ []) h = refl
other_less true (f ∷ g ∷ []) h = refl
other_less true (f ∷ g ∷ k ∷ []) h = refl
other_less true (f ∷ g ∷ k ∷ m ∷ fs) h = absurd (omega (arith, h))
