-- `loop` and `while`, by the forms of their lists.
use Rattle.std.proofs.Common.{◌≡◌, ℕ, ◌+◌, ◌<◌, List, [], ◌∷◌, ◌++◌, length, drop, get_or, refl, sym, ap, ap₂, ◌∙◌, arith, append-nil, length-append, Option, None, Some, Bool, true, false, cond, nat_lt, ◌≤◌, ◌*◌, ◌-◌, length-drop}
use Rattle.std.specs.List.{list_any}
use Rattle.std.proofs.lemmas.List.{length-map}
use Rattle.ca_term.specs.declared.place.Place.{Place}
use Rattle.ca_term.specs.declared.head.Head.TheVariants.{Recur}
use Rattle.ca_term.specs.Kernel.{Kernel, Kernels, loop, empty}
use Rattle.ca_reader.specs.declared.form.Form.{Form}
use Rattle.ca_reader.specs.View.{form_tree}
use Rattle.ca_forms.specs.declared.error.CheckError.{CheckError}
use Rattle.ca_forms.specs.declared.error.CheckErrorKind.{CheckErrorKind}
use Rattle.ca_forms.specs.declared.error.CheckErrorKind.TheVariants.{BadForm, TooMany}
use Rattle.ca_forms.specs.Binders.{Part, Bound, Binder, is_vector, bindings_in, is_pattern, spread, bounds}
use Rattle.ca_forms.specs.Judged.{bounds_error, bound_names, total_bounds, total_binder}
use Rattle.ca_forms.specs.Meaning.{Env, Meaning, Named, size, inner, means_in_order, operation, block, behind, binds, loops, fail_with, numbered}
use Rattle.ca_forms.specs.Outcome.{Gathered, done, refused, limited}
use Rattle.ca_forms.specs.Plain.{meanings, binders, looping, loop_of, row_loop, row_while}
use Rattle.ca_forms.specs.Rounds.{loop_parts, loop_names, turn_of, rounds, recur_term}
use Rattle.ca_forms.specs.Walk.{walk, within}
use Rattle.ca_forms.specs.WalkView.{part, form_parts, form_pairs, Fails}
use Rattle.ca_forms.proofs.PartLaws.{parts_second, after_fails}
use Rattle.ca_forms.proofs.RoundLaws.{turns, turn_walked, turn_fails, turn_body_fails, loops_walked, loops_fails}
use Rattle.ca_forms.proofs.ShapeLaws.{given, bounds_are, drop_pair}

-- a `loop` by what its bindings are judged to be
pub row_loop_right : (p : Place) (b : Part) (es : List Part) (e : Env) → bounds_error (bindings_in b) ≡ None → row_loop p (b ∷ es) e ≡ loop_parts p (b ∷ es) e
row_loop_right p b es e h = by (is_vector b.form) (bounds b.within) (bounds_are b.within) h where
  tested : (c : Bool) (bs : List Bound) → bs ≡ total_bounds b.within → cond c (Some TooMany) None ≡ None
      → cond c (fail_with TooMany p) (looping bs (block (meanings es)) p) e ≡ loop_parts p (b ∷ es) e
  tested true bs u h = absurd (cc)
  tested false bs u h = ap (λ z. looping z (block (meanings es)) p e) u

  by : (v : Bool) (o : Option (List Bound)) → ((bs : List Bound) → o ≡ Some bs → bs ≡ total_bounds b.within) → bounds_error (cond v o None) ≡ None
      → loop_of (cond v o None) (block (meanings es)) p e ≡ loop_parts p (b ∷ es) e
  by false o u h = absurd (cc)
  by true None u h = absurd (cc)
  by true (Some bs) u h = tested (nat_lt 64 (length bs)) bs (u bs refl) h

pub row_loop_wrong : (p : Place) (b : Part) (es : List Part) (e : Env) (s : Gathered) (k : CheckErrorKind) → bounds_error (bindings_in b) ≡ Some k → row_loop p (b ∷ es) e s ≡ refused k p
row_loop_wrong p b es e s k h = by (bindings_in b) h where
  tested : (c : Bool) (m : Meaning) → cond c (Some TooMany) None ≡ Some k → cond c (fail_with TooMany p) m e s ≡ refused k p
  tested true m h = ap (λ z. refused z p) (given TooMany k h)
  tested false m h = absurd (cc)

  by : (o : Option (List Bound)) → bounds_error o ≡ Some k → loop_of o (block (meanings es)) p e s ≡ refused k p
  by None h = ap (λ z. refused z p) (given BadForm k h)
  by (Some bs) h = tested (nat_lt 64 (length bs)) (looping bs (block (meanings es)) p) h

pub loop_right : (p : Place) (fs : List Form) (b : Form) (e : Env) → 1 < length fs → b ≡ get_or fs 1 b → bounds_error (bindings_in (part b)) ≡ None
    → row_loop p (form_parts (drop 1 fs)) e ≡ loop_parts p (form_parts (drop 1 fs)) e
loop_right p fs b e h x k = rw (parts_second fs b h x) (row_loop_right p (part b) (form_parts (drop 2 fs)) e k)

pub loop_wrong : (p : Place) (fs : List Form) (b : Form) (e : Env) (s : Gathered) (k : CheckErrorKind) → 1 < length fs → b ≡ get_or fs 1 b → bounds_error (bindings_in (part b)) ≡ Some k
    → row_loop p (form_parts (drop 1 fs)) e s ≡ refused k p
loop_wrong p fs b e s k h x y = rw (parts_second fs b h x) (row_loop_wrong p (part b) (form_parts (drop 2 fs)) e s k y)

abbrev pub has_pattern : Form → Bool
has_pattern b = list_any is_pattern (binders (total_bounds (within (form_tree b))))

pub by_names : (p : Place) (fs : List Form) (b : Form) (e : Env) → 1 < length fs → b ≡ get_or fs 1 b → has_pattern b ≡ false
    → loop_parts p (form_parts (drop 1 fs)) e ≡ loop_names p (form_parts (drop 1 fs)) e
by_names p fs b e h x k = rw (parts_second fs b h x, k) refl

-- the names that a loop binds
abbrev pub looped : Place → ℕ → Form → List Named
looped p n b = spread p n (total_bounds (within (form_tree b)))

module _ (p : Place) (fs : List Form) (b : Form) (e : Env) (n : ℕ) (sc2 : List (List ℕ)) (h : 1 < length fs) (x : b ≡ get_or fs 1 b)
    (names : sc2 ≡ e.scope ++ bound_names (looped p (size e) b)) (longer : length sc2 ≡ size e + n) where
  as_many : length (looped p (size e) b) ≡ n
  as_many =
      let a : length sc2 ≡ size e + length (bound_names (looped p (size e) b)) = ap (λ (z : List (List ℕ)). length z) names ∙ length-append e.scope (bound_names (looped p (size e) b)) in
      let d : length (bound_names (looped p (size e) b)) ≡ length (looped p (size e) b) = length-map (looped p (size e) b) (λ m. m.name) in
      omega (arith, a, d, longer)

  inside : record (behind (looped p (size e) b) e) { target = Some (length (looped p (size e) b)) } ≡ record e { scope = sc2; target = Some n }
  inside = ap₂ (λ sc k. record e { scope = sc; target = Some k }) (sym names) as_many

  pub names_walked : (vs : List Kernel) (u : Kernel) (s s1 s2 : Gathered) → binds (looped p (size e) b) e s ≡ done (numbered (size e) vs) s1
      → block (meanings (form_parts (drop 2 fs))) (record e { scope = sc2; target = Some n }) s1 ≡ done u s2
      → loop_names p (form_parts (drop 1 fs)) e s ≡ limited (loop [] (numbered (size e) vs) u) s2
  names_walked vs u s s1 s2 w v = ap (λ ps. loop_names p ps e s) (parts_second fs b h x)
      ∙ loops_walked (looped p (size e) b) (block (meanings (form_parts (drop 2 fs)))) e (numbered (size e) vs) s s1 (done u s2) w (ap (λ i. block (meanings (form_parts (drop 2 fs))) i s1) inside ∙ v)

  pub names_body_fails : (q : CheckError) (vs : List Kernel) (s s1 : Gathered) → binds (looped p (size e) b) e s ≡ done (numbered (size e) vs) s1
      → Fails q (block (meanings (form_parts (drop 2 fs))) (record e { scope = sc2; target = Some n }) s1) → Fails q (loop_names p (form_parts (drop 1 fs)) e s)
  names_body_fails q vs s s1 w v = rw (parts_second fs b h x)
      (loops_fails q (looped p (size e) b) (block (meanings (form_parts (drop 2 fs)))) e (numbered (size e) vs) s s1 w (rw inside v))

pub names_value_fails : (p : Place) (fs : List Form) (b : Form) (e : Env) (s : Gathered) (q : CheckError) → 1 < length fs → b ≡ get_or fs 1 b → Fails q (binds (looped p (size e) b) e s)
    → Fails q (loop_names p (form_parts (drop 1 fs)) e s)
names_value_fails p fs b e s q h x w = rw (parts_second fs b h x) (after_fails q (binds (looped p (size e) b) e s) _ w)

-- (while c e ..)
module _ (p : Place) (fs : List Form) (c : Form) (e : Env) (h : 1 < length fs) (x : c ≡ get_or fs 1 c) where
  aside : inner (record (behind [] e) { target = Some 0 }) ≡ inner e
  aside = ap (λ sc. record e { scope = sc; target = None }) (append-nil e.scope)

  while_is : (s : Gathered) → row_while p (form_parts (drop 1 fs)) e s ≡ loops [] (turns (walk (form_tree c)) (meanings (form_parts (drop 2 fs))) (operation Recur [] p)) e s
  while_is s = ap (λ ps. row_while p ps e s) (parts_second fs c h x)

  pub while_walked : (n : ℕ) (t : Kernel) (ts : Kernels) (s s1 s2 : Gathered) → walk (form_tree c) (inner e) s ≡ done t s1 → means_in_order (meanings (form_parts (drop 2 fs))) (inner e) s1 ≡ done ts s2
      → row_while p (form_parts (drop 1 fs)) e s ≡ rounds n [] t ts (recur_term [] p) s2
  while_walked n t ts s s1 s2 w v = while_is s
      ∙ loops_walked [] (turns (walk (form_tree c)) (meanings (form_parts (drop 2 fs))) (operation Recur [] p)) e empty s s (turn_of t ts (recur_term [] p) s2) refl
      (turn_walked (walk (form_tree c)) (operation Recur [] p) (meanings (form_parts (drop 2 fs))) (record (behind [] e) { target = Some 0 }) t (recur_term [] p) ts s s1 s2
      (ap (λ i. walk (form_tree c) i s) aside ∙ w) (ap (λ i. means_in_order (meanings (form_parts (drop 2 fs))) i s1) aside ∙ v) refl)

  pub while_fails : (q : CheckError) (s : Gathered) → Fails q (walk (form_tree c) (inner e) s) → Fails q (row_while p (form_parts (drop 1 fs)) e s)
  while_fails q s w = rw (while_is s) (loops_fails q [] (turns (walk (form_tree c)) (meanings (form_parts (drop 2 fs))) (operation Recur [] p)) e empty s s refl
      (turn_fails q (walk (form_tree c)) (operation Recur [] p) (meanings (form_parts (drop 2 fs))) (record (behind [] e) { target = Some 0 }) s (rw aside w)))

  pub while_body_fails : (q : CheckError) (t : Kernel) (s s1 : Gathered) → walk (form_tree c) (inner e) s ≡ done t s1 → Fails q (means_in_order (meanings (form_parts (drop 2 fs))) (inner e) s1)
      → Fails q (row_while p (form_parts (drop 1 fs)) e s)
  while_body_fails q t s s1 w v = rw (while_is s) (loops_fails q [] (turns (walk (form_tree c)) (meanings (form_parts (drop 2 fs))) (operation Recur [] p)) e empty s s refl
      (turn_body_fails q (walk (form_tree c)) (operation Recur [] p) (meanings (form_parts (drop 2 fs))) (record (behind [] e) { target = Some 0 }) t s s1
      (ap (λ i. walk (form_tree c) i s) aside ∙ w) (rw aside v)))

-- whether a pattern stands among bindings
abbrev pub binders_from : List Form → ℕ → List Binder
binders_from fs i = binders (total_bounds (form_pairs (drop (2 * i) fs)))

pub binders_step : (fs : List Form) (i : ℕ) (f : Form) → 2 * i + 1 < length fs → f ≡ get_or fs (2 * i) f → binders_from fs i ≡ total_binder (form_tree f) ∷ binders_from fs (i + 1)
binders_step fs i f h x = ap (λ qs. binders (total_bounds qs)) (drop_pair fs (2 * i) f h x) ∙ ap (λ n. total_binder (form_tree f) ∷ binders (total_bounds (form_pairs (drop n fs)))) next where
  next : 2 * i + 2 ≡ 2 * (i + 1)
  next = omega arith

pub pattern_here : (fs : List Form) (i : ℕ) (f : Form) → 2 * i + 1 < length fs → f ≡ get_or fs (2 * i) f → is_pattern (total_binder (form_tree f)) ≡ true → true ≡ list_any is_pattern (binders_from fs i)
pattern_here fs i f h x t = rw (binders_step fs i f h x, t) refl

pub pattern_not : (fs : List Form) (i : ℕ) (f : Form) → 2 * i + 1 < length fs → f ≡ get_or fs (2 * i) f → is_pattern (total_binder (form_tree f)) ≡ false
    → list_any is_pattern (binders_from fs (i + 1)) ≡ list_any is_pattern (binders_from fs i)
pattern_not fs i f h x t = rw (binders_step fs i f h x, t) refl

pub pattern_over : (fs : List Form) (i : ℕ) → length fs ≤ 2 * i + 1 → false ≡ list_any is_pattern (binders_from fs i)
pattern_over fs i h = by (drop (2 * i) fs) (length-drop (2 * i) fs) where
  by : (gs : List Form) → length gs ≡ length fs - 2 * i → false ≡ list_any is_pattern (binders (total_bounds (form_pairs gs)))
  by [] e = refl
  by (g ∷ []) e = refl
  by (g ∷ k ∷ gs) e = absurd (omega (arith, e, h))
