-- What is said of integers and keywords holds of the places in patterns, of which each has at most 4,096, and of the parts
-- that a script is written with.
use Rattle.std.proofs.Common.{◌≡◌, ℕ, ◌+◌, ◌<◌, ◌≤◌, ◌^◌, List, [], ◌∷◌, ◌++◌, length, refl, arith, Bool, true, false, cond, nat_lt, pos, Option, Some, None}
use Rattle.std.proofs.lemmas.Bool.Decides.{nat_tests}
use Rattle.std.proofs.lemmas.Int.{ints}
use Rattle.ca_value.specs.IsValue.{Scalars, any, written, IsInteger, IsKeyword}
use Rattle.ca_value.proofs.SoundNumbers.{whole}
use Rattle.ca_term.specs.declared.place.Place.{Place}
use Rattle.ca_term.specs.Kernel.{Kernel}
use Rattle.ca_reader.specs.Form.{FormTree, FormTrees, ShapeTree, Atom, form, atom, group, none, item, symbol, nil as nil_atom, bool as bool_atom, int as int_atom, text as text_atom, key as key_atom}
use Rattle.ca_reader.specs.Written.{FormAtoms, ShapeAtoms, AtomHas, HaveScalars}
use Rattle.ca_forms.specs.declared.error.CheckErrorKind.TheVariants.{TooMany}
use Rattle.ca_forms.specs.Outcome.{Gathered, WalkOutcome, done, refused, after_walk}
use Rattle.ca_forms.specs.Meaning.{Env, Meaning, Named, size, inner, behind_name, fail_with, binds, behind, lets, loops}
use Rattle.ca_forms.specs.Names.{written_text as within_length}
use Rattle.ca_forms.specs.Binders.{Part, Pair, Binder, Bound, one, many, counted, spread_items, spread_one, spread, width, letting}
use Rattle.ca_forms.specs.Plain.{binders}
use Rattle.ca_forms.specs.Tops.{Written, counted_patterns, noted_text, judged_body}
use Rattle.ca_forms.specs.Walk.{walked_parts, within, within_shape, pairs}
use Rattle.ca_check.proofs.Grew.{IfDone, if_after, any_done}

pub small : (scalars : Scalars) (n : ℕ) → n ≤ 4096 → IsInteger scalars (pos n)
small scalars n l = whole scalars (pos n) (grind (arith, ints))

-- each place in the pattern is as said
abbrev pub HasPlaces : Scalars → Binder → Type 0
HasPlaces scalars (one x) = Unit {0}
HasPlaces scalars (many xs q) = (i : ℕ) → i < length xs → IsInteger scalars (pos i)

abbrev pub HavePlaces : Scalars → List Binder → Type 0
HavePlaces scalars [] = Unit {0}
HavePlaces scalars (b ∷ bs) = HasPlaces scalars b × HavePlaces scalars bs

pub any_places : (bs : List Binder) → HavePlaces any bs
any_places [] = tt
any_places (one x ∷ bs) = (tt, any_places bs)
any_places (many xs q ∷ bs) = (λ i l. tt, any_places bs)

-- a fact that holds anyhow, and one that holds where something is done
pub if_any : {A : Type 0} (P : Type 0) (o : WalkOutcome A) → P → IfDone o (λ a s. P)
if_any P (done a s) x = x
if_any P (refused e q) x = tt

pub where_done : {A : Type 0} (P : Type 0) (Q : A → Gathered → Type 0) (o : WalkOutcome A) → IfDone o (λ a s. P) → (P → IfDone o Q) → IfDone o Q
where_done P Q (done a s) x f = f x
where_done P Q (refused e q) x f = tt

-- a pattern that is gone through has at most 4,096 places
pub counted_places : (scalars : Scalars) (xs : List (List ℕ)) (q : Place) (P : Type 0) (m : Meaning) (env : Env) (s : Gathered)
    → ((HasPlaces scalars (many xs q)) → IfDone (m env s) (λ t s2. P)) → IfDone (counted (length xs) q m env s) (λ t s2. P)
counted_places scalars xs q P m env s f = by (nat_lt 4096 (length xs)) refl where
  by : (b : Bool) → nat_lt 4096 (length xs) ≡ b → IfDone (cond b (fail_with TooMany q) m env s) (λ t s2. P)
  by true e = tt
  by false e = f (λ i l. small scalars i (grind (arith, nat_tests)))

-- what is known behind the last of the bindings
pub last_binds : (bs cs : List Named) (P : Type 0) → ((env : Env) (s : Gathered) → IfDone (binds cs env s) (λ ts s2. P))
    → (env : Env) (s : Gathered) → IfDone (binds (bs ++ cs) env s) (λ ts s2. P)
last_binds [] cs P f env s = f env s
last_binds (b ∷ bs) cs P f env s =
    if_after (b.means (inner env) s) _ _ _ (any_done (b.means (inner env) s)) (λ t s1 x.
    if_after (binds (bs ++ cs) (behind_name b.name env) s1) _ _ _ (last_binds bs cs P f (behind_name b.name env) s1) (λ ts s2 y. y))

pub spread_places : (scalars : Scalars) (p : Place) (n : ℕ) (bs : List Bound) (env : Env) (s : Gathered) → IfDone (binds (spread p n bs) env s) (λ ts s2. HavePlaces scalars (binders bs))
spread_places scalars p n [] env s = tt
spread_places scalars p n (b ∷ bs) env s = by b.by (λ m env s. spread_places scalars p m bs env s) where
  by : (c : Binder) → ((m : ℕ) (env : Env) (s : Gathered) → IfDone (binds (spread p m bs) env s) (λ ts s2. HavePlaces scalars (binders bs)))
      → IfDone (binds (spread_one p n c b.means ++ spread p (n + width c) bs) env s) (λ ts s2. HasPlaces scalars c × HavePlaces scalars (binders bs))
  by (one x) rest = if_after (b.means (inner env) s) _ _ _ (any_done (b.means (inner env) s)) (λ t s1 u.
      if_after (binds (spread p (n + 1) bs) (behind_name x env) s1) _ _ _ (rest (n + 1) (behind_name x env) s1) (λ ts s2 y. (tt, y)))
  by (many xs q) rest = if_after (counted (length xs) q b.means (inner env) s) _ _ _
      (counted_places scalars xs q (HasPlaces scalars (many xs q)) b.means (inner env) s (λ h. if_any (HasPlaces scalars (many xs q)) (b.means (inner env) s) h)) (λ t s1 h.
      if_after (binds (spread_items p n xs 0 ++ spread p (n + width (many xs q)) bs) (behind_name [] env) s1) _ _ _
      (last_binds (spread_items p n xs 0) (spread p (n + width (many xs q)) bs) (HavePlaces scalars (binders bs))
      (rest (n + width (many xs q))) (behind_name [] env) s1) (λ ts s2 y. (h, y)))

pub lets_places : (scalars : Scalars) (p : Place) (n : ℕ) (bs : List Bound) (body : Meaning) (env : Env) (s : Gathered) → IfDone (lets (spread p n bs) body env s) (λ t s2. HavePlaces scalars (binders bs))
lets_places scalars p n bs body env s =
    if_after (binds (spread p n bs) env s) _ _ _ (spread_places scalars p n bs env s) (λ ts s1 x. if_any (HavePlaces scalars (binders bs)) _ x)

pub loops_places : (scalars : Scalars) (p : Place) (n : ℕ) (bs : List Bound) (body : Meaning) (env : Env) (s : Gathered) → IfDone (loops (spread p n bs) body env s) (λ t s2. HavePlaces scalars (binders bs))
loops_places scalars p n bs body env s =
    if_after (binds (spread p n bs) env s) _ _ _ (spread_places scalars p n bs env s) (λ ts s1 x. if_any (HavePlaces scalars (binders bs)) _ x)

pub parameters_places : (scalars : Scalars) (bs : List Binder) (m : Meaning) (env : Env) (s : Gathered) → IfDone (counted_patterns bs m env s) (λ t s2. HavePlaces scalars bs)
parameters_places scalars [] m env s = if_any (Unit {0}) (m env s) tt
parameters_places scalars (one x ∷ bs) m env s = with_one (counted_patterns bs m env s) (parameters_places scalars bs m env s) where
  with_one : (o : WalkOutcome Kernel) → IfDone o (λ t s2. HavePlaces scalars bs) → IfDone o (λ t s2. Unit {0} × HavePlaces scalars bs)
  with_one (done t s2) h = (tt, h)
  with_one (refused e q) h = tt
parameters_places scalars (many xs q ∷ bs) m env s = counted_places scalars xs q (HavePlaces scalars (many xs q ∷ bs)) (counted_patterns bs m) env s
    (λ h. with_many h (counted_patterns bs m env s) (parameters_places scalars bs m env s)) where
      with_many : HasPlaces scalars (many xs q) → (o : WalkOutcome Kernel) → IfDone o (λ t s2. HavePlaces scalars bs) → IfDone o (λ t s2. HasPlaces scalars (many xs q) × HavePlaces scalars bs)
      with_many h (done t s2) x = (h, x)
      with_many h (refused e q) x = tt

pub judged_places : (scalars : Scalars) (w : Written) (m : Meaning) (env : Env) (s : Gathered) → IfDone (judged_body w m env s) (λ t s2. HavePlaces scalars w.parameters)
judged_places scalars w m env s = by w.note where
  noted : (n : List ℕ × Place) (b : Bool) → IfDone (cond b (fail_with TooMany n.1) (counted_patterns w.parameters m) env s) (λ t s2. HavePlaces scalars w.parameters)
  noted n true = tt
  noted n false = parameters_places scalars w.parameters m env s

  by : (o : Option (List ℕ × Place)) → IfDone (noted_text o (counted_patterns w.parameters m) env s) (λ t s2. HavePlaces scalars w.parameters)
  by None = parameters_places scalars w.parameters m env s
  by (Some n) = noted n (nat_lt 65535 (length n.0))

-- what a part and its own parts are written with
abbrev pub Has : Scalars → FormTree → Type 0
Has scalars f = FormAtoms (AtomHas scalars) f

abbrev pub PairsHave : Scalars → List Pair → Type 0
PairsHave scalars [] = Unit {0}
PairsHave scalars (q ∷ qs) = Has scalars q.form × PairsHave scalars qs

abbrev pub PartsHave : Scalars → List Part → Type 0
PartsHave scalars [] = Unit {0}
PartsHave scalars (q ∷ qs) = Has scalars q.form × PairsHave scalars q.within × PartsHave scalars qs

pub pairs_have : (scalars : Scalars) (fs : FormTrees) → HaveScalars scalars fs → PairsHave scalars (pairs fs)
pairs_have scalars none h = tt
pairs_have scalars (item f fs) h = (h.0, pairs_have scalars fs h.1)

pub within_have : (scalars : Scalars) (f : FormTree) → Has scalars f → PairsHave scalars (within f)
within_have scalars (form (atom a) p) h = tt
within_have scalars (form (group b fs) p) h = pairs_have scalars fs h

pub parts_have : (scalars : Scalars) (fs : FormTrees) → HaveScalars scalars fs → PartsHave scalars (walked_parts fs)
parts_have scalars none h = tt
parts_have scalars (item f fs) h = (h.0, within_have scalars f h.0, parts_have scalars fs h.1)

-- forms of any scalars
pub any_atom : (a : Atom) → AtomHas any a
any_atom nil_atom = tt
any_atom (bool_atom b) = tt
any_atom (int_atom z) = tt
any_atom (text_atom s) = tt
any_atom (key_atom s) = tt
any_atom (symbol s) = tt

mutual
  pub any_form : (f : FormTree) → Has any f
  any_form (form s p) = any_shape s

  pub any_shape : (s : ShapeTree) → ShapeAtoms (AtomHas any) s
  any_shape (atom a) = any_atom a
  any_shape (group b fs) = any_forms fs

  pub any_forms : (fs : FormTrees) → HaveScalars any fs
  any_forms none = tt
  any_forms (item f fs) = (any_form f, any_forms fs)
