-- The forms of a list, read as parts from a place on.
use Rattle.std.proofs.Common.{◌≡◌, ℕ, zero, suc, List, [], ◌∷◌, ◌++◌, length, map, drop, get_or, ◌<◌, ◌≤◌, ◌+◌, ◌-◌, refl, sym, ap, ◌∙◌, add-one, drop-cons, length-drop, arith, ◌⊎◌, inl, inr, Bool, true, false, cond, nat_eq, nat_lt, Some, Result, Ok, Err, IfOk, IfErr}
use Rattle.std.proofs.Math.ListN.{drop_of_length-le}
use Rattle.std.proofs.lemmas.Bool.{eq-eqb, eqb-true, lt-ltb, le-ltb}
use Rattle.ca_value.specs.Builtins.{admits_arguments}
use Rattle.ca_value.specs.Tree.{Tree}
use Rattle.ca_value.specs.declared.builtin.Builtin.{Builtin as BuiltinName}
use Rattle.ca_value.specs.declared.builtin.Builtin.TheVariants.{Get}
use Rattle.ca_value.specs.Tree.{key}
use Rattle.ca_term.specs.declared.head.Head.TheVariants.{Recur, Builtin, Call}
use Rattle.ca_term.specs.declared.place.Place.{Place}
use Rattle.ca_term.specs.declared.term.Term.{Term}
use Rattle.ca_term.specs.Kernel.{Kernel, Kernels, none, item, const, seq, apply}
use Rattle.ca_term.specs.View.{kernel, kernels}
use Rattle.ca_reader.specs.declared.form.Form.{Form}
use Rattle.ca_reader.specs.View.{form_tree}
use Rattle.ca_forms.specs.declared.error.CheckErrorKind.TheVariants.{BadForm, BadArity, TooMany}
use Rattle.ca_forms.specs.declared.error.CheckError.{CheckError}
use Rattle.ca_forms.specs.declared.error.CheckError.TheVariants.{Fault, OutOfMemory}
use Rattle.ca_forms.specs.Outcome.{Gathered, WalkOutcome, done, refused, after_walk, limited}
use Rattle.ca_forms.specs.Meaning.{Env, Meaning, Signature, means_in_order, before_others, block, operation, fail_with, iff, inner, local_name, constant_value}
use Rattle.ca_forms.specs.Plain.{meanings, row_if, row_if_not, row_recur, recur_of}
use Rattle.ca_forms.specs.Names.{builtin_call, function_call, row_keyword, written_text}
use Rattle.ca_forms.specs.Operands.{with_vars, with_second}
use Rattle.ca_forms.specs.Binders.{counted}
use Rattle.ca_forms.specs.Walk.{walk}
use Rattle.ca_forms.specs.WalkView.{part, form_parts, Fails}
use Rattle.ca_forms.proofs.TermLaws.{followed, followed_end, kernels_more}

pub after_after : {A B C : Type 0} (o : WalkOutcome A) (k : A → Gathered → WalkOutcome B) (l : B → Gathered → WalkOutcome C) → after_walk (after_walk o k) l ≡ after_walk o (λ a s. after_walk (k a s) l)
after_after (done a s) k l = refl
after_after (refused e p) k l = refl

pub after_same : {A B : Type 0} (o : WalkOutcome A) (k l : A → Gathered → WalkOutcome B) → ((a : A) (s : Gathered) → k a s ≡ l a s) → after_walk o k ≡ after_walk o l
after_same (done a s) k l e = e a s
after_same (refused x p) k l e = refl

pub after_fails : {A B : Type 0} (x : CheckError) (o : WalkOutcome A) (k : A → Gathered → WalkOutcome B) → Fails x o → Fails x (after_walk o k)
after_fails OutOfMemory o k h = tt
after_fails (Fault m p) o k h = rw h refl

-- as many meanings as forms
pub count : (fs : List Form) → length (meanings (form_parts fs)) ≡ length fs
count [] = refl
count (f ∷ fs) = ap suc (count fs)

pub count_drop : (n : ℕ) (fs : List Form) → length (meanings (form_parts (drop n fs))) ≡ length fs - n
count_drop n fs = count (drop n fs) ∙ length-drop n fs

pub count_parts : (fs : List Form) → length (form_parts fs) ≡ length fs
count_parts [] = refl
count_parts (f ∷ fs) = ap suc (count_parts fs)

pub two_parts : (fs : List Form) (a : Form) (b : Form) → length fs ≡ 3 → a ≡ get_or fs 1 a → b ≡ get_or fs 2 b → form_parts (drop 1 fs) ≡ part a ∷ part b ∷ []
two_parts [] a b h x y = absurd (omega (arith, h))
two_parts (f ∷ []) a b h x y = absurd (omega (arith, h))
two_parts (f ∷ g ∷ []) a b h x y = absurd (omega (arith, h))
two_parts (f ∷ g ∷ k ∷ []) a b h x y = rw (x, y) refl
two_parts (f ∷ g ∷ k ∷ m ∷ fs) a b h x y = absurd (omega (arith, h))

pub three_parts : (fs : List Form) (a : Form) (b : Form) (d : Form) → length fs ≡ 4 → a ≡ get_or fs 1 a → b ≡ get_or fs 2 b → d ≡ get_or fs 3 d → form_parts (drop 1 fs) ≡ part a ∷ part b ∷ part d ∷ []
three_parts [] a b d h x y z = absurd (omega (arith, h))
three_parts (f ∷ []) a b d h x y z = absurd (omega (arith, h))
three_parts (f ∷ g ∷ []) a b d h x y z = absurd (omega (arith, h))
three_parts (f ∷ g ∷ k ∷ []) a b d h x y z = absurd (omega (arith, h))
three_parts (f ∷ g ∷ k ∷ m ∷ []) a b d h x y z = rw (x, y, z) refl
three_parts (f ∷ g ∷ k ∷ m ∷ n ∷ fs) a b d h x y z = absurd (omega (arith, h))

pub if_off : (fs : List Form) (p : Place) (e : Env) (s : Gathered) → (length fs < 3) ⊎ (4 < length fs) → row_if p (form_parts (drop 1 fs)) e s ≡ refused BadForm p
if_off [] p e s h = refl
if_off (f ∷ []) p e s h = refl
if_off (f ∷ g ∷ []) p e s h = refl
if_off (f ∷ g ∷ k ∷ []) p e s h = absurd (elim h [ inl a ↦ omega (arith, a) | inr b ↦ omega (arith, b) ])
if_off (f ∷ g ∷ k ∷ m ∷ []) p e s h = absurd (elim h [ inl a ↦ omega (arith, a) | inr b ↦ omega (arith, b) ])
if_off (f ∷ g ∷ k ∷ m ∷ n ∷ fs) p e s h = refl

pub if_not_off : (fs : List Form) (p : Place) (e : Env) (s : Gathered) → (length fs < 3) ⊎ (4 < length fs) → row_if_not p (form_parts (drop 1 fs)) e s ≡ refused BadForm p
if_not_off [] p e s h = refl
if_not_off (f ∷ []) p e s h = refl
if_not_off (f ∷ g ∷ []) p e s h = refl
if_not_off (f ∷ g ∷ k ∷ []) p e s h = absurd (elim h [ inl a ↦ omega (arith, a) | inr b ↦ omega (arith, b) ])
if_not_off (f ∷ g ∷ k ∷ m ∷ []) p e s h = absurd (elim h [ inl a ↦ omega (arith, a) | inr b ↦ omega (arith, b) ])
if_not_off (f ∷ g ∷ k ∷ m ∷ n ∷ fs) p e s h = refl

-- a block that isn't empty
pub block_some : (fs : List Form) (i : ℕ) (e : Env) (s : Gathered) → i < length fs
    → block (meanings (form_parts (drop i fs))) e s ≡ after_walk (means_in_order (meanings (form_parts (drop i fs))) e s) (λ ts s. limited (seq ts) s)
block_some fs i e s h = by (drop i fs) (rw (length-drop i fs) (omega arith)) where
  by : (gs : List Form) → 0 < length gs → block (meanings (form_parts gs)) e s ≡ after_walk (means_in_order (meanings (form_parts gs)) e s) (λ ts s. limited (seq ts) s)
  by [] h = absurd (omega (arith, h))
  by (g ∷ gs) h = refl

pub cut_at : (fs : List Form) (i : ℕ) (f : Form) → i < length fs → f ≡ get_or fs i f → drop i fs ≡ f ∷ drop (i + 1) fs
cut_at fs i f h g = rw (add-one, drop-cons fs i f h) (ap (λ x. x ∷ drop (suc i) fs) (sym g))

-- one more of the terms of a list
pub in_order_step : (fs : List Form) (i : ℕ) (f : Form) (e : Env) (ts : List Term) (t : Term) (s s2 : Gathered)
    → i < length fs → f ≡ get_or fs i f → walk (form_tree f) (before_others (length fs - (i + 1)) e) s ≡ done (kernel t) s2
    → after_walk (means_in_order (meanings (form_parts (drop i fs))) e s) (λ us s. done (followed (kernels ts) us) s)
    ≡ after_walk (means_in_order (meanings (form_parts (drop (i + 1) fs))) e s2) (λ us s. done (followed (kernels (ts ++ t ∷ [])) us) s)
in_order_step fs i f e ts t s s2 h g w =
    let cut : drop i fs ≡ f ∷ drop (i + 1) fs = cut_at fs i f h g in
    let here : walk (form_tree f) (before_others (length (meanings (form_parts (drop (i + 1) fs)))) e) s ≡ done (kernel t) s2 = rw (count (drop (i + 1) fs), length-drop (i + 1) fs) w in
    rw (cut, here) (after_after (means_in_order (meanings (form_parts (drop (i + 1) fs))) e s2) _ _
    ∙ after_same (means_in_order (meanings (form_parts (drop (i + 1) fs))) e s2) _ _ (λ us s. ap (λ k. done k s) (sym (kernels_more ts t us))))

pub in_order_over : (fs : List Form) (i : ℕ) (e : Env) (s : Gathered) (ts : List Term) → length fs ≤ i
    → after_walk (means_in_order (meanings (form_parts (drop i fs))) e s) (λ us s. done (followed (kernels ts) us) s) ≡ done (kernels ts) s
in_order_over fs i e s ts h = rw (drop_of_length-le fs {i = i} h) (ap (λ k. done k s) (followed_end (kernels ts)))

pub in_order_fails : (x : CheckError) (fs : List Form) (i : ℕ) (f : Form) (e : Env) (s : Gathered) (k : Kernels → Gathered → WalkOutcome Kernels) (o : WalkOutcome Kernels)
    → o ≡ after_walk (means_in_order (meanings (form_parts (drop i fs))) e s) k
    → i < length fs → f ≡ get_or fs i f → Fails x (walk (form_tree f) (before_others (length fs - (i + 1)) e) s) → Fails x o
in_order_fails OutOfMemory fs i f e s k o same h g w = tt
in_order_fails (Fault m p) fs i f e s k o same h g w =
    let here : walk (form_tree f) (before_others (length (meanings (form_parts (drop (i + 1) fs)))) e) s ≡ refused m p = rw (count (drop (i + 1) fs), length-drop (i + 1) fs) w in
    same ∙ rw (cut_at fs i f h g, here) refl

-- a test of two numbers, decided
pub same_count : {A : Type 0} (ms : List A) (n : ℕ) (x y : Meaning) → length ms ≡ n → cond (nat_eq (length ms) n) x y ≡ x
same_count ms n x y h = rw (eq-eqb (length ms) n h) refl

pub other_count : {A : Type 0} (ms : List A) (n : ℕ) (x y : Meaning) → (length ms ≡ n → ⊥) → cond (nat_eq (length ms) n) x y ≡ y
other_count ms n x y h = by (nat_eq (length ms) n) (λ e. h (eqb-true (length ms) n e)) where
  by : (b : Bool) → (b ≡ true → ⊥) → cond b x y ≡ y
  by true differs = absurd (differs refl)
  by false differs = refl

pub recur_fits : (fs : List Form) (n : ℕ) (p : Place) (e : Env) → e.target ≡ Some n → length fs - 1 ≡ n
    → row_recur p (form_parts (drop 1 fs)) e ≡ operation Recur (meanings (form_parts (drop 1 fs))) p e
recur_fits fs n p e t h = ap (λ o. recur_of o (meanings (form_parts (drop 1 fs))) p e) t
    ∙ ap (λ (m : Meaning). m e) (same_count (meanings (form_parts (drop 1 fs))) n (operation Recur (meanings (form_parts (drop 1 fs))) p) (fail_with BadArity p) (count_drop 1 fs ∙ h))

pub recur_off : (fs : List Form) (n : ℕ) (p : Place) (e : Env) (s : Gathered) → e.target ≡ Some n → (length fs - 1 ≡ n → ⊥)
    → row_recur p (form_parts (drop 1 fs)) e s ≡ refused BadArity p
recur_off fs n p e s t h = ap (λ o. recur_of o (meanings (form_parts (drop 1 fs))) p e s) t
    ∙ ap (λ (m : Meaning). m e s) (other_count (meanings (form_parts (drop 1 fs))) n (operation Recur (meanings (form_parts (drop 1 fs))) p) (fail_with BadArity p) (λ x. h (sym (count_drop 1 fs) ∙ x)))

pub builtin_fits : (b : BuiltinName) (fs : List Form) (i : ℕ) (p : Place) → admits_arguments b (length fs - i) ≡ true
    → builtin_call b (meanings (form_parts (drop i fs))) p ≡ operation (Builtin b) (meanings (form_parts (drop i fs))) p
builtin_fits b fs i p h = rw (count_drop i fs, h) refl

pub builtin_off : (b : BuiltinName) (fs : List Form) (i : ℕ) (p : Place) → admits_arguments b (length fs - i) ≡ false
    → builtin_call b (meanings (form_parts (drop i fs))) p ≡ fail_with BadArity p
builtin_off b fs i p h = rw (count_drop i fs, h) refl

pub iff_second : (x : CheckError) (m a b : Meaning) (e : Env) (s : Gathered) (t : Kernel) (s2 : Gathered) → m (inner e) s ≡ done t s2 → Fails x (a e s2) → Fails x (iff m a b e s)
iff_second OutOfMemory m a b e s t s2 h r = tt
iff_second (Fault q p) m a b e s t s2 h r = rw (h, r) refl

-- outside tail position all operands stand alike
pub before_inner : (n : ℕ) (e : Env) → before_others n (inner e) ≡ inner e
before_inner zero e = refl
before_inner (suc n) e = refl

-- names behind operands
pub in_order_vars : (ns : List ℕ) (e : Env) (s : Gathered) → means_in_order (map local_name ns) (inner e) s ≡ done (with_vars none ns) s
in_order_vars [] e s = refl
in_order_vars (n ∷ ns) e s = rw (in_order_vars ns e s) refl

pub in_order_behind : (ms : List Meaning) (ns : List ℕ) (e : Env) (s : Gathered)
    → means_in_order (ms ++ map local_name ns) (inner e) s ≡ after_walk (means_in_order ms (inner e) s) (λ ts s. done (with_vars ts ns) s)
in_order_behind [] ns e s = in_order_vars ns e s
in_order_behind (m ∷ ms) ns e s = rw (before_inner (length (ms ++ map local_name ns)) e, before_inner (length ms) e) (by (m (inner e) s) (λ s2. in_order_behind ms ns e s2)) where
  by : (o : WalkOutcome Kernel) → ((s2 : Gathered) → means_in_order (ms ++ map local_name ns) (inner e) s2 ≡ after_walk (means_in_order ms (inner e) s2) (λ ts s. done (with_vars ts ns) s))
      → after_walk o (λ t s. after_walk (means_in_order (ms ++ map local_name ns) (inner e) s) (λ ts s. done (item t ts) s))
      ≡ after_walk (after_walk o (λ t s. after_walk (means_in_order ms (inner e) s) (λ ts s. done (item t ts) s))) (λ ts s. done (with_vars ts ns) s)
  by (refused x p) ih = refl
  by (done t s) ih = rw (ih s) (rest (means_in_order ms (inner e) s)) where
    rest : (o : WalkOutcome Kernels) → after_walk (after_walk o (λ ts s. done (with_vars ts ns) s)) (λ ts s. done (item t ts) s)
        ≡ after_walk (after_walk o (λ ts s. done (item t ts) s)) (λ ts s. done (with_vars ts ns) s)
    rest (refused x p) = refl
    rest (done ts s) = refl

pub function_fits : (n : ℕ) (f : Signature) (fs : List Form) (p : Place) (e : Env) (s : Gathered) → length fs - 1 ≡ f.arity
    → function_call n f (meanings (form_parts (drop 1 fs))) p e s
    ≡ after_walk (means_in_order (meanings (form_parts (drop 1 fs))) (inner e) s) (λ ts s. limited (apply (Call n) (with_vars ts f.hidden) p) s)
function_fits n f fs p e s h = ap (λ (m : Meaning). m e s) (same_count (meanings (form_parts (drop 1 fs))) f.arity
    (operation (Call n) (meanings (form_parts (drop 1 fs)) ++ map local_name f.hidden) p) (fail_with BadArity p) (count_drop 1 fs ∙ h))
    ∙ ap (λ (o : WalkOutcome Kernels). after_walk o (λ ts s. limited (apply (Call n) ts p) s)) (in_order_behind (meanings (form_parts (drop 1 fs))) f.hidden e s)
    ∙ after_after (means_in_order (meanings (form_parts (drop 1 fs))) (inner e) s) _ _

pub function_off : (n : ℕ) (f : Signature) (fs : List Form) (p : Place) (e : Env) (s : Gathered) → (length fs - 1 ≡ f.arity → ⊥)
    → function_call n f (meanings (form_parts (drop 1 fs))) p e s ≡ refused BadArity p
function_off n f fs p e s h = ap (λ (m : Meaning). m e s) (other_count (meanings (form_parts (drop 1 fs))) f.arity
    (operation (Call n) (meanings (form_parts (drop 1 fs)) ++ map local_name f.hidden) p) (fail_with BadArity p) (λ x. h (sym (count_drop 1 fs) ∙ x)))

-- a keyword at the head
pub keyword_off : (k : List ℕ) (q p : Place) (fs : List Form) (e : Env) (s : Gathered) → (length fs < 2) ⊎ (3 < length fs)
    → row_keyword k q (meanings (form_parts (drop 1 fs))) p e s ≡ refused BadArity p
keyword_off k q p [] e s h = refl
keyword_off k q p (f ∷ []) e s h = refl
keyword_off k q p (f ∷ a ∷ []) e s h = absurd (elim h [ inl a ↦ omega (arith, a) | inr b ↦ omega (arith, b) ])
keyword_off k q p (f ∷ a ∷ b ∷ []) e s h = absurd (elim h [ inl a ↦ omega (arith, a) | inr b ↦ omega (arith, b) ])
keyword_off k q p (f ∷ a ∷ b ∷ d ∷ fs) e s h = refl

abbrev pub Keyed : List ℕ → Place → Place → List Form → Env → Gathered → Type 0
Keyed k q p fs e s = row_keyword k q (meanings (form_parts (drop 1 fs))) p e s
    ≡ written_text k q (λ e s. after_walk (means_in_order (meanings (form_parts (drop 1 fs))) (inner e) s) (λ ts s. limited (apply (Builtin Get) (with_second ts (const (key k))) p) s)) e s

pub keyword_on : (k : List ℕ) (q p : Place) (fs : List Form) (e : Env) (s : Gathered) → 2 ≤ length fs → length fs ≤ 3 → Keyed k q p fs e s
keyword_on k q p [] e s h g = absurd (omega (arith, h))
keyword_on k q p (f ∷ []) e s h g = absurd (omega (arith, h))
keyword_on k q p (f ∷ a ∷ []) e s h g = ap (λ (m : Meaning). written_text k q m e s) (λ i e s. by e (walk (form_tree a) (inner e) s) i) where
  by : (e : Env) (o : WalkOutcome Kernel) → after_walk (after_walk o (λ t s. after_walk (done (item (const (key k)) none) s) (λ ts s. done (item t ts) s))) (λ ts s. limited (apply (Builtin Get) ts p) s)
      ≡ after_walk (after_walk o (λ t s. done (item t none) s)) (λ ts s. limited (apply (Builtin Get) (with_second ts (const (key k))) p) s)
  by e (done t s) = refl
  by e (refused x r) = refl
keyword_on k q p (f ∷ a ∷ b ∷ []) e s h g = ap (λ (m : Meaning). written_text k q m e s) (λ i e s. by e (walk (form_tree a) (inner e) s) i) where
  by : (e : Env) (o : WalkOutcome Kernel)
      → after_walk (after_walk o (λ t s. after_walk (after_walk (after_walk (walk (form_tree b) (inner e) s) (λ t s. done (item t none) s)) (λ ts s. done (item (const (key k)) ts) s)) (λ ts s. done (item t ts) s))) (λ ts s. limited (apply (Builtin Get) ts p) s)
      ≡ after_walk (after_walk o (λ t s. after_walk (after_walk (walk (form_tree b) (inner e) s) (λ t s. done (item t none) s)) (λ ts s. done (item t ts) s))) (λ ts s. limited (apply (Builtin Get) (with_second ts (const (key k))) p) s)
  by e (refused x r) = refl
  by e (done t s) = last (walk (form_tree b) (inner e) s) where
    last : (o : WalkOutcome Kernel) → after_walk (after_walk (after_walk (after_walk o (λ t s. done (item t none) s)) (λ ts s. done (item (const (key k)) ts) s)) (λ ts s. done (item t ts) s)) (λ ts s. limited (apply (Builtin Get) ts p) s)
        ≡ after_walk (after_walk (after_walk o (λ t s. done (item t none) s)) (λ ts s. done (item t ts) s)) (λ ts s. limited (apply (Builtin Get) (with_second ts (const (key k))) p) s)
    last (done u s) = refl
    last (refused x r) = refl
keyword_on k q p (f ∷ a ∷ b ∷ d ∷ fs) e s h g = absurd (omega (arith, g))

-- a text that is short enough
pub written_short : (k : List ℕ) (q : Place) (m : Meaning) → length k ≤ 65535 → written_text k q m ≡ m
written_short k q m h = ap (λ b. cond b (fail_with TooMany q) m) (le-ltb 65535 (length k) h)

pub written_fails : (x : CheckError) (k : List ℕ) (q : Place) (v : Tree) (m : Meaning) (e : Env) (s : Gathered) → Fails x (written_text k q (constant_value v) e s) → Fails x (written_text k q m e s)
written_fails OutOfMemory k q v m e s h = tt
written_fails (Fault c p) k q v m e s h = by (nat_lt 65535 (length k)) h where
  by : (b : Bool) → cond b (fail_with TooMany q) (constant_value v) e s ≡ refused c p → cond b (fail_with TooMany q) m e s ≡ refused c p
  by true h = h
  by false h = absurd (cc)

-- the items of a list are counted first
pub counted_past : (fs : List Form) (p : Place) (m : Meaning) (e : Env) (s : Gathered) → 4096 < length fs → counted (length (form_parts fs)) p m e s ≡ refused TooMany p
counted_past fs p m e s h = rw (count_parts fs, lt-ltb 4096 (length fs) h) refl

pub counted_within : (fs : List Form) (p : Place) (m : Meaning) → length fs ≤ 4096 → counted (length (form_parts fs)) p m ≡ m
counted_within fs p m h = rw (count_parts fs, le-ltb 4096 (length fs) h) refl

-- a fact for all, at some
pub ok_at : {A E X Y : Type 0} (P : X → Y → A → Type 0) (r : Result A E) (x : X) (y : Y) → IfOk r (λ t. (x : X) (y : Y) → P x y t) → IfOk r (P x y)
ok_at P (Ok t) x y h = h x y
ok_at P (Err e) x y h = tt

pub err_at : {A E X Y : Type 0} (P : X → Y → E → Type 0) (r : Result A E) (x : X) (y : Y) → IfErr r (λ t. (x : X) (y : Y) → P x y t) → IfErr r (P x y)
err_at P (Ok t) x y h = tt
err_at P (Err e) x y h = h x y

pub ok_for : {A E X : Type 0} (P : X → A → Type 0) (r : Result A E) (x : X) → IfOk r (λ t. (x : X) → P x t) → IfOk r (P x)
ok_for P (Ok t) x h = h x
ok_for P (Err e) x h = tt

pub err_for : {A E X : Type 0} (P : X → E → Type 0) (r : Result A E) (x : X) → IfErr r (λ t. (x : X) → P x t) → IfErr r (P x)
err_for P (Ok t) x h = tt
err_for P (Err e) x h = h x

pub parts_second : (fs : List Form) (b : Form) → 1 < length fs → b ≡ get_or fs 1 b → form_parts (drop 1 fs) ≡ part b ∷ form_parts (drop 2 fs)
parts_second [] b h x = absurd (omega (arith, h))
parts_second (f ∷ []) b h x = absurd (omega (arith, h))
parts_second (f ∷ g ∷ fs) b h x = ap (λ z. part z ∷ form_parts fs) (sym x)
