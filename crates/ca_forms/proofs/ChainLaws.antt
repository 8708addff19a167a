-- `and` and `or`: a walk of their operands under hidden names, and a fold from the last one back.
use Rattle.std.proofs.Common.{◌≡◌, ℕ, suc, ◌+◌, List, [], ◌∷◌, ◌++◌, length, map, Bool, true, false, cond, refl, sym, ap, ◌∙◌, arith, append_assoc, append-nil, take, drop, get_or, ◌≤◌, ◌-◌}
use Rattle.ca_reader.specs.declared.form.Form.{Form}
use Rattle.ca_reader.specs.View.{form_tree}
use Rattle.ca_forms.specs.declared.error.CheckError.{CheckError}
use Rattle.ca_forms.specs.declared.error.CheckError.TheVariants.{Fault, OutOfMemory}
use Rattle.ca_forms.specs.Walk.{walk}
use Rattle.ca_term.specs.declared.term.Term.{Term}
use Rattle.ca_term.specs.Kernel.{Kernel, Bindings, var, branch, bind, seq, none, item, empty, binding}
use Rattle.ca_term.specs.View.{kernel}
use Rattle.ca_forms.specs.Outcome.{Gathered, WalkOutcome, done, refused, after_walk, limited}
use Rattle.ca_forms.specs.Meaning.{Env, Meaning, Named, binds, unnamed, numbered, local_name, iff, hide, inner}
use Rattle.ca_forms.specs.Plain.{meanings}
use Rattle.ca_forms.specs.WalkView.{terms_of, form_parts, Fails}
use Rattle.ca_forms.specs.Judged.{bound_names, chained, chain_of, more_of}
use Rattle.ca_forms.proofs.BindLaws.{at, after_done}
use Rattle.ca_forms.proofs.PartLaws.{after_after, after_same}

pub chain_last : (both : Bool) (n : ℕ) (ts : List Term) (t : Term) (u : Kernel) (s : Gathered)
    → chain_of both (numbered n (terms_of (ts ++ t ∷ []))) u s ≡ after_walk (chained both (n + length ts) (kernel t) u s) (λ v s. chain_of both (numbered n (terms_of ts)) v s)
chain_last both n [] t u s = ap (λ m. chained both m (kernel t) u s) none_more ∙ sym (after_done (chained both (n + 0) (kernel t) u s)) where
  none_more : n ≡ n + 0
  none_more = omega arith
chain_last both n (x ∷ ts) t u s =
    ap (λ (o : WalkOutcome Kernel). after_walk o (chained both n (kernel x))) (chain_last both (suc n) ts t u s ∙ ap (λ m. after_walk (chained both m (kernel t) u s) (λ v s. chain_of both (numbered (suc n) (terms_of ts)) v s)) one_more)
    ∙ after_after (chained both (n + suc (length ts)) (kernel t) u s) _ _ where
      one_more : suc n + length ts ≡ n + suc (length ts)
      one_more = omega arith

-- a choice by the name n, the rest of the form being r
abbrev pub choice : Bool → ℕ → Meaning → Meaning
choice both n r = cond both (iff (local_name n) r (local_name n)) (iff (local_name n) (local_name n) r)

more_cons : (both : Bool) (a m : Meaning) (ms : List Meaning) → more_of both (a ∷ (ms ++ m ∷ [])) ≡ hide a (λ h. choice both h (more_of both (ms ++ m ∷ [])))
more_cons true a m [] = refl
more_cons true a m (k ∷ ms) = refl
more_cons false a m [] = refl
more_cons false a m (k ∷ ms) = refl

-- what `hide` makes of a choice
abbrev closed : ℕ → Kernel → WalkOutcome Kernel → WalkOutcome Kernel
closed n t o = after_walk (after_walk (after_walk o (λ y s. done (item y none) s)) (λ ts s. limited (seq ts) s)) (λ x s. limited (bind (binding n t empty) x) s)

closed_limited : (n : ℕ) (t : Kernel) (o : WalkOutcome Kernel)
    → closed n t o ≡ after_walk o (λ y s. after_walk (limited (seq (item y none)) s) (λ x s. limited (bind (binding n t empty) x) s))
closed_limited n t (done y s) = refl
closed_limited n t (refused x p) = refl

chosen : (both : Bool) (n : ℕ) (t : Kernel) (r : Meaning) (e : Env) (s : Gathered) → closed n t (choice both n r e s) ≡ after_walk (r e s) (chained both n t)
chosen true n t r e s = by (r e s) where
  by : (o : WalkOutcome Kernel) → closed n t (after_walk o (λ u s. limited (branch (var n) u (var n)) s)) ≡ after_walk o (chained true n t)
  by (done u s) = closed_limited n t (limited (branch (var n) u (var n)) s)
  by (refused x p) = refl
chosen false n t r e s = by (r e s) where
  by : (o : WalkOutcome Kernel) → closed n t (after_walk o (λ u s. limited (branch (var n) (var n) u) s)) ≡ after_walk o (chained false n t)
  by (done u s) = closed_limited n t (limited (branch (var n) (var n) u) s)
  by (refused x p) = refl

-- the form is a walk of all operands but the last under hidden names, of the last one where the form stands, and the fold
pub chain_is : (both : Bool) (e : Env) (ms : List Meaning) (m : Meaning) (sc : List (List ℕ)) (s : Gathered)
    → more_of both (ms ++ m ∷ []) (at e sc) s
    ≡ after_walk (binds (map unnamed ms) (at e sc) s) (λ bs s. after_walk (m (at e (sc ++ bound_names (map unnamed ms))) s) (λ t s. chain_of both bs t s))
chain_is true e [] m sc s = sym (after_done (m (at e (sc ++ [])) s) ∙ ap (λ z. m (at e z) s) (append-nil sc))
chain_is false e [] m sc s = sym (after_done (m (at e (sc ++ [])) s) ∙ ap (λ z. m (at e z) s) (append-nil sc))
chain_is both e (a ∷ ms) m sc s = ap (λ (k : Meaning). k (at e sc) s) (more_cons both a m ms) ∙ by (a (inner (at e sc)) s) (λ s2. chain_is both e ms m (sc ++ [] ∷ []) s2) where
  K : Bindings → Gathered → WalkOutcome Kernel
  K bs s = after_walk (m (at e (sc ++ [] ∷ bound_names (map unnamed ms))) s) (λ t s. chain_of both bs t s)

  by : (o : WalkOutcome Kernel)
      → ((s2 : Gathered) → more_of both (ms ++ m ∷ []) (at e (sc ++ [] ∷ [])) s2
      ≡ after_walk (binds (map unnamed ms) (at e (sc ++ [] ∷ [])) s2) (λ bs s. after_walk (m (at e ((sc ++ [] ∷ []) ++ bound_names (map unnamed ms))) s) (λ t s. chain_of both bs t s)))
      → after_walk (after_walk o (λ t s. after_walk (done empty s) (λ ts s. done (binding (length sc) t ts) s)))
      (λ ts s. after_walk (after_walk (after_walk (choice both (length sc) (more_of both (ms ++ m ∷ [])) (at e (sc ++ [] ∷ [])) s) (λ y s. done (item y none) s)) (λ ts s. limited (seq ts) s)) (λ u s. limited (bind ts u) s))
      ≡ after_walk (after_walk o (λ t s. after_walk (binds (map unnamed ms) (at e (sc ++ [] ∷ [])) s) (λ ts s. done (binding (length sc) t ts) s))) K
  by (refused x p) ih = refl
  by (done t s2) ih =
      let n = length sc in
      let B = binds (map unnamed ms) (at e (sc ++ [] ∷ [])) s2 in
      chosen both n t (more_of both (ms ++ m ∷ [])) (at e (sc ++ [] ∷ [])) s2
      ∙ ap (λ (o : WalkOutcome Kernel). after_walk o (chained both n t)) (ih s2 ∙ ap (λ z. after_walk B (λ bs s. after_walk (m (at e z) s) (λ t s. chain_of both bs t s))) (append_assoc sc ([] ∷ []) (bound_names (map unnamed ms))))
      ∙ after_after B _ _
      ∙ after_same B _ _ (λ bs s. after_after (m (at e (sc ++ [] ∷ bound_names (map unnamed ms))) s) _ _)
      ∙ sym (after_after B _ _)

-- a list by its last form
last_split : (xs : List Form) (l : Form) → 1 ≤ length xs → l ≡ get_or xs (length xs - 1) l → xs ≡ take (length xs - 1) xs ++ l ∷ []
last_split [] l h x = absurd (omega (arith, h))
last_split (f ∷ []) l h x = ap (λ z. z ∷ []) (sym x)
last_split (f ∷ g ∷ xs) l h x =
    let less : length (f ∷ g ∷ xs) - 1 ≡ suc (length (g ∷ xs) - 1) = omega arith in
    let here : l ≡ get_or (g ∷ xs) (length (g ∷ xs) - 1) l = x ∙ ap (λ n. get_or (f ∷ g ∷ xs) n l) less in
    ap (λ z. f ∷ z) (last_split (g ∷ xs) l (omega arith) here) ∙ ap (λ n. take n (f ∷ g ∷ xs) ++ l ∷ []) (sym less)

split_last : (fs : List Form) (l : Form) → 2 ≤ length fs → l ≡ get_or fs (length fs - 1) l → drop 1 fs ≡ drop 1 (take (length fs - 1) fs) ++ l ∷ []
split_last [] l h x = absurd (omega (arith, h))
split_last (f ∷ []) l h x = absurd (omega (arith, h))
split_last (f ∷ g ∷ fs) l h x =
    let less : length (f ∷ g ∷ fs) - 1 ≡ suc (length (g ∷ fs) - 1) = omega arith in
    let here : l ≡ get_or (g ∷ fs) (length (g ∷ fs) - 1) l = x ∙ ap (λ n. get_or (f ∷ g ∷ fs) n l) less in
    last_split (g ∷ fs) l (omega arith) here ∙ ap (λ n. drop 1 (take n (f ∷ g ∷ fs)) ++ l ∷ []) (sym less)

parts_append : (fs : List Form) (l : Form) → meanings (form_parts (fs ++ l ∷ [])) ≡ meanings (form_parts fs) ++ walk (form_tree l) ∷ []
parts_append [] l = refl
parts_append (f ∷ fs) l = ap (λ ms. walk (form_tree f) ∷ ms) (parts_append fs l)

-- the operands of an `and` or an `or`, but for the last one
abbrev pub firsts : List Form → List Named
firsts fs = map unnamed (meanings (form_parts (drop 1 (take (length fs - 1) fs))))

pub chain_parts : (both : Bool) (e : Env) (fs : List Form) (l : Form) (sc : List (List ℕ)) (s : Gathered) → 2 ≤ length fs → l ≡ get_or fs (length fs - 1) l
    → more_of both (meanings (form_parts (drop 1 fs))) (at e sc) s
    ≡ after_walk (binds (firsts fs) (at e sc) s) (λ bs s. after_walk (walk (form_tree l) (at e (sc ++ bound_names (firsts fs))) s) (λ t s. chain_of both bs t s))
chain_parts both e fs l sc s h x = ap (λ ms. more_of both ms (at e sc) s) (ap (λ gs. meanings (form_parts gs)) (split_last fs l h x) ∙ parts_append (drop 1 (take (length fs - 1) fs)) l)
    ∙ chain_is both e (meanings (form_parts (drop 1 (take (length fs - 1) fs)))) (walk (form_tree l)) sc s

pub after_second : {A B C : Type 0} (x : CheckError) (o : WalkOutcome A) (k : A → Gathered → WalkOutcome B) (l : A → B → Gathered → WalkOutcome C) (a : A) (s2 : Gathered) → o ≡ done a s2 → Fails x (k a s2)
    → Fails x (after_walk o (λ a s. after_walk (k a s) (l a)))
after_second OutOfMemory o k l a s2 h w = tt
after_second (Fault q p) o k l a s2 h w = rw (h, w) refl

-- a choice's second part fails
pub second_of_three : (x : CheckError) (a b d : Meaning) (k : Kernel → Kernel → Kernel → Kernel) (e : Env) (s s2 : Gathered) (t : Kernel) → a (inner e) s ≡ done t s2 → Fails x (b e s2)
    → Fails x (after_walk (a (inner e) s) (λ t s. after_walk (b e s) (λ u s. after_walk (d e s) (λ v s. limited (k t u v) s))))
second_of_three x a b d k e s s2 t h w = after_second x (a (inner e) s) (λ t s. b e s) (λ t u s. after_walk (d e s) (λ v s. limited (k t u v) s)) t s2 h w
