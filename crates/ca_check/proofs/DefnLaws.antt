-- The parameters of a function, read one after the other.
use Rattle.std.proofs.Common.{◌≡◌, ℕ, zero, suc, ◌+◌, List, [], ◌∷◌, ◌++◌, length, map, drop, get_or, ◌<◌, ◌≤◌, refl, sym, ap, ◌∙◌, append_assoc, append-nil, arith, subst, true, false, cond, Option, Some, None, is_some, nat_lt, ◌||◌, Result, Ok, Err, IfOk, IfErr, OnOk}
use Rattle.std.proofs.lemmas.Bool.{lt-ltb, le-ltb}
use Rattle.std.proofs.lemmas.List.{length-append, length-map}
use Rattle.ca_term.specs.declared.place.Place.{Place}
use Rattle.ca_term.specs.declared.term.Term.{Term}
use Rattle.ca_term.specs.Kernel.{Kernel, Kernels, Bindings, var, loop, none, item, binding}
use Rattle.ca_term.specs.View.{kernel, kernels, kernels_of}
use Rattle.ca_reader.specs.declared.form.Form.{Form}
use Rattle.ca_reader.specs.declared.form.Bracket.TheVariants.{Round, Square, Curly}
use Rattle.ca_reader.specs.Form.{FormTree, FormTrees, form, atom, group, none as no_forms, item as form_item, nil, bool, int, text, key, symbol}
use Rattle.ca_reader.specs.View.{form_tree, form_trees}
use Rattle.ca_forms.specs.declared.context.Context.TheVariants.{Function}
use Rattle.ca_forms.specs.declared.error.CheckErrorKind.TheVariants.{TooMany}
use Rattle.ca_forms.specs.declared.error.CheckError.{CheckError}
use Rattle.ca_forms.specs.declared.error.CheckError.TheVariants.{Fault, OutOfMemory}
use Rattle.ca_forms.specs.Binders.{Binder, many, binder, whole_name}
use Rattle.ca_forms.specs.Judged.{total_name, total_names, total_binder}
use Rattle.ca_forms.specs.Meaning.{Meaning, Env, Named, Signature, size, behind_name, binds, behind, numbered, fail_with}
use Rattle.ca_forms.specs.FunctionsView.{find}
use Rattle.ca_forms.specs.Names.{is_known}
use Rattle.ca_forms.specs.Words.{builtin, special}
use Rattle.ca_forms.specs.Operands.{with_vars}
use Rattle.ca_forms.specs.Outcome.{Gathered, WalkOutcome, done, refused, after_walk, limited}
use Rattle.ca_forms.specs.Tops.{Written, wrong, defn_top, binders_in, with_binder, counted_patterns, names_of, numbers, same_names, looped, over_parameters}
use Rattle.ca_check.specs.TopsView.{total_binders, in_function, AreCounted}
use Rattle.ca_forms.specs.WalkView.{terms_of, form_parts, Fails}
use Rattle.ca_forms.proofs.PartLaws.{cut_at}
use Rattle.ca_forms.proofs.ShapeLaws.{given, binder_is}

pub drop_over : (gs : List Form) (i : ℕ) → length gs ≤ i → drop i gs ≡ []
drop_over [] zero h = refl
drop_over [] (suc i) h = refl
drop_over (g ∷ gs) zero h = absurd (omega (arith, h))
drop_over (g ∷ gs) (suc i) h = drop_over gs i (omega (arith, h))

pub binders_step : (fs : List Form) (i : ℕ) (f : Form) → i < length fs → f ≡ get_or fs i f → is_some (binder (form_tree f)) ≡ true
    → is_some (binders_in (form_trees (drop i fs))) ≡ is_some (binders_in (form_trees (drop (i + 1) fs)))
binders_step fs i f h x t = rw (cut_at fs i f h x) (by (binder (form_tree f)) (binders_in (form_trees (drop (i + 1) fs))) t) where
  by : (a : Option Binder) (r : Option (List Binder)) → is_some a ≡ true → is_some (with_binder a r) ≡ is_some r
  by None r t = cc
  by (Some a) None t = refl
  by (Some a) (Some r) t = refl

pub binders_total : (fs : FormTrees) → is_some (binders_in fs) ≡ true → Some (total_binders fs) ≡ binders_in fs
binders_total no_forms h = refl
binders_total (form_item f fs) h = by (binder f) (binders_in fs) (binder_is f) (binders_total fs) h where
  by : (a : Option Binder) (r : Option (List Binder)) → ((b : Binder) → a ≡ Some b → b ≡ total_binder f) → (is_some r ≡ true → Some (total_binders fs) ≡ r)
      → is_some (with_binder a r) ≡ true → Some (total_binder f ∷ total_binders fs) ≡ with_binder a r
  by None r u v h = cc
  by (Some b) None u v h = cc
  by (Some b) (Some bs) u v h = ap (λ x. Some (x ∷ total_binders fs)) (sym (u b refl)) ∙ ap (λ x. Some (b ∷ x)) (given (total_binders fs) bs (v refl))

pub none_of : {A : Type 0} (o : Option A) → is_some o ≡ false → None ≡ o
none_of None h = refl
none_of (Some a) h = cc

pub binders_length : (fs : List Form) → length (total_binders (form_trees fs)) ≡ length fs
binders_length [] = refl
binders_length (f ∷ fs) = ap suc (binders_length fs)

pub patterns_step : (fs : List Form) (i : ℕ) (f : Form) (m : Meaning) (e : Env) (s : Gathered) → i < length fs → f ≡ get_or fs i f
    → counted_patterns (total_binder (form_tree f) ∷ total_binders (form_trees (drop (i + 1) fs))) m e s ≡ counted_patterns (total_binders (form_trees (drop i fs))) m e s
patterns_step fs i f m e s h x = rw (cut_at fs i f h x) refl

pub names_length : (fs : List Form) → length (total_names (form_trees fs)) ≡ length fs
names_length [] = refl
names_length (f ∷ fs) = ap suc (names_length fs)

pub pattern_long : (f : Form) (xs : List Form) (q : Place) (bs : List Binder) (m : Meaning) (e : Env) (s : Gathered) → total_binder (form_tree f) ≡ many (total_names (form_trees xs)) q
    → 4096 < length xs → counted_patterns (total_binder (form_tree f) ∷ bs) m e s ≡ refused TooMany q
pattern_long f xs q bs m e s t h = ap (λ b. counted_patterns (b ∷ bs) m e s) t
    ∙ ap (λ b. cond b (fail_with TooMany q) (counted_patterns bs m) e s) (ap (nat_lt 4096) (names_length xs) ∙ lt-ltb 4096 (length xs) h)

pub pattern_short : (f : Form) (xs : List Form) (q : Place) (bs : List Binder) (m : Meaning) (e : Env) (s : Gathered) → total_binder (form_tree f) ≡ many (total_names (form_trees xs)) q
    → length xs ≤ 4096 → counted_patterns (total_binder (form_tree f) ∷ bs) m e s ≡ counted_patterns bs m e s
pattern_short f xs q bs m e s t h = ap (λ b. counted_patterns (b ∷ bs) m e s) t
    ∙ ap (λ b. cond b (fail_with TooMany q) (counted_patterns bs m) e s) (ap (nat_lt 4096) (names_length xs) ∙ le-ltb 4096 (length xs) h)

pub patterns_over : (fs : List Form) (i : ℕ) (m : Meaning) (e : Env) (s : Gathered) → length fs ≤ i → counted_patterns (total_binders (form_trees (drop i fs))) m e s ≡ m e s
patterns_over fs i m e s h = ap (λ (gs : List Form). counted_patterns (total_binders (form_trees gs)) m e s) (drop_over fs i h)

pub fails_same : {A : Type 0} (x : CheckError) (o u : WalkOutcome A) → o ≡ u → Fails x o → Fails x u
fails_same OutOfMemory o u e h = tt
fails_same (Fault k p) o u e h = sym e ∙ h

-- the name of a parameter
pub name_whole : (f : FormTree) → whole_name (total_binder f) ≡ total_name f
name_whole (form (atom (symbol s)) p) = refl
name_whole (form (atom nil) p) = refl
name_whole (form (atom (bool b)) p) = refl
name_whole (form (atom (int z)) p) = refl
name_whole (form (atom (text s)) p) = refl
name_whole (form (atom (key s)) p) = refl
name_whole (form (group Square fs) p) = refl
name_whole (form (group Round fs) p) = refl
name_whole (form (group Curly fs) p) = refl

abbrev pub names_from : List Form → ℕ → List (List ℕ)
names_from fs i = names_of (total_binders (form_trees (drop i fs)))

pub names_cut : (fs : List Form) (i : ℕ) (f : Form) → i < length fs → f ≡ get_or fs i f → names_from fs i ≡ total_name (form_tree f) ∷ names_from fs (i + 1)
names_cut fs i f h x = rw (cut_at fs i f h x) (ap (λ n. n ∷ names_from fs (i + 1)) (name_whole (form_tree f)))

-- one more of the names bound
pub names_bound : (sc : List (List ℕ)) (fs : List Form) (i : ℕ) (f : Form) → i < length fs → f ≡ get_or fs i f
    → (sc ++ total_name (form_tree f) ∷ []) ++ names_from fs (i + 1) ≡ sc ++ names_from fs i
names_bound sc fs i f h x = append_assoc sc (total_name (form_tree f) ∷ []) (names_from fs (i + 1)) ∙ ap (λ l. sc ++ l) (sym (names_cut fs i f h x))

cut : (fs : List Form) (i : ℕ) → i < length fs → (f : Form) × (drop i fs ≡ f ∷ drop (suc i) fs)
cut [] i h = absurd (omega (arith, h))
cut (f ∷ fs) zero h = (f, refl)
cut (f ∷ fs) (suc i) h = cut fs i (omega (arith, h))

-- one more of the numbers
pub numbers_step : (ns : List ℕ) (first : ℕ) (fs : List Form) (i : ℕ) → i < length fs
    → (ns ++ (first + i) ∷ []) ++ numbers (first + (i + 1)) (names_from fs (i + 1)) ≡ ns ++ numbers (first + i) (names_from fs i)
numbers_step ns first fs i h = append_assoc ns ((first + i) ∷ []) (numbers (first + (i + 1)) (names_from fs (i + 1))) ∙ ap (λ l. ns ++ l) (by (cut fs i h)) where
  by : (f : Form) × (drop i fs ≡ f ∷ drop (suc i) fs) → (first + i) ∷ numbers (first + (i + 1)) (names_from fs (i + 1)) ≡ numbers (first + i) (names_from fs i)
  by c =
      let up : i + 1 ≡ suc i = omega arith in
      let more : first + (i + 1) ≡ suc (first + i) = omega arith in
      ap (λ n. (first + i) ∷ numbers (first + (i + 1)) (names_from fs n)) up ∙ ap (λ n. (first + i) ∷ numbers n (names_from fs (suc i))) more
      ∙ ap (λ (gs : List Form). numbers (first + i) (names_of (total_binders (form_trees gs)))) (sym c.1)

pub names_over : (sc : List (List ℕ)) (fs : List Form) (i : ℕ) → length fs ≤ i → sc ++ names_from fs i ≡ sc
names_over sc fs i h = ap (λ (gs : List Form). sc ++ names_of (total_binders (form_trees gs))) (drop_over fs i h) ∙ append-nil sc

pub numbers_over : (ns : List ℕ) (first : ℕ) (fs : List Form) (i : ℕ) → length fs ≤ i → ns ++ numbers (first + i) (names_from fs i) ≡ ns
numbers_over ns first fs i h = ap (λ (gs : List Form). ns ++ numbers (first + i) (names_of (total_binders (form_trees gs)))) (drop_over fs i h) ∙ append-nil ns

-- names as terms
list_of : Kernels → List Kernel
list_of none = []
list_of (item t ts) = t ∷ list_of ts

unfold_list : (ts : List Kernel) → list_of (kernels_of ts) ≡ ts
unfolding list_of
unfold_list [] = refl
unfold_list (t ∷ ts) = ap (λ l. t ∷ l) (unfold_list ts)

vars_list : (ns : List ℕ) → list_of (with_vars none ns) ≡ map var ns
unfolding list_of
vars_list [] = refl
vars_list (n ∷ ns) = ap (λ l. var n ∷ l) (vars_list ns)

pub terms_are_vars : (ts : List Term) (ns : List ℕ) → kernels ts ≡ with_vars none ns → terms_of ts ≡ map var ns
terms_are_vars ts ns h = sym (unfold_list (terms_of ts)) ∙ ap list_of h ∙ vars_list ns

pub numbers_length : (n : ℕ) (xs : List (List ℕ)) → length (numbers n xs) ≡ length xs
numbers_length n [] = refl
numbers_length n (x ∷ xs) = ap suc (numbers_length (suc n) xs)

pub vars_many : (ts : List Term) (n : ℕ) (xs : List (List ℕ)) → kernels ts ≡ with_vars none (numbers n xs) → length ts ≡ length xs
vars_many ts n xs h = sym (length-map ts kernel) ∙ ap (λ (l : List Kernel). length l) (terms_are_vars ts (numbers n xs) h) ∙ length-map (numbers n xs) var ∙ numbers_length n xs

-- each name again, bound to itself
binds_same : (n : ℕ) (xs : List (List ℕ)) (e : Env) (s : Gathered) → binds (same_names n xs) e s ≡ done (numbered (size e) (map var (numbers n xs))) s
binds_same n [] e s = refl
binds_same n (x ∷ xs) e s = rw (binds_same (suc n) xs (behind_name x e) s)
    (ap (λ m. done (binding (size e) (var n) (numbered m (map var (numbers (suc n) xs)))) s) more) where
      more : size (behind_name x e) ≡ suc (size e)
      more = length-append e.scope (x ∷ []) ∙ omega arith

same_again : (n : ℕ) (xs : List (List ℕ)) → map (λ (b : Named). b.name) (same_names n xs) ≡ xs
same_again n [] = refl
same_again n (x ∷ xs) = ap (λ l. x ∷ l) (same_again (suc n) xs)

same_length : (n : ℕ) (xs : List (List ℕ)) → length (same_names n xs) ≡ length xs
same_length n [] = refl
same_length n (x ∷ xs) = ap suc (same_length (suc n) xs)

-- where the body of a loop over the parameters stands
abbrev pub in_loop : List (List ℕ) → List Signature → Written → Env
in_loop sc fs f = record { scope = (sc ++ names_of f.parameters) ++ names_of f.parameters; functions = fs; target = Some (length f.parameters); context = Function }

pub looped_is : (f : Written) (p : Place) (sc : List (List ℕ)) (fs : List Signature) (s : Gathered)
    → looped f p (in_function sc fs) s
    ≡ after_walk (over_parameters f p (length sc + length f.parameters) (in_loop sc fs f) s)
    (λ u s. limited (loop [] (numbered (length sc + length f.parameters) (map var (numbers (length sc) (names_of f.parameters)))) u) s)
looped_is f p sc fs s =
    let xs = names_of f.parameters in
    let e : Env = record { scope = sc ++ xs; functions = fs; target = None; context = Function } in
    let many : length xs ≡ length f.parameters = length-map f.parameters whole_name in
    let wide : size e ≡ length sc + length f.parameters = length-append sc xs ∙ ap (λ n. length sc + n) many in
    let target : length (same_names (length sc) xs) ≡ length f.parameters = same_length (length sc) xs ∙ many in
    ap (λ (o : WalkOutcome Bindings). after_walk o (λ ts s. after_walk (over_parameters f p (length sc + length f.parameters) (record (behind (same_names (length sc) xs) e) { target = Some (length (same_names (length sc) xs)) }) s) (λ u s. limited (loop [] ts u) s)))
    (binds_same (length sc) xs e s)
    ∙ ap (λ (ys : List (List ℕ)). after_walk (over_parameters f p (length sc + length f.parameters) (record { scope = (sc ++ xs) ++ ys; functions = fs; target = Some (length (same_names (length sc) xs)); context = Function }) s) (λ u s. limited (loop [] (numbered (size e) (map var (numbers (length sc) xs))) u) s)) (same_again (length sc) xs)
    ∙ ap (λ n. after_walk (over_parameters f p (length sc + length f.parameters) (record { scope = (sc ++ xs) ++ xs; functions = fs; target = Some n; context = Function }) s) (λ u s. limited (loop [] (numbered (size e) (map var (numbers (length sc) xs))) u) s)) target
    ∙ ap (λ n. after_walk (over_parameters f p (length sc + length f.parameters) (in_loop sc fs f) s) (λ u s. limited (loop [] (numbered n (map var (numbers (length sc) xs))) u) s)) wide

-- the body of a loop was walked
module _ (f : Written) (p : Place) (sc : List (List ℕ)) (fs : List Signature) (s : Gathered) (sc1 sc2 : List (List ℕ)) (s0 : Gathered) (first n : ℕ)
    (start : first ≡ length sc1) (once : sc1 ≡ sc ++ names_of f.parameters) (twice : sc2 ≡ sc1 ++ names_of f.parameters) (many : n ≡ length f.parameters) (same : s0 ≡ s) where
  abbrev here : Env
  here = record { scope = sc2; functions = fs; target = Some n; context = Function }

  first_is : first ≡ length sc + length f.parameters
  first_is = start ∙ ap (λ (l : List (List ℕ)). length l) once ∙ length-append sc (names_of f.parameters) ∙ ap (λ m. length sc + m) (length-map f.parameters whole_name)

  walks_here : over_parameters f p first here s0 ≡ over_parameters f p (length sc + length f.parameters) (in_loop sc fs f) s
  walks_here = ap (λ m. over_parameters f p m here s0) first_is
      ∙ ap (λ (z : List (List ℕ)). over_parameters f p (length sc + length f.parameters) (record { scope = z; functions = fs; target = Some n; context = Function }) s0) (twice ∙ ap (λ (z : List (List ℕ)). z ++ names_of f.parameters) once)
      ∙ ap (λ m. over_parameters f p (length sc + length f.parameters) (record { scope = (sc ++ names_of f.parameters) ++ names_of f.parameters; functions = fs; target = Some m; context = Function }) s0) many
      ∙ ap (λ z. over_parameters f p (length sc + length f.parameters) (in_loop sc fs f) z) same

  pub looped_walked : (u : Kernel) (s2 : Gathered) (vs : List Term) → over_parameters f p first here s0 ≡ done u s2 → terms_of vs ≡ map var (numbers (length sc) (names_of f.parameters))
      → looped f p (in_function sc fs) s ≡ limited (loop [] (numbered first (terms_of vs)) u) s2
  looped_walked u s2 vs w v = looped_is f p sc fs s
      ∙ ap (λ (o : WalkOutcome Kernel). after_walk o (λ u s. limited (loop [] (numbered (length sc + length f.parameters) (map var (numbers (length sc) (names_of f.parameters)))) u) s)) (sym walks_here ∙ w)
      ∙ ap (λ m. limited (loop [] (numbered m (map var (numbers (length sc) (names_of f.parameters)))) u) s2) (sym first_is)
      ∙ ap (λ (ts : List Kernel). limited (loop [] (numbered first ts) u) s2) (sym v)

  pub looped_fails : (x : CheckError) → Fails x (over_parameters f p first here s0) → Fails x (looped f p (in_function sc fs) s)
  looped_fails OutOfMemory h = tt
  looped_fails (Fault k q) h = looped_is f p sc fs s
      ∙ ap (λ (o : WalkOutcome Kernel). after_walk o (λ u s. limited (loop [] (numbered (length sc + length f.parameters) (map var (numbers (length sc) (names_of f.parameters)))) u) s)) (sym walks_here ∙ h)

pub err_is : {A E : Type 0} (r : Result A E) (e : E) (P : E → Type 0) → r ≡ Err e → P e → IfErr r P
err_is r e P q h = subst (λ r. IfErr r P) (sym q) h

pub if_ok_by : {A E : Type 0} (r : Result A E) (P Q : A → Type 0) → ((a : A) → P a → Q a) → IfOk r P → IfOk r Q
if_ok_by (Ok a) P Q f h = f a h
if_ok_by (Err e) P Q f h = h

pub if_err_by : {A E : Type 0} (r : Result A E) (P Q : E → Type 0) → ((e : E) → P e → Q e) → IfErr r P → IfErr r Q
if_err_by (Ok a) P Q f h = h
if_err_by (Err e) P Q f h = f e h

pub free_find : (x : List ℕ) (fs : List Signature) → is_known x fs ≡ false → find x fs ≡ None
free_find x fs h = by (find x fs) h where
  by : (o : Option (ℕ × Signature)) → (is_some o || is_some (builtin x) || is_some (special x)) ≡ false → o ≡ None
  by None h = refl
  by (Some r) h = cc

pub if_on_by : {A E : Type 0} (r : Result A E) (P Q : Type 0) → (P → Q) → OnOk r P → OnOk r Q
if_on_by (Ok a) P Q f h = f h
if_on_by (Err e) P Q f h = h

pub defn_short : (fs : List Form) → length fs < 3 → defn_top (form_parts (drop 1 fs)) ≡ wrong
defn_short [] h = refl
defn_short (f ∷ []) h = refl
defn_short (f ∷ g ∷ []) h = refl
defn_short (f ∷ g ∷ k ∷ fs) h = absurd (omega (arith, h))

pub pattern_counted : (f : Form) (xs : List Form) (q : Place) (bs : List Binder) → total_binder (form_tree f) ≡ many (total_names (form_trees xs)) q → length xs ≤ 4096
    → AreCounted bs → AreCounted (total_binder (form_tree f) ∷ bs)
pattern_counted f xs q bs t h k = subst (λ b. AreCounted (b ∷ bs)) (sym t) (subst (λ n. n ≤ 4096) (sym (names_length xs)) h, k)

pub counted_step : (fs : List Form) (i : ℕ) (f : Form) → i < length fs → f ≡ get_or fs i f → ((bs : List Binder) → AreCounted bs → AreCounted (total_binder (form_tree f) ∷ bs))
    → AreCounted (total_binders (form_trees (drop (i + 1) fs))) → AreCounted (total_binders (form_trees (drop i fs)))
counted_step fs i f h x g k = subst (λ (gs : List Form). AreCounted (total_binders (form_trees gs))) (sym (cut_at fs i f h x)) (g (total_binders (form_trees (drop (i + 1) fs))) k)

pub counted_over : (fs : List Form) (i : ℕ) → length fs ≤ i → AreCounted (total_binders (form_trees (drop i fs)))
counted_over fs i h = subst (λ (gs : List Form). AreCounted (total_binders (form_trees gs))) (sym (drop_over fs i h)) tt

pub names_many : (sc sc2 : List (List ℕ)) (fs : List Form) → sc2 ≡ sc ++ names_of (total_binders (form_trees fs)) → length sc2 ≡ length sc + length fs
names_many sc sc2 fs e = ap (λ (l : List (List ℕ)). length l) e ∙ length-append sc (names_of (total_binders (form_trees fs)))
    ∙ ap (λ n. length sc + n) (length-map (total_binders (form_trees fs)) whole_name ∙ binders_length fs)
