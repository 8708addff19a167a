-- The patterns among the parameters of a function.
use Rattle.std.proofs.Common.{◌≡◌, ℕ, zero, suc, ◌+◌, List, [], ◌∷◌, ◌++◌, length, drop, get_or, ◌<◌, ◌≤◌, refl, sym, ap, ◌∙◌, append_assoc, append-nil, arith, subst, true, false, cond}
use Rattle.std.specs.List.{list_any}
use Rattle.std.proofs.lemmas.List.{length-append}
use Rattle.ca_term.specs.declared.place.Place.{Place}
use Rattle.ca_term.specs.declared.term.Term.{Term}
use Rattle.ca_term.specs.Kernel.{Kernel, Bindings, bind}
use Rattle.ca_reader.specs.declared.form.Form.{Form}
use Rattle.ca_reader.specs.declared.form.Bracket.TheVariants.{Round, Square, Curly}
use Rattle.ca_reader.specs.Form.{FormTree, FormTrees, form, atom, group, none as no_forms, nil, bool, int, text, key, symbol}
use Rattle.ca_reader.specs.View.{form_tree, form_trees}
use Rattle.ca_forms.specs.declared.error.CheckError.{CheckError}
use Rattle.ca_forms.specs.declared.error.CheckError.TheVariants.{Fault, OutOfMemory}
use Rattle.ca_forms.specs.Binders.{Binder, one, many, is_pattern, spread_items, patterns, unpacked}
use Rattle.ca_forms.specs.Judged.{total_binder, total_names, binder_parts, bound_names, part_terms, pattern_of}
use Rattle.ca_forms.specs.Meaning.{Env, Meaning, Named, binds, lets, bindings_joined, numbered}
use Rattle.ca_forms.specs.Outcome.{Gathered, WalkOutcome, done, after_walk, limited}
use Rattle.ca_check.specs.TopsView.{total_binders, inner_names, pattern_names, pattern_parts, AreCounted}
use Rattle.ca_forms.specs.WalkView.{terms_of, Fails}
use Rattle.ca_forms.proofs.BindLaws.{at, binds_append, numbered_append, bound_names_append, parts_bound, items_names, parts_count}
use Rattle.ca_check.proofs.DefnLaws.{drop_over, names_length}
use Rattle.ca_forms.proofs.PartLaws.{cut_at}

no_items : (xs : List Form) → form_trees xs ≡ no_forms → length xs ≡ 0
no_items [] h = refl
no_items (x ∷ xs) h = cc

none_left : (p : Place) (m : ℕ) (xs : List Form) → form_trees xs ≡ no_forms → [] ≡ part_terms p m 0 (length xs)
none_left p m xs h = ap (λ n. part_terms p m 0 n) (sym (no_items xs h))

none_named : (xs : List Form) → form_trees xs ≡ no_forms → [] ≡ total_names (form_trees xs)
none_named xs h = ap total_names (sym h)

-- what a parameter binds besides its own name
pub parts_are : (p : Place) (m : ℕ) (f : FormTree) (xs : List Form) → form_trees xs ≡ pattern_of f → binder_parts p m (total_binder f) ≡ part_terms p m 0 (length xs)
parts_are p m (form (group Square fs) q) xs h = ap (λ (gs : FormTrees). part_terms p m 0 (length (total_names gs))) (sym h) ∙ ap (λ n. part_terms p m 0 n) (names_length xs)
parts_are p m (form (group Round fs) q) xs h = none_left p m xs h
parts_are p m (form (group Curly fs) q) xs h = none_left p m xs h
parts_are p m (form (atom nil) q) xs h = none_left p m xs h
parts_are p m (form (atom (bool b)) q) xs h = none_left p m xs h
parts_are p m (form (atom (int z)) q) xs h = none_left p m xs h
parts_are p m (form (atom (text s)) q) xs h = none_left p m xs h
parts_are p m (form (atom (key s)) q) xs h = none_left p m xs h
parts_are p m (form (atom (symbol s)) q) xs h = none_left p m xs h

pub names_are : (f : FormTree) (xs : List Form) → form_trees xs ≡ pattern_of f → inner_names (total_binder f) ≡ total_names (form_trees xs)
names_are (form (group Square fs) q) xs h = ap total_names (sym h)
names_are (form (group Round fs) q) xs h = none_named xs h
names_are (form (group Curly fs) q) xs h = none_named xs h
names_are (form (atom nil) q) xs h = none_named xs h
names_are (form (atom (bool b)) q) xs h = none_named xs h
names_are (form (atom (int z)) q) xs h = none_named xs h
names_are (form (atom (text s)) q) xs h = none_named xs h
names_are (form (atom (key s)) q) xs h = none_named xs h
names_are (form (atom (symbol s)) q) xs h = none_named xs h

short_items : (xs : List Form) → form_trees xs ≡ no_forms → length xs ≤ 4096
short_items xs h = let e : length xs ≡ 0 = no_items xs h in omega arith

pub count_is : (f : FormTree) (xs : List Form) (bs : List Binder) → form_trees xs ≡ pattern_of f → AreCounted (total_binder f ∷ bs) → length xs ≤ 4096
count_is (form (group Square fs) q) xs bs h k =
    let e : length (total_names fs) ≡ length xs = ap (λ (gs : FormTrees). length (total_names gs)) (sym h) ∙ names_length xs in
    subst (λ n. n ≤ 4096) e k.0
count_is (form (group Round fs) q) xs bs h k = short_items xs h
count_is (form (group Curly fs) q) xs bs h k = short_items xs h
count_is (form (atom nil) q) xs bs h k = short_items xs h
count_is (form (atom (bool b)) q) xs bs h k = short_items xs h
count_is (form (atom (int z)) q) xs bs h k = short_items xs h
count_is (form (atom (text s)) q) xs bs h k = short_items xs h
count_is (form (atom (key s)) q) xs bs h k = short_items xs h
count_is (form (atom (symbol s)) q) xs bs h k = short_items xs h

pub counted_behind : (b : Binder) (bs : List Binder) → AreCounted (b ∷ bs) → AreCounted bs
counted_behind (one x) bs k = k
counted_behind (many xs q) bs k = k.1

counted_from : (fs : List Form) (i : ℕ) → AreCounted (total_binders (form_trees fs)) → AreCounted (total_binders (form_trees (drop i fs)))
counted_from fs zero k = k
counted_from [] (suc i) k = k
counted_from (f ∷ fs) (suc i) k = counted_from fs i (counted_behind (total_binder (form_tree f)) (total_binders (form_trees fs)) k)

-- a pattern among the parameters is short enough
pub counted_at : (fs : List Form) (i : ℕ) (f : Form) (xs : List Form) → i < length fs → f ≡ get_or fs i f → form_trees xs ≡ pattern_of (form_tree f)
    → AreCounted (total_binders (form_trees fs)) → length xs ≤ 4096
counted_at fs i f xs h x e k =
    count_is (form_tree f) xs (total_binders (form_trees (drop (i + 1) fs))) e (subst (λ (gs : List Form). AreCounted (total_binders (form_trees gs))) (cut_at fs i f h x) (counted_from fs i k))

abbrev pub parts_from : Place → ℕ → List Form → ℕ → List Kernel
parts_from p first fs i = pattern_parts p (first + i) (total_binders (form_trees (drop i fs)))

abbrev pub inner_from : List Form → ℕ → List (List ℕ)
inner_from fs i = pattern_names (total_binders (form_trees (drop i fs)))

-- the values of one more parameter
pub parts_step : (p : Place) (first : ℕ) (fs : List Form) (i : ℕ) (f : Form) (xs : List Form) (ts us : List Term) → i < length fs → f ≡ get_or fs i f → form_trees xs ≡ pattern_of (form_tree f)
    → terms_of us ≡ terms_of ts ++ part_terms p (first + i) 0 (length xs) → terms_of us ++ parts_from p first fs (i + 1) ≡ terms_of ts ++ parts_from p first fs i
parts_step p first fs i f xs ts us h x e u =
    let next : first + (i + 1) ≡ suc (first + i) = omega arith in
    ap (λ (ks : List Kernel). ks ++ parts_from p first fs (i + 1)) u
    ∙ append_assoc (terms_of ts) (part_terms p (first + i) 0 (length xs)) (parts_from p first fs (i + 1))
    ∙ ap (λ (ks : List Kernel). terms_of ts ++ (ks ++ parts_from p first fs (i + 1))) (sym (parts_are p (first + i) (form_tree f) xs e))
    ∙ ap (λ n. terms_of ts ++ (binder_parts p (first + i) (total_binder (form_tree f)) ++ pattern_parts p n (total_binders (form_trees (drop (i + 1) fs))))) next
    ∙ ap (λ (gs : List Form). terms_of ts ++ pattern_parts p (first + i) (total_binders (form_trees gs))) (sym (cut_at fs i f h x))

pub inner_step : (sc : List (List ℕ)) (fs : List Form) (i : ℕ) (f : Form) (xs : List Form) → i < length fs → f ≡ get_or fs i f → form_trees xs ≡ pattern_of (form_tree f)
    → (sc ++ total_names (form_trees xs)) ++ inner_from fs (i + 1) ≡ sc ++ inner_from fs i
inner_step sc fs i f xs h x e =
    append_assoc sc (total_names (form_trees xs)) (inner_from fs (i + 1))
    ∙ ap (λ (ns : List (List ℕ)). sc ++ (ns ++ inner_from fs (i + 1))) (sym (names_are (form_tree f) xs e))
    ∙ ap (λ (gs : List Form). sc ++ pattern_names (total_binders (form_trees gs))) (sym (cut_at fs i f h x))

pub parts_over : (p : Place) (first : ℕ) (fs : List Form) (i : ℕ) (ts : List Term) → length fs ≤ i → terms_of ts ++ parts_from p first fs i ≡ terms_of ts
parts_over p first fs i ts h = ap (λ (gs : List Form). terms_of ts ++ pattern_parts p (first + i) (total_binders (form_trees gs))) (drop_over fs i h) ∙ append-nil (terms_of ts)

pub inner_over : (sc : List (List ℕ)) (fs : List Form) (i : ℕ) → length fs ≤ i → sc ++ inner_from fs i ≡ sc
inner_over sc fs i h = ap (λ (gs : List Form). sc ++ pattern_names (total_binders (form_trees gs))) (drop_over fs i h) ∙ append-nil sc

-- whether one of the parameters is a pattern
pub any_step : (fs : List Form) (i : ℕ) (f : Form) → i < length fs → f ≡ get_or fs i f → is_pattern (total_binder (form_tree f)) ≡ false
    → list_any is_pattern (total_binders (form_trees (drop (i + 1) fs))) ≡ list_any is_pattern (total_binders (form_trees (drop i fs)))
any_step fs i f h x e = rw (cut_at fs i f h x, e) refl

pub any_found : (fs : List Form) (i : ℕ) (f : Form) → i < length fs → f ≡ get_or fs i f → is_pattern (total_binder (form_tree f)) ≡ true
    → list_any is_pattern (total_binders (form_trees (drop i fs))) ≡ true
any_found fs i f h x e = rw (cut_at fs i f h x, e) refl

pub any_over : (fs : List Form) (i : ℕ) → length fs ≤ i → list_any is_pattern (total_binders (form_trees (drop i fs))) ≡ false
any_over fs i h = rw (drop_over fs i h) refl

-- the values of the patterns in order
pub patterns_bound : (e : Env) (p : Place) (n : ℕ) (bs : List Binder) (sc : List (List ℕ)) (s : Gathered)
    → binds (patterns p n bs) (at e sc) s ≡ done (numbered (length sc) (pattern_parts p n bs)) s
patterns_bound e p n [] sc s = refl
patterns_bound e p n (one x ∷ bs) sc s = patterns_bound e p (suc n) bs sc s
patterns_bound e p n (many xs q ∷ bs) sc s =
    let items : List Named = spread_items p n xs 0 in
    let many_items : length (bound_names items) ≡ length (part_terms p n 0 (length xs)) = ap (λ (l : List (List ℕ)). length l) (items_names p n xs 0) ∙ sym (parts_count p n 0 (length xs)) in
    let longer : length (sc ++ bound_names items) ≡ length sc + length (part_terms p n 0 (length xs)) = length-append sc (bound_names items) ∙ ap (λ k. length sc + k) many_items in
    binds_append e items (patterns p (suc n) bs) sc s
    ∙ ap (λ (o : WalkOutcome Bindings). after_walk o (λ cs s. after_walk (binds (patterns p (suc n) bs) (at e (sc ++ bound_names items)) s) (λ ds s. done (bindings_joined cs ds) s))) (parts_bound e p n xs 0 sc s)
    ∙ ap (λ (o : WalkOutcome Bindings). after_walk o (λ ds s. done (bindings_joined (numbered (length sc) (part_terms p n 0 (length xs))) ds) s)) (patterns_bound e p (suc n) bs (sc ++ bound_names items) s)
    ∙ ap (λ k. done (bindings_joined (numbered (length sc) (part_terms p n 0 (length xs))) (numbered k (pattern_parts p (suc n) bs))) s) longer
    ∙ ap (λ (b : Bindings). done b s) (sym (numbered_append (length sc) (part_terms p n 0 (length xs)) (pattern_parts p (suc n) bs)))

pub patterns_named : (p : Place) (n : ℕ) (bs : List Binder) → bound_names (patterns p n bs) ≡ pattern_names bs
patterns_named p n [] = refl
patterns_named p n (one x ∷ bs) = patterns_named p (suc n) bs
patterns_named p n (many xs q ∷ bs) = bound_names_append (spread_items p n xs 0) (patterns p (suc n) bs)
    ∙ ap (λ (l : List (List ℕ)). l ++ bound_names (patterns p (suc n) bs)) (items_names p n xs 0) ∙ ap (λ (l : List (List ℕ)). xs ++ l) (patterns_named p (suc n) bs)

pub unpacked_without : (p : Place) (n : ℕ) (bs : List Binder) (m : Meaning) → list_any is_pattern bs ≡ false → unpacked p n bs m ≡ m
unpacked_without p n bs m h = ap (λ b. cond b (lets (patterns p n bs) m) m) h

-- behind a Let of the patterns
module _ (e : Env) (p : Place) (n : ℕ) (bs : List Binder) (m : Meaning) (sc sc2 : List (List ℕ)) (s s1 : Gathered) (some : list_any is_pattern bs ≡ true)
    (names : sc2 ≡ sc ++ pattern_names bs) (same : s1 ≡ s) where
  unpacked_is : unpacked p n bs m (at e sc) s ≡ after_walk (m (at e sc2) s1) (λ u s. limited (bind (numbered (length sc) (pattern_parts p n bs)) u) s)
  unpacked_is =
      let here : sc ++ bound_names (patterns p n bs) ≡ sc2 = ap (λ (l : List (List ℕ)). sc ++ l) (patterns_named p n bs) ∙ sym names in
      ap (λ b. cond b (lets (patterns p n bs) m) m (at e sc) s) some
      ∙ ap (λ (o : WalkOutcome Bindings). after_walk o (λ ts s. after_walk (m (at e (sc ++ bound_names (patterns p n bs))) s) (λ u s. limited (bind ts u) s))) (patterns_bound e p n bs sc s)
      ∙ ap (λ (z : List (List ℕ)). after_walk (m (at e z) s) (λ u s. limited (bind (numbered (length sc) (pattern_parts p n bs)) u) s)) here
      ∙ ap (λ z. after_walk (m (at e sc2) z) (λ u s. limited (bind (numbered (length sc) (pattern_parts p n bs)) u) s)) (sym same)

  pub unpacked_walked : (u : Kernel) (s2 : Gathered) (ks : List Kernel) → m (at e sc2) s1 ≡ done u s2 → ks ≡ pattern_parts p n bs
      → unpacked p n bs m (at e sc) s ≡ limited (bind (numbered (length sc) ks) u) s2
  unpacked_walked u s2 ks w k = unpacked_is
      ∙ ap (λ (o : WalkOutcome Kernel). after_walk o (λ u s. limited (bind (numbered (length sc) (pattern_parts p n bs)) u) s)) w
      ∙ ap (λ (l : List Kernel). limited (bind (numbered (length sc) l) u) s2) (sym k)

  pub unpacked_fails : (x : CheckError) → Fails x (m (at e sc2) s1) → Fails x (unpacked p n bs m (at e sc) s)
  unpacked_fails OutOfMemory h = tt
  unpacked_fails (Fault k q) h = unpacked_is ∙ ap (λ (o : WalkOutcome Kernel). after_walk o (λ u s. limited (bind (numbered (length sc) (pattern_parts p n bs)) u) s)) h
