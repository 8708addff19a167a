-- Bindings in order, some and then others.
use Rattle.std.proofs.Common.{◌≡◌, ℕ, zero, suc, ◌+◌, List, [], ◌∷◌, ◌++◌, length, map, refl, sym, ap, ◌∙◌, arith, append_assoc, append-nil, length-append, length-drop, drop, get_or, ◌<◌, ◌≤◌, ◌*◌, ◌-◌, take, length-take-le, length-take, add-one, drop-cons, true, false, Result, Ok, Err, IfOk, OnOk}
use Rattle.ca_value.specs.Seq.{list}
use Rattle.ca_value.specs.declared.seq.Seq.{Seq}
use Rattle.std.proofs.lemmas.List.{map-append, length-map, get_or-take}
use Rattle.ca_forms.proofs.TermLaws.{joined_end, drop_all}
use Rattle.ca_term.specs.View.{kernel}
use Rattle.ca_reader.specs.declared.form.Form.{Form}
use Rattle.ca_reader.specs.View.{form_tree, form_trees}
use Rattle.ca_forms.specs.Walk.{walk}
use Rattle.ca_reader.specs.declared.form.Bracket.TheVariants.{Round, Square, Curly}
use Rattle.ca_reader.specs.Form.{FormTree, form, atom, group, nil, bool, int, text, key, symbol, form_place}
use Rattle.ca_forms.specs.declared.error.CheckErrorKind.TheVariants.{TooMany}
use Rattle.ca_forms.specs.Plain.{meanings}
use Rattle.ca_forms.specs.WalkView.{form_pairs, form_parts}
use Rattle.ca_forms.proofs.ShapeLaws.{drop_two}
use Rattle.ca_term.specs.declared.place.Place.{Place}
use Rattle.ca_term.specs.declared.term.Term.{Term}
use Rattle.ca_term.specs.Kernel.{Kernel, Bindings, empty, binding}
use Rattle.ca_forms.specs.declared.error.CheckError.{CheckError}
use Rattle.ca_forms.specs.declared.error.CheckError.TheVariants.{Fault, OutOfMemory}
use Rattle.ca_forms.specs.Outcome.{Gathered, WalkOutcome, done, refused, after_walk}
use Rattle.ca_forms.specs.Meaning.{Env, Meaning, Named, binds, bindings_joined, numbered, inner, unnamed}
use Rattle.ca_forms.specs.Binders.{Binder, one, many, spread, spread_one, spread_items, width}
use Rattle.ca_forms.specs.WalkView.{terms_of, Fails}
use Rattle.ca_forms.specs.Judged.{over_long, binder_names, binder_parts, bound_names, part_term, part_terms, total_binder, total_bounds, total_name, total_names}
use Rattle.ca_forms.proofs.PartLaws.{after_after, after_same, cut_at}

pub after_done : {A : Type 0} (o : WalkOutcome A) → after_walk o (λ a s. done a s) ≡ o
after_done (done a s) = refl
after_done (refused e p) = refl

module _ (e : Env) where
  abbrev pub at : List (List ℕ) → Env
  at sc = record e { scope = sc }

  pub binds_append : (xs ys : List Named) (sc : List (List ℕ)) (s : Gathered)
      → binds (xs ++ ys) (at sc) s ≡ after_walk (binds xs (at sc) s) (λ bs s. after_walk (binds ys (at (sc ++ bound_names xs)) s) (λ cs s. done (bindings_joined bs cs) s))
  binds_append [] ys sc s = sym (after_done (binds ys (at (sc ++ [])) s) ∙ ap (λ z. binds ys (at z) s) (append-nil sc))
  binds_append (x ∷ xs) ys sc s = by (x.means (inner (at sc)) s) (λ s2. binds_append xs ys (sc ++ x.name ∷ []) s2) where
    by : (o : WalkOutcome Kernel)
        → ((s2 : Gathered) → binds (xs ++ ys) (at (sc ++ x.name ∷ [])) s2 ≡ after_walk (binds xs (at (sc ++ x.name ∷ [])) s2) (λ bs s. after_walk (binds ys (at ((sc ++ x.name ∷ []) ++ bound_names xs)) s) (λ cs s. done (bindings_joined bs cs) s)))
        → after_walk o (λ t s. after_walk (binds (xs ++ ys) (at (sc ++ x.name ∷ [])) s) (λ ts s. done (binding (length sc) t ts) s))
        ≡ after_walk (after_walk o (λ t s. after_walk (binds xs (at (sc ++ x.name ∷ [])) s) (λ ts s. done (binding (length sc) t ts) s)))
        (λ bs s. after_walk (binds ys (at (sc ++ x.name ∷ bound_names xs)) s) (λ cs s. done (bindings_joined bs cs) s))
    by (refused f p) ih = refl
    by (done t s) ih = rw (ih s, append_assoc sc (x.name ∷ []) (bound_names xs)) (rest (binds xs (at (sc ++ x.name ∷ [])) s)) where
      rest : (o : WalkOutcome Bindings)
          → after_walk (after_walk o (λ bs s. after_walk (binds ys (at (sc ++ x.name ∷ bound_names xs)) s) (λ cs s. done (bindings_joined bs cs) s))) (λ ts s. done (binding (length sc) t ts) s)
          ≡ after_walk (after_walk o (λ ts s. done (binding (length sc) t ts) s)) (λ bs s. after_walk (binds ys (at (sc ++ x.name ∷ bound_names xs)) s) (λ cs s. done (bindings_joined bs cs) s))
      rest (refused f p) = refl
      rest (done bs s) = after_after (binds ys (at (sc ++ x.name ∷ bound_names xs)) s) _ _

pub numbered_append : (n : ℕ) (xs ys : List Kernel) → numbered n (xs ++ ys) ≡ bindings_joined (numbered n xs) (numbered (n + length xs) ys)
numbered_append n [] ys = ap (λ m. numbered m ys) none_more where
  none_more : n ≡ n + 0
  none_more = omega arith
numbered_append n (x ∷ xs) ys = ap (binding n x) (numbered_append (suc n) xs ys ∙ ap (λ m. bindings_joined (numbered (suc n) xs) (numbered m ys)) one_more) where
  one_more : suc n + length xs ≡ n + suc (length xs)
  one_more = omega arith

pub joined_assoc : (as' bs cs : Bindings) → bindings_joined (bindings_joined as' bs) cs ≡ bindings_joined as' (bindings_joined bs cs)
joined_assoc empty bs cs = refl
joined_assoc (binding n t as') bs cs = ap (binding n t) (joined_assoc as' bs cs)

pub items_width : (p : Place) (h : ℕ) (xs : List (List ℕ)) (i : ℕ) → length (spread_items p h xs i) ≡ length xs
items_width p h [] i = refl
items_width p h (x ∷ xs) i = ap suc (items_width p h xs (suc i))

pub one_width : (p : Place) (n : ℕ) (b : Binder) (m : Meaning) → length (spread_one p n b m) ≡ width b
one_width p n (one x) m = refl
one_width p n (many xs q) m = ap suc (items_width p n xs 0)

pub terms_append : (xs ys : List Term) → terms_of (xs ++ ys) ≡ terms_of xs ++ terms_of ys
terms_append xs ys = map-append kernel xs ys

-- three lists of bindings in a row
pub joins : (n m : ℕ) (vs ms : List Kernel) (cs : Bindings) → m ≡ n + length vs
    → bindings_joined (numbered n vs) (bindings_joined (numbered m ms) cs) ≡ bindings_joined (numbered n (vs ++ ms)) cs
joins n m vs ms cs e =
    sym (joined_assoc (numbered n vs) (numbered m ms) cs)
    ∙ ap (λ k. bindings_joined (bindings_joined (numbered n vs) (numbered k ms)) cs) e
    ∙ ap (λ b. bindings_joined b cs) (sym (numbered_append n vs ms))

-- bindings in two parts, the first of which was walked
pub walked_more : (e : Env) (S R : List Named) (n : ℕ) (vs ms : List Kernel) (sc sc2 : List (List ℕ)) (s s2 : Gathered)
    → binds S (at e sc) s ≡ done (numbered (length sc) ms) s2 → sc2 ≡ sc ++ bound_names S → length sc ≡ n + length vs
    → after_walk (binds (S ++ R) (at e sc) s) (λ bs s. done (bindings_joined (numbered n vs) bs) s)
    ≡ after_walk (binds R (at e sc2) s2) (λ bs s. done (bindings_joined (numbered n (vs ++ ms)) bs) s)
walked_more e S R n vs ms sc sc2 s s2 w c l =
    ap (λ (o : WalkOutcome Bindings). after_walk o (λ bs s. done (bindings_joined (numbered n vs) bs) s))
    (binds_append e S R sc s ∙ ap (λ (o : WalkOutcome Bindings). after_walk o (λ bs s. after_walk (binds R (at e (sc ++ bound_names S)) s) (λ cs s. done (bindings_joined bs cs) s))) w)
    ∙ after_after (binds R (at e (sc ++ bound_names S)) s2) _ _
    ∙ ap (λ z. after_walk (binds R (at e z) s2) (λ cs s. done (bindings_joined (numbered n vs) (bindings_joined (numbered (length sc) ms) cs)) s)) (sym c)
    ∙ after_same (binds R (at e sc2) s2) _ _ (λ cs s. ap (λ z. done z s) (joins n (length sc) vs ms cs l))

-- one binder that failed
pub walked_fails : (x : CheckError) (e : Env) (S R : List Named) (sc : List (List ℕ)) (s : Gathered) (k : Bindings → Gathered → WalkOutcome Bindings) (o : WalkOutcome Bindings)
    → o ≡ after_walk (binds (S ++ R) (at e sc) s) k → Fails x (binds S (at e sc) s) → Fails x o
walked_fails OutOfMemory e S R sc s k o same w = tt
walked_fails (Fault q p) e S R sc s k o same w = same ∙ ap (λ (z : WalkOutcome Bindings). after_walk z k) (binds_append e S R sc s ∙ ap (λ (z : WalkOutcome Bindings). after_walk z (λ bs s. after_walk (binds R (at e (sc ++ bound_names S)) s) (λ cs s. done (bindings_joined bs cs) s))) w)

-- the bindings behind pair i
pub spread_next : (p : Place) (fs : List Form) (i : ℕ) (f g : Form) (n : ℕ) → 2 * i + 1 < length fs → f ≡ get_or fs (2 * i) f → g ≡ get_or fs (2 * i + 1) g
    → spread p n (total_bounds (form_pairs (drop (2 * i) fs)))
    ≡ spread_one p n (total_binder (form_tree f)) (walk (form_tree g)) ++ spread p (n + width (total_binder (form_tree f))) (total_bounds (form_pairs (drop (2 * (i + 1)) fs)))
spread_next p fs i f g n h x y = ap (λ gs. spread p n (total_bounds (form_pairs gs))) (drop_two fs i f g h x y)

pub spread_over : (p : Place) (fs : List Form) (i n : ℕ) → length fs ≤ 2 * i + 1 → spread p n (total_bounds (form_pairs (drop (2 * i) fs))) ≡ []
spread_over p fs i n h = by (drop (2 * i) fs) (length-drop (2 * i) fs) where
  by : (gs : List Form) → length gs ≡ length fs - 2 * i → spread p n (total_bounds (form_pairs gs)) ≡ []
  by [] e = refl
  by (g ∷ []) e = refl
  by (g ∷ k ∷ gs) e = absurd (omega (arith, e, h))

pub bound_names_append : (xs ys : List Named) → bound_names (xs ++ ys) ≡ bound_names xs ++ bound_names ys
bound_names_append xs ys = map-append (λ b. b.name) xs ys

-- the parts of a pattern's value
pub parts_bound : (e : Env) (p : Place) (h : ℕ) (xs : List (List ℕ)) (i : ℕ) (sc : List (List ℕ)) (s : Gathered)
    → binds (spread_items p h xs i) (at e sc) s ≡ done (numbered (length sc) (part_terms p h i (length xs))) s
parts_bound e p h [] i sc s = refl
parts_bound e p h (x ∷ xs) i sc s = rw (parts_bound e p h xs (suc i) (sc ++ x ∷ []) s) (ap (λ m. done (binding (length sc) (part_term p h i) (numbered m (part_terms p h (suc i) (length xs)))) s) more) where
  more : length (sc ++ x ∷ []) ≡ suc (length sc)
  more = length-append sc (x ∷ []) ∙ omega arith

pub items_names : (p : Place) (h : ℕ) (xs : List (List ℕ)) (i : ℕ) → bound_names (spread_items p h xs i) ≡ xs
items_names p h [] i = refl
items_names p h (x ∷ xs) i = ap (λ ys. x ∷ ys) (items_names p h xs (suc i))

pub one_names : (p : Place) (n : ℕ) (b : Binder) (m : Meaning) → bound_names (spread_one p n b m) ≡ binder_names b
one_names p n (one x) m = refl
one_names p n (many xs q) m = ap (λ ys. [] ∷ ys) (items_names p n xs 0)

-- one binder whose value was walked
pub one_walked : (e : Env) (p : Place) (b : Binder) (m : Meaning) (sc : List (List ℕ)) (s s2 : Gathered) (t : Kernel) → over_long b ≡ false → m (inner (at e sc)) s ≡ done t s2
    → binds (spread_one p (length sc) b m) (at e sc) s ≡ done (numbered (length sc) (t ∷ binder_parts p (length sc) b)) s2
one_walked e p (one x) m sc s s2 t h w = rw w refl
one_walked e p (many xs q) m sc s s2 t h w = rw (h, w, parts_bound e p (length sc) xs 0 (sc ++ [] ∷ []) s2) (ap (λ k. done (binding (length sc) t (numbered k (part_terms p (length sc) 0 (length xs)))) s2) more) where
  more : length (sc ++ [] ∷ []) ≡ suc (length sc)
  more = length-append sc ([] ∷ []) ∙ omega arith

pub one_fails : (x : CheckError) (e : Env) (p : Place) (b : Binder) (m : Meaning) (sc : List (List ℕ)) (s : Gathered) → over_long b ≡ false → Fails x (m (inner (at e sc)) s)
    → Fails x (binds (spread_one p (length sc) b m) (at e sc) s)
one_fails OutOfMemory e p b m sc s h w = tt
one_fails (Fault k r) e p (one x) m sc s h w = rw w refl
one_fails (Fault k r) e p (many xs q) m sc s h w = rw (h, w) refl

pub one_long : (e : Env) (p : Place) (f : FormTree) (m : Meaning) (sc : List (List ℕ)) (s : Gathered) → over_long (total_binder f) ≡ true
    → binds (spread_one p (length sc) (total_binder f) m) (at e sc) s ≡ refused TooMany (form_place f)
one_long e p (form (group Square fs) q) m sc s h = rw h refl
one_long e p (form (group Round fs) q) m sc s h = absurd (cc)
one_long e p (form (group Curly fs) q) m sc s h = absurd (cc)
one_long e p (form (atom nil) q) m sc s h = absurd (cc)
one_long e p (form (atom (bool b)) q) m sc s h = absurd (cc)
one_long e p (form (atom (int z)) q) m sc s h = absurd (cc)
one_long e p (form (atom (text t)) q) m sc s h = absurd (cc)
one_long e p (form (atom (key k)) q) m sc s h = absurd (cc)
one_long e p (form (atom (symbol k)) q) m sc s h = absurd (cc)

pub next_start : (p : Place) (sc sc2 : List (List ℕ)) (b : Binder) (m : Meaning) → sc2 ≡ sc ++ bound_names (spread_one p (length sc) b m) → length sc + width b ≡ length sc2
next_start p sc sc2 b m c =
    let names : length (bound_names (spread_one p (length sc) b m)) ≡ width b = length-map (spread_one p (length sc) b m) (λ n. n.name) ∙ one_width p (length sc) b m in
    sym (ap (λ (z : List (List ℕ)). length z) c ∙ length-append sc (bound_names (spread_one p (length sc) b m)) ∙ ap (λ k. length sc + k) names)

-- a step of the walk of bindings
pub bound_step2 : (e : Env) (p : Place) (fs : List Form) (i : ℕ) (f g : Form) (n : ℕ) (vs : List Kernel) (t : Kernel) (sc sc2 : List (List ℕ)) (s s2 : Gathered)
    → 2 * i + 1 < length fs → f ≡ get_or fs (2 * i) f → g ≡ get_or fs (2 * i + 1) g → over_long (total_binder (form_tree f)) ≡ false
    → walk (form_tree g) (inner (at e sc)) s ≡ done t s2 → sc2 ≡ sc ++ binder_names (total_binder (form_tree f)) → length sc ≡ n + length vs
    → after_walk (binds (spread p (length sc) (total_bounds (form_pairs (drop (2 * i) fs)))) (at e sc) s) (λ bs s. done (bindings_joined (numbered n vs) bs) s)
    ≡ after_walk (binds (spread p (length sc2) (total_bounds (form_pairs (drop (2 * (i + 1)) fs)))) (at e sc2) s2) (λ bs s. done (bindings_joined (numbered n (vs ++ t ∷ binder_parts p (length sc) (total_binder (form_tree f)))) bs) s)
bound_step2 e p fs i f g n vs t sc sc2 s s2 h x y o w c l =
    let b : Binder = total_binder (form_tree f) in
    let names : sc2 ≡ sc ++ bound_names (spread_one p (length sc) b (walk (form_tree g))) = c ∙ ap (λ (z : List (List ℕ)). sc ++ z) (sym (one_names p (length sc) b (walk (form_tree g)))) in
    ap (λ ns. after_walk (binds ns (at e sc) s) (λ bs s. done (bindings_joined (numbered n vs) bs) s)) (spread_next p fs i f g (length sc) h x y)
    ∙ walked_more e (spread_one p (length sc) b (walk (form_tree g))) _ n vs (t ∷ binder_parts p (length sc) b) sc sc2 s s2 (one_walked e p b (walk (form_tree g)) sc s s2 t o w) names l
    ∙ ap (λ m. after_walk (binds (spread p m (total_bounds (form_pairs (drop (2 * (i + 1)) fs)))) (at e sc2) s2) (λ bs s. done (bindings_joined (numbered n (vs ++ t ∷ binder_parts p (length sc) b)) bs) s)) (next_start p sc sc2 b (walk (form_tree g)) names)

pub names_step2 : (p : Place) (fs : List Form) (i : ℕ) (f g : Form) (sc sc2 : List (List ℕ))
    → 2 * i + 1 < length fs → f ≡ get_or fs (2 * i) f → g ≡ get_or fs (2 * i + 1) g
    → sc2 ≡ sc ++ bound_names (spread_one p (length sc) (total_binder (form_tree f)) (walk (form_tree g)))
    → sc2 ++ bound_names (spread p (length sc2) (total_bounds (form_pairs (drop (2 * (i + 1)) fs)))) ≡ sc ++ bound_names (spread p (length sc) (total_bounds (form_pairs (drop (2 * i) fs))))
names_step2 p fs i f g sc sc2 h x y c =
    let S = spread_one p (length sc) (total_binder (form_tree f)) (walk (form_tree g)) in
    let rest : List Named = spread p (length sc2) (total_bounds (form_pairs (drop (2 * (i + 1)) fs))) in
    ap (λ (z : List (List ℕ)). z ++ bound_names rest) c ∙ append_assoc sc (bound_names S) (bound_names rest) ∙ ap (λ (z : List (List ℕ)). sc ++ z) (sym (bound_names_append S rest))
    ∙ ap (λ m. sc ++ bound_names (S ++ spread p m (total_bounds (form_pairs (drop (2 * (i + 1)) fs))))) (sym (next_start p sc sc2 (total_binder (form_tree f)) (walk (form_tree g)) c))
    ∙ ap (λ ns. sc ++ bound_names ns) (sym (spread_next p fs i f g (length sc) h x y))

pub bound_over : (e : Env) (p : Place) (fs : List Form) (i n : ℕ) (b : Bindings) (s : Gathered) → length fs ≤ 2 * i + 1
    → after_walk (binds (spread p n (total_bounds (form_pairs (drop (2 * i) fs)))) e s) (λ bs s. done (bindings_joined b bs) s) ≡ done b s
bound_over e p fs i n b s h = ap (λ ns. after_walk (binds ns e s) (λ bs s. done (bindings_joined b bs) s)) (spread_over p fs i n h) ∙ ap (λ z. done z s) (joined_end b)

pub names_over : (p : Place) (fs : List Form) (i n : ℕ) (sc : List (List ℕ)) → length fs ≤ 2 * i + 1
    → sc ++ bound_names (spread p n (total_bounds (form_pairs (drop (2 * i) fs)))) ≡ sc
names_over p fs i n sc h = ap (λ ns. sc ++ bound_names ns) (spread_over p fs i n h) ∙ append-nil sc

pub bound_fails : (x : CheckError) (e : Env) (p : Place) (fs : List Form) (i : ℕ) (f g : Form) (sc : List (List ℕ)) (s : Gathered) (k : Bindings → Gathered → WalkOutcome Bindings) (o : WalkOutcome Bindings)
    → o ≡ after_walk (binds (spread p (length sc) (total_bounds (form_pairs (drop (2 * i) fs)))) (at e sc) s) k
    → 2 * i + 1 < length fs → f ≡ get_or fs (2 * i) f → g ≡ get_or fs (2 * i + 1) g
    → Fails x (binds (spread_one p (length sc) (total_binder (form_tree f)) (walk (form_tree g))) (at e sc) s) → Fails x o
bound_fails x e p fs i f g sc s k o same h a b w =
    walked_fails x e (spread_one p (length sc) (total_binder (form_tree f)) (walk (form_tree g))) _ sc s k o (same ∙ ap (λ ns. after_walk (binds ns (at e sc) s) k) (spread_next p fs i f g (length sc) h a b)) w

-- the hidden names of operands
pub part_next : (fs : List Form) (i : ℕ) (f : Form) (n : ℕ) → i < n → n ≤ length fs → f ≡ get_or fs i f → drop i (take n fs) ≡ f ∷ drop (i + 1) (take n fs)
part_next fs i f n h g x =
    let short : length (take n fs) ≡ n = length-take-le n fs g in
    let here : f ≡ get_or (take n fs) i f = x ∙ sym (get_or-take n fs i f h) in
    rw (add-one, drop-cons (take n fs) i f (omega arith)) (ap (λ z. z ∷ drop (suc i) (take n fs)) (sym here))

-- one more part of a pattern's value
pub part_step : (p : Place) (h i n : ℕ) (ts : List Term) (t : Term) → i < n → kernel t ≡ part_term p h i
    → terms_of (ts ++ t ∷ []) ++ part_terms p h (i + 1) (n - (i + 1)) ≡ terms_of ts ++ part_terms p h i (n - i)
part_step p h i n ts t l e =
    let left : n - i ≡ suc (n - (i + 1)) = omega arith in
    let next : i + 1 ≡ suc i = omega arith in
    ap (λ ks. ks ++ part_terms p h (i + 1) (n - (i + 1))) (terms_append ts (t ∷ []) ∙ ap (λ k. terms_of ts ++ k ∷ []) e)
    ∙ append_assoc (terms_of ts) (part_term p h i ∷ []) (part_terms p h (i + 1) (n - (i + 1)))
    ∙ ap (λ m. terms_of ts ++ part_term p h i ∷ part_terms p h m (n - (i + 1))) next
    ∙ ap (λ m. terms_of ts ++ part_terms p h i m) (sym left)

pub total_step : (fs : List Form) (i : ℕ) (f : Form) (sc : List (List ℕ)) → i < length fs → f ≡ get_or fs i f
    → (sc ++ total_name (form_tree f) ∷ []) ++ total_names (form_trees (drop (i + 1) fs)) ≡ sc ++ total_names (form_trees (drop i fs))
total_step fs i f sc h x = append_assoc sc (total_name (form_tree f) ∷ []) (total_names (form_trees (drop (i + 1) fs)))
    ∙ ap (λ gs. sc ++ total_names (form_trees gs)) (sym (cut_at fs i f h x))

-- operands under hidden names
pub hidden_over : (e : Env) (fs : List Form) (i n : ℕ) (b : Bindings) (s : Gathered) → n ≤ i
    → after_walk (binds (map unnamed (meanings (form_parts (drop i (take n fs))))) e s) (λ bs s. done (bindings_joined b bs) s) ≡ done b s
hidden_over e fs i n b s h = ap (λ gs. after_walk (binds (map unnamed (meanings (form_parts gs))) e s) (λ bs s. done (bindings_joined b bs) s)) (drop_all (take n fs) i (omega (arith, length-take n fs))) ∙ ap (λ z. done z s) (joined_end b)

pub parts_count : (p : Place) (h i n : ℕ) → length (part_terms p h i n) ≡ n
parts_count p h i zero = refl
parts_count p h i (suc n) = ap suc (parts_count p h (suc i) n)

same_width : (p : Place) (n : ℕ) (b : Binder) → suc (length (binder_parts p n b)) ≡ length (binder_names b)
same_width p n (one x) = refl
same_width p n (many xs q) = ap suc (parts_count p n 0 (length xs))

-- the scope grows with the values
pub bound_longer : (sc sc2 : List (List ℕ)) (vs ws : List Term) (t : Kernel) (n : ℕ) (p : Place) (b : Binder) (m : ℕ) → sc2 ≡ sc ++ binder_names b
    → terms_of ws ≡ terms_of vs ++ t ∷ binder_parts p m b → length sc ≡ n + length vs → length sc2 ≡ n + length ws
bound_longer sc sc2 vs ws t n p b m c w l =
    let a : length sc2 ≡ length sc + length (binder_names b) = ap (λ (z : List (List ℕ)). length z) c ∙ length-append sc (binder_names b) in
    let d : length (terms_of ws) ≡ length (terms_of vs) + suc (length (binder_parts p m b)) = ap (λ (z : List Kernel). length z) w ∙ length-append (terms_of vs) (t ∷ binder_parts p m b) in
    let f : length (terms_of ws) ≡ length ws = length-map ws kernel in
    let g : length (terms_of vs) ≡ length vs = length-map vs kernel in
    let k : suc (length (binder_parts p m b)) ≡ length (binder_names b) = same_width p m b in
    omega arith

abbrev pub hidden_of : List Form → List Named
hidden_of fs = map unnamed (meanings (form_parts fs))

pub hidden_step : (e : Env) (fs : List Form) (i n m : ℕ) (f : Form) (vs : List Kernel) (t : Kernel) (sc sc2 : List (List ℕ)) (s s2 : Gathered) → i < n → n ≤ length fs → f ≡ get_or fs i f
    → walk (form_tree f) (inner (at e sc)) s ≡ done t s2 → sc2 ≡ sc ++ [] ∷ [] → length sc ≡ m + length vs
    → after_walk (binds (hidden_of (drop i (take n fs))) (at e sc) s) (λ bs s. done (bindings_joined (numbered m vs) bs) s)
    ≡ after_walk (binds (hidden_of (drop (i + 1) (take n fs))) (at e sc2) s2) (λ bs s. done (bindings_joined (numbered m (vs ++ t ∷ [])) bs) s)
hidden_step e fs i n m f vs t sc sc2 s s2 h g x w c l =
    ap (λ gs. after_walk (binds (hidden_of gs) (at e sc) s) (λ bs s. done (bindings_joined (numbered m vs) bs) s)) (part_next fs i f n h g x)
    ∙ walked_more e (unnamed (walk (form_tree f)) ∷ []) (hidden_of (drop (i + 1) (take n fs))) m vs (t ∷ []) sc sc2 s s2 (rw w refl) c l

pub hidden_names : (fs : List Form) (i n : ℕ) (f : Form) (sc sc2 : List (List ℕ)) → i < n → n ≤ length fs → f ≡ get_or fs i f → sc2 ≡ sc ++ [] ∷ []
    → sc2 ++ bound_names (hidden_of (drop (i + 1) (take n fs))) ≡ sc ++ bound_names (hidden_of (drop i (take n fs)))
hidden_names fs i n f sc sc2 h g x c =
    ap (λ (z : List (List ℕ)). z ++ bound_names (hidden_of (drop (i + 1) (take n fs)))) c ∙ append_assoc sc ([] ∷ []) (bound_names (hidden_of (drop (i + 1) (take n fs))))
    ∙ ap (λ gs. sc ++ bound_names (hidden_of gs)) (sym (part_next fs i f n h g x))

-- what a result lists
pub listed : (r : Result (Seq Term) CheckError) (xs : List Term) (ks : List Kernel) → terms_of xs ≡ ks → IfOk r (λ t. list t ≡ xs) → IfOk r (λ t. terms_of (list t) ≡ ks)
listed (Ok t) xs ks e h = ap terms_of h ∙ e
listed (Err x) xs ks e h = tt

pub relisted : (r : Result (Seq Term) CheckError) (js ks : List Kernel) → js ≡ ks → IfOk r (λ t. terms_of (list t) ≡ js) → IfOk r (λ t. terms_of (list t) ≡ ks)
relisted (Ok t) js ks e h = h ∙ e
relisted (Err x) js ks e h = tt

pub on_ok : {A E : Type 0} (r : Result A E) (X Y : Type 0) → (X → Y) → OnOk r X → OnOk r Y
on_ok (Ok t) X Y f h = f h
on_ok (Err x) X Y f h = tt

-- the parts of a pattern behind its value
pub pattern_parts : (p : Place) (n m : ℕ) (ks : List Kernel) (b : Binder) (xs : List (List ℕ)) (q : Place) (k : ℕ) → n ≡ m → b ≡ many xs q → length xs ≡ k
    → ks ++ part_terms p n 0 k ≡ ks ++ binder_parts p m b
pattern_parts p n m ks b xs q k e f g =
    ap (λ j. ks ++ part_terms p j 0 k) e ∙ ap (λ j. ks ++ part_terms p m 0 j) (sym g) ∙ ap (λ z. ks ++ binder_parts p m z) (sym f)
