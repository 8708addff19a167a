-- A `loop` with patterns: a Let of its bindings, a loop over their whole values, and a Let of the patterns in it.
use Rattle.std.proofs.Common.{◌≡◌, ℕ, suc, ◌+◌, ◌*◌, ◌-◌, ◌<◌, ◌≤◌, List, [], ◌∷◌, ◌++◌, length, drop, get_or, refl, sym, ap, ap₂, ◌∙◌, arith, append_assoc, append-nil, length-append, length-drop, ⊎_elim, Some, Bool, true, false, cond, nat_lt}
use Rattle.std.proofs.lemmas.Bool.{cases_lt, lt-ltb}
use Rattle.std.proofs.lemmas.List.{length-map}
use Rattle.ca_term.specs.declared.place.Place.{Place}
use Rattle.ca_term.specs.declared.term.Term.{Term}
use Rattle.ca_term.specs.Kernel.{Kernel, Bindings, var, binding, bind, loop, seq, none, item}
use Rattle.ca_term.specs.View.{kernel}
use Rattle.ca_reader.specs.declared.form.Form.{Form}
use Rattle.ca_reader.specs.View.{form_tree, form_trees}
use Rattle.ca_forms.specs.declared.error.CheckError.{CheckError}
use Rattle.ca_forms.specs.declared.error.CheckErrorKind.TheVariants.{TooMany}
use Rattle.ca_check.specs.Again.{widths, again_terms, whole_names, again_row}
use Rattle.ca_forms.specs.Binders.{Binder, Bound, one, many, width, whole_name, spread_items, spread_one, spread, patterns}
use Rattle.ca_forms.specs.Judged.{bound_names, total_binder, total_bounds, total_name, total_names, part_terms, pattern_of}
use Rattle.ca_forms.specs.Meaning.{Env, Meaning, Named, size, behind, binds, block, lets, loops, fail_with, numbered}
use Rattle.ca_forms.specs.Outcome.{Gathered, WalkOutcome, done, refused, after_walk, limited}
use Rattle.ca_forms.specs.Plain.{meanings, again, binders, loop_over_patterns}
use Rattle.ca_forms.specs.Rounds.{loop_parts, under}
use Rattle.ca_check.specs.TopsView.{pattern_names, pattern_parts, AreCounted}
use Rattle.ca_forms.specs.Walk.{within}
use Rattle.ca_forms.specs.WalkView.{form_parts, form_pairs, terms_of, Fails}
use Rattle.ca_forms.proofs.BindLaws.{at, binds_append, one_width, terms_append}
use Rattle.ca_check.proofs.DefnLaws.{name_whole}
use Rattle.ca_forms.proofs.LoopLaws.{binders_from, binders_step, has_pattern}
use Rattle.ca_forms.proofs.PartLaws.{after_fails, parts_second}
use Rattle.ca_check.proofs.PatternLaws.{parts_are, names_are, count_is, counted_behind, patterns_bound, patterns_named}
use Rattle.ca_forms.proofs.RoundLaws.{block_one, loops_walked, loops_fails}

one_longer : (sc : List (List ℕ)) (x : List ℕ) → length (sc ++ x ∷ []) ≡ suc (length sc)
one_longer sc x = length-append sc (x ∷ []) ∙ omega arith

-- the whole values again
pub again_bound : (e : Env) (n : ℕ) (bs : List Bound) (sc : List (List ℕ)) (s : Gathered) → binds (again n bs) (at e sc) s ≡ done (numbered (length sc) (again_terms n (binders bs))) s
again_bound e n [] sc s = refl
again_bound e n (b ∷ bs) sc s =
    ap (λ (o : WalkOutcome Bindings). after_walk o (λ ts s. done (binding (length sc) (var n) ts) s)) (again_bound e (n + width b.by) bs (sc ++ whole_name b.by ∷ []) s)
    ∙ ap (λ k. done (binding (length sc) (var n) (numbered k (again_terms (n + width b.by) (binders bs)))) s) (one_longer sc (whole_name b.by))

pub again_names : (n : ℕ) (bs : List Bound) → bound_names (again n bs) ≡ whole_names (binders bs)
again_names n [] = refl
again_names n (b ∷ bs) = ap (λ (l : List (List ℕ)). whole_name b.by ∷ l) (again_names (n + width b.by) bs)

pub again_many : (n : ℕ) (bs : List Bound) → length (again n bs) ≡ length (again_terms n (binders bs))
again_many n [] = refl
again_many n (b ∷ bs) = ap suc (again_many (n + width b.by) bs)

pub spread_widths : (p : Place) (n : ℕ) (bs : List Bound) → length (spread p n bs) ≡ widths (binders bs)
spread_widths p n [] = refl
spread_widths p n (b ∷ bs) = length-append (spread_one p n b.by b.means) (spread p (n + width b.by) bs)
    ∙ omega (arith, one_width p n b.by b.means, spread_widths p (n + width b.by) bs)

-- the scope behind the bindings has all their names
pub all_within : (p : Place) (bs : List Bound) (sc sc2 : List (List ℕ)) → sc2 ≡ sc ++ bound_names (spread p (length sc) bs) → length sc + widths (binders bs) ≤ length sc2
all_within p bs sc sc2 h =
    let a : length sc2 ≡ length sc + length (bound_names (spread p (length sc) bs)) = ap (λ (l : List (List ℕ)). length l) h ∙ length-append sc (bound_names (spread p (length sc) bs)) in
    let b : length (bound_names (spread p (length sc) bs)) ≡ length (spread p (length sc) bs) = length-map (spread p (length sc) bs) (λ m. m.name) in
    omega (arith, a, b, spread_widths p (length sc) bs)

-- what comes to something went through its first part
after_is_done : {A B : Type 0} (o : WalkOutcome A) (k : A → Gathered → WalkOutcome B) (b : B) (s2 : Gathered) → after_walk o k ≡ done b s2 → (a : A) × (s1 : Gathered) × (o ≡ done a s1) × (k a s1 ≡ done b s2)
after_is_done (done a s1) k b s2 h = (a, s1, refl, h)
after_is_done (refused e p) k b s2 h = absurd (cc)

-- bindings that come to something have no pattern that is too long
pub counted_done : (e : Env) (p : Place) (n : ℕ) (bs : List Bound) (sc : List (List ℕ)) (s s2 : Gathered) (ts : Bindings) → binds (spread p n bs) (at e sc) s ≡ done ts s2 → AreCounted (binders bs)
counted_done e p n [] sc s s2 ts h = tt
counted_done e p n (b ∷ bs) sc s s2 ts h =
    let S : List Named = spread_one p n b.by b.means in
    let R : List Named = spread p (n + width b.by) bs in
    let first = after_is_done (binds S (at e sc) s) _ ts s2 (sym (binds_append e S R sc s) ∙ h) in
    let rest = after_is_done (binds R (at e (sc ++ bound_names S)) first.1) _ ts s2 first.3 in
    head b.by first.0 first.1 first.2 (counted_done e p (n + width b.by) bs (sc ++ bound_names S) first.1 rest.1 rest.0 rest.2) where
      head : (c : Binder) (a : Bindings) (s1 : Gathered) → binds (spread_one p n c b.means) (at e sc) s ≡ done a s1 → AreCounted (binders bs) → AreCounted (c ∷ binders bs)
      head (one x) a s1 g k = k
      head (many xs q) a s1 g k = (⊎_elim (λ l. long (nat_lt 4096 (length xs)) (lt-ltb 4096 (length xs) l) g) (λ u. omega (arith, u)) (cases_lt 4096 (length xs)), k) where
        long : (t : Bool) → t ≡ true → binds (record { name = []; means = cond t (fail_with TooMany q) b.means } ∷ spread_items p n xs 0) (at e sc) s ≡ done a s1 → length xs ≤ 4096
        long true f g = absurd (cc)
        long false f g = absurd (cc)

-- one more of the whole values
pub again_step : (fs : List Form) (i number : ℕ) (f : Form) (vs : List Term) (t : Term) → 2 * i + 1 < length fs → f ≡ get_or fs (2 * i) f → kernel t ≡ var number
    → terms_of (vs ++ t ∷ []) ++ again_terms (number + width (total_binder (form_tree f))) (binders_from fs (i + 1)) ≡ terms_of vs ++ again_terms number (binders_from fs i)
again_step fs i number f vs t h x k =
    let rest : List Kernel = again_terms (number + width (total_binder (form_tree f))) (binders_from fs (i + 1)) in
    ap (λ (l : List Kernel). l ++ rest) (terms_append vs (t ∷ [])) ∙ append_assoc (terms_of vs) (kernel t ∷ []) rest
    ∙ ap (λ (u : Kernel). terms_of vs ++ u ∷ rest) k ∙ ap (λ bs. terms_of vs ++ again_terms number bs) (sym (binders_step fs i f h x))

pub whole_step : (fs : List Form) (i : ℕ) (f : Form) (sc : List (List ℕ)) → 2 * i + 1 < length fs → f ≡ get_or fs (2 * i) f
    → (sc ++ total_name (form_tree f) ∷ []) ++ whole_names (binders_from fs (i + 1)) ≡ sc ++ whole_names (binders_from fs i)
whole_step fs i f sc h x = append_assoc sc (total_name (form_tree f) ∷ []) (whole_names (binders_from fs (i + 1)))
    ∙ ap (λ (n : List ℕ). sc ++ n ∷ whole_names (binders_from fs (i + 1))) (sym (name_whole (form_tree f))) ∙ ap (λ bs. sc ++ whole_names bs) (sym (binders_step fs i f h x))

pub widths_step : (fs : List Form) (i : ℕ) (f : Form) → 2 * i + 1 < length fs → f ≡ get_or fs (2 * i) f → widths (binders_from fs i) ≡ width (total_binder (form_tree f)) + widths (binders_from fs (i + 1))
widths_step fs i f h x = ap widths (binders_step fs i f h x)

pub binders_over : (fs : List Form) (i : ℕ) → length fs ≤ 2 * i + 1 → binders_from fs i ≡ []
binders_over fs i h = by (drop (2 * i) fs) (length-drop (2 * i) fs) where
  by : (gs : List Form) → length gs ≡ length fs - 2 * i → binders (total_bounds (form_pairs gs)) ≡ []
  by [] e = refl
  by (g ∷ []) e = refl
  by (g ∷ k ∷ gs) e = absurd (omega (arith, e, h))

pub again_over : (fs : List Form) (i n : ℕ) (ts : List Kernel) → length fs ≤ 2 * i + 1 → ts ++ again_terms n (binders_from fs i) ≡ ts
again_over fs i n ts h = ap (λ bs. ts ++ again_terms n bs) (binders_over fs i h) ∙ append-nil ts

pub whole_over : (fs : List Form) (i : ℕ) (sc : List (List ℕ)) → length fs ≤ 2 * i + 1 → sc ++ whole_names (binders_from fs i) ≡ sc
whole_over fs i sc h = ap (λ bs. sc ++ whole_names bs) (binders_over fs i h) ∙ append-nil sc

-- the parts of one more pattern
pub unpack_step : (p : Place) (first : ℕ) (fs : List Form) (i : ℕ) (f : Form) (xs : List Form) (ts us : List Term) → 2 * i + 1 < length fs → f ≡ get_or fs (2 * i) f → form_trees xs ≡ pattern_of (form_tree f)
    → terms_of us ≡ terms_of ts ++ part_terms p (first + i) 0 (length xs)
    → terms_of us ++ pattern_parts p (first + (i + 1)) (binders_from fs (i + 1)) ≡ terms_of ts ++ pattern_parts p (first + i) (binders_from fs i)
unpack_step p first fs i f xs ts us h x e u =
    let next : first + (i + 1) ≡ suc (first + i) = omega arith in
    let rest : List Kernel = pattern_parts p (suc (first + i)) (binders_from fs (i + 1)) in
    ap (λ n. terms_of us ++ pattern_parts p n (binders_from fs (i + 1))) next
    ∙ ap (λ (ks : List Kernel). ks ++ rest) u ∙ append_assoc (terms_of ts) (part_terms p (first + i) 0 (length xs)) rest
    ∙ ap (λ (ks : List Kernel). terms_of ts ++ (ks ++ rest)) (sym (parts_are p (first + i) (form_tree f) xs e))
    ∙ ap (λ bs. terms_of ts ++ pattern_parts p (first + i) bs) (sym (binders_step fs i f h x))

pub inside_step : (sc : List (List ℕ)) (fs : List Form) (i : ℕ) (f : Form) (xs : List Form) → 2 * i + 1 < length fs → f ≡ get_or fs (2 * i) f → form_trees xs ≡ pattern_of (form_tree f)
    → (sc ++ total_names (form_trees xs)) ++ pattern_names (binders_from fs (i + 1)) ≡ sc ++ pattern_names (binders_from fs i)
inside_step sc fs i f xs h x e =
    append_assoc sc (total_names (form_trees xs)) (pattern_names (binders_from fs (i + 1)))
    ∙ ap (λ (ns : List (List ℕ)). sc ++ (ns ++ pattern_names (binders_from fs (i + 1)))) (sym (names_are (form_tree f) xs e))
    ∙ ap (λ bs. sc ++ pattern_names bs) (sym (binders_step fs i f h x))

pub unpack_over : (p : Place) (n : ℕ) (fs : List Form) (i : ℕ) (ts : List Kernel) → length fs ≤ 2 * i + 1 → ts ++ pattern_parts p n (binders_from fs i) ≡ ts
unpack_over p n fs i ts h = ap (λ bs. ts ++ pattern_parts p n bs) (binders_over fs i h) ∙ append-nil ts

pub inside_over : (fs : List Form) (i : ℕ) (sc : List (List ℕ)) → length fs ≤ 2 * i + 1 → sc ++ pattern_names (binders_from fs i) ≡ sc
inside_over fs i sc h = ap (λ bs. sc ++ pattern_names bs) (binders_over fs i h) ∙ append-nil sc

pub counted_here : (fs : List Form) (i : ℕ) (f : Form) (xs : List Form) → 2 * i + 1 < length fs → f ≡ get_or fs (2 * i) f → form_trees xs ≡ pattern_of (form_tree f) → AreCounted (binders_from fs i) → length xs ≤ 4096
counted_here fs i f xs h x e k = count_is (form_tree f) xs (binders_from fs (i + 1)) e (rw (binders_step fs i f h x) at k)

pub counted_next : (fs : List Form) (i : ℕ) (f : Form) → 2 * i + 1 < length fs → f ≡ get_or fs (2 * i) f → AreCounted (binders_from fs i) → AreCounted (binders_from fs (i + 1))
counted_next fs i f h x k = counted_behind (total_binder (form_tree f)) (binders_from fs (i + 1)) (rw (binders_step fs i f h x) at k)

pub many_from : (fs : List Form) (i : ℕ) (f : Form) → 2 * i + 1 < length fs → f ≡ get_or fs (2 * i) f → length (binders_from fs i) ≡ suc (length (binders_from fs (i + 1)))
many_from fs i f h x = ap (λ (bs : List Binder). length bs) (binders_step fs i f h x)

-- a Let of the patterns, and a body
module _ (e : Env) (p : Place) (n : ℕ) (bs : List Binder) (m : Meaning) (sc sc2 : List (List ℕ)) (s s1 : Gathered) (names : sc2 ≡ sc ++ pattern_names bs) (same : s1 ≡ s) where
  lets_are : lets (patterns p n bs) m (at e sc) s ≡ after_walk (m (at e sc2) s1) (λ u s. limited (bind (numbered (length sc) (pattern_parts p n bs)) u) s)
  lets_are =
      let here : sc ++ bound_names (patterns p n bs) ≡ sc2 = ap (λ (l : List (List ℕ)). sc ++ l) (patterns_named p n bs) ∙ sym names in
      ap (λ (o : WalkOutcome Bindings). after_walk o (λ ts s. after_walk (m (at e (sc ++ bound_names (patterns p n bs))) s) (λ u s. limited (bind ts u) s))) (patterns_bound e p n bs sc s)
      ∙ ap (λ (z : List (List ℕ)). after_walk (m (at e z) s) (λ u s. limited (bind (numbered (length sc) (pattern_parts p n bs)) u) s)) here
      ∙ ap (λ z. after_walk (m (at e sc2) z) (λ u s. limited (bind (numbered (length sc) (pattern_parts p n bs)) u) s)) (sym same)

  pub lets_walked : (u : Kernel) (s2 : Gathered) (ks : List Kernel) → m (at e sc2) s1 ≡ done u s2 → ks ≡ pattern_parts p n bs
      → lets (patterns p n bs) m (at e sc) s ≡ limited (bind (numbered (length sc) ks) u) s2
  lets_walked u s2 ks w k = lets_are
      ∙ ap (λ (o : WalkOutcome Kernel). after_walk o (λ u s. limited (bind (numbered (length sc) (pattern_parts p n bs)) u) s)) w
      ∙ ap (λ (l : List Kernel). limited (bind (numbered (length sc) l) u) s2) (sym k)

  pub lets_fail : (x : CheckError) → Fails x (m (at e sc2) s1) → Fails x (lets (patterns p n bs) m (at e sc) s)
  lets_fail x w = rw lets_are (after_fails x (m (at e sc2) s1) _ w)

-- the loop over the whole values
module _ (e : Env) (p : Place) (n k : ℕ) (bs : List Bound) (m : Meaning) (sc2 : List (List ℕ)) (s s1 : Gathered) (names : sc2 ≡ e.scope ++ whole_names (binders bs)) (same : s1 ≡ s)
    (many_values : k ≡ length (again_terms n (binders bs))) where
  inside : record (behind (again n bs) e) { target = Some (length (again n bs)) } ≡ record e { scope = sc2; target = Some k }
  inside = ap₂ (λ sc i. record e { scope = sc; target = Some i }) (ap (λ (l : List (List ℕ)). e.scope ++ l) (again_names n bs) ∙ sym names) (again_many n bs ∙ sym many_values)

  abbrev body : Meaning
  body = block (lets (patterns p (size e) (binders bs)) m ∷ [])

  bodies : body (record (behind (again n bs) e) { target = Some (length (again n bs)) }) s
      ≡ after_walk (lets (patterns p (size e) (binders bs)) m (record e { scope = sc2; target = Some k }) s1) (λ t s. limited (seq (item t none)) s)
  bodies = ap (λ i. body i s) inside ∙ ap (λ z. body (record e { scope = sc2; target = Some k }) z) (sym same) ∙ block_one (lets (patterns p (size e) (binders bs)) m) (record e { scope = sc2; target = Some k }) s1

  pub again_walked : (u v : Kernel) (s2 s3 : Gathered) (ks : List Kernel) → lets (patterns p (size e) (binders bs)) m (record e { scope = sc2; target = Some k }) s1 ≡ done u s2
      → limited (seq (item u none)) s2 ≡ done v s3 → ks ≡ again_terms n (binders bs)
      → again_row n p bs m e s ≡ limited (loop [] (numbered (size e) ks) v) s3
  again_walked u v s2 s3 ks w g h =
      loops_walked (again n bs) body e (numbered (size e) (again_terms n (binders bs))) s s (done v s3) (again_bound e n bs e.scope s)
      (bodies ∙ ap (λ (o : WalkOutcome Kernel). after_walk o (λ t s. limited (seq (item t none)) s)) w ∙ g)
      ∙ ap (λ (l : List Kernel). limited (loop [] (numbered (size e) l) v) s3) (sym h)

  pub again_fails : (x : CheckError) → Fails x (lets (patterns p (size e) (binders bs)) m (record e { scope = sc2; target = Some k }) s1) → Fails x (again_row n p bs m e s)
  again_fails x w = loops_fails x (again n bs) body e (numbered (size e) (again_terms n (binders bs))) s s (again_bound e n bs e.scope s) (rw bodies (after_fails x _ _ w))

-- the bindings of a form, and the text behind them
abbrev pub bounds_in : Form → List Bound
bounds_in b = total_bounds (within (form_tree b))

abbrev pub text_in : List Form → Meaning
text_in fs = block (meanings (form_parts (drop 2 fs)))

-- the whole form
module _ (p : Place) (fs : List Form) (b : Form) (e : Env) (s : Gathered) (h : 1 < length fs) (x : b ≡ get_or fs 1 b) (some : has_pattern b ≡ true) where
  row_is : loop_parts p (form_parts (drop 1 fs)) e s ≡ loop_over_patterns (bounds_in b) (text_in fs) p e s
  row_is = ap (λ ps. loop_parts p ps e s) (parts_second fs b h x) ∙ ap (λ c. cond c (loop_over_patterns (bounds_in b) (text_in fs) p e) (loops (spread p (size e) (bounds_in b)) (text_in fs) e) s) some

  module _ (ts : Bindings) (s1 : Gathered) (sc2 : List (List ℕ)) (w : binds (spread p (size e) (bounds_in b)) e s ≡ done ts s1) (names : sc2 ≡ e.scope ++ bound_names (spread p (size e) (bounds_in b))) where
    behind_it : loop_over_patterns (bounds_in b) (text_in fs) p e s ≡ after_walk (again_row (size e) p (bounds_in b) (text_in fs) (record e { scope = sc2 }) s1) (λ u s. after_walk (limited (seq (item u none)) s) (λ v s. limited (bind ts v) s))
    behind_it =
        ap (λ (o : WalkOutcome Bindings). after_walk o (λ ts s. after_walk (block (again_row (size e) p (bounds_in b) (text_in fs) ∷ []) (behind (spread p (size e) (bounds_in b)) e) s) (λ u s. limited (bind ts u) s))) w
        ∙ ap (λ (z : List (List ℕ)). after_walk (block (again_row (size e) p (bounds_in b) (text_in fs) ∷ []) (record e { scope = z }) s1) (λ u s. limited (bind ts u) s)) (sym names)
        ∙ ap (λ (o : WalkOutcome Kernel). after_walk o (λ u s. limited (bind ts u) s)) (block_one (again_row (size e) p (bounds_in b) (text_in fs)) (record e { scope = sc2 }) s1)
        ∙ flat (again_row (size e) p (bounds_in b) (text_in fs) (record e { scope = sc2 }) s1) where
          flat : (o : WalkOutcome Kernel) → after_walk (after_walk o (λ t s. limited (seq (item t none)) s)) (λ u s. limited (bind ts u) s) ≡ after_walk o (λ u s. after_walk (limited (seq (item u none)) s) (λ v s. limited (bind ts v) s))
          flat (done t s) = refl
          flat (refused k q) = refl

    pub patterns_walked : (u : Kernel) (s2 : Gathered) (vs : List Kernel) → again_row (size e) p (bounds_in b) (text_in fs) (record e { scope = sc2 }) s1 ≡ done u s2 → ts ≡ numbered (size e) vs
        → loop_parts p (form_parts (drop 1 fs)) e s ≡ under (size e) vs u s2
    patterns_walked u s2 vs g k = row_is ∙ behind_it
        ∙ ap (λ (o : WalkOutcome Kernel). after_walk o (λ u s. after_walk (limited (seq (item u none)) s) (λ v s. limited (bind ts v) s))) g
        ∙ ap (λ t. after_walk (limited (seq (item u none)) s2) (λ v s. limited (bind t v) s)) k

    pub patterns_fail : (y : CheckError) → Fails y (again_row (size e) p (bounds_in b) (text_in fs) (record e { scope = sc2 }) s1) → Fails y (loop_parts p (form_parts (drop 1 fs)) e s)
    patterns_fail y g = rw (row_is ∙ behind_it) (after_fails y _ _ g)

  pub values_fail : (y : CheckError) → Fails y (binds (spread p (size e) (bounds_in b)) e s) → Fails y (loop_parts p (form_parts (drop 1 fs)) e s)
  values_fail y g = rw row_is (after_fails y (binds (spread p (size e) (bounds_in b)) e s) _ g)
