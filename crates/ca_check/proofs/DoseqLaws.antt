-- `doseq`: a `let` of each item, in a loop that counts through them.
use Rattle.std.proofs.Common.{◌≡◌, ℕ, ◌+◌, ◌<◌, List, [], ◌∷◌, ◌++◌, length, drop, get_or, refl, sym, ap, ◌∙◌, arith, append-nil, length-append, Option, None, Some, true, false, is_some}
use Rattle.ca_value.specs.declared.seq.Seq.{Seq}
use Rattle.ca_value.specs.Seq.{list}
use Rattle.ca_value.specs.declared.builtin.Builtin.TheVariants.{Items, Count, Nth}
use Rattle.ca_term.specs.declared.place.Place.{Place}
use Rattle.ca_term.specs.declared.head.Head.TheVariants.{Builtin}
use Rattle.ca_term.specs.Kernel.{Kernel, Bindings, none as no_terms, item as term, empty, binding, bind}
use Rattle.ca_reader.specs.declared.form.Form.{Form}
use Rattle.ca_reader.specs.declared.form.Shape.{Vector}
use Rattle.ca_reader.specs.declared.form.Bracket.TheVariants.{Round, Square, Curly}
use Rattle.ca_reader.specs.Form.{FormTree, form, atom, group, none, item, form_place}
use Rattle.ca_reader.specs.View.{form_tree}
use Rattle.ca_forms.specs.declared.error.CheckError.{CheckError}
use Rattle.ca_forms.specs.declared.error.CheckError.TheVariants.{Fault, OutOfMemory}
use Rattle.ca_forms.specs.declared.error.CheckErrorKind.TheVariants.{BadForm, TooMany}
use Rattle.ca_forms.specs.Binders.{Part, Binder, Bound, binder, bounds, with_bound, bindings_in, spread, spread_one}
use Rattle.ca_check.specs.Choices.{first_in, only_means, is_only, only_shape}
use Rattle.ca_forms.specs.Judged.{total_binder, over_long, binder_names, binder_parts, bound_names}
use Rattle.ca_forms.specs.Meaning.{Env, Meaning, Named, size, inner, behind_name, behind, operation, local_name, block, binds, lets, unnamed, numbered}
use Rattle.ca_forms.specs.Outcome.{Gathered, WalkOutcome, done, refused, after_walk, limited}
use Rattle.ca_forms.specs.Plain.{meanings, counting, nth_bound, doseq, row_doseq}
use Rattle.ca_forms.specs.Rounds.{counted_rounds, under, nth_term, count_term, items_call, item_of}
use Rattle.ca_forms.specs.Walk.{walk, within}
use Rattle.ca_forms.specs.WalkView.{part, form_parts, form_pairs, Fails}
use Rattle.ca_forms.proofs.BindLaws.{one_walked, one_names, one_long}
use Rattle.ca_forms.proofs.PartLaws.{parts_second, after_after, after_fails}
use Rattle.ca_forms.proofs.RoundLaws.{block_one}
use Rattle.ca_check.proofs.BoundLaws.{some_bound, vector_bindings}
use Rattle.ca_check.proofs.CountLaws.{counting_walked, counting_fails}
use Rattle.ca_forms.proofs.ShapeLaws.{given, binder_is}

-- the `let` of an item
module _ (p : Place) (f : FormTree) (h j : ℕ) (body : Meaning) (e : Env) (s : Gathered) where
  spread_is : spread p (size e) (nth_bound (total_binder f) h j p ∷ []) ≡ spread_one p (size e) (total_binder f) (operation (Builtin Nth) (local_name h ∷ local_name j ∷ []) p)
  spread_is = append-nil (spread_one p (size e) (total_binder f) (operation (Builtin Nth) (local_name h ∷ local_name j ∷ []) p))

  pub item_long : over_long (total_binder f) ≡ true → item_of (total_binder f) h j body p e s ≡ refused TooMany (form_place f)
  item_long o = ap (λ bs. lets bs body e s) spread_is
      ∙ ap (λ (z : WalkOutcome Bindings). after_walk z (λ ts s. after_walk (body (behind (spread_one p (size e) (total_binder f) (operation (Builtin Nth) (local_name h ∷ local_name j ∷ []) p)) e) s) (λ u s. limited (bind ts u) s)))
      (one_long e p f (operation (Builtin Nth) (local_name h ∷ local_name j ∷ []) p) e.scope s o)

  module _ (sc2 : List (List ℕ)) (o : over_long (total_binder f) ≡ false) (names : sc2 ≡ e.scope ++ binder_names (total_binder f)) where
    item_is : item_of (total_binder f) h j body p e s
        ≡ after_walk (body (record e { scope = sc2 }) s) (λ u s. limited (bind (numbered (size e) (nth_term h j p ∷ binder_parts p (size e) (total_binder f))) u) s)
    item_is =
        let here : e.scope ++ bound_names (spread_one p (size e) (total_binder f) (operation (Builtin Nth) (local_name h ∷ local_name j ∷ []) p)) ≡ sc2
        = ap (λ (z : List (List ℕ)). e.scope ++ z) (one_names p (size e) (total_binder f) (operation (Builtin Nth) (local_name h ∷ local_name j ∷ []) p)) ∙ sym names in
        ap (λ bs. lets bs body e s) spread_is
        ∙ ap (λ (z : WalkOutcome Bindings). after_walk z (λ ts s. after_walk (body (behind (spread_one p (size e) (total_binder f) (operation (Builtin Nth) (local_name h ∷ local_name j ∷ []) p)) e) s) (λ u s. limited (bind ts u) s)))
        (one_walked e p (total_binder f) (operation (Builtin Nth) (local_name h ∷ local_name j ∷ []) p) e.scope s s (nth_term h j p) o refl)
        ∙ ap (λ (z : List (List ℕ)). after_walk (body (record e { scope = z }) s) (λ u s. limited (bind (numbered (size e) (nth_term h j p ∷ binder_parts p (size e) (total_binder f))) u) s)) here

    pub item_walked : (u : Kernel) (s2 : Gathered) → body (record e { scope = sc2 }) s ≡ done u s2
        → item_of (total_binder f) h j body p e s ≡ limited (bind (numbered (size e) (nth_term h j p ∷ binder_parts p (size e) (total_binder f))) u) s2
    item_walked u s2 w = item_is ∙ ap (λ (z : WalkOutcome Kernel). after_walk z (λ u s. limited (bind (numbered (size e) (nth_term h j p ∷ binder_parts p (size e) (total_binder f))) u) s)) w

    pub item_fails : (x : CheckError) → Fails x (body (record e { scope = sc2 }) s) → Fails x (item_of (total_binder f) h j body p e s)
    item_fails x w = rw item_is (after_fails x (body (record e { scope = sc2 }) s) _ w)

-- the only binding of a form
only_bound : (f : FormTree) (bd : Bound) → bindings_in (record { form = f; means = walk f; within = within f }) ≡ Some (bd ∷ []) → bd ≡ record { by = total_binder (first_in f); means = only_means f }
only_bound (form (atom a) p) bd h = absurd (cc)
only_bound (form (group Round fs) p) bd h = absurd (cc)
only_bound (form (group Curly fs) p) bd h = absurd (cc)
only_bound (form (group Square none) p) bd h = absurd (empty_not (given [] (bd ∷ []) h)) where
  empty_not : [] ≡ bd ∷ [] → ⊥
  empty_not u = cc
only_bound (form (group Square (item b none)) p) bd h = absurd (cc)
only_bound (form (group Square (item b (item e none))) p) bd h = by (binder b) (binder_is b) h where
  by : (o : Option Binder) → ((c : Binder) → o ≡ Some c → c ≡ total_binder b) → with_bound o (walk e) (Some []) ≡ Some (bd ∷ []) → bd ≡ record { by = total_binder b; means = walk e }
  by None u h = absurd (cc)
  by (Some c) u h = sym (first_same (given (record { by = c; means = walk e } ∷ []) (bd ∷ []) h)) ∙ ap (λ z. record { by = z; means = walk e }) (u c refl) where
    first_same : {x y : Bound} → x ∷ [] ≡ y ∷ [] → x ≡ y
    first_same g = cc
only_bound (form (group Square (item b (item e (item g fs)))) p) bd h = by (binder b) _ (some_bound (record { form = g; means = walk g }) _) h where
  by : (o : Option Binder) (r : Option (List Bound)) → (r ≡ Some [] → ⊥) → with_bound o (walk e) r ≡ Some (bd ∷ []) → bd ≡ record { by = total_binder (form (group Square (item b (item e (item g fs)))) p); means = only_means (form (group Square (item b (item e (item g fs)))) p) }
  by None r u h = absurd (cc)
  by (Some c) None u h = absurd (cc)
  by (Some c) (Some bs) u h = absurd (u (ap Some (rest_none (given (record { by = c; means = walk e } ∷ bs) (bd ∷ []) h)))) where
    rest_none : {x y : Bound} {xs : List Bound} → x ∷ xs ≡ y ∷ [] → xs ≡ []
    rest_none g = cc

-- whether there is one alone
one_only : (o : Option Binder) (m : Meaning) → is_some o ≡ is_only (with_bound o m (Some []))
one_only None m = refl
one_only (Some b) m = refl

not_only : (o : Option Binder) (m : Meaning) (r : Option (List Bound)) → (r ≡ Some [] → ⊥) → false ≡ is_only (with_bound o m r)
not_only None m r h = refl
not_only (Some b) m None h = refl
not_only (Some b) m (Some []) h = absurd (h refl)
not_only (Some b) m (Some (d ∷ bs)) h = refl

pub only_binding : (f : Form) (s : Seq Form) (b : Form) → f.shape ≡ Vector s → length (list s) ≡ 2 → b ≡ get_or (list s) 0 b → is_some (binder (form_tree b)) ≡ is_only (bindings_in (part f))
only_binding f s b e h x = by (list s) h x ∙ ap is_only (sym (vector_bindings f s e)) where
  by : (fs : List Form) → length fs ≡ 2 → b ≡ get_or fs 0 b → is_some (binder (form_tree b)) ≡ is_only (bounds (form_pairs fs))
  by [] h x = absurd (omega (arith, h))
  by (k ∷ []) h x = absurd (omega (arith, h))
  by (k ∷ g ∷ []) h x = ap (λ z. is_some (binder (form_tree z))) x ∙ one_only (binder (form_tree k)) (walk (form_tree g))
  by (k ∷ g ∷ m ∷ fs) h x = absurd (omega (arith, h))

pub only_binding_off : (f : Form) (s : Seq Form) → f.shape ≡ Vector s → (length (list s) ≡ 2 → ⊥) → false ≡ is_only (bindings_in (part f))
only_binding_off f s e h = by (list s) h ∙ ap is_only (sym (vector_bindings f s e)) where
  by : (fs : List Form) → (length fs ≡ 2 → ⊥) → false ≡ is_only (bounds (form_pairs fs))
  by [] h = refl
  by (k ∷ []) h = refl
  by (k ∷ g ∷ []) h = absurd (h refl)
  by (k ∷ g ∷ m ∷ fs) h = not_only (binder (form_tree k)) (walk (form_tree g)) _ (some_bound (record { form = form_tree m; means = walk (form_tree m) }) (form_pairs fs))

-- (doseq [b e] e ..)
doseq_wrong : (p : Place) (o : Option (List Bound)) (body : Meaning) (e : Env) (s : Gathered) → is_only o ≡ false → doseq o body p e s ≡ refused BadForm p
doseq_wrong p None body e s h = refl
doseq_wrong p (Some []) body e s h = refl
doseq_wrong p (Some (b ∷ [])) body e s h = absurd (cc)
doseq_wrong p (Some (b ∷ d ∷ bs)) body e s h = refl

pub doseq_off : (p : Place) (fs : List Form) (e : Env) (s : Gathered) → only_shape (form_parts (drop 1 fs)) ≡ false → row_doseq p (form_parts (drop 1 fs)) e s ≡ refused BadForm p
doseq_off p fs e s k = by (form_parts (drop 1 fs)) k where
  by : (ps : List Part) → only_shape ps ≡ false → row_doseq p ps e s ≡ refused BadForm p
  by [] h = refl
  by (x ∷ ps) h = doseq_wrong p (bindings_in x) (block (meanings ps)) e s h

doseq_right : (p : Place) (o : Option (List Bound)) (bd : Bound) (body : Meaning) (e : Env) (s : Gathered) → ((y : Bound) → o ≡ Some (y ∷ []) → y ≡ bd) → is_only o ≡ true
    → doseq o body p e s ≡ doseq (Some (bd ∷ [])) body p e s
doseq_right p None bd body e s f h = absurd (cc)
doseq_right p (Some []) bd body e s f h = absurd (cc)
doseq_right p (Some (b ∷ [])) bd body e s f h = ap (λ z. doseq (Some (z ∷ [])) body p e s) (f b refl)
doseq_right p (Some (b ∷ d ∷ bs)) bd body e s f h = absurd (cc)

abbrev items_then_count : Meaning → ℕ → Place → List Named
items_then_count m n p = unnamed (operation (Builtin Items) (m ∷ []) p) ∷ unnamed (operation (Builtin Count) (local_name n ∷ []) p) ∷ []

module _ (p : Place) (bd : Bound) (body : Meaning) (e : Env) (s : Gathered) where
  abbrev inside : Env
  inside = record e { scope = e.scope ++ [] ∷ [] ∷ [] }

  two_more : length (e.scope ++ [] ∷ [] ∷ []) ≡ size e + 2
  two_more = length-append e.scope ([] ∷ [] ∷ [])

  module _ (v t : Kernel) (s1 s2 : Gathered) (w : bd.means (inner e) s ≡ done v s1) (g : limited (items_call v p) s1 ≡ done t s2) where
    binds_are : binds (items_then_count bd.means (size e) p) e s ≡ done (numbered (size e) (t ∷ count_term (size e) p ∷ [])) s2
    binds_are = rw (w, g) (ap (λ n. done (binding (size e) t (binding n (count_term (size e) p) empty)) s2) (length-append e.scope ([] ∷ []) ∙ omega arith))

    abbrev round_of : Meaning
    round_of = counting [] (size e + 1) (item_of bd.by (size e) (size e + 2) body p ∷ []) p

    doseq_is : doseq (Some (bd ∷ [])) body p e s ≡ after_walk (round_of inside s2) (λ u s. under (size e) (t ∷ count_term (size e) p ∷ []) u s)
    doseq_is = ap (λ (o : WalkOutcome Bindings). after_walk o (λ ts s. after_walk (block (round_of ∷ []) inside s) (λ u s. limited (bind ts u) s))) binds_are
        ∙ ap (λ (o : WalkOutcome Kernel). after_walk o (λ u s. limited (bind (numbered (size e) (t ∷ count_term (size e) p ∷ [])) u) s)) (block_one round_of inside s2)
        ∙ after_after (round_of inside s2) _ _

    pub round_walked : (u : Kernel) (s3 : Gathered) → item_of bd.by (size e) (size e + 2) body p (inner (behind_name [] inside)) s2 ≡ done u s3
        → doseq (Some (bd ∷ [])) body p e s ≡ after_walk (counted_rounds (size e + 2) (size e + 1) (term u no_terms) p s3) (λ u s. under (size e) (t ∷ count_term (size e) p ∷ []) u s)
    round_walked u s3 h = doseq_is ∙ ap (λ (o : WalkOutcome Kernel). after_walk o (λ u s. under (size e) (t ∷ count_term (size e) p ∷ []) u s))
        (counting_walked [] (size e + 1) (item_of bd.by (size e) (size e + 2) body p ∷ []) p inside (term u no_terms) s2 s3 (rw h refl)
        ∙ ap (λ n. counted_rounds n (size e + 1) (term u no_terms) p s3) two_more)

    pub round_fails : (x : CheckError) → Fails x (item_of bd.by (size e) (size e + 2) body p (inner (behind_name [] inside)) s2) → Fails x (doseq (Some (bd ∷ [])) body p e s)
    round_fails x h = rw doseq_is (after_fails x (round_of inside s2) _ (counting_fails x [] (size e + 1) (item_of bd.by (size e) (size e + 2) body p ∷ []) p inside s2 (after_fails x _ _ h)))

  pub items_fail : (x : CheckError) → Fails x (bd.means (inner e) s) → Fails x (doseq (Some (bd ∷ [])) body p e s)
  items_fail OutOfMemory h = tt
  items_fail (Fault k q) h = rw h refl

-- by the forms of a list
abbrev pub dosed : Place → Form → List Form → Meaning
dosed p b fs = doseq (Some (record { by = total_binder (first_in (form_tree b)); means = only_means (form_tree b) } ∷ [])) (block (meanings (form_parts (drop 2 fs)))) p

pub doseq_row : (p : Place) (fs : List Form) (b : Form) (e : Env) (s : Gathered) → 1 < length fs → b ≡ get_or fs 1 b → only_shape (form_parts (drop 1 fs)) ≡ true
    → row_doseq p (form_parts (drop 1 fs)) e s ≡ dosed p b fs e s
doseq_row p fs b e s h x k = ap (λ ps. row_doseq p ps e s) (parts_second fs b h x)
    ∙ doseq_right p (bindings_in (part b)) (record { by = total_binder (first_in (form_tree b)); means = only_means (form_tree b) }) (block (meanings (form_parts (drop 2 fs)))) e s (only_bound (form_tree b)) (ap only_shape (sym (parts_second fs b h x)) ∙ k)
