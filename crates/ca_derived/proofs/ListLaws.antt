-- Lists by their lengths.
use Rattle.std.proofs.Common.{rules, ◌≡◌, ℕ, zero, suc, ◌+◌, ◌<◌, ◌≤◌, List, [], ◌∷◌, ◌++◌, length, drop, get_or, refl, sym, ap, ◌∙◌, add-one, drop-cons, arith, Bool, true, false, cond, nat_eq, nat_lt, ne_eqb, ◌||◌, Some, None}
use Rattle.std.proofs.Math.ListN.{drop_of_length-le}
use Rattle.std.proofs.lemmas.Bool.{le-ltb}
use Rattle.ca_term.specs.declared.place.Place.{Place}
use Rattle.ca_value.specs.Seq.{list}
use Rattle.ca_value.specs.declared.seq.Seq.{Seq}
use Rattle.ca_reader.specs.declared.form.Form.{Form, the_lemmas as form_lemmas}
use Rattle.ca_reader.specs.declared.form.Shape.{Vector, the_lemmas as shape_lemmas}
use Rattle.ca_reader.specs.declared.form.Bracket.TheVariants.{Square}
use Rattle.ca_reader.specs.Form.{FormTrees, form, group, none, item}
use Rattle.ca_reader.specs.Reads.{form_count}
use Rattle.ca_reader.specs.View.{form_tree, form_trees, shape_tree}
use Rattle.ca_derived.specs.Outcome.{ExpansionOutcome, made, refused, after_expansion, ExpansionFails}
use Rattle.ca_derived.specs.declared.error.FormsError.{FormsError}
use Rattle.ca_derived.specs.declared.error.FormsError.TheVariants.{Fault, OutOfMemory}
use Rattle.ca_derived.specs.declared.error.FormsErrorKind.TheVariants.{BadForm, TooMany}
use Rattle.ca_derived.specs.Choice.{is_put, is_names}
use Rattle.ca_derived.specs.Shapes.{Tally, counted_more, pair_told, tally, are_operations, untold, choice_fault, tally_fault, is_symbol, is_function, is_operation_form, unless_right, reduce_fault, into_fault, split_fault, take_fault}
use Rattle.ca_derived.specs.Expand.{expand_form, expand_all}

pub into_is : (fs : List Form) → 0 < length fs → into_fault (form_trees (drop 1 fs)) ≡ unless_right (nat_eq (length fs) 3)
into_is [] h = absurd (omega (arith, h))
into_is (f ∷ []) h = refl
into_is (f ∷ g ∷ []) h = refl
into_is (f ∷ g ∷ i ∷ []) h = refl
into_is (f ∷ g ∷ i ∷ j ∷ fs) h = ap unless_right (sym (ne_eqb (length (f ∷ g ∷ i ∷ j ∷ fs)) 3 (λ e. omega (arith, e))))

either : (a b : Bool) → a ≡ false → b ≡ false → (a || b) ≡ false
either a b e f = rw (e, f) refl

pub take_is : (fs : List Form) → 0 < length fs → take_fault (form_trees (drop 1 fs)) ≡ unless_right (nat_eq (length fs) 3 || nat_eq (length fs) 4)
take_is [] h = absurd (omega (arith, h))
take_is (f ∷ []) h = refl
take_is (f ∷ g ∷ []) h = refl
take_is (f ∷ g ∷ i ∷ []) h = refl
take_is (f ∷ g ∷ i ∷ j ∷ []) h = refl
take_is (f ∷ g ∷ i ∷ j ∷ k ∷ fs) h = ap unless_right (sym (either (nat_eq (length (f ∷ g ∷ i ∷ j ∷ k ∷ fs)) 3) (nat_eq (length (f ∷ g ∷ i ∷ j ∷ k ∷ fs)) 4) (ne_eqb (length (f ∷ g ∷ i ∷ j ∷ k ∷ fs)) 3 (λ e. omega (arith, e))) (ne_eqb (length (f ∷ g ∷ i ∷ j ∷ k ∷ fs)) 4 (λ e. omega (arith, e)))))

pub reduce_is : (fs : List Form) (f : Form) → length fs ≡ 4 → f ≡ get_or fs 1 f → reduce_fault (form_trees (drop 1 fs)) ≡ unless_right (is_symbol (form_tree f))
reduce_is [] x h e = absurd (omega (arith, h))
reduce_is (f ∷ []) x h e = absurd (omega (arith, h))
reduce_is (f ∷ g ∷ []) x h e = absurd (omega (arith, h))
reduce_is (f ∷ g ∷ i ∷ []) x h e = absurd (omega (arith, h))
reduce_is (f ∷ g ∷ i ∷ j ∷ []) x h e = ap (λ y. unless_right (is_symbol (form_tree y))) (sym e)
reduce_is (f ∷ g ∷ i ∷ j ∷ k ∷ fs) x h e = absurd (omega (arith, h))

pub reduce_off : (fs : List Form) → (length fs ≡ 4 → ⊥) → reduce_fault (form_trees (drop 1 fs)) ≡ Some BadForm
reduce_off [] h = refl
reduce_off (f ∷ []) h = refl
reduce_off (f ∷ g ∷ []) h = refl
reduce_off (f ∷ g ∷ i ∷ []) h = refl
reduce_off (f ∷ g ∷ i ∷ j ∷ []) h = absurd (h refl)
reduce_off (f ∷ g ∷ i ∷ j ∷ k ∷ fs) h = refl

pub split_is : (fs : List Form) (f : Form) → length fs ≡ 3 → f ≡ get_or fs 1 f → split_fault (form_trees (drop 1 fs)) ≡ unless_right (is_function (form_tree f))
split_is [] x h e = absurd (omega (arith, h))
split_is (f ∷ []) x h e = absurd (omega (arith, h))
split_is (f ∷ g ∷ []) x h e = absurd (omega (arith, h))
split_is (f ∷ g ∷ i ∷ []) x h e = ap (λ y. unless_right (is_function (form_tree y))) (sym e)
split_is (f ∷ g ∷ i ∷ j ∷ fs) x h e = absurd (omega (arith, h))

pub split_off : (fs : List Form) → (length fs ≡ 3 → ⊥) → split_fault (form_trees (drop 1 fs)) ≡ Some BadForm
split_off [] h = refl
split_off (f ∷ []) h = refl
split_off (f ∷ g ∷ []) h = refl
split_off (f ∷ g ∷ i ∷ []) h = absurd (h refl)
split_off (f ∷ g ∷ i ∷ j ∷ fs) h = refl

tree_is : (f : Form) → form_tree f ≡ form (shape_tree f.shape) f.place
tree_is f = search (rules, form_lemmas)

pub tree_vector : (f : Form) (s : Seq Form) → f.shape ≡ Vector s → form_tree f ≡ form (group Square (form_trees (list s))) f.place
tree_vector f s e = tree_is f ∙ ap (λ sh. form (shape_tree sh) f.place) e ∙ search (rules, shape_lemmas)

pub operation_is : (f : Form) (s : Seq Form) → f.shape ≡ Vector s → nat_eq (length (list s)) 2 ≡ is_operation_form (form_tree f)
operation_is f s e = by (list s) ∙ ap is_operation_form (sym (tree_vector f s e)) where
  by : (fs : List Form) → nat_eq (length fs) 2 ≡ is_operation_form (form (group Square (form_trees fs)) f.place)
  by [] = refl
  by (f ∷ []) = refl
  by (f ∷ g ∷ []) = refl
  by (g ∷ i ∷ j ∷ fs) = ne_eqb (length (g ∷ i ∷ j ∷ fs)) 2 (λ e. omega (arith, e))

-- forms behind others
abbrev pub joined : FormTrees → FormTrees → FormTrees
joined none gs = gs
joined (item f fs) gs = item f (joined fs gs)

joined_more : (fs : List Form) (f : Form) (gs : FormTrees) → joined (form_trees (fs ++ f ∷ [])) gs ≡ joined (form_trees fs) (item (form_tree f) gs)
joined_more [] f gs = refl
joined_more (g ∷ fs) f gs = ap (λ hs. item (form_tree g) hs) (joined_more fs f gs)

joined_end : (fs : FormTrees) → joined fs none ≡ fs
joined_end none = refl
joined_end (item f fs) = ap (λ gs. item f gs) (joined_end fs)

after_after : {A B C : Type 0} (o : ExpansionOutcome A) (k : A → ExpansionOutcome B) (l : B → ExpansionOutcome C) → after_expansion (after_expansion o k) l ≡ after_expansion o (λ a. after_expansion (k a) l)
after_after (made a) k l = refl
after_after (refused e p) k l = refl

after_same : {A B : Type 0} (o : ExpansionOutcome A) (k l : A → ExpansionOutcome B) → ((a : A) → k a ≡ l a) → after_expansion o k ≡ after_expansion o l
after_same (made a) k l e = e a
after_same (refused x p) k l e = refl

pub cut_at : (fs : List Form) (i : ℕ) (f : Form) → i < length fs → f ≡ get_or fs i f → drop i fs ≡ f ∷ drop (i + 1) fs
cut_at fs i f h g = rw (add-one, drop-cons fs i f h) (ap (λ x. x ∷ drop (suc i) fs) (sym g))

pub all_step : (fs : List Form) (i : ℕ) (f : Form) (gs : List Form) (g : Form) → i < length fs → f ≡ get_or fs i f → expand_form (form_tree f) ≡ made (form_tree g)
    → after_expansion (expand_all (form_trees (drop i fs))) (λ hs. made (joined (form_trees gs) hs)) ≡ after_expansion (expand_all (form_trees (drop (i + 1) fs))) (λ hs. made (joined (form_trees (gs ++ g ∷ [])) hs))
all_step fs i f gs g h e w =
    let cut : drop i fs ≡ f ∷ drop (i + 1) fs = cut_at fs i f h e in
    rw (cut, w) (after_after (expand_all (form_trees (drop (i + 1) fs))) _ _ ∙ after_same (expand_all (form_trees (drop (i + 1) fs))) _ _ (λ hs. ap (λ k. made k) (sym (joined_more gs g hs))))

pub all_over : (fs : List Form) (i : ℕ) (gs : List Form) → length fs ≤ i → after_expansion (expand_all (form_trees (drop i fs))) (λ hs. made (joined (form_trees gs) hs)) ≡ made (form_trees gs)
all_over fs i gs h = rw (drop_of_length-le fs {i = i} h) (ap (λ k. made k) (joined_end (form_trees gs)))

pub all_fails : (x : FormsError) (fs : List Form) (i : ℕ) (f : Form) (gs : List Form) (o : ExpansionOutcome FormTrees) → o ≡ after_expansion (expand_all (form_trees (drop i fs))) (λ hs. made (joined (form_trees gs) hs))
    → i < length fs → f ≡ get_or fs i f → ExpansionFails x (expand_form (form_tree f)) → ExpansionFails x o
all_fails OutOfMemory fs i f gs o s h e w = tt
all_fails (Fault m p) fs i f gs o s h e w = s ∙ (let cut : drop i fs ≡ f ∷ drop (i + 1) fs = cut_at fs i f h e in rw (cut, w) refl)

count_is : (fs : List Form) → form_count (form_trees fs) ≡ length fs
count_is [] = refl
count_is (f ∷ fs) = ap suc (count_is fs)

pub many_is : (fs : List Form) (p : Place) (t : Tally) (b : Bool) → are_operations (form_trees fs) ≡ b → (length fs ≡ 0 → ⊥) → pair_told (form (group Square (form_trees fs)) p) t ≡ record (counted_more (length fs) t) { right = cond b t.right false }
many_is [] p t b e h = absurd (h refl)
many_is (f ∷ fs) p t b e h = ap (λ n. record (counted_more n t) { right = cond (are_operations (form_trees (f ∷ fs))) t.right false }) (count_is (f ∷ fs)) ∙ ap (λ c. record (counted_more (length (f ∷ fs)) t) { right = cond c t.right false }) e

pub tally_step : (fs : List Form) (j : ℕ) (o : Form) (t : Tally) → j + 1 < length fs → o ≡ get_or fs j o → tally (form_trees (drop j fs)) t ≡ tally (form_trees (drop (suc (suc j)) fs)) (pair_told (form_tree o) t)
tally_step (f ∷ g ∷ fs) zero o t h e = ap (λ x. tally (form_trees fs) (pair_told (form_tree x) t)) (sym e)
tally_step (f ∷ []) zero o t h e = absurd (omega (arith, h))
tally_step (f ∷ fs) (suc j) o t h e = tally_step fs j o t (omega (arith, h)) e
tally_step [] j o t h e = absurd (omega (arith, h))

pub tally_odd : (fs : List Form) (j : ℕ) (t : Tally) → j + 1 ≡ length fs → tally (form_trees (drop j fs)) t ≡ record t { right = false }
tally_odd (f ∷ []) zero t h = refl
tally_odd (f ∷ g ∷ fs) zero t h = absurd (omega (arith, h))
tally_odd (f ∷ fs) (suc j) t h = tally_odd fs j t (omega (arith, h))
tally_odd [] j t h = absurd (omega (arith, h))

pub choice_right : (fs : List Form) (t : Tally) → 0 < length fs → (length fs ≡ 1 → ⊥) → t ≡ tally (form_trees (drop 1 fs)) untold → t.right ≡ true → (24 < t.operations → ⊥) → choice_fault (form_trees (drop 1 fs)) ≡ None
choice_right [] t h o e r n = absurd (omega (arith, h))
choice_right (f ∷ []) t h o e r n = absurd (o refl)
choice_right (f ∷ g ∷ fs) t h o e r n = ap tally_fault (sym e) ∙ by t.right (nat_lt 24 t.operations) r (few t.operations n) where
  few : (m : ℕ) → (24 < m → ⊥) → nat_lt 24 m ≡ false
  few m k = le-ltb 24 m (omega (arith, k))

  by : (b c : Bool) → b ≡ true → c ≡ false → cond b (cond c (Some TooMany) None) (Some BadForm) ≡ None
  by b c e f = rw (e, f) refl

pub put_is : (f : Form) (s : Seq Form) → f.shape ≡ Vector s → nat_eq (length (list s)) 2 ≡ is_put (form_tree f)
put_is f s e = by (list s) ∙ ap is_put (sym (tree_vector f s e)) where
  by : (fs : List Form) → nat_eq (length fs) 2 ≡ is_put (form (group Square (form_trees fs)) f.place)
  by [] = refl
  by (g ∷ []) = refl
  by (g ∷ i ∷ []) = refl
  by (g ∷ i ∷ j ∷ fs) = ne_eqb (length (g ∷ i ∷ j ∷ fs)) 2 (λ e. omega (arith, e))

pub names_are : (f : Form) (s : Seq Form) → f.shape ≡ Vector s → (nat_eq (length (list s)) 1 || nat_eq (length (list s)) 2) ≡ is_names (form_tree f)
names_are f s e = by (list s) ∙ ap is_names (sym (tree_vector f s e)) where
  by : (fs : List Form) → (nat_eq (length fs) 1 || nat_eq (length fs) 2) ≡ is_names (form (group Square (form_trees fs)) f.place)
  by [] = refl
  by (g ∷ []) = refl
  by (g ∷ i ∷ []) = refl
  by (g ∷ i ∷ j ∷ fs) = either (nat_eq (length (g ∷ i ∷ j ∷ fs)) 1) (nat_eq (length (g ∷ i ∷ j ∷ fs)) 2) (ne_eqb (length (g ∷ i ∷ j ∷ fs)) 1 (λ e. omega (arith, e))) (ne_eqb (length (g ∷ i ∷ j ∷ fs)) 2 (λ e. omega (arith, e)))

pub copy_step : (fs : List Form) (i : ℕ) (f : Form) (gs : List Form) (g : Form) (all : FormTrees) → i < length fs → f ≡ get_or fs i f → form_tree g ≡ form_tree f
    → joined (form_trees gs) (form_trees (drop i fs)) ≡ all → joined (form_trees (gs ++ g ∷ [])) (form_trees (drop (i + 1) fs)) ≡ all
copy_step fs i f gs g all h e w s =
    let cut : drop i fs ≡ f ∷ drop (i + 1) fs = cut_at fs i f h e in
    joined_more gs g (form_trees (drop (i + 1) fs)) ∙ ap (λ t. joined (form_trees gs) (item t (form_trees (drop (i + 1) fs)))) w ∙ ap (λ hs. joined (form_trees gs) (form_trees hs)) (sym cut) ∙ s

pub copy_over : (fs : List Form) (i : ℕ) (gs : List Form) (all : FormTrees) → length fs ≤ i → joined (form_trees gs) (form_trees (drop i fs)) ≡ all → form_trees gs ≡ all
copy_over fs i gs all h s = sym (joined_end (form_trees gs)) ∙ ap (λ hs. joined (form_trees gs) (form_trees hs)) (sym (drop_of_length-le fs {i = i} h)) ∙ s
