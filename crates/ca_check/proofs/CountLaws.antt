-- `dotimes` and `doseq`: loops that count under hidden names.
use Rattle.std.proofs.Common.{◌≡◌, ℕ, ◌+◌, ◌<◌, List, [], ◌∷◌, ◌++◌, length, map, drop, get_or, refl, sym, ap, ap₂, ◌∙◌, length-append, Option, None, Some, is_some, true, false, pos}
use Rattle.ca_value.specs.Tree.{int}
use Rattle.ca_value.specs.declared.builtin.Builtin.TheVariants.{Less}
use Rattle.ca_term.specs.declared.place.Place.{Place}
use Rattle.ca_term.specs.declared.head.Head.TheVariants.{Builtin}
use Rattle.ca_term.specs.Kernel.{Kernel, Kernels, const, var, apply, empty, binding}
use Rattle.ca_term.specs.View.{kernels_of}
use Rattle.ca_reader.specs.declared.form.Form.{Form}
use Rattle.ca_reader.specs.View.{form_tree}
use Rattle.ca_forms.specs.declared.error.CheckError.{CheckError}
use Rattle.ca_forms.specs.declared.error.CheckErrorKind.TheVariants.{BadForm}
use Rattle.ca_forms.specs.Binders.{Part, bindings_in}
use Rattle.ca_check.specs.Choices.{first_in, only_means, bound_shape}
use Rattle.ca_forms.specs.Judged.{total_name}
use Rattle.ca_forms.specs.Meaning.{Env, Meaning, Named, size, inner, behind_name, means_in_order, operation, local_name, hide}
use Rattle.ca_forms.specs.Outcome.{Gathered, done, refused, after_walk}
use Rattle.ca_forms.specs.Plain.{meanings, one_bound, constant_number, counting, recur_with_next, dotimes, row_dotimes}
use Rattle.ca_forms.specs.Rounds.{turn_of, counted_rounds, next_term, recur_term, under}
use Rattle.ca_forms.specs.WalkView.{part, form_parts, Fails}
use Rattle.ca_forms.proofs.PartLaws.{parts_second}
use Rattle.ca_forms.proofs.RoundLaws.{turns, turn_walked, turn_body_fails, loops_walked, loops_fails}
use Rattle.ca_check.proofs.BoundLaws.{only_is, hide_walked, hide_fails, hidden_fails}

abbrev less : ℕ → ℕ → Place → Kernel
less i n p = apply (Builtin Less) (kernels_of (map var (i ∷ n ∷ []))) p

abbrev counter : List ℕ → List Named
counter x = record { name = x; means = constant_number 0 } ∷ []

abbrev turning : ℕ → ℕ → List Meaning → Place → Meaning
turning i n ms p = turns (operation (Builtin Less) (local_name i ∷ local_name n ∷ []) p) ms (recur_with_next i p)

pub counting_walked : (x : List ℕ) (n : ℕ) (ms : List Meaning) (p : Place) (e : Env) (ts : Kernels) (s s2 : Gathered) → means_in_order ms (inner (behind_name x e)) s ≡ done ts s2
    → counting x n ms p e s ≡ counted_rounds (size e) n ts p s2
counting_walked x n ms p e ts s s2 h =
    loops_walked (counter x) (turning (size e) n ms p) e (binding (size e) (const (int (pos 0))) empty) s s (turn_of (less (size e) n p) ts (recur_term (next_term (size e) p ∷ []) p) s2) refl
    (turn_walked (operation (Builtin Less) (local_name (size e) ∷ local_name n ∷ []) p) (recur_with_next (size e) p) ms (record (behind_name x e) { target = Some 1 }) (less (size e) n p) (recur_term (next_term (size e) p ∷ []) p) ts s s s2 refl h refl)

pub counting_fails : (q : CheckError) (x : List ℕ) (n : ℕ) (ms : List Meaning) (p : Place) (e : Env) (s : Gathered) → Fails q (means_in_order ms (inner (behind_name x e)) s) → Fails q (counting x n ms p e s)
counting_fails q x n ms p e s h =
    loops_fails q (counter x) (turning (size e) n ms p) e (binding (size e) (const (int (pos 0))) empty) s s refl
    (turn_body_fails q (operation (Builtin Less) (local_name (size e) ∷ local_name n ∷ []) p) (recur_with_next (size e) p) ms (record (behind_name x e) { target = Some 1 }) (less (size e) n p) s s refl h)

one_more : (sc : List (List ℕ)) (x : List ℕ) → length (sc ++ x ∷ []) ≡ length sc + 1
one_more sc x = length-append sc (x ∷ [])

-- (dotimes [i n] e ..)
dotimes_right : (p : Place) (o : Option Named) (nm : List ℕ) (m : Meaning) (ms : List Meaning) (e : Env) (s : Gathered) → ((y : Named) → o ≡ Some y → (y.name ≡ nm) × (y.means ≡ m)) → is_some o ≡ true
    → dotimes o ms p e s ≡ hide m (λ h. counting nm h ms p) e s
dotimes_right p None nm m ms e s f h = absurd (cc)
dotimes_right p (Some y) nm m ms e s f h = ap₂ (λ z w. hide w (λ h. counting z h ms p) e s) (f y refl).0 (f y refl).1

dotimes_wrong : (p : Place) (o : Option Named) (ms : List Meaning) (e : Env) (s : Gathered) → is_some o ≡ false → dotimes o ms p e s ≡ refused BadForm p
dotimes_wrong p None ms e s h = refl
dotimes_wrong p (Some y) ms e s h = absurd (cc)

pub dotimes_off : (p : Place) (fs : List Form) (e : Env) (s : Gathered) → bound_shape false (form_parts (drop 1 fs)) ≡ false → row_dotimes p (form_parts (drop 1 fs)) e s ≡ refused BadForm p
dotimes_off p fs e s k = by (form_parts (drop 1 fs)) k where
  by : (ps : List Part) → bound_shape false ps ≡ false → row_dotimes p ps e s ≡ refused BadForm p
  by [] h = refl
  by (x ∷ ps) h = dotimes_wrong p (one_bound (bindings_in x)) (meanings ps) e s h

module _ (p : Place) (fs : List Form) (b : Form) (e : Env) (s : Gathered) (h : 1 < length fs) (x : b ≡ get_or fs 1 b) where
  module _ (k : bound_shape false (form_parts (drop 1 fs)) ≡ true) where
    dotimes_is : row_dotimes p (form_parts (drop 1 fs)) e s
        ≡ hide (only_means (form_tree b)) (λ h. counting (total_name (first_in (form_tree b))) h (meanings (form_parts (drop 2 fs))) p) e s
    dotimes_is = ap (λ ps. row_dotimes p ps e s) (parts_second fs b h x)
        ∙ dotimes_right p (one_bound (bindings_in (part b))) (total_name (first_in (form_tree b))) (only_means (form_tree b)) (meanings (form_parts (drop 2 fs))) e s (only_is (form_tree b)) (ap (bound_shape false) (sym (parts_second fs b h x)) ∙ k)

    pub dotimes_walked : (v : Kernel) (ts : Kernels) (s1 s2 : Gathered) → only_means (form_tree b) (inner e) s ≡ done v s1
        → means_in_order (meanings (form_parts (drop 2 fs))) (inner (behind_name (total_name (first_in (form_tree b))) (behind_name [] e))) s1 ≡ done ts s2
        → row_dotimes p (form_parts (drop 1 fs)) e s ≡ after_walk (counted_rounds (size e + 1) (size e) ts p s2) (λ w s. under (size e) (v ∷ []) w s)
    dotimes_walked v ts s1 s2 w g = dotimes_is ∙ hide_walked (only_means (form_tree b)) (λ h. counting (total_name (first_in (form_tree b))) h (meanings (form_parts (drop 2 fs))) p) e v s s1 (counted_rounds (size e + 1) (size e) ts p s2) w
        (counting_walked (total_name (first_in (form_tree b))) (size e) (meanings (form_parts (drop 2 fs))) p (behind_name [] e) ts s1 s2 g
        ∙ ap (λ n. counted_rounds n (size e) ts p s2) (one_more e.scope []))

    pub dotimes_value_fails : (q : CheckError) → Fails q (only_means (form_tree b) (inner e) s) → Fails q (row_dotimes p (form_parts (drop 1 fs)) e s)
    dotimes_value_fails q w = rw dotimes_is (hide_fails q (only_means (form_tree b)) (λ h. counting (total_name (first_in (form_tree b))) h (meanings (form_parts (drop 2 fs))) p) e s w)

    pub dotimes_body_fails : (q : CheckError) (v : Kernel) (s1 : Gathered) → only_means (form_tree b) (inner e) s ≡ done v s1
        → Fails q (means_in_order (meanings (form_parts (drop 2 fs))) (inner (behind_name (total_name (first_in (form_tree b))) (behind_name [] e))) s1) → Fails q (row_dotimes p (form_parts (drop 1 fs)) e s)
    dotimes_body_fails q v s1 w g = rw dotimes_is (hidden_fails q (only_means (form_tree b)) (λ h. counting (total_name (first_in (form_tree b))) h (meanings (form_parts (drop 2 fs))) p) e v s s1 w (counting_fails q (total_name (first_in (form_tree b))) (size e) (meanings (form_parts (drop 2 fs))) p (behind_name [] e) s1 g))
