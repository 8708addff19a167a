-- `cond`: a walk of its tests and of what they choose, and a fold from the last one back.
use Rattle.std.proofs.Common.{◌≡◌, ℕ, suc, ◌+◌, ◌*◌, ◌-◌, ◌<◌, ◌≤◌, List, [], ◌∷◌, ◌++◌, length, refl, sym, ap, ◌∙◌, arith, append_assoc, append-nil, drop, get_or, true, false, length-drop, drop-cons, ◌/◌}
use Rattle.std.proofs.lemmas.List.{map-append}
use Rattle.ca_reader.specs.declared.form.Form.{Form}
use Rattle.ca_reader.specs.View.{form_tree}
use Rattle.ca_term.specs.declared.place.Place.{Place}
use Rattle.ca_value.specs.Tree.{nil}
use Rattle.ca_term.specs.Kernel.{Kernel, const, branch}
use Rattle.ca_term.specs.View.{kernel}
use Rattle.ca_check.specs.declared.choices.Choice.{Choice}
use Rattle.ca_forms.specs.declared.error.CheckError.{CheckError}
use Rattle.ca_forms.specs.declared.error.CheckError.TheVariants.{Fault, OutOfMemory}
use Rattle.ca_forms.specs.declared.error.CheckErrorKind.TheVariants.{BadForm}
use Rattle.ca_check.specs.Choices.{tested, chain_of_ifs, choice_terms}
use Rattle.ca_forms.specs.Meaning.{Env, Meaning, inner}
use Rattle.ca_forms.specs.Outcome.{Gathered, WalkOutcome, done, refused, after_walk, limited}
use Rattle.ca_forms.specs.Plain.{meanings, cond_of, has_even_length, row_cond}
use Rattle.ca_forms.specs.Walk.{walk}
use Rattle.ca_forms.specs.WalkView.{form_parts, Fails}
use Rattle.ca_forms.proofs.PartLaws.{after_after, after_same, cut_at}
use Rattle.ca_forms.proofs.BindLaws.{after_done}

pub choices_append : (cs ds : List Choice) → choice_terms (cs ++ ds) ≡ choice_terms cs ++ choice_terms ds
choices_append cs ds = map-append (λ c. (kernel c.test, kernel c.term)) cs ds

-- the choices but for the last ones, which have been made
abbrev pub chosen_over : List (Kernel × Kernel) → Kernel → Gathered → WalkOutcome Kernel
chosen_over [] v s = done v s
chosen_over (c ∷ cs) v s = after_walk (chosen_over cs v s) (λ v s. limited (branch c.0 c.1 v) s)

pub over_last : (cs : List (Kernel × Kernel)) (c : Kernel × Kernel) (v : Kernel) (s : Gathered)
    → chosen_over (cs ++ c ∷ []) v s ≡ after_walk (limited (branch c.0 c.1 v) s) (λ w s. chosen_over cs w s)
over_last [] c v s = sym (after_done (limited (branch c.0 c.1 v) s))
over_last (d ∷ cs) c v s = ap (λ (o : WalkOutcome Kernel). after_walk o (λ v s. limited (branch d.0 d.1 v) s)) (over_last cs c v s) ∙ after_after (limited (branch c.0 c.1 v) s) _ _

pub over_nil : (cs : List (Kernel × Kernel)) (s : Gathered) → chain_of_ifs cs s ≡ chosen_over cs (const nil) s
over_nil [] s = refl
over_nil (c ∷ cs) s = ap (λ (o : WalkOutcome Kernel). after_walk o (λ v s. limited (branch c.0 c.1 v) s)) (over_nil cs s)

cond_is : (ms : List Meaning) (e : Env) (s : Gathered) → cond_of ms e s ≡ after_walk (tested ms e s) (λ cs s. chain_of_ifs cs s)
cond_is [] e s = refl
cond_is (c ∷ []) e s = refl
cond_is (c ∷ x ∷ ms) e s =
    after_same (c (inner e) s) _ _ (λ t s. after_same (x e s) _ _ (λ u s.
    ap (λ (o : WalkOutcome Kernel). after_walk o (λ v s. limited (branch t u v) s)) (cond_is ms e s) ∙ after_after (tested ms e s) _ _ ∙ sym (after_after (tested ms e s) _ _))
    ∙ sym (after_after (x e s) _ _)) ∙ sym (after_after (c (inner e) s) _ _)

even_parts : (fs : List Form) (n : ℕ) → length fs ≡ 2 * n → has_even_length (form_parts fs) ≡ true
even_parts [] n h = refl
even_parts (f ∷ []) n h = absurd (omega (arith, h))
even_parts (f ∷ g ∷ fs) n h = even_parts fs (n - 1) (omega (arith, h))

odd_parts : (fs : List Form) (n : ℕ) → length fs ≡ 2 * n + 1 → has_even_length (form_parts fs) ≡ false
odd_parts [] n h = absurd (omega (arith, h))
odd_parts (f ∷ []) n h = refl
odd_parts (f ∷ g ∷ fs) n h = odd_parts fs (n - 1) (omega (arith, h))

pub cond_fits : (fs : List Form) (n : ℕ) (p : Place) (e : Env) (s : Gathered) → 2 * n + 1 ≡ length fs
    → row_cond p (form_parts (drop 1 fs)) e s ≡ after_walk (tested (meanings (form_parts (drop 1 fs))) e s) (λ cs s. chain_of_ifs cs s)
cond_fits [] n p e s h = absurd (omega (arith, h))
cond_fits (f ∷ fs) n p e s h = rw (even_parts fs n (omega (arith, h))) (cond_is (meanings (form_parts fs)) e s)

pub cond_off : (fs : List Form) (p : Place) (e : Env) (s : Gathered) → 0 < length fs → (2 * ((length fs - 1) / 2) + 1 ≡ length fs → ⊥)
    → row_cond p (form_parts (drop 1 fs)) e s ≡ refused BadForm p
cond_off [] p e s h x = absurd (omega (arith, h))
cond_off (f ∷ fs) p e s h x = rw (odd_parts fs (length fs / 2) odd) refl where
  odd : length fs ≡ 2 * (length fs / 2) + 1
  odd = omega (arith, x)

cut_two : (fs : List Form) (i : ℕ) (f g : Form) → 2 * i + 2 < length fs → f ≡ get_or fs (2 * i + 1) f → g ≡ get_or fs (2 * i + 2) g
    → drop (2 * i + 1) fs ≡ f ∷ g ∷ drop (2 * (i + 1) + 1) fs
cut_two fs i f g h x y =
    let next : 2 * i + 1 + 1 ≡ 2 * i + 2 = omega arith in
    let behind : 2 * i + 2 + 1 ≡ 2 * (i + 1) + 1 = omega arith in
    cut_at fs (2 * i + 1) f (omega (arith, h)) x
    ∙ ap (λ n. f ∷ drop n fs) next
    ∙ ap (λ gs. f ∷ gs) (cut_at fs (2 * i + 2) g h y)
    ∙ ap (λ n. f ∷ g ∷ drop n fs) behind

-- one more test with what it chooses
pub tested_step : (e : Env) (fs : List Form) (i : ℕ) (f g : Form) (cs : List Choice) (c : Choice) (s s1 s2 : Gathered)
    → 2 * i + 2 < length fs → f ≡ get_or fs (2 * i + 1) f → g ≡ get_or fs (2 * i + 2) g
    → walk (form_tree f) (inner e) s ≡ done (kernel c.test) s1 → walk (form_tree g) e s1 ≡ done (kernel c.term) s2
    → after_walk (tested (meanings (form_parts (drop (2 * i + 1) fs))) e s) (λ ds s. done (choice_terms cs ++ ds) s)
    ≡ after_walk (tested (meanings (form_parts (drop (2 * (i + 1) + 1) fs))) e s2) (λ ds s. done (choice_terms (cs ++ c ∷ []) ++ ds) s)
tested_step e fs i f g cs c s s1 s2 h x y w v =
    ap (λ gs. after_walk (tested (meanings (form_parts gs)) e s) (λ ds s. done (choice_terms cs ++ ds) s)) (cut_two fs i f g h x y)
    ∙ rw (w, v) (after_after (tested (meanings (form_parts (drop (2 * (i + 1) + 1) fs))) e s2) _ _)
    ∙ after_same (tested (meanings (form_parts (drop (2 * (i + 1) + 1) fs))) e s2) _ _ (λ ds s. ap (λ k. done k s)
    (sym (ap (λ ks. ks ++ ds) (choices_append cs (c ∷ [])) ∙ append_assoc (choice_terms cs) (choice_terms (c ∷ [])) ds)))

pub tested_over : (e : Env) (fs : List Form) (i : ℕ) (cs : List Choice) (s : Gathered) → length fs ≤ 2 * i + 2
    → after_walk (tested (meanings (form_parts (drop (2 * i + 1) fs))) e s) (λ ds s. done (choice_terms cs ++ ds) s) ≡ done (choice_terms cs) s
tested_over e fs i cs s h = by (drop (2 * i + 1) fs) (length-drop (2 * i + 1) fs) where
  by : (gs : List Form) → length gs ≡ length fs - (2 * i + 1) → after_walk (tested (meanings (form_parts gs)) e s) (λ ds s. done (choice_terms cs ++ ds) s) ≡ done (choice_terms cs) s
  by [] l = ap (λ k. done k s) (append-nil (choice_terms cs))
  by (g ∷ []) l = ap (λ k. done k s) (append-nil (choice_terms cs))
  by (g ∷ k ∷ gs) l = absurd (omega (arith, l, h))

-- a test that failed
cut_test : (fs : List Form) (i : ℕ) (f : Form) → 2 * i + 2 < length fs → f ≡ get_or fs (2 * i + 1) f → drop (2 * i + 1) fs ≡ f ∷ get_or fs (2 * i + 2) f ∷ drop (suc (2 * i + 2)) fs
cut_test fs i f h x =
    let next : 2 * i + 1 + 1 ≡ 2 * i + 2 = omega arith in
    cut_at fs (2 * i + 1) f (omega (arith, h)) x ∙ ap (λ n. f ∷ drop n fs) next ∙ ap (λ gs. f ∷ gs) (drop-cons fs (2 * i + 2) f h)

pub test_fails : (x : CheckError) (e : Env) (fs : List Form) (i : ℕ) (f : Form) (k : List (Kernel × Kernel) → Gathered → WalkOutcome (List (Kernel × Kernel))) (o : WalkOutcome (List (Kernel × Kernel))) (s : Gathered)
    → o ≡ after_walk (tested (meanings (form_parts (drop (2 * i + 1) fs))) e s) k → 2 * i + 2 < length fs → f ≡ get_or fs (2 * i + 1) f
    → Fails x (walk (form_tree f) (inner e) s) → Fails x o
test_fails OutOfMemory e fs i f k o s same h a w = tt
test_fails (Fault q p) e fs i f k o s same h a w = same ∙ ap (λ gs. after_walk (tested (meanings (form_parts gs)) e s) k) (cut_test fs i f h a) ∙ rw w refl

pub choice_fails : (x : CheckError) (e : Env) (fs : List Form) (i : ℕ) (f g : Form) (t : Kernel) (k : List (Kernel × Kernel) → Gathered → WalkOutcome (List (Kernel × Kernel))) (o : WalkOutcome (List (Kernel × Kernel))) (s s1 : Gathered)
    → o ≡ after_walk (tested (meanings (form_parts (drop (2 * i + 1) fs))) e s) k → 2 * i + 2 < length fs → f ≡ get_or fs (2 * i + 1) f → g ≡ get_or fs (2 * i + 2) g
    → walk (form_tree f) (inner e) s ≡ done t s1 → Fails x (walk (form_tree g) e s1) → Fails x o
choice_fails OutOfMemory e fs i f g t k o s s1 same h a b w v = tt
choice_fails (Fault q p) e fs i f g t k o s s1 same h a b w v = same ∙ ap (λ gs. after_walk (tested (meanings (form_parts gs)) e s) k) (cut_two fs i f g h a b) ∙ rw (w, v) refl
