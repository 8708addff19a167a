-- Forms that are put together by tokens.
use Rattle.std.proofs.Common.{◌≡◌, ℕ, zero, suc, ◌-◌, ◌≤◌, List, [], ◌∷◌, length, map, take, drop, slice_set, get_or, refl, sym, ap, ◌∙◌, arith}
use Rattle.std.proofs.lemmas.List.{take-map, drop-map}
use Rattle.ca_reader.specs.declared.form.Form.{Form}
use Rattle.ca_reader.specs.Form.{FormTree}
use Rattle.ca_reader.specs.View.{form_tree}
use Rattle.ca_derived.specs.Templates.{last, forms_before}

as_long : (fs : List Form) → length (map form_tree fs) ≡ length fs
as_long [] = refl
as_long (f ∷ fs) = ap suc (as_long fs)

pub last_of : (fs : List Form) (n k : ℕ) → k ≡ length fs - n → map form_tree (drop k fs) ≡ last n (map form_tree fs)
last_of fs n k e = sym (drop-map form_tree k fs) ∙ ap (λ i. drop i (map form_tree fs)) (e ∙ ap (λ i. i - n) (sym (as_long fs)))

pub before_of : (fs : List Form) (n k : ℕ) → k ≡ length fs - n → map form_tree (take k fs) ≡ forms_before n (map form_tree fs)
before_of fs n k e = sym (take-map form_tree k fs) ∙ ap (λ i. take i (map form_tree fs)) (e ∙ ap (λ i. i - n) (sym (as_long fs)))

pub set_of : (fs : List Form) (n : ℕ) (f : Form) (x : FormTree) → form_tree f ≡ x → map form_tree (slice_set fs n f) ≡ slice_set (map form_tree fs) n x
set_of [] n f x e = refl
set_of (g ∷ fs) zero f x e = ap (λ y. y ∷ map form_tree fs) e
set_of (g ∷ fs) (suc n) f x e = ap (λ ys. form_tree g ∷ ys) (set_of fs n f x e)

pub past : (fs : List Form) (n : ℕ) (x : FormTree) → length fs ≤ n → get_or (map form_tree fs) n x ≡ x
past [] zero x h = refl
past [] (suc n) x h = refl
past (f ∷ fs) zero x h = absurd (omega (arith, h))
past (f ∷ fs) (suc n) x h = past fs n x (omega (arith, h))
