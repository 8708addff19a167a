-- What stands for each word's list, by how many parts it has.
use Rattle.std.proofs.Common.{◌≡◌, ◌⊎◌, inl, inr, List, [], ◌∷◌, ◌++◌, length, map, take, drop, refl, ap, arith}
use Rattle.std.specs.Prelude.{codes}
use Rattle.ca_term.specs.declared.place.Place.{Place}
use Rattle.ca_reader.specs.declared.form.Form.{Form}
use Rattle.ca_reader.specs.Form.{item}
use Rattle.ca_reader.specs.View.{form_tree, form_trees}
use Rattle.ca_derived.specs.declared.rows.TheConstants.{TAKE}
use Rattle.ca_derived.specs.Forms.{name, nil_form}
use Rattle.ca_derived.specs.Rows.{call, row_reduce, row_into, row_of_take, row_split}
use Rattle.ca_derived.specs.Templates.{filled, first_form}

pub two_forms : (P : List Form → Type 0) → ((f g : Form) → P (f ∷ g ∷ [])) → (fs : List Form) → length fs ≡ 2 → P fs
two_forms P k [] h = absurd (omega (arith, h))
two_forms P k (f ∷ []) h = absurd (omega (arith, h))
two_forms P k (f ∷ g ∷ []) h = k f g
two_forms P k (f ∷ g ∷ i ∷ fs) h = absurd (omega (arith, h))

pub no_reduce : (p : Place) (fs : List Form) → (length fs ≡ 3 → ⊥) → row_reduce p (form_trees fs) ≡ nil_form p
no_reduce p [] h = refl
no_reduce p (f ∷ []) h = refl
no_reduce p (f ∷ g ∷ []) h = refl
no_reduce p (f ∷ g ∷ i ∷ []) h = absurd (h refl)
no_reduce p (f ∷ g ∷ i ∷ j ∷ fs) h = refl

pub no_split : (p : Place) (fs : List Form) → (length fs ≡ 2 → ⊥) → row_split p (form_trees fs) ≡ nil_form p
no_split p [] h = refl
no_split p (f ∷ []) h = refl
no_split p (f ∷ g ∷ []) h = absurd (h refl)
no_split p (f ∷ g ∷ i ∷ fs) h = refl

pub no_take : (p : Place) (fs : List Form) → (length fs ≡ 2 → ⊥) → (length fs ≡ 3 → ⊥) → row_of_take p (form_trees fs) ≡ nil_form p
no_take p [] h k = refl
no_take p (f ∷ []) h k = refl
no_take p (f ∷ g ∷ []) h k = absurd (h refl)
no_take p (f ∷ g ∷ i ∷ []) h k = absurd (k refl)
no_take p (f ∷ g ∷ i ∷ j ∷ fs) h k = refl

pub into_reduces : (p : Place) (fs : List Form) → row_reduce p (item (name p (codes "conj")) (form_trees fs)) ≡ row_into p (form_trees fs)
into_reduces p [] = refl
into_reduces p (f ∷ []) = refl
into_reduces p (f ∷ g ∷ []) = refl
into_reduces p (f ∷ g ∷ i ∷ fs) = refl

-- a take's parts, the channel being made of those behind the first two
pub take_is : (p : Place) (fs : List Form) (c : Form) → (length fs ≡ 2) ⊎ (length fs ≡ 3) → form_tree c ≡ call p (codes "chan") (map form_tree (drop 2 fs))
    → first_form p (filled p TAKE (map form_tree (take 2 fs ++ c ∷ [])) []) ≡ row_of_take p (form_trees fs)
take_is p [] c (inl h) e = absurd (omega (arith, h))
take_is p [] c (inr h) e = absurd (omega (arith, h))
take_is p (f ∷ []) c (inl h) e = absurd (omega (arith, h))
take_is p (f ∷ []) c (inr h) e = absurd (omega (arith, h))
take_is p (f ∷ g ∷ []) c h e = ap (λ t. first_form p (filled p TAKE (form_tree f ∷ form_tree g ∷ t ∷ []) [])) e
take_is p (f ∷ g ∷ i ∷ []) c h e = ap (λ t. first_form p (filled p TAKE (form_tree f ∷ form_tree g ∷ t ∷ []) [])) e
take_is p (f ∷ g ∷ i ∷ j ∷ fs) c (inl h) e = absurd (omega (arith, h))
take_is p (f ∷ g ∷ i ∷ j ∷ fs) c (inr h) e = absurd (omega (arith, h))
