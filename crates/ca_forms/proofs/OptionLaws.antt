-- The shapes of options and buffers, by how many forms there are.
use Rattle.std.proofs.Common.{◌≡◌, List, [], ◌∷◌, length, drop, get_or, refl, sym, arith, Bool, true, false, nat_eq, None, Some}
use Rattle.std.proofs.lemmas.Bool.{eqb-true}
use Rattle.ca_term.specs.declared.head.AltsOptions.{AltsOptions}
use Rattle.ca_term.specs.declared.head.MakeKind.{MakeKind}
use Rattle.ca_reader.specs.declared.form.Form.{Form}
use Rattle.ca_reader.specs.View.{form_tree}
use Rattle.ca_forms.specs.Channels.{option_of, both_options, options_in, is_sized}
use Rattle.ca_forms.specs.WalkView.{form_pairs, form_parts}

pub sized_is : (kind : MakeKind) (fs : List Form) → is_sized (Some kind) (form_pairs fs) ≡ nat_eq (length fs) 2
sized_is kind [] = refl
sized_is kind (f ∷ []) = refl
sized_is kind (f ∷ g ∷ []) = refl
sized_is kind (f ∷ g ∷ k ∷ fs) = sym (by (nat_eq (length (f ∷ g ∷ k ∷ fs)) 2) refl) where
  by : (b : Bool) → nat_eq (length (f ∷ g ∷ k ∷ fs)) 2 ≡ b → nat_eq (length (f ∷ g ∷ k ∷ fs)) 2 ≡ false
  by false e = e
  by true e = absurd (omega (arith, eqb-true (length (f ∷ g ∷ k ∷ fs)) 2 e))

pub options_off : (fs : List Form) → (length fs ≡ 2 → ⊥) → (length fs ≡ 4 → ⊥) → (length fs ≡ 6 → ⊥) → options_in (form_parts (drop 1 fs)) ≡ None
options_off [] x y z = refl
options_off (a ∷ []) x y z = refl
options_off (a ∷ b ∷ []) x y z = absurd (x refl)
options_off (a ∷ b ∷ c ∷ []) x y z = refl
options_off (a ∷ b ∷ c ∷ d ∷ []) x y z = absurd (y refl)
options_off (a ∷ b ∷ c ∷ d ∷ e ∷ []) x y z = refl
options_off (a ∷ b ∷ c ∷ d ∷ e ∷ f ∷ []) x y z = absurd (z refl)
options_off (a ∷ b ∷ c ∷ d ∷ e ∷ f ∷ g ∷ fs) x y z = refl

pub options_one : (fs : List Form) → length fs ≡ 2 → options_in (form_parts (drop 1 fs)) ≡ Some AltsOptions.None
options_one [] h = absurd (omega (arith, h))
options_one (a ∷ []) h = absurd (omega (arith, h))
options_one (a ∷ b ∷ []) h = refl
options_one (a ∷ b ∷ c ∷ fs) h = absurd (omega (arith, h))

pub options_two : (fs : List Form) (k : Form) → length fs ≡ 4 → k ≡ get_or fs 2 k → options_in (form_parts (drop 1 fs)) ≡ option_of (form_tree k)
options_two [] k h x = absurd (omega (arith, h))
options_two (a ∷ []) k h x = absurd (omega (arith, h))
options_two (a ∷ b ∷ []) k h x = absurd (omega (arith, h))
options_two (a ∷ b ∷ c ∷ []) k h x = absurd (omega (arith, h))
options_two (a ∷ b ∷ c ∷ d ∷ []) k h x = rw x refl
options_two (a ∷ b ∷ c ∷ d ∷ e ∷ fs) k h x = absurd (omega (arith, h))

pub options_three : (fs : List Form) (k l : Form) → length fs ≡ 6 → k ≡ get_or fs 2 k → l ≡ get_or fs 4 l
    → options_in (form_parts (drop 1 fs)) ≡ both_options (option_of (form_tree k)) (option_of (form_tree l))
options_three [] k l h x y = absurd (omega (arith, h))
options_three (a ∷ []) k l h x y = absurd (omega (arith, h))
options_three (a ∷ b ∷ []) k l h x y = absurd (omega (arith, h))
options_three (a ∷ b ∷ c ∷ []) k l h x y = absurd (omega (arith, h))
options_three (a ∷ b ∷ c ∷ d ∷ []) k l h x y = absurd (omega (arith, h))
options_three (a ∷ b ∷ c ∷ d ∷ e ∷ []) k l h x y = absurd (omega (arith, h))
options_three (a ∷ b ∷ c ∷ d ∷ e ∷ f ∷ []) k l h x y = rw (x, y) refl
options_three (a ∷ b ∷ c ∷ d ∷ e ∷ f ∷ g ∷ fs) k l h x y = absurd (omega (arith, h))
