-- A `loop` with patterns, behind the Let of its bindings.
use Rattle.std.specs.Prelude.{ℕ, ◌+◌, List, [], ◌∷◌, map}
use Rattle.ca_term.specs.declared.place.Place.{Place}
use Rattle.ca_term.specs.Kernel.{Kernel, var}
use Rattle.ca_reader.specs.declared.form.Form.{Form}
use Rattle.ca_forms.specs.Binders.{Binder, Bound, width, whole_name, patterns}
use Rattle.ca_forms.specs.Judged.{total_bounds}
use Rattle.ca_forms.specs.Meaning.{Meaning, size, block, lets, loops}
use Rattle.ca_forms.specs.Plain.{again, binders}
use Rattle.ca_forms.specs.WalkView.{form_pairs}

-- how many names they bind
abbrev pub widths : List Binder → ℕ
widths [] = 0
widths (b ∷ bs) = width b + widths bs

-- the names that were bound to whole values, the first one having the number n
abbrev pub again_terms : ℕ → List Binder → List Kernel
again_terms n [] = []
again_terms n (b ∷ bs) = var n ∷ again_terms (n + width b) bs

abbrev pub whole_names : List Binder → List (List ℕ)
whole_names bs = map whole_name bs

-- the binders of bindings
abbrev pub binders_of : List Form → List Binder
binders_of fs = binders (total_bounds (form_pairs fs))

-- the loop over the whole values, and the patterns in it
abbrev pub again_row : ℕ → Place → List Bound → Meaning → Meaning
again_row n p bs body env = loops (again n bs) (block (lets (patterns p (size env) (binders bs)) body ∷ [])) env
