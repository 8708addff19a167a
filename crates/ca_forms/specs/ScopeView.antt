-- What a scope's table and list keep: for each name the number of the innermost one, and beside each
-- name the number that it hides.
use Rattle.std.specs.Prelude.{◌≡◌, ℕ, List, [], ◌∷◌, ◌++◌, map, Option, None, Some}
use Rattle.std.specs.Str.{bytes_eq}
use Rattle.std.specs.Map.{lookup as lookup_in}
use Rattle.ca_value.specs.Seq.{list}
use Rattle.ca_forms.specs.declared.scope.Bound.{Bound}
use Rattle.ca_forms.specs.Meaning.{lookup}

abbrev pub bound_name : Bound → List ℕ
bound_name b = list b.name

abbrev pub names_of_bounds : List Bound → List (List ℕ)
names_of_bounds bs = map bound_name bs

-- no number, or no name
abbrev pub flat : Option (Option ℕ) → Option ℕ
flat None = None
flat (Some n) = n

-- the table has for each name its last place
abbrev pub FindsLastPlaces : {V : Type 0} → (V → List ℕ) → List (V × Option ℕ) → List (List ℕ) → Type 0
FindsLastPlaces key entries names = (x : List ℕ) → flat (lookup_in (λ v. bytes_eq x (key v)) entries) ≡ lookup x names

-- each of the names has beside it its last place among those before it
abbrev pub Hide : List (List ℕ) → List Bound → Type 0
Hide before [] = Unit {0}
Hide before (b ∷ bs) = (b.hides ≡ lookup (bound_name b) before) × Hide (before ++ bound_name b ∷ []) bs
