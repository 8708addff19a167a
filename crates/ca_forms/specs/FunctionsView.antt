-- What the functions so far are to a contract: a list, with their names.
use Rattle.std.specs.Prelude.{ℕ, suc, List, [], ◌∷◌, map, Option, None, Some, cond}
use Rattle.std.specs.Str.{bytes_eq}
use Rattle.ca_value.specs.Seq.{list}
use Rattle.ca_forms.specs.declared.functions.Function.{Function}
use Rattle.ca_forms.specs.Meaning.{Signature}

-- a function under its name
abbrev pub named_function : List ℕ → Function → Signature
named_function name f = record { name = name; arity = f.arity; hidden = list f.hidden; plain = f.plain }

abbrev pub functions_of : {V : Type 0} → (V → List ℕ) → List (V × Function) → List Signature
functions_of key es = map (λ e. named_function (key e.0) e.1) es

abbrev pub find_from : List ℕ → List Signature → ℕ → Option (ℕ × Signature)
find_from s [] i = None
find_from s (f ∷ fs) i = cond (bytes_eq s f.name) (Some (i, f)) (find_from s fs (suc i))

-- the function of that name, with its number
abbrev pub find : List ℕ → List Signature → Option (ℕ × Signature)
find s fs = find_from s fs 0
