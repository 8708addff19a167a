-- The text of `str`.
use Rattle.std.specs.Prelude.{ℕ, List, [], ◌∷◌, ◌++◌}
use Rattle.ca_value.specs.Tree.{Tree, nil, text}
use Rattle.ca_value.specs.Printed.{readable_text}

-- nil as nothing, a text as it is, others as they read
abbrev pub str_text : Tree → List ℕ
str_text nil = []
str_text (text s) = s
str_text t = readable_text t

abbrev pub joined_text : List Tree → List ℕ
joined_text [] = []
joined_text (t ∷ ts) = str_text t ++ joined_text ts
