-- A text with values in place of its names: what a call, a go block's task and the next round of a loop begin with.
use Rattle.std.specs.Prelude.{ℕ, List, [], ◌∷◌, map, get_or}
use Rattle.ca_value.specs.Tree.{Tree, nil}
use Rattle.ca_term.specs.Kernel.{Kernel, Founds, const, puts}
use Rattle.ca_term.specs.Program.{ProcedureView}

-- the values beside the names that they are put in for
abbrev pub named : List ℕ → List Tree → Founds
named [] vs = []
named (n ∷ ns) [] = []
named (n ∷ ns) (v ∷ vs) = (n, v) ∷ named ns vs

abbrev pub names_found : Founds → List ℕ
names_found fs = map (λ f. f.0) fs

-- the function or the go body of that number
abbrev pub procedure_at : List ProcedureView → ℕ → ProcedureView
procedure_at ps n = get_or ps n (record { parameters = []; body = const nil })

-- its text with the values in place of its parameters
abbrev pub started : ProcedureView → List Tree → Kernel
started t vs = puts (named t.parameters vs) t.body
