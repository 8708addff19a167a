-- Values as operands. A value that isn't there counts as nil, one that isn't a port as port 0: where
-- that matters, the operation faults before.
use Rattle.std.specs.Prelude.{ℕ, zero, suc, List, [], ◌∷◌, Bool, true, false, Option, Some, None}
use Rattle.ca_value.specs.Tree.{Tree, Trees, nil, bool, port, none, item}
use Rattle.ca_term.specs.declared.fault.Fault.{Fault}
use Rattle.ca_term.specs.Kernel.{Kernel, Kernels, const, none as no_terms, item as term_item}

-- the value of a term that is one
abbrev pub value_of : Kernel → Tree
value_of (const v) = v
value_of t = nil

abbrev pub values_of : Kernels → Trees
values_of no_terms = none
values_of (term_item t ts) = item (value_of t) (values_of ts)

-- the first fault of several that are judged in order
abbrev pub or_else : Option Fault → Option Fault → Option Fault
or_else (Some f) g = Some f
or_else None g = g

abbrev pub port_of_value : Tree → ℕ
port_of_value (port n) = n
port_of_value v = 0

abbrev pub is_nil : Tree → Bool
is_nil nil = true
is_nil v = false

-- nil and false are false, all else is true
abbrev pub truth : Tree → Bool
truth nil = false
truth (bool b) = b
truth v = true

abbrev pub first_of : Trees → Tree
first_of none = nil
first_of (item v vs) = v

abbrev pub rest_of : Trees → Trees
rest_of none = none
rest_of (item v vs) = vs

-- the operand at the place
abbrev pub operand_at : ℕ → Trees → Tree
operand_at zero vs = first_of vs
operand_at (suc n) vs = operand_at n (rest_of vs)

abbrev pub second_of : Trees → Tree
second_of vs = first_of (rest_of vs)

abbrev pub third_of : Trees → Tree
third_of vs = second_of (rest_of vs)

abbrev pub last_of : Trees → Tree
last_of none = nil
last_of (item v none) = v
last_of (item v (item w ws)) = last_of (item w ws)

abbrev pub without_last : Trees → Trees
without_last none = none
without_last (item v none) = none
without_last (item v (item w ws)) = item v (without_last (item w ws))

abbrev pub count_of : Trees → ℕ
count_of none = 0
count_of (item v vs) = suc (count_of vs)

abbrev pub is_pair : Trees → Bool
is_pair (item a (item b none)) = true
is_pair vs = false

abbrev pub values_in : Trees → List Tree
values_in none = []
values_in (item v vs) = v ∷ values_in vs
