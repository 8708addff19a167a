-- What the code's answers stand for, and the parts that the code makes.
use Rattle.std.specs.Prelude.{ℕ, zero, pos, List, map, Bool, true, false, cond, ◌==◌, Result, Ok, Err}
use Rattle.ca_value.specs.Tree.{Tree, Trees, nil, int, trees_of}
use Rattle.ca_term.specs.declared.fault.Fault.{Fault}
use Rattle.ca_term.specs.declared.head.MakeKind.{MakeKind}
use Rattle.ca_term.specs.declared.operation.Op.{Op}
use Rattle.ca_term.specs.Operation.{OpView, op_view, WhatView, unbuffered, fixed, dropping, sliding, promise, timeout, mult, mix, publication}
use Rattle.ca_term.specs.Operands.{first_of, second_of}

-- the operation, or the fault, that the code answers
abbrev pub asked_view : Result Op Fault → Result OpView Fault
asked_view (Ok op) = Ok (op_view op)
asked_view (Err f) = Err f

-- the trees of operands, each by its view
abbrev pub trees_by : {A : Type 0} → (A → Tree) → List A → Trees
trees_by tree xs = trees_of (map tree xs)

-- nil and 0 are no buffer
abbrev pub is_unbuffered : Tree → Bool
is_unbuffered nil = true
is_unbuffered (int (pos zero)) = true
is_unbuffered v = false

-- what a Make makes with the number that it takes
abbrev pub sized_with : ℕ → WhatView
sized_with n = cond (n == 0) unbuffered (fixed n)

abbrev pub made_with : MakeKind → ℕ → Trees → WhatView
made_with MakeKind.Unbuffered n vs = unbuffered
made_with MakeKind.Sized n vs = sized_with n
made_with MakeKind.Fixed n vs = fixed n
made_with MakeKind.Dropping n vs = dropping n
made_with MakeKind.Sliding n vs = sliding n
made_with MakeKind.Promise n vs = promise
made_with MakeKind.Timeout n vs = timeout n
made_with MakeKind.Mult n vs = mult (first_of vs)
made_with MakeKind.Mix n vs = mix (first_of vs) (second_of vs)
made_with MakeKind.Pub n vs = publication (first_of vs)
