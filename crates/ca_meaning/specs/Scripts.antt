-- The programs of the worked scripts: what their texts expand to.
use Rattle.std.specs.Prelude.{ℕ, ◌+◌, List, [], ◌∷◌, ◌++◌, pos}
use Rattle.ca_value.specs.Tree.{nil, int}
use Rattle.ca_value.specs.declared.builtin.Builtin.TheVariants.{IsNil, Quot, First, Nth, Equal, Vector}
use Rattle.ca_term.specs.declared.head.Head.{Head}
use Rattle.ca_term.specs.declared.head.Head.TheVariants.{Builtin, Take, Put, Alts, Make, Spawn, Close, Print, Post}
use Rattle.ca_term.specs.declared.head.AltsOptions.{AltsOptions}
use Rattle.ca_term.specs.declared.head.MakeKind.TheVariants.{Unbuffered, Fixed, Timeout}
use Rattle.ca_term.specs.declared.head.SeedKind.TheVariants.{Go}
use Rattle.ca_term.specs.Kernel.{Kernel, Kernels, Bindings, const, var, branch, bind, seq, apply, none, item, empty, binding}
use Rattle.ca_term.specs.Program.{ProgramView}

abbrev pub terms : List Kernel → Kernels
terms [] = none
terms (t ∷ ts) = item t (terms ts)

-- the form with that head and these operands, at the column of the one line
abbrev pub form_at_column : Head → List Kernel → ℕ → Kernel
form_at_column h ts n = apply h (terms ts) (record { line = 1; column = n })

abbrev pub number_term : ℕ → Kernel
number_term n = const (int (pos n))

-- names are numbered from here on
abbrev pub bound_from : ℕ → List Kernel → Bindings
bound_from n [] = empty
bound_from n (t ∷ ts) = binding n t (bound_from (n + 1) ts)

-- a main text binds each `def` and each expression in order, and its value is nil
abbrev pub main_text : List Kernel → Kernel
main_text ts = bind (bound_from 0 ts) (const nil)

-- a go block with that body and these values from outside makes its result port, r, starts the task and answers r
abbrev pub go_block : ℕ → List Kernel → ℕ → ℕ → Kernel
go_block body values r n = bind (bound_from r (form_at_column (Make Fixed) (number_term 1 ∷ []) n ∷ [])) (seq (terms (form_at_column (Spawn (Go body)) (values ++ var r ∷ []) n ∷ var r ∷ [])))

-- the text of a go block's task: its value, h, is put into the result port r unless it is nil, and r is closed
abbrev pub go_text : Kernel → ℕ → ℕ → ℕ → Kernel
go_text t h r n =
    bind (bound_from h (seq (terms (t ∷ [])) ∷ []))
    (seq (terms (branch (form_at_column (Builtin IsNil) (var h ∷ []) n) (const nil) (form_at_column Post (var r ∷ var h ∷ []) n) ∷ form_at_column Close (var r ∷ []) n ∷ [])))

-- `(def c (chan)) (go (>! c 42)) (println (<!! c))`
abbrev pub putting_once : ProgramView
putting_once = record {
  functions = [];
  bodies = record { parameters = 0 ∷ 1 ∷ []; body = go_text (form_at_column Put (var 0 ∷ number_term 42 ∷ []) 20) 2 1 16 } ∷ [];
  main = main_text (form_at_column (Make Unbuffered) [] 8 ∷ go_block 0 (var 0 ∷ []) 1 16 ∷ form_at_column Print (form_at_column Take (var 0 ∷ []) 40 ∷ []) 31 ∷ []);
}

-- `(def t (timeout 100)) (def r (alts!! [(chan) t])) (println (first r) (= (nth r 1) t))`
abbrev pub timing_out : ProgramView
timing_out = record {
  functions = [];
  bodies = [];
  main = main_text (
      form_at_column (Make Timeout) (number_term 100 ∷ []) 8
      ∷ form_at_column (Alts AltsOptions.None) (form_at_column (Builtin Vector) (form_at_column (Make Unbuffered) [] 39 ∷ var 0 ∷ []) 38 ∷ []) 30
      ∷ form_at_column Print (form_at_column (Builtin First) (var 1 ∷ []) 60 ∷ form_at_column (Builtin Equal) (form_at_column (Builtin Nth) (var 1 ∷ number_term 1 ∷ []) 73 ∷ var 0 ∷ []) 70 ∷ []) 51
      ∷ []
      );
}

-- `(def g (go (quot 1 0))) (println (<!! g))`
abbrev pub faulting : ProgramView
faulting = record {
  functions = [];
  bodies = record { parameters = 0 ∷ []; body = go_text (form_at_column (Builtin Quot) (number_term 1 ∷ number_term 0 ∷ []) 12) 1 0 8 } ∷ [];
  main = main_text (go_block 0 [] 0 8 ∷ form_at_column Print (form_at_column Take (var 0 ∷ []) 34 ∷ []) 25 ∷ []);
}

-- `(def c (chan)) (close! c) (println (>!! c 1))`
abbrev pub putting_late : ProgramView
putting_late = record {
  functions = [];
  bodies = [];
  main = main_text (form_at_column (Make Unbuffered) [] 8 ∷ form_at_column Close (var 0 ∷ []) 16 ∷ form_at_column Print (form_at_column Put (var 0 ∷ number_term 1 ∷ []) 36 ∷ []) 27 ∷ []);
}

-- `(def c (chan)) (go (<! c)) (go (<! c)) (>!! c 42)`
abbrev pub taking_twice : ProgramView
taking_twice = record {
  functions = [];
  bodies = record { parameters = 0 ∷ 1 ∷ []; body = go_text (form_at_column Take (var 0 ∷ []) 20) 2 1 16 } ∷ record { parameters = 0 ∷ 2 ∷ []; body = go_text (form_at_column Take (var 0 ∷ []) 32) 3 2 28 } ∷ [];
  main = main_text (form_at_column (Make Unbuffered) [] 8 ∷ go_block 0 (var 0 ∷ []) 1 16 ∷ go_block 1 (var 0 ∷ []) 2 28 ∷ form_at_column Put (var 0 ∷ number_term 42 ∷ []) 40 ∷ []);
}
