-- Worked expansions: scripts of one line, and the programs of those that have one.
use Rattle.std.specs.Prelude.{ℕ, ◌+◌, pos, List, [], ◌∷◌, ◌++◌, map, codes, true}
use Rattle.ca_value.specs.Tree.{nil, int, bool, key}
use Rattle.ca_value.specs.declared.builtin.Builtin.{Builtin as BuiltinName}
use Rattle.ca_term.specs.declared.place.Place.{Place}
use Rattle.ca_term.specs.declared.head.Head.{Head}
use Rattle.ca_term.specs.declared.head.Head.TheVariants.{Recur, Builtin, Call, Alts, Make, Spawn, Close, Register, Print, Post}
use Rattle.ca_term.specs.declared.head.MakeKind.{MakeKind}
use Rattle.ca_term.specs.declared.head.SeedKind.{SeedKind}
use Rattle.ca_term.specs.declared.head.SystemTask.{SystemTask}
use Rattle.ca_term.specs.declared.head.Transform.{Transform}
use Rattle.ca_term.specs.declared.head.PlainFunction.{PlainFunction}
use Rattle.ca_term.specs.declared.head.AltsOptions.{AltsOptions}
use Rattle.ca_term.specs.declared.head.RegisterName.{RegisterName}
use Rattle.ca_term.specs.Kernel.{Kernel, const, var, branch, bind, loop, seq, apply}
use Rattle.ca_term.specs.Program.{ProcedureView, ProgramView}
use Rattle.ca_term.specs.View.{kernels_of, bindings_of}
use Rattle.ca_reader.specs.declared.form.Bracket.TheVariants.{Round, Square}
use Rattle.ca_reader.specs.Form.{FormTree, FormTrees, form, atom, group, symbol, int as int_atom, key as key_atom}
use Rattle.ca_reader.specs.View.{form_trees_of}

abbrev pub place_at_column : ℕ → Place
place_at_column n = record { line = 1; column = n }

-- forms by the column of their first byte
abbrev pub symbol_at : ℕ → List ℕ → FormTree
symbol_at n s = form (atom (symbol s)) (place_at_column n)

abbrev pub number_form_at : ℕ → ℕ → FormTree
number_form_at n k = form (atom (int_atom (pos k))) (place_at_column n)

abbrev pub keyword_form_at : ℕ → List ℕ → FormTree
keyword_form_at n s = form (atom (key_atom s)) (place_at_column n)

abbrev pub round_at : ℕ → List FormTree → FormTree
round_at n fs = form (group Round (form_trees_of fs)) (place_at_column n)

abbrev pub square_at : ℕ → List FormTree → FormTree
square_at n fs = form (group Square (form_trees_of fs)) (place_at_column n)

-- (println x)
abbrev pub unknown_name : FormTrees
unknown_name = form_trees_of (round_at 1 (symbol_at 2 (codes "println") ∷ symbol_at 10 (codes "x") ∷ []) ∷ [])

-- (if (inc) y)
abbrev pub wrong_first_part : FormTrees
wrong_first_part = form_trees_of (round_at 1 (symbol_at 2 (codes "if") ∷ round_at 5 (symbol_at 6 (codes "inc") ∷ []) ∷ symbol_at 11 (codes "y") ∷ []) ∷ [])

-- (if (inc))
abbrev pub wrong_form_with_wrong_part : FormTrees
wrong_form_with_wrong_part = form_trees_of (round_at 1 (symbol_at 2 (codes "if") ∷ round_at 5 (symbol_at 6 (codes "inc") ∷ []) ∷ []) ∷ [])

-- (loop [] (do (recur) 1))
abbrev pub recur_before_another : FormTrees
recur_before_another = form_trees_of (round_at 1 (symbol_at 2 (codes "loop") ∷ square_at 7 ([]) ∷ round_at 10 (symbol_at 11 (codes "do") ∷ round_at 14 (symbol_at 15 (codes "recur") ∷ []) ∷ number_form_at 22 1 ∷ []) ∷ []) ∷ [])

-- (<! (chan))
abbrev pub take_outside_go : FormTrees
take_outside_go = form_trees_of (round_at 1 (symbol_at 2 (codes "<!") ∷ round_at 5 (symbol_at 6 (codes "chan") ∷ []) ∷ []) ∷ [])

-- (go (<!! 1))
abbrev pub blocking_take_in_go : FormTrees
blocking_take_in_go = form_trees_of (round_at 1 (symbol_at 2 (codes "go") ∷ round_at 5 (symbol_at 6 (codes "<!!") ∷ number_form_at 10 1 ∷ []) ∷ []) ∷ [])

-- (inc)
abbrev pub no_argument : FormTrees
no_argument = form_trees_of (round_at 1 (symbol_at 2 (codes "inc") ∷ []) ∷ [])

-- (def inc 1)
abbrev pub builtin_defined : FormTrees
builtin_defined = form_trees_of (round_at 1 (symbol_at 2 (codes "def") ∷ symbol_at 6 (codes "inc") ∷ number_form_at 10 1 ∷ []) ∷ [])

-- (do (def a 1))
abbrev pub definition_inside : FormTrees
definition_inside = form_trees_of (round_at 1 (symbol_at 2 (codes "do") ∷ round_at 5 (symbol_at 6 (codes "def") ∷ symbol_at 10 (codes "a") ∷ number_form_at 12 1 ∷ []) ∷ []) ∷ [])

-- (pub 1 println)
abbrev pub operation_given : FormTrees
operation_given = form_trees_of (round_at 1 (symbol_at 2 (codes "pub") ∷ number_form_at 6 1 ∷ symbol_at 8 (codes "println") ∷ []) ∷ [])

-- (pub x f)
abbrev pub unknown_source_and_function : FormTrees
unknown_source_and_function = form_trees_of (round_at 1 (symbol_at 2 (codes "pub") ∷ symbol_at 6 (codes "x") ∷ symbol_at 8 (codes "f") ∷ []) ∷ [])

-- (defn f [a b c d e g h i j k l m n o p q r] 1)
abbrev pub seventeen_parameters : FormTrees
seventeen_parameters = form_trees_of (round_at 1 (symbol_at 2 (codes "defn") ∷ symbol_at 7 (codes "f") ∷ square_at 9 (symbol_at 10 (codes "a")
    ∷ symbol_at 12 (codes "b") ∷ symbol_at 14 (codes "c") ∷ symbol_at 16 (codes "d") ∷ symbol_at 18 (codes "e") ∷ symbol_at 20 (codes "g")
    ∷ symbol_at 22 (codes "h") ∷ symbol_at 24 (codes "i") ∷ symbol_at 26 (codes "j") ∷ symbol_at 28 (codes "k") ∷ symbol_at 30 (codes "l")
    ∷ symbol_at 32 (codes "m") ∷ symbol_at 34 (codes "n") ∷ symbol_at 36 (codes "o") ∷ symbol_at 38 (codes "p") ∷ symbol_at 40 (codes "q")
    ∷ symbol_at 42 (codes "r") ∷ []) ∷ number_form_at 45 1 ∷ []) ∷ [])

-- (def d 7) (defn f [n] (if n d (f n)))
abbrev pub hidden_parameter : FormTrees
hidden_parameter = form_trees_of (round_at 1 (symbol_at 2 (codes "def") ∷ symbol_at 6 (codes "d") ∷ number_form_at 8 7 ∷ [])
    ∷ round_at 11 (symbol_at 12 (codes "defn") ∷ symbol_at 17 (codes "f") ∷ square_at 19 (symbol_at 20 (codes "n") ∷ [])
    ∷ round_at 23 (symbol_at 24 (codes "if") ∷ symbol_at 27 (codes "n") ∷ symbol_at 29 (codes "d") ∷ round_at 31 (symbol_at 32 (codes "f")
    ∷ symbol_at 34 (codes "n") ∷ []) ∷ []) ∷ []) ∷ [])

-- (defn g [n] (recur n))
abbrev pub recur_to_function : FormTrees
recur_to_function = form_trees_of (round_at 1 (symbol_at 2 (codes "defn") ∷ symbol_at 7 (codes "g") ∷ square_at 9 (symbol_at 10 (codes "n") ∷ []) ∷ round_at 13 (symbol_at 14 (codes "recur") ∷ symbol_at 20 (codes "n") ∷ []) ∷ []) ∷ [])

-- (def a 1) (def b 2) (go (println b a b))
abbrev pub captures : FormTrees
captures = form_trees_of (round_at 1 (symbol_at 2 (codes "def") ∷ symbol_at 6 (codes "a") ∷ number_form_at 8 1 ∷ [])
    ∷ round_at 11 (symbol_at 12 (codes "def") ∷ symbol_at 16 (codes "b") ∷ number_form_at 18 2 ∷ []) ∷ round_at 21 (symbol_at 22 (codes "go")
    ∷ round_at 25 (symbol_at 26 (codes "println") ∷ symbol_at 34 (codes "b") ∷ symbol_at 36 (codes "a") ∷ symbol_at 38 (codes "b") ∷ []) ∷ [])
    ∷ [])

-- (go (go 1)) (go 2)
abbrev pub nested_go_blocks : FormTrees
nested_go_blocks = form_trees_of (round_at 1 (symbol_at 2 (codes "go") ∷ round_at 5 (symbol_at 6 (codes "go") ∷ number_form_at 9 1 ∷ []) ∷ [])
    ∷ round_at 13 (symbol_at 14 (codes "go") ∷ number_form_at 17 2 ∷ []) ∷ [])

-- (and 1 2)
abbrev pub conjunction : FormTrees
conjunction = form_trees_of (round_at 1 (symbol_at 2 (codes "and") ∷ number_form_at 6 1 ∷ number_form_at 8 2 ∷ []) ∷ [])

-- (let [[a b] 1] b)
abbrev pub worked_pattern : FormTrees
worked_pattern = form_trees_of (round_at 1 (symbol_at 2 (codes "let") ∷ square_at 6 (square_at 7 (symbol_at 8 (codes "a") ∷ symbol_at 10 (codes "b") ∷ []) ∷ number_form_at 13 1 ∷ []) ∷ symbol_at 16 (codes "b") ∷ []) ∷ [])

-- (loop [[a] 1] a)
abbrev pub loop_over_pattern : FormTrees
loop_over_pattern = form_trees_of (round_at 1 (symbol_at 2 (codes "loop") ∷ square_at 7 (square_at 8 (symbol_at 9 (codes "a") ∷ []) ∷ number_form_at 12 1 ∷ [])
    ∷ symbol_at 15 (codes "a") ∷ []) ∷ [])

-- (dotimes [i 3] i)
abbrev pub counted_loop : FormTrees
counted_loop = form_trees_of (round_at 1 (symbol_at 2 (codes "dotimes") ∷ square_at 10 (symbol_at 11 (codes "i") ∷ number_form_at 13 3 ∷ []) ∷ symbol_at 16 (codes "i") ∷ []) ∷ [])

-- (alts!! 1 :default 2 :priority 3)
abbrev pub choice_with_options : FormTrees
choice_with_options = form_trees_of (round_at 1 (symbol_at 2 (codes "alts!!") ∷ number_form_at 9 1 ∷ keyword_form_at 11 (codes "default") ∷ number_form_at 20 2
    ∷ keyword_form_at 22 (codes "priority") ∷ number_form_at 32 3 ∷ []) ∷ [])

-- (sub 1 2 3)
abbrev pub subscription : FormTrees
subscription = form_trees_of (round_at 1 (symbol_at 2 (codes "sub") ∷ number_form_at 6 1 ∷ number_form_at 8 2 ∷ number_form_at 10 3 ∷ []) ∷ [])

-- (pipeline 1 2 (map :k) 3)
abbrev pub pipeline_by_keyword : FormTrees
pipeline_by_keyword = form_trees_of (round_at 1 (symbol_at 2 (codes "pipeline") ∷ number_form_at 11 1 ∷ number_form_at 13 2
    ∷ round_at 15 (symbol_at 16 (codes "map") ∷ keyword_form_at 20 (codes "k") ∷ []) ∷ number_form_at 24 3 ∷ []) ∷ [])

-- terms at a column
abbrev pub term_at : ℕ → Head → List Kernel → Kernel
term_at n h ts = apply h (kernels_of ts) (place_at_column n)

abbrev pub built_at : ℕ → BuiltinName → List Kernel → Kernel
built_at n b ts = term_at n (Builtin b) ts

abbrev pub spawn_at : ℕ → SystemTask → List Kernel → Kernel
spawn_at n task ts = term_at n (Spawn (SeedKind.System task)) ts

abbrev pub whole_term : ℕ → Kernel
whole_term k = const (int (pos k))

-- (let [..] ..)
abbrev pub with_names : List (ℕ × Kernel) → List Kernel → Kernel
with_names bs ts = bind (bindings_of bs) (seq (kernels_of ts))

abbrev pub worked_loop : List (ℕ × Kernel) → List Kernel → Kernel
worked_loop bs ts = loop [] (bindings_of bs) (seq (kernels_of ts))

-- a program whose main text binds these values
abbrev pub program : List ProcedureView → List ProcedureView → List (ℕ × Kernel) → ProgramView
program fs bs main = record { functions = fs; bodies = bs; main = bind (bindings_of main) (const nil) }

-- a main text with one value
abbrev pub main_value : Kernel → ProgramView
main_value t = program [] [] ((0, t) ∷ [])

abbrev pub worked_text : List ℕ → Kernel → ProcedureView
worked_text ns t = record { parameters = ns; body = t }

-- the go block whose body has that number and uses these names; r is its result port
abbrev pub worked_go_block : ℕ → ℕ → List ℕ → ℕ → Kernel
worked_go_block n number used r = with_names ((r, term_at n (Make MakeKind.Fixed) (whole_term 1 ∷ [])) ∷ [])
    (term_at n (Spawn (SeedKind.Go number)) (map var (used ++ r ∷ [])) ∷ var r ∷ [])

-- its body
abbrev pub worked_go_body : ℕ → Kernel → List ℕ → ℕ → ProcedureView
worked_go_body n t used r = worked_text (used ++ r ∷ []) (with_names ((r + 1, seq (kernels_of (t ∷ []))) ∷ [])
    (branch (built_at n BuiltinName.IsNil (var (r + 1) ∷ [])) (const nil) (term_at n Post (var r ∷ var (r + 1) ∷ [])) ∷ term_at n Close (var r ∷ []) ∷ []))

-- f takes n and, behind it, d; its call of itself passes d on
abbrev pub hidden_parameter_program : ProgramView
hidden_parameter_program = program
    (worked_text (1 ∷ 0 ∷ []) (seq (kernels_of (branch (var 1) (var 0) (term_at 31 (Call 0) (var 1 ∷ var 0 ∷ [])) ∷ []))) ∷ []) [] ((0, whole_term 7) ∷ [])

-- the body stands in a loop over the parameter
abbrev pub recur_to_function_program : ProgramView
recur_to_function_program = program (worked_text (0 ∷ []) (worked_loop ((1, var 0) ∷ []) (term_at 13 Recur (var 1 ∷ []) ∷ [])) ∷ []) [] []

-- b is used first
abbrev pub captures_program : ProgramView
captures_program = program [] (worked_go_body 21 (term_at 25 Print (var 1 ∷ var 0 ∷ var 1 ∷ [])) (1 ∷ 0 ∷ []) 2 ∷ [])
    ((0, whole_term 1) ∷ (1, whole_term 2) ∷ (2, worked_go_block 21 0 (1 ∷ 0 ∷ []) 2) ∷ [])

-- bodies are numbered in order of text
abbrev pub go_blocks_program : ProgramView
go_blocks_program = program []
    (worked_go_body 1 (worked_go_block 5 1 [] 1) [] 0 ∷ worked_go_body 5 (whole_term 1) [] 1 ∷ worked_go_body 13 (whole_term 2) [] 1 ∷ [])
    ((0, worked_go_block 1 0 [] 0) ∷ (1, worked_go_block 13 2 [] 1) ∷ [])

-- (let [h 1] (if h 2 h))
abbrev pub conjunction_program : ProgramView
conjunction_program = main_value (with_names ((0, whole_term 1) ∷ []) (branch (var 0) (whole_term 2) (var 0) ∷ []))

-- (let [h 1 a (part h 0) b (part h 1)] b)
abbrev pub pattern_program : ProgramView
pattern_program = main_value (with_names
    ((0, whole_term 1) ∷ (1, built_at 1 BuiltinName.Part (var 0 ∷ whole_term 0 ∷ [])) ∷ (2, built_at 1 BuiltinName.Part (var 0 ∷ whole_term 1 ∷ [])) ∷ []) (var 2 ∷ []))

-- (let [h 1 a (part h 0)] (loop [k h] (let [a (part k 0)] a)))
abbrev pub loop_over_pattern_program : ProgramView
loop_over_pattern_program = main_value (with_names ((0, whole_term 1) ∷ (1, built_at 1 BuiltinName.Part (var 0 ∷ whole_term 0 ∷ [])) ∷ [])
    (worked_loop ((2, var 0) ∷ []) (with_names ((3, built_at 1 BuiltinName.Part (var 2 ∷ whole_term 0 ∷ [])) ∷ []) (var 3 ∷ []) ∷ []) ∷ []))

-- (let [h 3] (loop [i 0] (when (< i h) i (recur (inc i)))))
abbrev pub counted_loop_program : ProgramView
counted_loop_program = main_value (with_names ((0, whole_term 3) ∷ []) (worked_loop ((1, whole_term 0) ∷ [])
    (branch (built_at 1 BuiltinName.Less (var 1 ∷ var 0 ∷ []))
    (seq (kernels_of (var 1 ∷ term_at 1 Recur (built_at 1 BuiltinName.Inc (var 1 ∷ []) ∷ []) ∷ []))) (const nil) ∷ []) ∷ []))

-- the default is evaluated before the priority
abbrev pub choice_with_options_program : ProgramView
choice_with_options_program = main_value (term_at 1 (Alts AltsOptions.DefaultThenPriority) (whole_term 1 ∷ whole_term 2 ∷ whole_term 3 ∷ []))

-- the names are hp, ht, hc, hz, h and pair; where the topic has no mult they are q, a, m and w
abbrev pub subscription_program : ProgramView
subscription_program = main_value (with_names
    ((0, whole_term 1) ∷ (1, whole_term 2) ∷ (2, whole_term 3) ∷ (3, const (bool true))
    ∷ (4, term_at 1 (Register RegisterName.Find) (var 0 ∷ var 1 ∷ []))
    ∷ (
      5,
      branch (built_at 1 BuiltinName.IsNil (var 4 ∷ []))
          (with_names
          ((5, term_at 1 (Make MakeKind.Unbuffered) []) ∷ (6, term_at 1 (Make MakeKind.Unbuffered) []) ∷ (7, term_at 1 (Make MakeKind.Mult) (var 5 ∷ []))
          ∷ (8, term_at 1 (Register RegisterName.Place) (var 0 ∷ var 1 ∷ var 7 ∷ var 5 ∷ [])) ∷ [])
          (branch (built_at 1 BuiltinName.Equal (built_at 1 BuiltinName.Nth (var 8 ∷ whole_term 0 ∷ []) ∷ var 7 ∷ []))
          (spawn_at 1 SystemTask.Mult (var 7 ∷ var 5 ∷ var 6 ∷ [])) (const nil) ∷ var 8 ∷ []))
          (var 4),
    ) ∷ [])
    (term_at 1 (Register RegisterName.Tap) (built_at 1 BuiltinName.Nth (var 5 ∷ whole_term 0 ∷ []) ∷ var 2 ∷ var 3 ∷ []) ∷ const nil ∷ []))

-- the names are n, t, f, z, j, q and r; a loop counts by number 7; the keyword is the last operand of each job
abbrev pub pipeline_by_keyword_program : ProgramView
pipeline_by_keyword_program = main_value (with_names
    ((0, built_at 1 BuiltinName.WorkerCount (whole_term 1 ∷ [])) ∷ (1, whole_term 2) ∷ (2, whole_term 3) ∷ (3, const (bool true))
    ∷ (4, term_at 1 (Make MakeKind.Fixed) (var 0 ∷ [])) ∷ (5, term_at 1 (Make MakeKind.Fixed) (var 0 ∷ [])) ∷ (6, term_at 1 (Make MakeKind.Fixed) (whole_term 1 ∷ [])) ∷ [])
    (worked_loop ((7, whole_term 0) ∷ []) (branch (built_at 1 BuiltinName.Less (var 7 ∷ var 0 ∷ []))
    (seq (kernels_of (spawn_at 1 (SystemTask.Job Transform.Map PlainFunction.Keyword) (var 4 ∷ const (key (codes "k")) ∷ [])
    ∷ term_at 1 Recur (built_at 1 BuiltinName.Inc (var 7 ∷ []) ∷ []) ∷ []))) (const nil) ∷ [])
    ∷ spawn_at 1 SystemTask.Feed (var 2 ∷ var 4 ∷ var 5 ∷ [])
    ∷ spawn_at 1 SystemTask.Collect (var 5 ∷ var 1 ∷ var 3 ∷ var 6 ∷ [])
    ∷ var 6 ∷ []))
