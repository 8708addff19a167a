-- The task of a `split` by a builtin, a plain function or a keyword, as its go block's text is with values in place of
-- the names that it uses from outside:
-- (go (loop [] (let [v (<! c)] (if (nil? v) (do (close! t) (close! f)) (if (>! (if (p v) t f) v) (recur) nil))))).
use Rattle.std.specs.Prelude.{ℕ, [], ◌∷◌, Option, Some, None}
use Rattle.ca_value.specs.Tree.{Tree, nil, port}
use Rattle.ca_value.specs.declared.builtin.Builtin.TheVariants.{IsNil}
use Rattle.ca_term.specs.declared.place.Place.{Place}
use Rattle.ca_term.specs.declared.head.Head.{Head}
use Rattle.ca_term.specs.declared.head.Head.TheVariants.{Recur, Take, Put, Close, Post}
use Rattle.ca_term.specs.Kernel.{Kernel, Kernels, const, var, branch, loop, apply, empty, none as no_terms, item as term}
use Rattle.ca_term.specs.View.{kernels_of}
use Rattle.ca_derived_laws.specs.TakeTask.{does, called_builtin, let_name}

-- the test is the function on the value and, where it is a keyword, on that
pub record SplitTask : Type 0 where
  pub first : ℕ
  pub function : Head
  pub further : Option Tree
  pub source : Tree
  pub yes : Tree
  pub no : Tree
  pub result : ℕ
  pub place : Place

abbrev pub operands : Option Tree → Kernel → Kernels
operands None h = term h no_terms
operands (Some k) h = term h (term (const k) no_terms)

abbrev pub operand_count : Option Tree → ℕ
operand_count None = 1
operand_count (Some k) = 2

-- (p h)
abbrev pub split_tests : SplitTask → Kernel → Kernel
split_tests x h = apply x.function (operands x.further h) x.place

abbrev pub split_shuts : SplitTask → Tree → Kernel
split_shuts x c = apply Close (term (const c) no_terms) x.place

-- (>! (if t yes no) h)
abbrev pub split_gives : SplitTask → Kernel → Kernel → Kernel
split_gives x t h = apply Put (term (branch t (const x.yes) (const x.no)) (term h no_terms)) x.place

-- (if u (recur) nil)
abbrev pub repeats : SplitTask → Kernel → Kernel
repeats x u = branch u (apply Recur no_terms x.place) (const nil)

-- (if (nil? h) (do (close! yes) (close! no)) (if (>! ..) (recur) nil))
abbrev pub split_decides : SplitTask → Kernel → Kernel
split_decides x h = does (branch (called_builtin IsNil (h ∷ []) x.place) (does (split_shuts x x.yes ∷ split_shuts x x.no ∷ [])) (repeats x (split_gives x (split_tests x h) h)) ∷ [])

abbrev pub split_asks : SplitTask → Kernel
split_asks x = apply Take (term (const x.source) no_terms) x.place

-- (let [v u] ..), u being the take or its answer
abbrev pub split_lets : SplitTask → Kernel → Kernel
split_lets x u = let_name x.first u (split_decides x (var x.first))

abbrev pub split_round : SplitTask → Kernel
split_round x = does (split_lets x (split_asks x) ∷ [])

abbrev pub split_ends : SplitTask → Kernel → Kernel
split_ends x h = does (branch (called_builtin IsNil (h ∷ []) x.place) (const nil) (apply Post (kernels_of (const (port x.result) ∷ h ∷ [])) x.place) ∷ split_shuts x (port x.result) ∷ [])

abbrev pub split_within : SplitTask → Kernel → Kernel
split_within x u = let_name x.first u (split_ends x (var x.first))

abbrev pub split_text : SplitTask → Kernel
split_text x = split_within x (does (loop [] empty (split_round x) ∷ []))
