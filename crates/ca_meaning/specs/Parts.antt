-- Tests of the parts of a term that the code makes.
use Rattle.std.specs.Prelude.{ℕ, suc, Bool, true, false, not, ◌||◌, cond, IsTrue, Option, Some, None}
use Rattle.ca_value.specs.Builtins.{admits_arguments}
use Rattle.ca_term.specs.declared.head.Head.TheVariants.{Recur, Builtin}
use Rattle.ca_term.specs.Fits.{count_terms}
use Rattle.ca_term.specs.Kernel.{Kernel, Kernels, const, var, branch, bind, loop, seq, frame, turn, apply, none, item}
use Rattle.ca_meaning.specs.Redex.{is_value, all_values, is_open, is_ready_recur}

-- the first of several terms isn't a value yet
abbrev pub is_open_sequence : Kernels → Bool
is_open_sequence none = false
is_open_sequence (item t none) = false
is_open_sequence (item t (item u us)) = not (is_value t)

-- the place of the first term that isn't a value
abbrev pub first_open : Kernels → ℕ
first_open none = 0
first_open (item t ts) = cond (is_value t) (suc (first_open ts)) 0

-- the redex of the term is the whole of it
abbrev pub is_whole : Kernel → Bool
is_whole (const v) = true
is_whole (var n) = true
is_whole (branch c a b) = is_value c
is_whole (bind bs body) = not (is_open bs)
is_whole (loop fs bs body) = not (is_open bs)
is_whole (seq ts) = not (is_open_sequence ts)
is_whole (frame body) = is_value body
is_whole (turn ns text now) = is_value now || is_ready_recur now
is_whole (apply h ts p) = all_values ts

-- a builtin has as many operands as it takes
abbrev pub IsAdmitted : Kernel → Type 0
IsAdmitted (apply (Builtin b) ts p) = IsTrue (admits_arguments b (count_terms ts))
IsAdmitted t = Unit {0}

abbrev pub recur_operands : Kernel → Option Kernels
recur_operands (apply Recur ts p) = Some ts
recur_operands t = None
