-- A task's body: where it stands, what a local step makes of it, and the body with its operation
-- replaced by the answer.
use Rattle.std.specs.Prelude.{ℕ, suc, ◌-◌, List, [], ◌∷◌, ◌++◌, cond, nat_le, Option, Some, None, Result, Ok, Err}
use Rattle.ca_value.specs.Tree.{Tree, Trees, nil, text as line_text}
use Rattle.ca_value.specs.Outcome.{Outcome}
use Rattle.ca_value.specs.Builtins.{builtin_result}
use Rattle.ca_term.specs.declared.place.Place.{Place}
use Rattle.ca_term.specs.declared.fault.Fault.{Fault}
use Rattle.ca_term.specs.declared.fault.Fault.TheVariants.{Spun, TooDeep}
use Rattle.ca_term.specs.declared.head.Head.{Head}
use Rattle.ca_term.specs.declared.head.Head.TheVariants.{Recur, Builtin, Call, Take, Put, Alts, Make, Spawn, Close, Register, Print, Post}
use Rattle.ca_term.specs.Kernel.{Kernel, Kernels, Bindings, Founds, const, var, branch, bind, loop, seq, frame, turn, apply, none, item, empty, binding, put, put_bindings, puts}
use Rattle.ca_term.specs.Operation.{WantView, OpView, taking, putting, making, spawning, closing, registering, printing, posting, WhatView}
use Rattle.ca_term.specs.Program.{ProgramView}
use Rattle.ca_meaning.specs.declared.body.FaultAt.{FaultAt}
use Rattle.ca_meaning.specs.Redex.{redex, replace, value_of, values_of, is_ready_recur}
use Rattle.ca_meaning.specs.Started.{named, names_found, procedure_at, started}
use Rattle.ca_meaning.specs.Operands.{truth, first_of, second_of, values_in}
use Rattle.ca_meaning.specs.Asking.{task_fault, too_large, bad_alts, alts_of, made_of, bad_operands, seed_of, bad_arguments}
pub use Rattle.ca_term.specs.Asking.{line_of}

-- A term, its turns since the last event (calls and recurs), the calls that it stands in, and the fault that a
-- builtin of it came to.
pub record BodyView : Type 0 where
  pub term : Kernel
  pub turns : ℕ
  pub depth : ℕ
  pub fault : Option FaultAt

-- where a body stands
pub data At : Type 0 where
  -- it goes on by a local step
  local : At
  at_op : WantView → At
  ended : Tree → At
  faulted : Fault → Place → At
  -- at a name without a value, or at a recur without its loop
  nowhere : At

-- at the operation, unless an operand faults
abbrev pub asking : Place → Option Fault → OpView → At
asking p None op = at_op (record { op = op; place = p })
asking p (Some f) op = faulted f p

abbrev pub asking_to_make : Place → Result WhatView Fault → At
asking_to_make p (Ok what) = asking p None (making what)
asking_to_make p (Err f) = faulted f p

-- a recur: a task's 1,000,000th turn since its last event faults
abbrev pub at_turn : ℕ → Place → At
at_turn turns p = cond (nat_le 999_999 turns) (faulted Spun p) local

-- a call: the 1,000,000th turn faults, and then a call inside 256
abbrev pub at_call : ℕ → ℕ → Place → At
at_call turns depth p = cond (nat_le 999_999 turns) (faulted Spun p) (cond (nat_le 256 depth) (faulted TooDeep p) local)

-- where a form stands whose operands are these values. What a builtin comes to is told by its local step.
abbrev pub standing_with : ℕ → ℕ → Trees → Place → Head → At
standing_with turns depth vs p Recur = nowhere
standing_with turns depth vs p (Builtin b) = local
standing_with turns depth vs p (Call n) = at_call turns depth p
standing_with turns depth vs p Take = asking p None (taking (first_of vs))
standing_with turns depth vs p Put = asking p (too_large (second_of vs)) (putting (first_of vs) (second_of vs))
standing_with turns depth vs p (Alts options) = asking p (bad_alts options vs) (alts_of options vs)
standing_with turns depth vs p (Make kind) = asking_to_make p (made_of kind vs)
standing_with turns depth vs p (Spawn kind) = asking p (bad_operands kind vs) (spawning (seed_of kind vs p))
standing_with turns depth vs p Close = asking p None (closing (first_of vs))
standing_with turns depth vs p (Register name) = asking p (bad_arguments name vs) (registering name vs)
-- a line is judged as a text
standing_with turns depth vs p Print = asking p (too_large (line_text (line_of vs))) (printing (line_of vs))
standing_with turns depth vs p Post = asking p (too_large (second_of vs)) (posting (first_of vs) (second_of vs))

-- a running loop, where its text has become this term: a recur, or a value that leaves it
abbrev pub standing_turn : ℕ → Kernel → At
standing_turn turns (apply Recur ts p) = at_turn turns p
standing_turn turns now = local

-- where a term stands whose redex is the whole of it
abbrev pub standing : ℕ → ℕ → Kernel → At
standing turns depth (const v) = ended v
standing turns depth (var n) = nowhere
standing turns depth (branch c a b) = local
standing turns depth (bind bs body) = local
standing turns depth (loop fs bs body) = local
standing turns depth (seq ts) = local
standing turns depth (frame body) = local
standing turns depth (turn names text now) = standing_turn turns now
standing turns depth (apply h ts p) = standing_with turns depth (values_of ts) p h

abbrev pub at_or : Option FaultAt → At → At
at_or None a = a
at_or (Some f) a = faulted f.fault f.place

abbrev pub at : BodyView → At
at b = at_or b.fault (standing b.turns b.depth (redex b.term))

-- a builtin's value, or nil, where its fault ends the body
abbrev pub value_in : Outcome → Tree
value_in (Ok v) = v
value_in (Err f) = nil

-- a `let`: the first binding's value is put into the others and into the body
abbrev pub after_let : Bindings → Kernel → Kernel
after_let empty body = body
after_let (binding n t bs) body = bind (put_bindings n (value_of t) bs) (put n (value_of t) body)

-- a loop: the first binding's value is put into the others, and kept for the text; with no binding left it runs
abbrev pub after_loop : Founds → Bindings → Kernel → Kernel
after_loop fs empty body = turn (names_found fs) body (puts fs body)
after_loop fs (binding n t bs) body = loop (fs ++ (n, value_of t) ∷ []) (put_bindings n (value_of t) bs) body

-- a `do`: the first term is left behind, and the last one stands alone
abbrev pub after_do : Kernels → Kernel
after_do none = const nil
after_do (item t none) = t
after_do (item t (item u us)) = seq (item u us)

-- a running loop: a recur begins its text again, with its values in place of the names; a value leaves it
abbrev pub after_turn : List ℕ → Kernel → Kernel → Kernel
after_turn names text (apply Recur ts p) = turn names text (puts (named names (values_in (values_of ts))) text)
after_turn names text now = now

-- a builtin becomes its value, a call a frame of the function's text
abbrev pub after_apply : ProgramView → Kernels → Place → Head → Kernel
after_apply program ts p (Builtin b) = const (value_in (builtin_result b (values_of ts)))
after_apply program ts p (Call n) = frame (started (procedure_at program.functions n) (values_in (values_of ts)))
after_apply program ts p h = apply h ts p

-- what a local step makes of a redex
abbrev pub contract : ProgramView → Kernel → Kernel
contract program (const v) = const v
contract program (var n) = var n
contract program (branch c a b) = cond (truth (value_of c)) a b
contract program (bind bs body) = after_let bs body
contract program (loop fs bs body) = after_loop fs bs body
contract program (seq ts) = after_do ts
contract program (frame body) = body
contract program (turn names text now) = after_turn names text now
contract program (apply h ts p) = after_apply program ts p h

-- a call and a recur are turns
abbrev pub turns_after : Kernel → ℕ → ℕ
turns_after (apply (Call n) ts p) turns = suc turns
turns_after (turn names text now) turns = cond (is_ready_recur now) (suc turns) turns
turns_after t turns = turns

-- a call goes one deeper, and is left again
abbrev pub depth_after : Kernel → ℕ → ℕ
depth_after (apply (Call n) ts p) depth = suc depth
depth_after (frame body) depth = depth - 1
depth_after t depth = depth

abbrev pub outcome_fault : Place → Outcome → Option FaultAt
outcome_fault p (Ok v) = None
outcome_fault p (Err f) = Some (record { fault = task_fault f; place = p })

-- the fault of a builtin
abbrev pub fault_of : Kernel → Option FaultAt
fault_of (apply (Builtin b) ts p) = outcome_fault p (builtin_result b (values_of ts))
fault_of t = None

-- one local step
abbrev pub step : ProgramView → BodyView → BodyView
step program b = record {
  term = replace (contract program (redex b.term)) b.term;
  turns = turns_after (redex b.term) b.turns;
  depth = depth_after (redex b.term) b.depth;
  fault = fault_of (redex b.term);
}

-- the same whole term with the answer in place of its operation
abbrev pub fill : Tree → BodyView → BodyView
fill v b = record b { term = replace (const v) b.term; turns = 0 }

-- a new body of the term
abbrev pub new_body : Kernel → BodyView
new_body t = record { term = t; turns = 0; depth = 0; fault = None }
