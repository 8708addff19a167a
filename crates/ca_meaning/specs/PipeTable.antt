-- A pipe, a merge of channels, and a collection that goes onto a channel. (core.async API reference: `pipe`,
-- `merge`, `onto-chan!`, `to-chan!`.)
use Rattle.std.specs.Prelude.{ℕ, Bool, false, cond, eqb}
use Rattle.ca_value.specs.Tree.{Tree, Trees, port, none, item}
use Rattle.ca_meaning.specs.Operands.{is_nil, truth}
use Rattle.ca_meaning.specs.Asks.{Ask, ask_to_take, ask_to_put, ask_to_choose, ask_to_close, Next, to, stop, needing, value_and_port}

-- the source, the target, and whether the target closes with the source
pub record PipePorts : Type 0 where
  pub source : ℕ
  pub target : ℕ
  pub closes : Bool

pub data PipeState : Type 0 where
  pipe_takes : PipeState
  pipe_puts : Tree → PipeState
  pipe_closes : PipeState

abbrev pub pipe_asks : PipePorts → PipeState → Ask
pipe_asks p pipe_takes = ask_to_take p.source
pipe_asks p (pipe_puts v) = ask_to_put p.target v
pipe_asks p pipe_closes = ask_to_close p.target

abbrev pub pipe_next : PipePorts → Tree → PipeState → Next PipeState
pipe_next p a pipe_takes = cond (is_nil a) (cond p.closes (to pipe_closes) stop) (to (pipe_puts a))
pipe_next p a (pipe_puts v) = cond (truth a) (to pipe_takes) stop
pipe_next p a pipe_closes = stop

-- A merge has one port, its output.
pub data MergeState : Type 0 where
  -- the inputs that are left, of which there is one at least
  merge_chooses : Tree → Trees → MergeState
  -- the inputs that are left, and the value
  merge_puts : Trees → Tree → MergeState
  merge_closes : MergeState

abbrev pub is_port : ℕ → Tree → Bool
is_port n (port m) = eqb n m
is_port n v = false

-- an input that is closed leaves, wherever it stands
abbrev pub without_port : ℕ → Trees → Trees
without_port n none = none
without_port n (item v vs) = cond (is_port n v) (without_port n vs) (item v (without_port n vs))

abbrev pub inputs_left : Trees → Next MergeState
inputs_left none = to merge_closes
inputs_left (item v vs) = to (merge_chooses v vs)

abbrev pub merge_asks : ℕ → MergeState → Ask
merge_asks o (merge_chooses v vs) = ask_to_choose (item v vs)
merge_asks o (merge_puts vs v) = ask_to_put o v
merge_asks o merge_closes = ask_to_close o

abbrev pub merge_next : Tree → MergeState → Next MergeState
merge_next a (merge_chooses v vs) = needing (value_and_port a) (λ c. cond (is_nil c.0) (inputs_left (without_port c.1 (item v vs))) (to (merge_puts (item v vs) c.0)))
merge_next a (merge_puts vs v) = inputs_left vs
merge_next a merge_closes = stop

-- the target, whether it closes after the last item, and the result port
pub record OntoPorts : Type 0 where
  pub target : ℕ
  pub closes : Bool
  pub result : ℕ

pub data OntoState : Type 0 where
  -- the item that is put, and those after it
  onto_puts : Tree → Trees → OntoState
  onto_closes : OntoState
  onto_ends : OntoState

-- no item is left, or the target is closed
abbrev pub onto_over : OntoPorts → Next OntoState
onto_over o = cond o.closes (to onto_closes) (to onto_ends)

abbrev pub items_left : OntoPorts → Trees → Next OntoState
items_left o none = onto_over o
items_left o (item v vs) = to (onto_puts v vs)

abbrev pub onto_asks : OntoPorts → OntoState → Ask
onto_asks o (onto_puts v vs) = ask_to_put o.target v
onto_asks o onto_closes = ask_to_close o.target
onto_asks o onto_ends = ask_to_close o.result

abbrev pub onto_next : OntoPorts → Tree → OntoState → Next OntoState
onto_next o a (onto_puts v vs) = cond (truth a) (items_left o vs) (onto_over o)
onto_next o a onto_closes = to onto_ends
onto_next o a onto_ends = stop
