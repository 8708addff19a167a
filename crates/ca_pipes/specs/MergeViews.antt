-- Which body of the meaning a `Merge` is.
use Rattle.std.specs.Prelude.{ℕ, cond}
use Rattle.ca_value.specs.Tree.{Tree, Trees}
use Rattle.ca_value.specs.View.{view}
use Rattle.ca_value.specs.declared.value.Value.{Value}
use Rattle.ca_value.specs.declared.value.PortId.{PortId}
use Rattle.ca_term.specs.declared.place.Place.{Place}
use Rattle.ca_meaning.specs.Operands.{is_nil}
use Rattle.ca_meaning.specs.Asks.{Next, to, stop, fail, trees_in}
use Rattle.ca_meaning.specs.PipeTable.{MergeState, merge_puts, inputs_left, without_port}
use Rattle.ca_meaning.specs.System.{SystemBody, a_merge}
use Rattle.ca_system.specs.declared.stand.Next.{Next as NextState}
use Rattle.ca_system.specs.declared.stand.Next.TheVariants.{To, Stop, Fail}
use Rattle.ca_pipes.specs.declared.merge.Output.{Output}
use Rattle.ca_pipes.specs.declared.merge.State.{State}
use Rattle.ca_pipes.specs.declared.merge.State.TheVariants.{Chooses, Puts}

-- a choice among no inputs is the last state
abbrev pub merge_state : State → Next MergeState
merge_state (Chooses inputs) = inputs_left (trees_in (view inputs))
merge_state (Puts inputs v) = to (merge_puts (trees_in (view inputs)) (view v))

abbrev pub merge_at : NextState State → Next MergeState
merge_at (To x) = merge_state x
merge_at Stop = stop
merge_at (Fail f) = fail f

abbrev pub merge_body : Output → Place → NextState State → SystemBody
merge_body k p x = a_merge k.port.n p (merge_at x)

-- what an alts answers: a value and its port
abbrev pub chosen_view : Value × PortId → Tree × ℕ
chosen_view c = (view c.0, c.1.n)

-- what follows on the value of an input, or on nil at its end
abbrev pub after_choice_of : Trees → Tree → ℕ → Next MergeState
after_choice_of vs v n = cond (is_nil v) (inputs_left (without_port n vs)) (to (merge_puts vs v))
