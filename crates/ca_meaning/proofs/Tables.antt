-- The rows of the tables: at some values, and each table from a new task to its end.
use Rattle.std.proofs.Common.{◌≡◌, [], ◌∷◌, refl, true}
use Rattle.ca_value.specs.declared.builtin.Builtin.{Builtin}
use Rattle.ca_value.specs.Builtins.{builtin_result}
use Rattle.ca_value.specs.Tree.{nil, vector, port, none, item}
use Rattle.ca_term.specs.declared.fault.Fault.TheVariants.{WrongKind, NilPut}
use Rattle.ca_term.specs.declared.head.PlainFunction.{PlainFunction}
use Rattle.ca_term.specs.declared.head.SystemTask.{SystemTask}
use Rattle.ca_term.specs.declared.head.Transform.TheVariants.{Filter, Mapcat}
use Rattle.ca_term.specs.declared.place.Place.{Place}
use Rattle.ca_term.specs.Program.{ProgramView}
use Rattle.ca_meaning.specs.Asks.{to, fail}
use Rattle.ca_meaning.specs.Applied.{outputs, no_outputs, outputs_of}
use Rattle.ca_meaning.specs.MultTable.{mult_takes, mult_reads, mult_next}
use Rattle.ca_meaning.specs.PipeTable.{merge_closes, onto_closes}
use Rattle.ca_meaning.specs.PipelineTable.{feed_next, feed_makes}
use Rattle.ca_meaning.specs.System.{new_system, a_merge, an_onto}
use Rattle.ca_meaning.specs.WorkedTables.{Works, true_value, seven, eight, list_of, mult_rows, deliver_rows, mix_rows, pub_rows, pipe_rows, merge_rows, onto_rows, feed_rows, job_rows, collect_rows}

-- without taps a value is dropped
mult-no-taps : mult_next (vector none) (mult_reads seven) ≡ to mult_takes
mult-no-taps = refl

-- an answer of another form
mult-wrong : mult_next seven (mult_reads eight) ≡ fail WrongKind
mult-wrong = refl

feed-wrong : feed_next true_value (feed_makes seven) ≡ fail WrongKind
feed-wrong = refl

-- an empty collection closes at once
onto-empty : (p : Place) → new_system SystemTask.Onto (item (port 1) (item (vector none) (item true_value (item (port 2) none)))) p ≡ an_onto (record { target = 1; closes = true; result = 2 }) p (to onto_closes)
onto-empty p = refl

-- no inputs: the output closes at once
merge-empty : (p : Place) → new_system SystemTask.Merge (item (vector none) (item (port 2) none)) p ≡ a_merge 2 p (to merge_closes)
merge-empty p = refl

-- a nil among the outputs
job-nil : outputs_of Mapcat seven (vector (item nil none)) ≡ no_outputs NilPut
job-nil = refl

-- a mapcat's function gave nil, and what is neither nil nor a vector
job-none : outputs_of Mapcat seven nil ≡ outputs none
job-none = refl

job-number : outputs_of Mapcat seven eight ≡ no_outputs WrongKind
job-number = refl

-- Each table followed from a new task to its end.
pub mult_worked : (program : ProgramView) (p : Place) → Works program p SystemTask.Mult (port 1 ∷ port 2 ∷ port 3 ∷ []) (mult_rows p)
mult_worked program p = (refl, _, refl, (refl, _, refl, (refl, _, refl, (refl, _, refl, (refl, _, refl, (refl, _, refl, (refl, _, refl, (refl, _, refl, (refl, _, refl, refl)))))))))

pub delivery_worked : (program : ProgramView) (p : Place) → Works program p SystemTask.Deliver (port 1 ∷ port 4 ∷ seven ∷ port 3 ∷ []) deliver_rows
delivery_worked program p = (refl, _, refl, (refl, _, refl, (refl, _, refl, refl)))

pub mix_worked : (program : ProgramView) (p : Place) → Works program p SystemTask.Mix (port 1 ∷ port 2 ∷ port 3 ∷ []) mix_rows
mix_worked program p = (refl, _, refl, (refl, _, refl, (refl, _, refl, (refl, _, refl, (refl, _, refl, (refl, _, refl, (refl, _, refl, (refl, _, refl, (refl, _, refl, (refl, _, refl, (refl, _, refl, refl)))))))))))

pub pub_worked : (program : ProgramView) (p : Place) → Works program p (SystemTask.Pub (PlainFunction.Builtin Builtin.IsOdd)) (port 1 ∷ port 2 ∷ []) pub_rows
unfolding builtin_result
pub_worked program p = (refl, _, (_, refl, refl), (refl, _, refl, (refl, _, refl, (refl, _, (_, refl, refl), (refl, _, refl, (refl, _, refl, (refl, _, refl, (refl, _, refl, refl))))))))

pub pipe_worked : (program : ProgramView) (p : Place) → Works program p SystemTask.Pipe (port 1 ∷ port 2 ∷ true_value ∷ []) pipe_rows
pipe_worked program p = (refl, _, refl, (refl, _, refl, (refl, _, refl, (refl, _, refl, refl))))

pub merge_worked : (program : ProgramView) (p : Place) → Works program p SystemTask.Merge (list_of (port 3 ∷ port 4 ∷ port 3 ∷ []) ∷ port 2 ∷ []) merge_rows
merge_worked program p = (refl, _, refl, (refl, _, refl, (refl, _, refl, (refl, _, refl, (refl, _, refl, refl)))))

pub onto_worked : (program : ProgramView) (p : Place) → Works program p SystemTask.Onto (port 1 ∷ list_of (seven ∷ eight ∷ seven ∷ []) ∷ true_value ∷ port 2 ∷ []) onto_rows
onto_worked program p = (refl, _, refl, (refl, _, refl, (refl, _, refl, (refl, _, refl, refl))))

pub feed_worked : (program : ProgramView) (p : Place) → Works program p SystemTask.Feed (port 1 ∷ port 2 ∷ port 3 ∷ []) feed_rows
feed_worked program p = (refl, _, refl, (refl, _, refl, (refl, _, refl, (refl, _, refl, (refl, _, refl, (refl, _, refl, (refl, _, refl, refl)))))))

pub job_worked : (program : ProgramView) (p : Place) → Works program p (SystemTask.Job Filter (PlainFunction.Builtin Builtin.IsOdd)) (port 1 ∷ []) job_rows
unfolding builtin_result
job_worked program p = (refl, _, (_, (_, refl, refl), refl), (refl, _, refl, (refl, _, (_, (_, refl, refl), refl), (refl, _, refl, (refl, _, refl, refl)))))

pub collect_worked : (program : ProgramView) (p : Place) → Works program p SystemTask.Collect (port 1 ∷ port 2 ∷ true_value ∷ port 3 ∷ []) collect_rows
collect_worked program p = (refl, _, refl, (refl, _, refl, (refl, _, refl, (refl, _, refl, (refl, _, refl, (refl, _, refl, (refl, _, refl, (refl, _, refl, (refl, _, refl, refl)))))))))
