-- The rules of a pipe, and of a collection that goes onto a channel. (core.async API reference: `pipe`,
-- `onto-chan!`, `to-chan!`.)
use Rattle.std.specs.Prelude.{◌≡◌, List, [], ◌∷◌, ◌++◌, ◌⊎◌, true}
use Rattle.ca_value.specs.Tree.{Tree, Trees, port, items_of}
use Rattle.ca_term.specs.declared.head.SystemTask.TheVariants.{Pipe, Onto}
use Rattle.ca_term.specs.Program.{ProgramView}
use Rattle.ca_term.specs.Operation.{OpView, taking, putting, choosing, making, spawning, closing, registering, printing, posting}
use Rattle.ca_term.specs.Event.{EventView}
use Rattle.ca_meaning.specs.Operands.{truth, port_of_value, first_of, second_of, third_of}
use Rattle.ca_meaning.specs.Asks.{trees_in}
use Rattle.ca_meaning.specs.PipeTable.{PipePorts, OntoPorts}
use Rattle.ca_meaning.specs.System.{fourth_of}
use Rattle.ca_meaning.specs.State.{State}
use Rattle.ca_laws.specs.Deeds.{Deed}
use Rattle.ca_laws.specs.Taken.{taken, sent, FoundEnd, Begins}
use Rattle.ca_laws.specs.Rules.{AllKeepTo}

-- what a pipe may ask for after all that it did
abbrev pub PipeRule : PipePorts → List Deed → OpView → Type 0
-- the next value of its source, where it put all before
PipeRule x before (taking c) = (c ≡ port x.source) × (sent before ≡ taken before)
-- a put of the value that it took, where it put all before
PipeRule x before (putting c v) = (c ≡ port x.target) × (sent before ++ v ∷ [] ≡ taken before)
-- the close of its target, after the end of its source
PipeRule x before (closing c) = (c ≡ port x.target) × (x.closes ≡ true) × (sent before ≡ taken before) × FoundEnd x.source before
PipeRule x before (making what) = ⊥
PipeRule x before (choosing ports priority default) = ⊥
PipeRule x before (spawning seed) = ⊥
PipeRule x before (registering name args) = ⊥
PipeRule x before (printing line) = ⊥
PipeRule x before (posting c v) = ⊥

-- What a collection that goes onto a channel may ask for: a put of its next item into its target, the close of the
-- target, and the close of its result port.
abbrev pub OntoRule : OntoPorts → List Tree → List Deed → OpView → Type 0
OntoRule x items before (putting c v) = (c ≡ port x.target) × Begins (sent before ++ v ∷ []) items
OntoRule x items before (closing c) = ((c ≡ port x.target) × (x.closes ≡ true)) ⊎ (c ≡ port x.result)
OntoRule x items before (taking c) = ⊥
OntoRule x items before (making what) = ⊥
OntoRule x items before (choosing ports priority default) = ⊥
OntoRule x items before (spawning seed) = ⊥
OntoRule x items before (registering name args) = ⊥
OntoRule x items before (printing line) = ⊥
OntoRule x items before (posting c v) = ⊥

-- their ports and items are the values of the Spawn
abbrev pub pipe_ports : Trees → PipePorts
pipe_ports values = record { source = port_of_value (first_of values); target = port_of_value (second_of values); closes = truth (third_of values) }

abbrev pub onto_ports : Trees → OntoPorts
onto_ports values = record { target = port_of_value (first_of values); closes = truth (third_of values); result = port_of_value (fourth_of values) }

abbrev pub onto_items : Trees → List Tree
onto_items values = items_of (trees_in (second_of values))

-- each pipe and each such collection keeps to its rule
abbrev pub PipesKeepTo : ProgramView → List EventView → State → Type 0
PipesKeepTo program journal s = AllKeepTo Pipe (λ values place. PipeRule (pipe_ports values)) program journal s

abbrev pub OntosKeepTo : ProgramView → List EventView → State → Type 0
OntosKeepTo program journal s = AllKeepTo Onto (λ values place. OntoRule (onto_ports values) (onto_items values)) program journal s
