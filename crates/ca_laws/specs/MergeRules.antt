-- The rule of a merge. (core.async API reference: `merge`.)
use Rattle.std.specs.Prelude.{◌≡◌, ℕ, List, [], ◌∷◌, Option, Some, None, cond}
use Rattle.ca_value.specs.Tree.{Tree, Trees, port, none}
use Rattle.ca_term.specs.declared.head.SystemTask.TheVariants.{Merge}
use Rattle.ca_term.specs.Program.{ProgramView}
use Rattle.ca_term.specs.Operation.{OpView, taking, putting, choosing, making, spawning, closing, registering, printing, posting}
use Rattle.ca_term.specs.Event.{EventView}
use Rattle.ca_meaning.specs.Operands.{is_nil, port_of_value, first_of, second_of}
use Rattle.ca_meaning.specs.Asks.{trees_in}
use Rattle.ca_meaning.specs.PipeTable.{without_port}
use Rattle.ca_meaning.specs.State.{State}
use Rattle.ca_laws.specs.Deeds.{Deed, did_take, did_put}
use Rattle.ca_laws.specs.Rules.{AllKeepTo}

-- The answer of its last alts, the channel and the value, until it puts the value; none, where the channel was found
-- closed. A pair among the inputs is a put, and answers as such.
abbrev pub choice_after : Deed → Option (ℕ × Tree) → Option (ℕ × Tree)
choice_after (did_take k p a) o = cond (is_nil a) None (Some (p, a))
choice_after (did_put k p v a) None = Some (p, a)
choice_after (did_put k p v a) (Some c) = None
choice_after d o = o

abbrev pub choice_from : Option (ℕ × Tree) → List Deed → Option (ℕ × Tree)
choice_from o [] = o
choice_from o (d ∷ ds) = choice_from (choice_after d o) ds

abbrev pub last_choice : List Deed → Option (ℕ × Tree)
last_choice ds = choice_from None ds

-- its inputs without those that it found closed
abbrev pub left_after : Deed → Trees → Trees
left_after (did_take k p a) vs = cond (is_nil a) (without_port p vs) vs
left_after d vs = vs

abbrev pub values_left : Trees → List Deed → Trees
values_left vs [] = vs
values_left vs (d ∷ ds) = values_left (left_after d vs) ds

-- what a merge of the inputs into its output may ask for after all that it did
abbrev pub MergeRule : Trees → ℕ → List Deed → OpView → Type 0
-- an alts over the inputs that are left, where it put the answer of the last
MergeRule inputs output before (choosing ports priority default) = (last_choice before ≡ None) × (ports ≡ values_left inputs before)
-- a put of the answer of its last alts
MergeRule inputs output before (putting c v) = (p : ℕ) × (c ≡ port output) × (last_choice before ≡ Some (p, v))
-- the close of its output, where no input is left
MergeRule inputs output before (closing c) = (c ≡ port output) × (values_left inputs before ≡ none)
MergeRule inputs output before (taking c) = ⊥
MergeRule inputs output before (making what) = ⊥
MergeRule inputs output before (spawning seed) = ⊥
MergeRule inputs output before (registering name args) = ⊥
MergeRule inputs output before (printing line) = ⊥
MergeRule inputs output before (posting c v) = ⊥

-- each merge keeps to its rule
abbrev pub MergesKeepTo : ProgramView → List EventView → State → Type 0
MergesKeepTo program journal s = AllKeepTo Merge (λ values place. MergeRule (trees_in (first_of values)) (port_of_value (second_of values))) program journal s
