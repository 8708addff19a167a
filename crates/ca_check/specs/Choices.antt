-- What the rows of `cond` and of the forms that bind a tested value come to, once their shape was judged.
use Rattle.std.specs.Prelude.{ℕ, List, [], ◌∷◌, map, Bool, true, false, is_some, Option, Some}
use Rattle.ca_value.specs.Tree.{nil}
use Rattle.ca_value.specs.declared.builtin.Builtin.TheVariants.{IsSome}
use Rattle.ca_term.specs.declared.head.Head.TheVariants.{Builtin}
use Rattle.ca_term.specs.declared.place.Place.{Place}
use Rattle.ca_term.specs.Kernel.{Kernel, const, var, branch, apply}
use Rattle.ca_term.specs.View.{kernel, kernels_of}
use Rattle.ca_reader.specs.declared.form.Bracket.TheVariants.{Square}
use Rattle.ca_reader.specs.Form.{FormTree, FormTrees, form, group, none, item}
use Rattle.ca_forms.specs.Binders.{Part, Bound, bindings_in}
use Rattle.ca_forms.specs.Plain.{meanings, by_truth, by_some, one_bound, row_if_bound, row_when_bound}
use Rattle.ca_forms.specs.Rounds.{under}
use Rattle.ca_forms.specs.Walk.{walk}
use Rattle.ca_check.specs.declared.choices.Choice.{Choice}
use Rattle.ca_forms.specs.Outcome.{Gathered, WalkOutcome, done, after_walk, limited}
use Rattle.ca_forms.specs.Meaning.{Env, Meaning, inner, nothing, block}

-- the tests of a `cond`, each with what is done where it holds
abbrev pub tested : List Meaning → Env → Gathered → WalkOutcome (List (Kernel × Kernel))
tested [] env s = done [] s
tested (c ∷ []) env s = done [] s
tested (c ∷ e ∷ ms) env s =
    after_walk (c (inner env) s) (λ t s. after_walk (e env s) (λ u s. after_walk (tested ms env s) (λ cs s. done ((t, u) ∷ cs) s)))

-- the Ifs of these, each in the other branch of the one before it, from the last one back
abbrev pub chain_of_ifs : List (Kernel × Kernel) → Gathered → WalkOutcome Kernel
chain_of_ifs [] s = done (const nil) s
chain_of_ifs (c ∷ cs) s = after_walk (chain_of_ifs cs s) (λ v s. limited (branch c.0 c.1 v) s)

abbrev pub choice_terms : List Choice → List (Kernel × Kernel)
choice_terms cs = map (λ c. (kernel c.test, kernel c.term)) cs

-- the first form of a vector of two
abbrev pub first_in : FormTree → FormTree
first_in (form (group Square (item b (item e none))) p) = b
first_in f = f

-- what the second form of a vector of two means; nil for another form
abbrev pub second_means : FormTrees → Meaning
second_means (item b (item e none)) = walk e
second_means fs = nothing

abbrev pub only_means : FormTree → Meaning
only_means (form (group Square fs) p) = second_means fs
only_means f = nothing

-- by that it isn't nil, or by its truth
abbrev pub tested_by : Bool → Place → ℕ → Meaning
tested_by true = by_some
tested_by false = by_truth

-- an `if-let` or an `if-some`, or else a `when-let` or a `when-some`
abbrev pub row_bound : Bool → Bool → Place → List Part → Meaning
row_bound some true p ps = row_if_bound (tested_by some) p ps
row_bound some false p ps = row_when_bound (tested_by some) p ps

-- the shape of such a form
abbrev pub bound_shape : Bool → List Part → Bool
bound_shape true (x ∷ a ∷ []) = is_some (one_bound (bindings_in x))
bound_shape true (x ∷ a ∷ b ∷ []) = is_some (one_bound (bindings_in x))
bound_shape true ps = false
bound_shape false [] = false
bound_shape false (x ∷ es) = is_some (one_bound (bindings_in x))

-- what is done where the test holds, and where it doesn't, by the parts behind the binding
abbrev pub bound_body : Bool → List Part → Meaning
bound_body true [] = nothing
bound_body true (a ∷ ps) = block (a.means ∷ [])
bound_body false ps = block (meanings ps)

abbrev pub bound_other : Bool → List Part → Meaning
bound_other true (a ∷ b ∷ ps) = b.means
bound_other branches ps = nothing

abbrev pub test_term : Bool → ℕ → Place → Kernel
test_term true n p = apply (Builtin IsSome) (kernels_of (var n ∷ [])) p
test_term false n p = var n

-- the choice by the value that has the hidden name n
abbrev pub bound_choice : Bool → ℕ → List Kernel → Kernel → Kernel → Place → Gathered → WalkOutcome Kernel
bound_choice some n vs u v p s = after_walk (limited (branch (test_term some n p) u v) s) (λ w s. under n vs w s)

-- one binding alone
abbrev pub is_only : Option (List Bound) → Bool
is_only (Some (b ∷ [])) = true
is_only bs = false

abbrev pub only_shape : List Part → Bool
only_shape [] = false
only_shape (x ∷ es) = is_only (bindings_in x)
