-- Branches as the code has them.
use Rattle.std.specs.Prelude.{ℕ, List, [], ◌∷◌, Option, Some, None, map, Bool, true, false, cond}
use Rattle.ca_value.specs.Tree.{Tree}
use Rattle.ca_value.specs.View.{view}
use Rattle.ca_value.specs.declared.value.Value.{Value}
use Rattle.ca_term.specs.Operation.{OpView, posting, putting}
use Rattle.ca_term.specs.Event.{BranchView, take_of, put_of}
use Rattle.ca_meaning.specs.Choice.{branch_of}
use Rattle.ca_commit.specs.Planning.{Planned, Seen, counted_for, decided, found_of, to_park, to_post}
use Rattle.ca_commit.specs.Plans.{HasCopies, plan_view}
use Rattle.ca_commit.specs.declared.planned.Plan.{Plan}

-- a take, or a put of that value
abbrev pub branch_by : ℕ → Option Tree → BranchView
branch_by p None = take_of p
branch_by p (Some v) = put_of p v

-- a put that its task waits at, or that waits without it
abbrev pub put_as : Bool → Tree → Tree → OpView
put_as true c v = putting c v
put_as false c v = posting c v

-- the branches of an alts over these ports
abbrev pub branches_in : List Value → List BranchView
branches_in vs = map (λ v. branch_of (view v)) vs

-- the plan, or what is planned where there is none
abbrev pub plan_or : Option Plan → Planned → Planned
plan_or None rest = rest
plan_or (Some p) rest = plan_view p

abbrev pub HaveCopies : Option Plan → Type 0
HaveCopies None = Unit {0}
HaveCopies (Some p) = HasCopies p

-- what the one branch of an operation decides, or a new wait
abbrev pub single_branch : Seen → Bool → BranchView → Planned
single_branch x parks b = decided (found_of x b) false 0 b (counted_for x b (cond parks (to_park (b ∷ [])) (to_post (b ∷ []))))
