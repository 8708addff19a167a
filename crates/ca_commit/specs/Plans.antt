-- What a plan stands for.
use Rattle.std.specs.Prelude.{◌≡◌, List, [], ◌∷◌, option_map, map}
use Rattle.ca_value.specs.Seq.{list}
use Rattle.ca_value.specs.View.{view, trees}
use Rattle.ca_term.specs.Operation.{what_view}
use Rattle.ca_term.specs.Event.{BranchView, branch_view, port_number}
use Rattle.ca_meaning.specs.Wait.{brought}
use Rattle.ca_commit.specs.Planning.{Planned, to_do, to_meet, to_park, to_post, to_default, to_make, to_spawn, to_close, to_register, to_print, to_look, to_prune, to_refuse}
use Rattle.ca_commit.specs.declared.planned.Chosen.{Chosen}
use Rattle.ca_commit.specs.declared.planned.Handlers.{Handlers}
use Rattle.ca_commit.specs.declared.planned.Joining.{Joining}
use Rattle.ca_commit.specs.declared.planned.Plan.{Plan}
use Rattle.ca_commit.specs.declared.planned.Plan.TheVariants as P

abbrev pub plan_view : Plan → Planned
plan_view (P.Done c) = to_do c.branch (branch_view c.operation) c.of_alts
plan_view (P.Meet c w o) = to_meet c.branch (branch_view c.operation) c.of_alts w.n o
plan_view (P.Park j) = to_park (map branch_view (list j.branches))
plan_view (P.Post j) = to_post (map branch_view (list j.branches))
plan_view (P.Default v) = to_default (view v)
plan_view (P.Make what) = to_make (what_view what)
plan_view (P.Spawn kind result) = to_spawn kind (option_map port_number result)
plan_view (P.Close p) = to_close p.n
plan_view (P.Register name args again) = to_register name (trees (list args))
plan_view (P.Print line) = to_print (list line)
plan_view (P.Look w) = to_look w.n
plan_view (P.Prune p side place) = to_prune p.n side place
plan_view (P.Refused f) = to_refuse f

-- a put's value once more
abbrev pub IsTwice : Chosen → Type 0
IsTwice c = view c.value ≡ brought (branch_view c.operation)

-- the branches that come to the queues
abbrev pub handled : Handlers → List BranchView
handled (Handlers.One branch) = branch_view branch ∷ []
handled (Handlers.Many branches) = map branch_view (list branches)

-- the branches once more
abbrev pub AreTwice : Joining → Type 0
AreTwice j = handled j.handlers ≡ map branch_view (list j.branches)

-- what a plan has twice is equal
abbrev pub HasCopies : Plan → Type 0
HasCopies (P.Done c) = IsTwice c
HasCopies (P.Meet c w o) = IsTwice c
HasCopies (P.Park j) = AreTwice j
HasCopies (P.Post j) = AreTwice j
HasCopies (P.Register name args again) = trees (list again) ≡ trees (list args)
HasCopies other = Unit {0}
