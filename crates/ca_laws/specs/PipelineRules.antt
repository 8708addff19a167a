-- The rules of a pipeline's tasks: in which order its feed, its jobs and its collect pass on what they took.
-- (core.async API reference: `pipeline`.)
use Rattle.std.specs.Prelude.{◌≡◌, ℕ, suc, List, [], ◌∷◌, ◌++◌, ◌⊎◌, length, Option, Some, None, true}
use Rattle.ca_value.specs.Tree.{Tree, Trees, vector, port, items_of}
use Rattle.ca_term.specs.declared.place.Place.{Place}
use Rattle.ca_term.specs.declared.head.PlainFunction.{PlainFunction}
use Rattle.ca_term.specs.declared.head.Transform.{Transform}
use Rattle.ca_term.specs.declared.head.SystemTask.TheVariants.{Feed, Job, Collect}
use Rattle.ca_term.specs.Program.{ProgramView}
use Rattle.ca_term.specs.Operation.{OpView, taking, putting, choosing, making, spawning, closing, registering, printing, posting, fixed}
use Rattle.ca_term.specs.Event.{EventView}
use Rattle.ca_meaning.specs.Operands.{truth, port_of_value, first_of, second_of, third_of}
use Rattle.ca_meaning.specs.Asks.{port_in, value_and_port, pair_of, trees_in}
use Rattle.ca_meaning.specs.Applied.{Work, outputs, Outs}
use Rattle.ca_meaning.specs.PipelineTable.{FeedPorts, CollectPorts}
use Rattle.ca_meaning.specs.System.{fourth_of}
use Rattle.ca_meaning.specs.State.{State}
use Rattle.ca_laws.specs.Deeds.{Deed, did_take}
use Rattle.ca_laws.specs.Taken.{taken, put_in, sent, made_in, last_answer, FoundEnd, Begins}
use Rattle.ca_laws.specs.Rules.{AllKeepTo, AllKeepToOf}
use Rattle.ca_term.specs.declared.event.TaskKind.{TaskKind}

-- A feed: what it puts for the values that it took and the reply ports that it made. Each value goes with its reply
-- port to the jobs, and then that port into the queue.
abbrev pub passed_on : FeedPorts → List Tree → List ℕ → List (ℕ × Tree)
passed_on f [] ps = []
passed_on f (v ∷ vs) [] = []
passed_on f (v ∷ vs) (p ∷ ps) = (f.jobs, pair_of v (port p)) ∷ (f.replies, port p) ∷ passed_on f vs ps

-- it passed on all that it took
abbrev pub HasPassedOn : FeedPorts → List Deed → Type 0
HasPassedOn f before = (length (made_in before) ≡ length (taken before)) × (put_in before ≡ passed_on f (taken before) (made_in before))

-- what a feed may ask for after all that it did
abbrev pub FeedRule : FeedPorts → List Deed → OpView → Type 0
-- the next value of its source, where it passed on all before
FeedRule f before (taking c) = (c ≡ port f.source) × HasPassedOn f before
-- a reply port for the value that it took
FeedRule f before (making what) = (what ≡ fixed 1) × (length (taken before) ≡ suc (length (made_in before))) × (put_in before ≡ passed_on f (taken before) (made_in before))
-- a put that goes on with what is to be passed on
FeedRule f before (putting c v) = (p : ℕ) × (c ≡ port p) × Begins (put_in before ++ (p, v) ∷ []) (passed_on f (taken before) (made_in before))
-- the close of the jobs' channel or of the queue, after the end of its source
FeedRule f before (closing c) = ((c ≡ port f.jobs) ⊎ (c ≡ port f.replies)) × HasPassedOn f before × FoundEnd f.source before
FeedRule f before (choosing ports priority default) = ⊥
FeedRule f before (spawning seed) = ⊥
FeedRule f before (registering name args) = ⊥
FeedRule f before (printing line) = ⊥
FeedRule f before (posting c v) = ⊥

-- What a job may ask for: the next pair of a value and a reply port, where it answered the last; or it puts, on that
-- port, the outputs of that value, once.
abbrev pub JobRule : ProgramView → ℕ → Work → List Deed → OpView → Type 0
JobRule program jobs w before (taking c) = (c ≡ port jobs) × (last_answer before ≡ None)
JobRule program jobs w before (putting c ys) =
    (a v : Tree) × (p : ℕ) × (us : Trees) × (last_answer before ≡ Some (jobs, a)) × (value_and_port a ≡ Some (v, p)) × (c ≡ port p) × Outs program w v (outputs us) × (ys ≡ vector us)
JobRule program jobs w before (closing c) = ⊥
JobRule program jobs w before (making what) = ⊥
JobRule program jobs w before (choosing ports priority default) = ⊥
JobRule program jobs w before (spawning seed) = ⊥
JobRule program jobs w before (registering name args) = ⊥
JobRule program jobs w before (printing line) = ⊥
JobRule program jobs w before (posting c v) = ⊥

-- A collect takes in turn a reply port from the queue and a vector from that port. Here the port that it took last,
-- until it takes from it;
abbrev pub awaited_after : Deed → Option ℕ → Option ℕ
awaited_after (did_take k p a) None = port_in a
awaited_after (did_take k p a) (Some q) = None
awaited_after d o = o

abbrev pub awaited_from : Option ℕ → List Deed → Option ℕ
awaited_from o [] = o
awaited_from o (d ∷ ds) = awaited_from (awaited_after d o) ds

abbrev pub awaited : List Deed → Option ℕ
awaited ds = awaited_from None ds

-- and the outputs in all vectors that it took, in order
abbrev pub collected_by : Deed → Option ℕ → List Tree
collected_by (did_take k p a) None = []
collected_by (did_take k p a) (Some q) = items_of (trees_in a)
collected_by d o = []

abbrev pub collected_from : Option ℕ → List Deed → List Tree
collected_from o [] = []
collected_from o (d ∷ ds) = collected_by d o ++ collected_from (awaited_after d o) ds

abbrev pub collected : List Deed → List Tree
collected ds = collected_from None ds

-- what a collect may ask for after all that it did
abbrev pub CollectRule : CollectPorts → List Deed → OpView → Type 0
-- the next reply port, or the vector from the one that it took, where it put all outputs before
CollectRule c before (taking x) = (sent before ≡ collected before) × (((x ≡ port c.replies) × (awaited before ≡ None)) ⊎ ((p : ℕ) × (x ≡ port p) × (awaited before ≡ Some p)))
-- a put of the next output
CollectRule c before (putting x y) = (x ≡ port c.target) × Begins (sent before ++ y ∷ []) (collected before)
-- the close of its target, after the end of the queue, or of its result port
CollectRule c before (closing x) = ((x ≡ port c.target) × (c.closes ≡ true) × (sent before ≡ collected before) × FoundEnd c.replies before) ⊎ (x ≡ port c.result)
CollectRule c before (making what) = ⊥
CollectRule c before (choosing ports priority default) = ⊥
CollectRule c before (spawning seed) = ⊥
CollectRule c before (registering name args) = ⊥
CollectRule c before (printing line) = ⊥
CollectRule c before (posting x v) = ⊥

-- their ports, and the work of the jobs, are the values and the place of the Spawn
abbrev pub feed_ports : Trees → FeedPorts
feed_ports values = record { source = port_of_value (first_of values); jobs = port_of_value (second_of values); replies = port_of_value (third_of values) }

abbrev pub job_work : Transform → PlainFunction → Trees → Place → Work
job_work x f values place = record { transform = x; function = f; keyword = second_of values; place = place }

abbrev pub collect_ports : Trees → CollectPorts
collect_ports values = record { replies = port_of_value (first_of values); target = port_of_value (second_of values); closes = truth (third_of values); result = port_of_value (fourth_of values) }

-- each feed, each job and each collect keeps to its rule
abbrev pub FeedsKeepTo : ProgramView → List EventView → State → Type 0
FeedsKeepTo program journal s = AllKeepTo Feed (λ values place. FeedRule (feed_ports values)) program journal s

abbrev pub JobsKeepTo : ProgramView → List EventView → State → Type 0
JobsKeepTo program journal s = AllKeepToOf (λ (x : Transform × PlainFunction). Job x.0 x.1) (λ x values place. JobRule program (port_of_value (first_of values)) (job_work x.0 x.1 values place)) TaskKind.Job program journal s

abbrev pub CollectsKeepTo : ProgramView → List EventView → State → Type 0
CollectsKeepTo program journal s = AllKeepTo Collect (λ values place. CollectRule (collect_ports values)) program journal s
