-- The pipeline law: a collect puts the outputs for the values that its feed took, in their order. (core.async API
-- reference: `pipeline`.)
use Rattle.std.specs.Prelude.{◌≡◌, ℕ, List, [], ◌∷◌, ◌++◌}
use Rattle.ca_value.specs.Tree.{Tree, Trees, items_of}
use Rattle.ca_term.specs.declared.place.Place.{Place}
use Rattle.ca_term.specs.declared.head.PlainFunction.{PlainFunction}
use Rattle.ca_term.specs.declared.head.Transform.{Transform}
use Rattle.ca_term.specs.declared.head.SystemTask.TheVariants.{Feed, Job, Collect}
use Rattle.ca_term.specs.Program.{ProgramView}
use Rattle.ca_term.specs.Event.{EventView}
use Rattle.ca_meaning.specs.Operands.{port_of_value, first_of}
use Rattle.ca_meaning.specs.Applied.{Work, outputs, Outs}
use Rattle.ca_laws.specs.Deeds.{deeds}
use Rattle.ca_laws.specs.Taken.{taken, Begins}
use Rattle.ca_laws.specs.PipelineRules.{feed_ports, job_work, collect_ports}
use Rattle.ca_networks.specs.Networks.{IsSpawned, offered}

-- the outputs of the work for the values, joined; for none of these is it a fault
abbrev pub Joined : ProgramView → Work → List Tree → List Tree → Type 0
Joined program w [] xs = xs ≡ []
Joined program w (v ∷ vs) xs = (ys : Trees) × (rest : List Tree) × Outs program w v (outputs ys) × (xs ≡ items_of ys ++ rest) × Joined program w vs rest

-- Some of the values, from the first on, have outputs, and xs begin all these, joined. So nothing comes for a value whose
-- outputs are a fault, or after it.
abbrev pub BeginsOutputs : ProgramView → Work → List Tree → List Tree → Type 0
BeginsOutputs program w vs xs = (some : List Tree) × (rest : List Tree) × Begins some vs × Joined program w some (xs ++ rest)

-- each job that takes from that channel does this work
abbrev pub JobsDo : ProgramView → List EventView → ℕ → Work → Type 0
JobsDo program journal jobs w = (x : Transform) (f : PlainFunction) (values : Trees) (place : Place) (t : ℕ) → IsSpawned program journal (Job x f) values place t → port_of_value (first_of values) ≡ jobs → job_work x f values place ≡ w

-- For a feed and a collect of one queue of reply ports there is a work, which is that of the feed's jobs, and what the
-- collect put, or offers, begins the outputs of this work for what the feed took.
abbrev pub PipelineLaw : ProgramView → List EventView → Type 0
PipelineLaw program journal =
    (to_feed to_collect : Trees) (p q : Place) (feed collect : ℕ) → IsSpawned program journal Feed to_feed p feed → IsSpawned program journal Collect to_collect q collect
    → (collect_ports to_collect).replies ≡ (feed_ports to_feed).replies
    → (w : Work) × JobsDo program journal (feed_ports to_feed).jobs w × BeginsOutputs program w (taken (deeds feed journal)) (offered collect journal)
