-- Which tasks use a hidden port.
use Rattle.std.specs.Prelude.{◌≡◌, ℕ, Option, Some, None}
use Rattle.ca_value.specs.Tree.{Trees}
use Rattle.ca_term.specs.declared.place.Place.{Place}
use Rattle.ca_term.specs.declared.event.Side.{Side}
use Rattle.ca_term.specs.declared.event.Side.TheVariants.{Take, Put}
use Rattle.ca_meaning.specs.Asks.{Next, to}
use Rattle.ca_meaning.specs.MultTable.{MultPorts, MultState, Delivery, DeliverState}
use Rattle.ca_meaning.specs.PipelineTable.{FeedPorts, FeedState, JobState, job_replies, CollectPorts, CollectState, collect_opens}
use Rattle.ca_meaning.specs.System.{a_mult, a_delivery, a_feed, a_job, a_collect}
use Rattle.ca_meaning.specs.Task.{TaskBody, system_task}
use Rattle.ca_roles.specs.Roles.{Hidden, jobs, replies, reply, acks, Role, public, hidden}

-- The task of this body may take from channel p, which is hidden: jobs take from their channel, a collect from its
-- queue and from the reply port at which it is, a mult its answers.
abbrev pub MayTakeHidden : ℕ → Hidden → TaskBody → Type 0
MayTakeHidden p (jobs w) b = (n : Next JobState) × (b ≡ system_task (a_job p w n))
MayTakeHidden p (replies w) b = (c : CollectPorts) × (l : Place) × (n : Next CollectState) × (b ≡ system_task (a_collect c l n)) × (c.replies ≡ p)
MayTakeHidden p (reply w v) b = (c : CollectPorts) × (l : Place) × (b ≡ system_task (a_collect c l (to (collect_opens p))))
MayTakeHidden p acks b = (t : MultPorts) × (l : Place) × (n : Next MultState) × (b ≡ system_task (a_mult t l n)) × (t.acks ≡ p)

-- It may put on it: a feed on its jobs' channel and its queue, a job on the reply port that it was given, a delivery
-- its answer.
abbrev pub Puts : ℕ → Hidden → TaskBody → Type 0
Puts p (jobs w) b = (f : FeedPorts) × (l : Place) × (n : Next FeedState) × (b ≡ system_task (a_feed f l n)) × (f.jobs ≡ p)
Puts p (replies w) b = (f : FeedPorts) × (l : Place) × (n : Next FeedState) × (b ≡ system_task (a_feed f l n)) × (f.replies ≡ p)
Puts p (reply w v) b = (j : ℕ) × (ys : Trees) × (b ≡ system_task (a_job j w (to (job_replies p ys))))
Puts p acks b = (d : Delivery) × (l : Place) × (n : Next DeliverState) × (b ≡ system_task (a_delivery d l n)) × (d.acks ≡ p)

-- It may close it: a feed its jobs' channel and its queue.
abbrev pub Closes : ℕ → Hidden → TaskBody → Type 0
Closes p (jobs w) b = (f : FeedPorts) × (l : Place) × (n : Next FeedState) × (b ≡ system_task (a_feed f l n)) × (f.jobs ≡ p)
Closes p (replies w) b = (f : FeedPorts) × (l : Place) × (n : Next FeedState) × (b ≡ system_task (a_feed f l n)) × (f.replies ≡ p)
Closes p (reply w v) b = ⊥
Closes p acks b = ⊥

abbrev pub Uses : Side → ℕ → Hidden → TaskBody → Type 0
Uses Take p h b = MayTakeHidden p h b
Uses Put p h b = Puts p h b

-- by the role of the port: what is public every task may use
abbrev pub MayUse : Option Role → Side → ℕ → TaskBody → Type 0
MayUse None side p b = ⊥
MayUse (Some public) side p b = Unit {0}
MayUse (Some (hidden t h)) side p b = Uses side p h b

abbrev pub MayClose : Option Role → ℕ → TaskBody → Type 0
MayClose None p b = ⊥
MayClose (Some public) p b = Unit {0}
MayClose (Some (hidden t h)) p b = Closes p h b
