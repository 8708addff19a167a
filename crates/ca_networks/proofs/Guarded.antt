-- What the laws of whole networks take of a run: what hidden ports are used for in each of its states.
use Rattle.std.proofs.Common.{◌≡◌, ℕ, List, [], ◌∷◌, Option, Some}
use Rattle.ca_value.specs.Tree.{Tree, Trees}
use Rattle.ca_term.specs.declared.place.Place.{Place}
use Rattle.ca_term.specs.declared.head.SystemTask.TheVariants.{Deliver}
use Rattle.ca_term.specs.Operation.{OpView, WhatView, spawning, system}
use Rattle.ca_term.specs.Program.{ProgramView}
use Rattle.ca_term.specs.Event.{EventView, made}
use Rattle.ca_meaning.specs.Applied.{Work}
use Rattle.ca_meaning.specs.Asks.{Next, to}
use Rattle.ca_meaning.specs.Body.{BodyView}
use Rattle.ca_meaning.specs.Going.{RunsAtOperation}
use Rattle.ca_meaning.specs.MultTable.{MultPorts, MultState}
use Rattle.ca_meaning.specs.PipelineTable.{FeedPorts, FeedState, feed_makes, CollectPorts, CollectState}
use Rattle.ca_meaning.specs.State.{State, Task, Opening}
use Rattle.ca_meaning.specs.Steps.{Step}
use Rattle.ca_meaning.specs.System.{a_mult, a_feed, a_collect}
use Rattle.ca_meaning.specs.Task.{script, system_task}
use Rattle.ca_roles.specs.Roles.{replies, hidden, Roles, no_roles, Grows, IsReply}
use Rattle.ca_roles.specs.Typed.{MayAsk, Typed}

-- of a state, with the roles of its ports
pub record Guard (program : ProgramView) (roles : Roles) (s : State) : Type 0 where
  -- the state is typed, and so is what its tasks may ask for, by typing
  pub typed : Typed program roles s
  pub asks : (t : ℕ) (op : OpView) (x : Task) → RunsAtOperation s t op x → MayAsk program roles x.body op
  -- no script starts a delivery, since its text is sealed
  pub starts_none : (t : ℕ) (x : Task) (b : BodyView) (values : Trees) (place : Place) → x.body ≡ script b → RunsAtOperation s t (spawning (system Deliver values place)) x → ⊥
  -- one feed for a queue, one collect for a queue, one mult for a channel of answers, by counting what texts start
  pub one_feed : (t u : ℕ) (x y : Task) (f g : FeedPorts) (l m : Place) (n k : Next FeedState) → s.tasks t ≡ Some x → s.tasks u ≡ Some y → x.body ≡ system_task (a_feed f l n) → y.body ≡ system_task (a_feed g m k) → f.replies ≡ g.replies → t ≡ u
  pub one_collect : (t u : ℕ) (x y : Task) (c d : CollectPorts) (l m : Place) (n k : Next CollectState) → s.tasks t ≡ Some x → s.tasks u ≡ Some y → x.body ≡ system_task (a_collect c l n) → y.body ≡ system_task (a_collect d m k) → c.replies ≡ d.replies → t ≡ u
  pub one_mult : (t u : ℕ) (x y : Task) (a b : MultPorts) (l m : Place) (n k : Next MultState) → s.tasks t ≡ Some x → s.tasks u ≡ Some y → x.body ≡ system_task (a_mult a l n) → y.body ≡ system_task (a_mult b m k) → a.acks ≡ b.acks → t ≡ u

-- of an event, with the roles before it and after it
pub record Turn (program : ProgramView) (roles more : Roles) (s : State) (e : EventView) : Type 0 where
  -- roles stay
  pub grows : Grows roles more
  -- the port that a feed makes for a value gets the role of a reply port for it, by typing
  pub makes_reply : (t : ℕ) (x : Task) (f : FeedPorts) (l : Place) (v : Tree) (p : ℕ) (what : WhatView) (moment : Option ℕ) (k : ℕ) (w : Work)
      → s.tasks t ≡ Some x → x.body ≡ system_task (a_feed f l (to (feed_makes v))) → e ≡ made t p what moment → roles f.replies ≡ Some (hidden k (replies w)) → IsReply more w p v

-- the events lead from the state to the last one, and all this holds of the states and the events on the way
abbrev pub Guarded : ProgramView → Roles → State → List EventView → Roles → State → Type 0
Guarded program roles s [] more last = (last ≡ s) × (more ≡ roles) × Guard program roles s
Guarded program roles s (e ∷ es) more last = Guard program roles s × (mid : State) × (next : Roles) × Step program s e mid × Turn program roles next s e × Guarded program next mid es more last

-- The journal is a run to the state s, of which all this holds. Of each program that is sealed and starts each user of
-- a hidden port once, each run is such a one.
pub record IsGuarded (program : ProgramView) (journal : List EventView) (s : State) : Type 0 where
  pub opening : State
  pub opens : Opening program opening
  pub roles : Roles
  pub guarded : Guarded program no_roles opening journal roles s
