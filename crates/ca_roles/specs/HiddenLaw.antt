-- Hidden ports stay hidden: through each run each port has a role, and tasks use ports only as their roles say.
use Rattle.std.specs.Prelude.{◌≡◌, ℕ, List, [], ◌∷◌, Option, Some, None, true}
use Rattle.ca_value.specs.Tree.{Tree}
use Rattle.ca_term.specs.declared.place.Place.{Place}
use Rattle.ca_term.specs.Operation.{OpView, WhatView}
use Rattle.ca_term.specs.Program.{ProgramView}
use Rattle.ca_term.specs.Event.{EventView, made, closed}
use Rattle.ca_meaning.specs.Applied.{Work}
use Rattle.ca_meaning.specs.Asks.{to}
use Rattle.ca_meaning.specs.PipelineTable.{FeedPorts, feed_makes}
use Rattle.ca_meaning.specs.State.{State, Task, Opening}
use Rattle.ca_meaning.specs.System.{a_feed}
use Rattle.ca_meaning.specs.Task.{system_task}
use Rattle.ca_meaning.specs.Going.{RunsAtOperation}
use Rattle.ca_meaning.specs.Steps.{Step}
use Rattle.ca_meaning.specs.History.{closes as is_closed}
use Rattle.ca_roles.specs.Users.{Closes}
use Rattle.ca_roles.specs.Roles.{Hidden, replies, Role, hidden, Roles, no_roles, Grows, IsReply}
use Rattle.ca_roles.specs.Typed.{MayAsk, Typed}

-- in the state, by the roles of its ports
pub record KeepsRoles (program : ProgramView) (roles : Roles) (s : State) : Type 0 where
  -- tasks, channels, waits and registries hold of hidden ports only what they may
  pub typed : Typed program roles s
  -- and a task asks only for what it may
  pub asks : (t : ℕ) (op : OpView) (x : Task) → RunsAtOperation s t op x → MayAsk program roles x.body op

-- by the event, which comes in this state
pub record FollowsRoles (program : ProgramView) (roles more : Roles) (s : State) (e : EventView) : Type 0 where
  -- a port keeps its role,
  pub grows : Grows roles more
  -- and gets it by its Make
  pub new : (p : ℕ) (r : Role) → roles p ≡ None → more p ≡ Some r → (t : ℕ) × (what : WhatView) × (moment : Option ℕ) × (e ≡ made t p what moment)
  -- a hidden channel is closed by a task that may close it, and by nothing else
  pub closes : (p m : ℕ) (h : Hidden) → roles p ≡ Some (hidden m h) → is_closed p e ≡ true → (u : ℕ) × (x : Task) × (e ≡ closed u p) × (s.tasks u ≡ Some x) × Closes p h x.body
  -- the port that a feed makes for a value takes the outputs for this value
  pub makes_reply : (t : ℕ) (x : Task) (f : FeedPorts) (l : Place) (v : Tree) (p : ℕ) (what : WhatView) (moment : Option ℕ) (k : ℕ) (w : Work)
      → s.tasks t ≡ Some x → x.body ≡ system_task (a_feed f l (to (feed_makes v))) → e ≡ made t p what moment → roles f.replies ≡ Some (hidden k (replies w)) → IsReply more w p v

-- through the events that lead from the state to the last one
abbrev pub RolesAlong : ProgramView → Roles → State → List EventView → Roles → State → Type 0
RolesAlong program roles s [] more last = (last ≡ s) × (more ≡ roles) × KeepsRoles program roles s
RolesAlong program roles s (e ∷ es) more last = KeepsRoles program roles s × (mid : State) × (next : Roles) × Step program s e mid × FollowsRoles program roles next s e × RolesAlong program next mid es more last

-- the journal leads to the state, and through it ports keep to their roles; at first there are none
pub record HiddenLaw (program : ProgramView) (journal : List EventView) (s : State) : Type 0 where
  pub opening : State
  pub opens : Opening program opening
  pub roles : Roles
  pub along : RolesAlong program no_roles opening journal roles s
