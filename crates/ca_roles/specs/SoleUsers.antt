-- The tasks that use a port alone, in a state.
use Rattle.std.specs.Prelude.{◌≡◌, ℕ, Option, Some, None}
use Rattle.ca_term.specs.Operation.{SeedView, spawning}
use Rattle.ca_term.specs.Program.{ProgramView}
use Rattle.ca_meaning.specs.System.{SystemBody, a_mult, a_delivery, a_mix, a_pub, a_pipe, a_merge, an_onto, a_feed, a_job, a_collect}
use Rattle.ca_meaning.specs.Task.{TaskBody, script, system_task, new_task}
use Rattle.ca_meaning.specs.State.{State, Task}
use Rattle.ca_meaning.specs.Going.{RunsAtOperation}
use Rattle.ca_roles.specs.Once.{User, the_feed, the_collect, the_mult}

-- the port that it uses alone: a feed and a collect their queue of replies, a mult the channel of its answers
abbrev pub own_port : SystemBody → Option (User × ℕ)
own_port (a_mult t l n) = Some (the_mult, t.acks)
own_port (a_delivery d l n) = None
own_port (a_mix x l n) = None
own_port (a_pub p l n) = None
own_port (a_pipe p l n) = None
own_port (a_merge o l n) = None
own_port (an_onto o l n) = None
own_port (a_feed f l n) = Some (the_feed, f.replies)
own_port (a_job j w n) = None
own_port (a_collect c l n) = Some (the_collect, c.replies)

abbrev pub own_of : TaskBody → Option (User × ℕ)
own_of (script b) = None
own_of (system_task b) = own_port b

abbrev pub owns : User → ℕ → Option (User × ℕ)
owns k q = Some (k, q)

-- task t is such a user of the port
abbrev pub IsUser : State → User → ℕ → ℕ → Type 0
IsUser s k q t = (x : Task) × (s.tasks t ≡ Some x) × (own_of x.body ≡ owns k q)

-- no two feeds, no two collects and no two mults have a port in common
abbrev pub AreSole : State → Type 0
AreSole s = (k : User) (q t u : ℕ) → IsUser s k q t → IsUser s k q u → t ≡ u

-- Where a task stands at the Spawn of such a user, the port has none yet.
abbrev pub ComeFirst : ProgramView → State → Type 0
ComeFirst program s = (t : ℕ) (x : Task) (seed : SeedView) (k : User) (q u : ℕ) → RunsAtOperation s t (spawning seed) x → own_of (new_task program seed) ≡ owns k q → IsUser s k q u → ⊥
