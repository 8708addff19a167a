-- Which parts an event of a task touches beside those of its own line: the banks of all ports that its operation names,
-- and shards in two cases alone.
use Rattle.std.specs.Prelude.{◌≡◌, ℕ, [], ◌∷◌, ◌++◌, List, Option, None, Some, Bool, true, false, cond, length, map, nat_lt, take}
use Rattle.ca_term.specs.declared.event.Ending.TheVariants.{Faulted}
use Rattle.ca_term.specs.declared.event.Side.TheVariants.{Put, Take}
use Rattle.ca_term.specs.declared.fault.Fault.TheVariants.{TooManyPuts, TooManyTakes}
use Rattle.ca_term.specs.Event.{BranchView, EventView, defaulted, done, met, over, parked, posted, put_of, take_of}
use Rattle.ca_term.specs.Operation.{OpView}
use Rattle.ca_meaning.specs.Choice.{branches_of, has_priority}
use Rattle.ca_meaning.specs.Wait.{Handler, port_of, side_of}
use Rattle.ca_bank.specs.Kept.{is_closed_at, queue_at, takes_one_more}
use Rattle.ca_commit.specs.Contents.{Kept, Parts, whole}
use Rattle.ca_commit.specs.Finding.{front_at, is_promise_at}
use Rattle.ca_commit.specs.Naming.{named_ports}
use Rattle.ca_commit.specs.Touched.{Drawn, event_names, homes}

-- the wait behind which a put waits though its channel has room
abbrev pub rival_by : (closed promise room : Bool) → Option Handler → Option Handler → List ℕ
rival_by false false true None (Some h) = h.wait ∷ []
rival_by closed promise room taker putter = []

abbrev pub rival_at : Option Kept → BranchView → List ℕ
rival_at o (take_of p) = []
rival_at o (put_of p v) = rival_by (is_closed_at o) (is_promise_at o) (takes_one_more o) (front_at Take o) (front_at Put o)

-- the waits of a queue that is long, since its live ones are counted
abbrev pub crowd_at : Option Kept → BranchView → List ℕ
crowd_at o b = cond (nat_lt (length (queue_at (side_of b) o)) 1024) [] (map (λ h. h.wait) (queue_at (side_of b) o))

module _ (ports : ℕ → Option Kept) where
  abbrev pub rivals : List BranchView → List ℕ
  rivals [] = []
  rivals (b ∷ bs) = rival_at (ports (port_of b)) b ++ rivals bs

  abbrev pub crowds : List BranchView → List ℕ
  crowds [] = []
  crowds (b ∷ bs) = crowd_at (ports (port_of b)) b ++ crowds bs

  -- the waits that an event of this operation asks, beside the one of its line
  abbrev pub waits_asked : OpView → EventView → List ℕ
  waits_asked op (done t k b v) = cond (has_priority op) (rivals (take k (branches_of op))) []
  waits_asked op (met t k side p v wait o) = cond (has_priority op) (rivals (take k (branches_of op))) []
  waits_asked op (parked t wait bs) = rivals (branches_of op) ++ crowds (branches_of op)
  waits_asked op (posted t wait p v) = rivals (branches_of op) ++ crowds (branches_of op)
  waits_asked op (defaulted t v) = rivals (branches_of op)
  waits_asked op (over t (Faulted TooManyPuts at r)) = rivals (branches_of op) ++ crowds (branches_of op)
  waits_asked op (over t (Faulted TooManyTakes at r)) = rivals (branches_of op) ++ crowds (branches_of op)
  waits_asked op e = []

-- Event e of an operation is drawn with just the banks of the ports that it names, and just the shards of the waits that
-- it asks.
abbrev pub TouchesJust : {A : Type 0} → Drawn → OpView → EventView → Parts A → Type 0
TouchesJust d op e old =
    let x = event_names d.worker e in
    ((i : ℕ) → homes (x.ports ++ d.ports) i ≡ homes (x.ports ++ named_ports op) i)
    × ((i : ℕ) → homes (x.waits ++ d.looked) i ≡ homes (x.waits ++ waits_asked (whole old.bank) op e) i)
