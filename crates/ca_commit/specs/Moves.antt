-- What all moves of parts are made of. A part that an event doesn't touch isn't there.
use Rattle.std.specs.Prelude.{◌⊎◌, ◌≡◌, ℕ, ◌+◌, ◌<◌, ◌≤◌, List, [], ◌∷◌, ◌++◌, length, slice_get, eqb, Option, Some, None, true}
use Rattle.std.specs.Map.{update}
use Rattle.ca_value.specs.Tree.{Tree}
use Rattle.ca_term.specs.declared.place.Place.{Place}
use Rattle.ca_term.specs.declared.fault.Fault.{Fault}
use Rattle.ca_term.specs.Program.{ProgramView}
use Rattle.ca_term.specs.Operation.{OpView}
use Rattle.ca_term.specs.Event.{BranchView}
use Rattle.ca_meaning.specs.Body.{At, at_op}
use Rattle.ca_meaning.specs.Registry.{Registry}
use Rattle.ca_meaning.specs.Wait.{Handler, side_of, port_of}
use Rattle.ca_meaning.specs.Row.{not_ready}
use Rattle.ca_meaning.specs.Task.{reply_at}
use Rattle.ca_meaning.specs.State.{State}
use Rattle.ca_meaning.specs.Choice.{branches_of, has_priority}
use Rattle.ca_meaning.specs.Refusal.{unfit, crowd_of}
use Rattle.ca_commit.specs.Asks.{Asks, row_raw}
use Rattle.ca_commit.specs.Contents.{Kept, LaneView, Parked, Parts, alive_in, channel_of, home, nobody, on, owner, whole}
use Rattle.ca_commit.specs.Holds.{groups, live_of}

-- one part's content changes
pub record Becomes {X : Type 0} (old new : ℕ → Option X) (i : ℕ) (x y : X) : Type 0 where
  pub was : old i ≡ Some x
  pub is : new i ≡ Some y
  pub others : (j : ℕ) → (j ≡ i → ⊥) → new j ≡ old j

abbrev pub Stays : {X : Type 0} → (ℕ → Option X) → (ℕ → Option X) → Type 0
Stays old new = (i : ℕ) → new i ≡ old i

-- one entry changes, in its part, and no other part
pub record Alters {X : Type 0} (old new : ℕ → Option (ℕ → Option X)) (n : ℕ) (w : Option X) : Type 0 where
  pub from : ℕ → Option X
  pub was : old (home n) ≡ Some from
  pub is : new (home n) ≡ Some (update eqb from n w)
  pub others : (i : ℕ) → (i ≡ home n → ⊥) → new i ≡ old i

module _ {A : Type 0} where
  -- the banks that are held are those of the state; what is in the others is open
  pub record Shows (h : Parts A) (s : State) : Type 0 where
    pub channels : (p : ℕ) (f : ℕ → Option Kept) → h.bank (home p) ≡ Some f → s.channels p ≡ channel_of (f p)
    pub registries : (p : ℕ) (f : ℕ → Option Registry) → h.registry (home p) ≡ Some f → s.registries p ≡ f p

  -- the operands are right, or refused, whatever is in the banks that aren't held
  abbrev pub FitIn : Parts A → OpView → Type 0
  FitIn h op = (s : State) → Shows h s → unfit s op ≡ None

  abbrev pub UnfitIn : Parts A → OpView → Fault → Type 0
  UnfitIn h op fault = (s : State) → Shows h s → unfit s op ≡ Some fault

  -- the branch isn't ready, and that is seen in the held parts
  abbrev pub Unready : Parts A → BranchView → Type 0
  Unready h b = (k : Kept) × (whole h.bank (port_of b) ≡ Some k) × Asks (alive_in h) b k × (row_raw k b ≡ not_ready)

  abbrev pub NoneReadyIn : Parts A → List BranchView → Type 0
  NoneReadyIn h [] = Unit {0}
  NoneReadyIn h (b ∷ bs) = Unready h b × NoneReadyIn h bs

  -- the shards of all handlers are held
  abbrev pub AllSeen : Parts A → List Handler → Type 0
  AllSeen h [] = Unit {0}
  AllSeen h (g ∷ q) = ((f : ℕ → Option (Parked A)) × (h.shard (home g.wait) ≡ Some f)) × AllSeen h q

  -- few handlers, stale or not, and no shard is looked at; or they are counted, the live ones alone
  abbrev pub FewOn : Parts A → List Handler → Type 0
  FewOn h q = (length q < 1024) ⊎ (AllSeen h q × (groups (live_of (alive_in h) q) < 1024))

  abbrev pub FewIn : Parts A → List BranchView → Type 0
  FewIn h [] = Unit {0}
  FewIn h (b ∷ bs) = ((k : Kept) × (whole h.bank (port_of b) ≡ Some k) × FewOn h (on (side_of b) k)) × FewIn h bs

  -- the first branch whose queue has no place for one more wait decides
  abbrev pub CrowdedIn : Parts A → List BranchView → Fault → Type 0
  CrowdedIn h [] f = ⊥
  CrowdedIn h (b ∷ bs) f = (k : Kept) × (whole h.bank (port_of b) ≡ Some k)
      × ((AllSeen h (on (side_of b) k) × (1024 ≤ groups (live_of (alive_in h) (on (side_of b) k))) × (f ≡ crowd_of (side_of b))) ⊎ (FewOn h (on (side_of b) k) × CrowdedIn h bs f))

  -- b is the branch k of the operation; with priority none before it is ready
  abbrev pub PicksIn : Parts A → OpView → ℕ → BranchView → Type 0
  PicksIn h op k b = (slice_get (branches_of op) k ≡ Some b)
      × (has_priority op ≡ true → (j : ℕ) (o : BranchView) → j < k → slice_get (branches_of op) j ≡ Some o → Unready h o)

module _ {A : Type 0} (place : A → At) (advances : ProgramView → A → A → Type 0) where
  -- Worker w's task t stands where its body does, after one `advance`. That event is counted.
  pub record Stood (w t : ℕ) (at : At) (old new : Parts A) : Type 0 where
    pub lane : LaneView A
    pub lane2 : LaneView A
    pub agent : A
    pub agent1 : A
    pub lanes : Becomes old.lane new.lane w lane lane2
    pub task : lane.task ≡ Some (t, agent)
    pub advanced : advances lane.program agent agent1
    pub stood : place agent1 ≡ at
    pub program_stays : lane2.program ≡ lane.program
    pub since : lane2.since ≡ lane.since + 1

  -- and goes on with the answer, its operands being right
  pub record Answers (gives : A → Tree → A → Type 0) (w t : ℕ) (op : OpView) (v : Tree) (old new : Parts A) : Type 0 where
    pub at : Place
    pub stands : Stood w t (at_op (record { op = op; place = at })) old new
    pub agent2 : A
    pub given : gives stands.agent1 v agent2
    pub task2 : stands.lane2.task ≡ Some (t, agent2)
    pub fit : FitIn old op

-- whoever waited goes on with what passed on channel p, last in the ready part r
abbrev pub WakesIn : {A : Type 0} → (A → At) → (A → Tree → A → Type 0) → Parts A → Parts A → ℕ → ℕ → Parked A → Tree → Type 0
WakesIn place wakes old new r p nobody v = Stays old.ready new.ready
WakesIn {A} place wakes old new r p (owner u a) v = (a2 : A) × (q : List (ℕ × A)) × wakes a (reply_at (place a) p v) a2 × Becomes old.ready new.ready r q (q ++ (u, a2) ∷ [])
