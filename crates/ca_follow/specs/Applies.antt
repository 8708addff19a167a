-- What the event of a plan does to what a follower has.
use Rattle.std.specs.Prelude.{◌≡◌, ℕ, List, [], ◌∷◌, Option, Some, None, Bool, true, cond, eqb}
use Rattle.std.specs.Map.{update}
use Rattle.ca_value.specs.Tree.{Tree}
use Rattle.ca_term.specs.Program.{ProgramView}
use Rattle.ca_term.specs.Operation.{OpView, SeedView, spawning}
use Rattle.ca_meaning.specs.Body.{At}
use Rattle.ca_meaning.specs.ChannelSteps.{other_side}
use Rattle.ca_meaning.specs.Wait.{port_of, side_of, told}
use Rattle.ca_commit.specs.Agents.{TaskAgent, starts_of}
use Rattle.ca_commit.specs.Applying.{answer_by, channels_by, counts_alts, registries_by, times_by, waits_by}
use Rattle.ca_commit.specs.Contents.{nobody, owner, whole}
use Rattle.ca_commit.specs.Parking.{waiting_as}
use Rattle.ca_commit.specs.Planning.{Planned, to_meet, to_park, to_post, to_spawn}
use Rattle.ca_commit.specs.Replies.{GoesOn}
use Rattle.ca_commit.specs.Waking.{WakesBy, passing}
use Rattle.ca_follow.specs.Has.{Has}

-- these tasks can go on too
abbrev pub with_all : {X : Type 0} → List (ℕ × X) → (ℕ → Option X) → ℕ → Option X
with_all [] f = f
with_all (x ∷ xs) f = with_all xs (update eqb f x.0 (Some x.1))

-- and this one, if it is there
abbrev pub with_own : {X : Type 0} → Option (ℕ × X) → (ℕ → Option X) → ℕ → Option X
with_own None f = f
with_own (Some x) f = update eqb f x.0 (Some x.1)

-- one number more
abbrev pub and_number : (ℕ → Bool) → ℕ → ℕ → Bool
and_number f n v = cond (eqb v n) true (f v)

-- these tasks are known, and this one
abbrev pub knows_all : {X : Type 0} → List (ℕ × X) → (ℕ → Bool) → ℕ → Bool
knows_all [] f = f
knows_all (x ∷ xs) f = knows_all xs (and_number f x.0)

abbrev pub knows_own : {X : Type 0} → Option (ℕ × X) → (ℕ → Bool) → ℕ → Bool
knows_own None f = f
knows_own (Some x) f = and_number f x.0

-- the numbers given to tasks and to waits, after it
abbrev pub known_by : ℕ → Planned → (ℕ → Bool) → ℕ → Bool
known_by u (to_spawn kind r) f = and_number f u
known_by u other f = f

abbrev pub used_by : ℕ → Planned → (ℕ → Bool) → ℕ → Bool
used_by w (to_park bs) f = and_number f w
used_by w (to_post bs) f = and_number f w
used_by w other f = f

module _ {A : Type 0} (place : A → At) (gives : A → Tree → A → Type 0) (starts : ProgramView → SeedView → A → Type 0) where
  -- who can go on by it beside its own task: who was met, or the new task u
  abbrev pub PlanWakes : ProgramView → OpView → Planned → ℕ → Has A → List (ℕ × TaskAgent A) → Type 0
  PlanWakes program op (to_meet k b alts wait o) u h woken =
      WakesBy place gives (whole h.shard wait) (port_of b) (told (other_side (side_of b)) (passing (whole h.bank (port_of b)) b)) (Some []) (Some woken)
  PlanWakes program op (to_spawn kind r) u h woken = (c : TaskAgent A) × (woken ≡ (u, c) ∷ []) × ((seed : SeedView) → op ≡ spawning seed → starts_of starts program seed c)
  PlanWakes program op other u h woken = woken ≡ []

  -- the task itself: it waits, or goes on with the answer
  abbrev pub GoesTo : Planned → ℕ → Has A → TaskAgent A → Option (TaskAgent A) → Type 0
  GoesTo (to_park bs) p h a goes = goes ≡ None
  GoesTo q p h a goes = (c : TaskAgent A) × (goes ≡ Some c) × GoesOn gives (counts_alts q) a (answer_by h.bank h.registry p q) c

  -- Plan q of the operation at which task t stands as a was applied; u, p and w are the numbers for a new task, port and wait,
  -- m is the moment.
  pub record Applies (program : ProgramView) (op : OpView) (q : Planned) (t u p w m : ℕ) (a : TaskAgent A) (h h2 : Has A) : Type 0 where
    pub bank : (i : ℕ) → h2.bank i ≡ channels_by p w q h.bank i
    pub registry : (i : ℕ) → h2.registry i ≡ registries_by p q h.registry i
    pub shard : (i : ℕ) → h2.shard i ≡ waits_by w (owner t (waiting_as place a)) nobody q h.shard i
    pub times : h2.times ≡ times_by p m q h.times
    pub woken : List (ℕ × TaskAgent A)
    pub wakes : PlanWakes program op q u h woken
    pub goes : Option (TaskAgent A)
    pub answered : GoesTo q p h a goes
    pub running : (v : ℕ) → h2.running v ≡ with_all woken (update eqb h.running t goes) v
    pub known : (v : ℕ) → h2.known v ≡ known_by u q h.known v
    pub used : (v : ℕ) → h2.used v ≡ used_by w q h.used v
