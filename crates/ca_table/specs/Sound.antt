-- What is true of each part of a run, whoever holds it.
use Rattle.std.specs.Prelude.{◌≡◌, ℕ, ◌+◌, ◌≤◌, List, [], ◌∷◌, Option, Some, true}
use Rattle.ca_meaning.specs.Body.{At}
use Rattle.ca_meaning.specs.BodyViews.{is_at_op}
use Rattle.ca_meaning.specs.Registry.{Registry}
use Rattle.ca_states.specs.Code.{CodeView}
use Rattle.ca_commit.specs.Agents.{TaskAgent}
use Rattle.ca_commit.specs.Contents.{BankView, PartContents, Kept, LaneView, Parked, TimersPart, a_bank, a_lane, a_ready, a_shard, home, owner, the_timers}

module _ {A : Type 0} (over : CodeView → A → Type 0) (code : CodeView) where
  -- the agents of these tasks are over the code
  abbrev pub AllOver : List (ℕ × TaskAgent A) → Type 0
  AllOver [] = Unit {0}
  AllOver (x ∷ q) = over code x.1.agent × AllOver q

module _ {A : Type 0} (over : CodeView → A → Type 0) (place : A → At) (code : CodeView) where
  -- the part of number i of a run of n workers, by what is in it
  pub record IsSound (n i : ℕ) (x : PartContents (TaskAgent A)) : Type 0 where
    -- each agent in it is over the code
    pub running : (l : LaneView (TaskAgent A)) (t : ℕ) (a : TaskAgent A) → x ≡ a_lane l → l.task ≡ Some (t, a) → over code a.agent
    pub ready : (q : List (ℕ × TaskAgent A)) → x ≡ a_ready q → AllOver over code q
    pub waiting : (f : ℕ → Option (Parked (TaskAgent A))) (w u : ℕ) (a : TaskAgent A) → x ≡ a_shard f → f w ≡ Some (owner u a) → over code a.agent
    -- whoever waits is paused at an operation
    pub paused : (f : ℕ → Option (Parked (TaskAgent A))) (w u : ℕ) (a : TaskAgent A) → x ≡ a_shard f → f w ≡ Some (owner u a) → is_at_op (place a.agent) ≡ true
    -- a bank has the ports whose home it is
    pub channels : (b : BankView) (p : ℕ) (k : Kept) → x ≡ a_bank b → b.channels p ≡ Some k → n + home p ≡ i
    pub registries : (b : BankView) (p : ℕ) (r : Registry) → x ≡ a_bank b → b.registries p ≡ Some r → n + home p ≡ i
    -- no answer of the clock lies before the moment of the run
    pub timely : (t : TimersPart) → x ≡ the_timers t → t.now ≤ t.least
