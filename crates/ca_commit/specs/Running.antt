-- All parts of a run of n workers, by their numbers, and when they stand for a state.
use Rattle.std.specs.Prelude.{◌≡◌, ℕ, ◌+◌, ◌<◌, List, [], ◌∷◌, Option, Some, None, is_some, true}
use Rattle.ca_term.specs.Program.{ProgramView}
use Rattle.ca_meaning.specs.Body.{At}
use Rattle.ca_meaning.specs.Task.{TaskBody}
use Rattle.ca_meaning.specs.State.{State}
use Rattle.ca_commit.specs.Agents.{TaskAgent, place_of, stands_of}
use Rattle.ca_commit.specs.Contents.{Content, Parts, home}
use Rattle.ca_commit.specs.Gathered.{kind_at, kind_of_part, parts_of, pick}
use Rattle.ca_commit.specs.Stands.{Stands}

-- the contents are those of these parts
abbrev pub AreAt : {C : Type 0} → (ℕ → Option C) → List ℕ → List C → Type 0
AreAt now [] [] = Unit {0}
AreAt now [] (c ∷ cs) = ⊥
AreAt now (i ∷ is) [] = ⊥
AreAt now (i ∷ is) (c ∷ cs) = (now i ≡ Some c) × AreAt now is cs

abbrev pub or_was : {X : Type 0} → Option X → Option X → Option X
or_was (Some x) o = Some x
or_was None o = o

-- these parts have the new contents, the others are as they were
abbrev pub contents_written : {C : Type 0} → (ℕ → Option C) → List ℕ → List C → ℕ → Option C
contents_written now is cs n = or_was (pick is cs n) (now n)

-- a number is in its own bank or shard alone
abbrev pub Placed : {X : Type 0} → (ℕ → Option (ℕ → Option X)) → Type 0
Placed {X} parts = (i k : ℕ) (f : ℕ → Option X) (x : X) → parts i ≡ Some f → f k ≡ Some x → home k ≡ i

abbrev pub AllPlaced : {A : Type 0} → Parts A → Type 0
AllPlaced h = Placed h.bank × Placed h.registry × Placed h.shard

-- each part is where it belongs and tells the number of workers, and all stand for the state
pub record RunStands {A : Type 0} (place : A → At) (stands : ProgramView → A → TaskBody → Type 0) (program : ProgramView) (n : ℕ) (now : ℕ → Option (Content (TaskAgent A))) (s : State) : Type 0 where
  pub there : (i : ℕ) → i < n + 33 + n → is_some (now i) ≡ true
  pub no_more : (i : ℕ) (c : Content (TaskAgent A)) → now i ≡ Some c → i < n + 33 + n
  pub kinds : (i : ℕ) (c : Content (TaskAgent A)) → now i ≡ Some c → (c.workers ≡ n) × (kind_of_part c.held ≡ kind_at n i)
  pub placed : AllPlaced (parts_of n now)
  pub stand : Stands (place_of place) (stands_of stands) program n (parts_of n now) s
