-- A worker with what it carries, and an event that moves it.
use Rattle.std.specs.Prelude.{◌≡◌, ℕ, List, Some}
use Rattle.std.specs.declared.boxed.Box.{Box}
use Rattle.std.specs.declared.alloc.Global.{Global}
use Rattle.ca_value.specs.Tree.{Tree}
use Rattle.ca_term.specs.Operation.{SeedView}
use Rattle.ca_term.specs.Program.{ProgramView}
use Rattle.ca_meaning.specs.Body.{At}
use Rattle.ca_meaning.specs.Task.{TaskBody}
use Rattle.ca_states.specs.Code.{CodeView}
use Rattle.ca_states.specs.ValidCode.{valid_code}
use Rattle.ca_states.specs.declared.valid_code.ValidCode.{ValidCode}
use Rattle.ca_turns.specs.Hands.{TableId}
use Rattle.ca_commit.specs.Agents.{TaskAgent}
use Rattle.ca_commit.specs.Contents.{Content}
use Rattle.ca_commit.specs.Gathered.{Alike}
use Rattle.ca_commit.specs.Moving.{MovesTurn}
use Rattle.ca_commit.specs.Touched as said
use Rattle.ca_commit.specs.declared.task.Ready.{Ready}
use Rattle.ca_table.specs.Carrying.{AreSorted, Carries, EachCarried, at_places, carried, lane_place, nothing_carried, ready_place, with_at}
use Rattle.ca_table.specs.Covering.{Covers}
use Rattle.ca_table.specs.Grips.{Grips}
use Rattle.ca_table.specs.OneCode.{advances_over, gives_over, starts_over}
use Rattle.ca_table.specs.Parts.{part_away, part_of}
use Rattle.ca_table.specs.Seen.{PartSeen, content_of, seen_ready}
use Rattle.ca_table.specs.Workers.{IsOne, part_of_lane}
use Rattle.ca_table.specs.declared.part.Lane.{Lane}
use Rattle.ca_table.specs.declared.part.Contents.TheVariants as V
use Rattle.ca_table.specs.declared.part.Part.{Part}
use Rattle.ca_table.specs.declared.worker.Worker.{Worker}

-- a part that is carried, as it was last settled
abbrev pub was : {A C : Type 0} → Part A C × PartSeen A → Content (TaskAgent A)
was x = content_of x.1

-- and as it is now
abbrev pub is_now : {A C : Type 0} → (Part A C → PartSeen A) → Part A C × PartSeen A → Content (TaskAgent A)
is_now seen x = content_of (seen x.0)

abbrev pub LaneBox : Type 0 → Type 0
LaneBox A = Box (Lane A) Global

-- a ready part with these tasks
abbrev pub part_of_ready : {A : Type 0} → ℕ → ValidCode → List (ℕ × TaskAgent A) → PartSeen A
part_of_ready n code q = record { workers = n; code = valid_code code; held = seen_ready q }

-- a part that is carried, and what was settled of it, has the code
abbrev pub HasCode : {A C : Type 0} → CodeView → Part A C × PartSeen A → Type 0
HasCode code x = (valid_code x.0.code.value ≡ code) × (x.1.code ≡ code)

module _ {A C : Type 0} (n : ℕ) (code : ValidCode) where
  -- the lane alone, moved out
  abbrev pub just_lane : Lane A → Carries (Part A C × PartSeen A)
  just_lane l = with_at lane_place (Some (part_away n code, part_of_lane n code l)) nothing_carried

  -- and the ready part r with these tasks, moved out too
  abbrev pub with_ready : ℕ → List (ℕ × TaskAgent A) → Carries (Part A C × PartSeen A) → Carries (Part A C × PartSeen A)
  with_ready r q h = with_at (ready_place r) (Some (part_away n code, part_of_ready n code q)) h

  -- both put back as they are now
  abbrev pub both_back : ℕ → Lane A → List (ℕ × TaskAgent A) → LaneBox A → Ready A → Carries (Part A C × PartSeen A)
  both_back r l q lane ready = with_at (ready_place r) (Some (part_of n code (V.Ready ready), part_of_ready n code q)) (with_at lane_place (Some (part_of n code (V.Lane lane), part_of_lane n code l)) nothing_carried)

module _ {A C : Type 0} (over : CodeView → A → Type 0) (stands_as : ProgramView → A → TaskBody → Type 0) (program : ProgramView) (code : ValidCode) (id : TableId) where
  -- it is one of n, its hand has these parts and no other, and each has the code
  pub record IsCarrying (n : ℕ) (w : Worker A C) (h : Carries (Part A C × PartSeen A)) : Type 0 where
    pub one : IsOne over stands_as program (valid_code code) id n w
    pub grips : Grips w.hand (at_places n w.number h)
    pub sorted : AreSorted was h
    pub coded : EachCarried (HasCode (valid_code code)) h

module _ {A C : Type 0} (over : CodeView → A → Type 0) (place : A → At) (advances : ProgramView → A → A → Type 0) (gives : A → Tree → A → Type 0) (starts : ProgramView → SeedView → A → Type 0) (seen : Part A C → PartSeen A) (code : ValidCode) where
  -- worker w of n draws the event, which touches just these parts and moves them from what they were to what they are,
  -- with the agents over the code
  pub record IsMoved (n w : ℕ) (d : said.Drawn) (h : Carries (Part A C × PartSeen A)) : Type 0 where
    pub by : d.worker ≡ w
    pub of : d.workers ≡ n
    pub covers : Covers d h
    pub alike : EachCarried (λ x. Alike d.workers (was x) (is_now seen x)) h
    pub moves : MovesTurn place (advances_over over (valid_code code) advances) (gives_over over (valid_code code) gives) (starts_over over (valid_code code) starts) d.worker d.workers d.what (carried was d.worker h) (carried (is_now seen) d.worker h)
