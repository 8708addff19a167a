-- A worker between two calls.
use Rattle.std.specs.Prelude.{◌≡◌, ℕ, ◌+◌, ◌<◌, ◌≤◌, List, [], ◌∷◌, ◌++◌, map, Some, eqb}
use Rattle.std.specs.Map.{update}
use Rattle.ca_term.specs.Program.{ProgramView, program_view}
use Rattle.ca_meaning.specs.Task.{TaskBody}
use Rattle.ca_states.specs.Code.{CodeView}
use Rattle.ca_states.specs.ValidCode.{valid_code}
use Rattle.ca_states.specs.declared.valid_code.ValidCode.{ValidCode}
use Rattle.ca_journal.specs.Merge.{EachAscends, Numbered, entries, joined}
use Rattle.ca_journal.specs.declared.entries.Entries.{Entries}
use Rattle.ca_turns.specs.Hands.{Held, HoldsNothing, IsFresh, TableId}
use Rattle.ca_turns.specs.Views.{hands_stood_for}
use Rattle.ca_turns.specs.declared.rule.Turn.{Turn}
use Rattle.ca_turns.specs.declared.rule.View.{View}
use Rattle.ca_commit.specs.Moving.{visible}
use Rattle.ca_table.specs.Draws.{drawn_touches, turn_view}
use Rattle.ca_table.specs.Grips.{Grips, no_grip}
use Rattle.ca_table.specs.LoneHands.{HoldsLeft}
use Rattle.ca_table.specs.Parts.{part_away, lane_seen}
use Rattle.ca_table.specs.Running.{Knows}
use Rattle.ca_table.specs.Seen.{PartSeen, seen_lane}
use Rattle.ca_table.specs.declared.drawn.Drawn.{Drawn}
use Rattle.ca_table.specs.declared.drawn.Turned.{Turned}
use Rattle.ca_table.specs.declared.part.Lane.{Lane}
use Rattle.ca_table.specs.declared.part.Part.{Part}
use Rattle.ca_table.specs.declared.worker.Worker.{Worker}

-- the events of a turn that the journal shows, with its number
abbrev pub turn_entries : {C : Type 0} → Turn C Drawn → List Numbered
turn_entries t = map (λ e. record { number = t.number; event = e }) (visible (turn_view t.event.what))

-- the entries of an event drawn with that number
abbrev pub event_entries : ℕ → Turned → List Numbered
event_entries k what = map (λ e. record { number = k; event = e }) (visible (turn_view what))

abbrev pub noted : {C : Type 0} → List (Turn C Drawn) → List Numbered
noted [] = []
noted (t ∷ ts) = turn_entries t ++ noted ts

-- each stands above the ones before it
abbrev pub AllAbove : {C : Type 0} → ℕ → List (Turn C Drawn) → Type 0
AllAbove n [] = Unit {0}
AllAbove n (t ∷ ts) = (n ≤ t.number) × AllAbove (t.number + 1) ts

-- a hand that was so and is so now: as the only one it holds what its turns left, if it did
abbrev pub KeepsLeft : {C : Type 0} → View C Drawn → View C Drawn → Type 0
KeepsLeft old new = hands_stood_for old ≡ old.hands → AllAbove 0 old.turns → HoldsLeft drawn_touches old → HoldsLeft drawn_touches new

-- a worker's lane, as a part
abbrev pub part_of_lane : {A : Type 0} → ℕ → ValidCode → Lane A → PartSeen A
part_of_lane n code l = record { workers = n; code = valid_code code; held = seen_lane (lane_seen l) }

-- how many parts a run of n workers has
abbrev pub part_count : ℕ → ℕ
part_count n = n + 33 + n

module _ {A C : Type 0} (over : CodeView → A → Type 0) (stands_as : ProgramView → A → TaskBody → Type 0) (program : ProgramView) (code : CodeView) (id : TableId) where
  -- it is one of n, of a table that was opened for a run of the program over the code, and has noted what it drew
  pub record IsOne (n : ℕ) (w : Worker A C) : Type 0 where
    pub table : w.hand.table ≡ id
    pub slots : id.slots ≡ part_count n
    pub of : w.workers ≡ n
    pub few : n ≤ 16
    pub below : w.number < n
    pub of_program : program_view w.program.value ≡ program
    pub of_code : valid_code w.code.value ≡ code
    pub knows : Knows over stands_as program code n w.hand.view
    pub opened_for : w.hand.view.hands ≡ n
    pub above : AllAbove 0 w.hand.view.turns
    pub notes : entries w.entries ≡ noted w.hand.view.turns
    -- as the only one it holds what its turns left
    pub left : hands_stood_for w.hand.view ≡ w.hand.view.hands → HoldsLeft drawn_touches w.hand.view

  -- between two calls it holds nothing
  pub record IsReady (n : ℕ) (w : Worker A C) : Type 0 where
    pub one : IsOne n w
    pub nothing : HoldsNothing w.hand

module _ {A C : Type 0} (over : CodeView → A → Type 0) (stands_as : ProgramView → A → TaskBody → Type 0) (program : ProgramView) (code : ValidCode) (id : TableId) where
  -- in a call it holds its lane, which was moved out
  pub record IsSeated (n : ℕ) (w : Worker A C) (lane : Lane A) : Type 0 where
    pub one : IsOne over stands_as program (valid_code code) id n w
    pub lane_is : program_view lane.program.value ≡ program
    pub grips : Grips w.hand (update eqb no_grip w.number (Some (part_away n code, part_of_lane n code lane)))

-- it is one of n with a fresh hand of its table, and has noted nothing
pub record IsNewWorker {A C : Type 0} (program : ProgramView) (code : CodeView) (n : ℕ) (id : TableId) (cs : List (PartSeen A)) (hands : ℕ) (w : Worker A C) : Type 0 where
  pub of : w.workers ≡ n
  pub below : w.number < n
  pub of_program : program_view w.program.value ≡ program
  pub of_code : valid_code w.code.value ≡ code
  pub notes : entries w.entries ≡ []
  pub fresh : IsFresh id cs hands w.hand

-- its number, its program and code, and of how many it is
pub record SameWorker {A C : Type 0} (old new : Worker A C) : Type 0 where
  pub number : new.number ≡ old.number
  pub workers : new.workers ≡ old.workers
  pub program : new.program ≡ old.program
  pub code : new.code ≡ old.code

-- its table was opened with these parts
abbrev pub IsOpenedWith : {A C : Type 0} → List (PartSeen A) → Worker A C → Type 0
IsOpenedWith cs w = w.hand.view.opening ≡ cs

abbrev pub stands_for : {A C : Type 0} → Worker A C → ℕ
stands_for w = hands_stood_for w.hand.view

-- what they drew, those of the last worker first
abbrev pub turns_of : {A C : Type 0} → List (Worker A C) → List (Turn (PartSeen A) Drawn)
turns_of [] = []
turns_of (w ∷ ws) = turns_of ws ++ w.hand.view.turns

-- a hand with those of the workers before joined into it, and the lists of what they noted
pub record IsJoined {A C : Type 0} (over : CodeView → A → Type 0) (stands_as : ProgramView → A → TaskBody → Type 0) (program : ProgramView) (code : CodeView) (id : TableId) (n count : ℕ) (hand : Held (Part A C) (PartSeen A) Drawn) (lists : List Entries) : Type 0 where
  pub table : hand.table ≡ id
  pub knows : Knows over stands_as program code n hand.view
  pub opened_for : hand.view.hands ≡ n
  pub nothing : HoldsNothing hand
  pub notes : joined (map entries lists) ≡ noted hand.view.turns
  pub ascends : EachAscends (map entries lists)
  pub counted : hands_stood_for hand.view ≡ count
