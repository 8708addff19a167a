-- What calls of `work` did to workers: which kinds of turns stand among those that were drawn, what these cost, and what
-- a call may answer.
use Rattle.std.specs.Prelude.{◌≡◌, ◌⊎◌, ◌↔◌, ℕ, ◌<◌, ◌≤◌, List, [], ◌∷◌, ◌++◌, Bool, true, false, ◌||◌, Result, Ok, Err}
use Rattle.ca_term.specs.Event.{EventView}
use Rattle.ca_journal.specs.Merge.{entries, events_of}
use Rattle.ca_meaning.specs.Cost.{cost}
use Rattle.ca_meaning.specs.Ends.{but_last}
use Rattle.ca_meaning.specs.Legal.{is_end_of_main}
use Rattle.ca_turns.specs.declared.rule.Turn.{Turn}
use Rattle.ca_turns.specs.History.{IsNumbered, Run}
use Rattle.ca_turns.specs.Views.{hands_stood_for}
use Rattle.ca_commit.specs.Touched as said
use Rattle.ca_table.specs.Draws.{drawn_touches, turn_view}
use Rattle.ca_table.specs.Grips.{SameHand}
use Rattle.ca_table.specs.LoneHands.{left_now}
use Rattle.ca_table.specs.Members.{In}
use Rattle.ca_table.specs.Running.{shown_by}
use Rattle.ca_table.specs.Seen.{PartSeen}
use Rattle.ca_table.specs.Workers.{SameWorker}
use Rattle.ca_table.specs.declared.answer.PoolStop.{PoolStop}
use Rattle.ca_table.specs.declared.answer.PoolStop.TheVariants.{ClockFailed, OutOfMemory}
use Rattle.ca_table.specs.declared.answer.WorkEnd.{WorkEnd}
use Rattle.ca_table.specs.declared.answer.WorkEnd.TheVariants.{Over, Spent}
use Rattle.ca_table.specs.declared.drawn.Drawn.{Drawn}
use Rattle.ca_table.specs.declared.worker.Worker.{Worker}

-- the clock failed
abbrev pub fails_clock : said.Turn → Bool
fails_clock said.fails = true
fails_clock other = false

-- want of memory was told
abbrev pub tells_stop : said.Turn → Bool
tells_stop said.stops = true
tells_stop other = false

-- the run is given up
abbrev pub gives_up : said.Turn → Bool
gives_up turn = fails_clock turn || tells_stop turn

-- the worker leaves because nothing can go on
abbrev pub stays_stuck : said.Turn → Bool
stays_stuck said.stalls = true
stays_stuck other = false

-- it leaves because the run is marked
abbrev pub obeys_mark : said.Turn → Bool
obeys_mark said.halts = true
obeys_mark other = false

-- the main text ends, by its value or by a fault
abbrev pub ends_main : said.Turn → Bool
ends_main (said.shown e) = is_end_of_main e
ends_main other = false

-- the worker leaves: the run is marked, or nothing can go on
abbrev pub leaves_run : said.Turn → Bool
leaves_run turn = stays_stuck turn || obeys_mark turn

-- the worker finds the end of the run
abbrev pub finds_run_end : said.Turn → Bool
finds_run_end turn = stays_stuck turn || (obeys_mark turn || ends_main turn)

-- some turn is such
abbrev pub some_turn : {C : Type 0} → (said.Turn → Bool) → List (Turn C Drawn) → Bool
some_turn such [] = false
some_turn such (t ∷ ts) = such (turn_view t.event.what) || some_turn such ts

-- the last of these turns is such
abbrev pub ends_so : {C : Type 0} → (said.Turn → Bool) → List (Turn C Drawn) → Bool
ends_so such [] = false
ends_so such (t ∷ []) = such (turn_view t.event.what)
ends_so such (t ∷ (u ∷ us)) = ends_so such (u ∷ us)

-- the main text ends among them, or by the last of them the worker leaves
abbrev pub finds_end : {C : Type 0} → List (Turn C Drawn) → Bool
finds_end ts = some_turn ends_main ts || ends_so leaves_run ts

-- all but the last of these events cost less than so much; where that is nothing there is none
abbrev pub Sparing : ℕ → List EventView → Type 0
Sparing most [] = Unit {0}
Sparing most (e ∷ es) = cost (but_last (e ∷ es)) < most

-- What a call of `work` with that allowance may answer, by the turns that it drew: Spent where they cost it, Over where
-- they cost less and the run's end was found, and otherwise why the call is given up.
abbrev pub AnswersFor : {C : Type 0} → ℕ → Result WorkEnd PoolStop → List (Turn C Drawn) → Type 0
AnswersFor allowance (Ok Spent) ts = (some_turn gives_up ts ≡ false) × (allowance ≤ cost (shown_by ts))
AnswersFor allowance (Ok Over) ts = (some_turn gives_up ts ≡ false) × (cost (shown_by ts) < allowance) × (finds_end ts ≡ true)
AnswersFor allowance (Err ClockFailed) ts = (some_turn fails_clock ts ≡ true) × (some_turn tells_stop ts ≡ false)
AnswersFor allowance (Err OutOfMemory) ts = some_turn fails_clock ts ≡ false

-- some event of the journal is the end of the main text
abbrev pub HasMainEnd : List EventView → Type 0
HasMainEnd journal = (e : EventView) × In e journal × (is_end_of_main e ≡ true)

module _ {A C : Type 0} where
  -- some turn that the worker drew is such
  abbrev pub has_drawn : (said.Turn → Bool) → Worker A C → Bool
  has_drawn such w = some_turn such w.hand.view.turns

  -- some turn of these workers is such
  abbrev pub any_drew : (said.Turn → Bool) → List (Worker A C) → Bool
  any_drew such [] = false
  any_drew such (w ∷ ws) = has_drawn such w || any_drew such ws

  -- some of these workers drew the turn
  abbrev pub AnyDrew : Turn (PartSeen A) Drawn → List (Worker A C) → Type 0
  AnyDrew t [] = ⊥
  AnyDrew t (w ∷ ws) = In t w.hand.view.turns ⊎ AnyDrew t ws

  -- The journal shows what these workers drew: the turns of all of them, each at its number, and of each its event, if the
  -- journal shows that.
  pub record ShowsAll (workers : List (Worker A C)) (journal : List EventView) : Type 0 where
    pub log : List (Turn (PartSeen A) Drawn)
    pub numbered : IsNumbered log
    pub drawn : (t : Turn (PartSeen A) Drawn) → In t log ↔ AnyDrew t workers
    pub shown : journal ≡ shown_by log

  -- what the events that it noted cost
  abbrev pub spent : Worker A C → ℕ
  spent w = cost (events_of (entries w.entries))

  -- what a call of `work` with that allowance and answer did to a worker: it is the same one of the same table, and drew
  -- turns by which it may answer so
  pub record HasWorked (allowance : ℕ) (answer : Result WorkEnd PoolStop) (old new : Worker A C) : Type 0 where
    pub number : new.number ≡ old.number
    pub table : new.hand.table ≡ old.hand.table
    pub opening : new.hand.view.opening ≡ old.hand.view.opening
    pub stays_for : hands_stood_for new.hand.view ≡ hands_stood_for old.hand.view
    pub more : List (Turn (PartSeen A) Drawn)
    pub drew : new.hand.view.turns ≡ old.hand.view.turns ++ more
    pub sparing : Sparing allowance (shown_by more)
    pub answers : AnswersFor allowance answer more

  -- The only worker of a run that gave this journal and left these parts: the journal shows its turns, which are a run,
  -- and the parts are what they left
  pub record RanAlone (moves : Drawn → List (PartSeen A) → List (PartSeen A) → Type 0) (journal : List EventView) (parts : List (PartSeen A)) (w : Worker A C) : Type 0 where
    pub shown : journal ≡ shown_by w.hand.view.turns
    pub run : Run drawn_touches moves w.hand.view.opening w.hand.view.turns (left_now drawn_touches w.hand.view)
    pub parts_left : left_now drawn_touches w.hand.view ≡ parts

  -- before its first call
  abbrev pub HasDrawnNothing : Worker A C → Type 0
  HasDrawnNothing w = w.hand.view.turns ≡ []

  -- It drew turns of which at most one is an event of the journal, at that cost, and none gives the run up. Where that is
  -- said, they find the run's end.
  pub record Drew (spends : ℕ) (found : Bool) (old new : Worker A C) : Type 0 where
    pub same : SameWorker old new
    pub hand : SameHand old.hand new.hand
    pub more : List (Turn (PartSeen A) Drawn)
    pub turns : new.hand.view.turns ≡ old.hand.view.turns ++ more
    pub costs : cost (shown_by more) ≡ spends
    pub few : but_last (shown_by more) ≡ []
    pub going : some_turn gives_up more ≡ false
    pub finds : found ≡ true → finds_end more ≡ true
