-- A worker that is the only one, and where its turns have come to in the schedule.
use Rattle.std.specs.Prelude.{◌≡◌, ◌⊎◌, ℕ, ◌<◌, List, [], ◌∷◌, ◌++◌, All, Option, Some, None, Bool, true, false}
use Rattle.ca_value.specs.Tree.{Tree}
use Rattle.ca_term.specs.Operation.{SeedView}
use Rattle.ca_term.specs.Program.{ProgramView, program_view}
use Rattle.ca_meaning.specs.Body.{At}
use Rattle.ca_meaning.specs.Cost.{cost}
use Rattle.ca_meaning.specs.Task.{TaskBody}
use Rattle.ca_states.specs.Code.{CodeView}
use Rattle.ca_states.specs.ValidCode.{valid_code}
use Rattle.ca_states.specs.declared.valid_code.ValidCode.{ValidCode}
use Rattle.ca_turns.specs.Views.{hands_stood_for}
use Rattle.ca_turns.specs.declared.rule.Turn.{Turn}
use Rattle.ca_commit.specs.Touched as said
use Rattle.ca_table.specs.Draws.{turn_view}
use Rattle.ca_table.specs.Grips.{SameHand}
use Rattle.ca_table.specs.Running.{shown_by}
use Rattle.ca_table.specs.Seen.{PartSeen}
use Rattle.ca_table.specs.Workers.{SameWorker}
use Rattle.ca_table.specs.declared.drawn.Drawn.{Drawn}
use Rattle.ca_table.specs.declared.worker.Worker.{Worker}
use Rattle.ca_solo.specs.Positions.{Position}
use Rattle.ca_alone.specs.Schedule.{Follow, HasStopped, MaySettle, StandsAt, to_turn}
use Rattle.ca_pool.specs.AtWork.{HasSpent}
use Rattle.ca_pool.specs.declared.clock.Asked.{Asked}
use Rattle.ca_pool.specs.declared.clock.Asked.TheVariants as Told
use Rattle.ca_pool.specs.declared.settle.Settling.{Settling}
use Rattle.ca_pool.specs.declared.settle.Settling.TheVariants as S

-- it is the only one of its run
abbrev pub IsLone : {A C : Type 0} → Worker A C → Type 0
IsLone w = (w.workers ≡ 1) × (hands_stood_for w.hand.view ≡ w.hand.view.hands)

-- a turn that is no move of the schedule: a stale handler leaves its queue, or the worker leaves the run
abbrev pub IsNoMove : said.Turn → Type 0
IsNoMove (said.prunes side p wait) = Unit {0}
IsNoMove said.stalls = Unit {0}
IsNoMove said.halts = Unit {0}
IsNoMove other = ⊥

-- it drew such turns alone, if any
pub record Stayed {A C : Type 0} (old new : Worker A C) : Type 0 where
  pub same : SameWorker old new
  pub hand : SameHand old.hand new.hand
  pub more : List (Turn (PartSeen A) Drawn)
  pub turns : new.hand.view.turns ≡ old.hand.view.turns ++ more
  pub only : All (λ t. IsNoMove (turn_view t.event.what)) more

module _ {A C : Type 0} (over : CodeView → A → Type 0) (place : A → At) (stands_as : ProgramView → A → TaskBody → Type 0) (advances : ProgramView → A → A → Type 0) (gives : A → Tree → A → Type 0) (starts : ProgramView → SeedView → A → Type 0) (code : ValidCode) where
  -- alone it stands at a position of this kind
  pub record LoneAt (P : Position → Type 0) (w : Worker A C) : Type 0 where
    pub lone : IsLone w
    pub at : StandsAt over place stands_as advances gives starts (program_view w.program.value) (valid_code code) P w.hand.view

  -- .. or may stop
  pub record LoneStopped (most : ℕ) (w : Worker A C) : Type 0 where
    pub lone : IsLone w
    pub stopped : HasStopped over place stands_as advances gives starts (program_view w.program.value) (valid_code code) most w.hand.view

  -- it stands there, and its events cost less than so much
  pub record MayGo (P : Position → Type 0) (most : ℕ) (w : Worker A C) : Type 0 where
    pub at : LoneAt P w
    pub below : cost (shown_by w.hand.view.turns) < most

  -- it has come to such a position, and may stop there
  pub record Went (P : Position → Type 0) (most : ℕ) (w : Worker A C) : Type 0 where
    pub at : LoneAt P w
    pub stopped : LoneStopped most w

  -- an event of its task came, after which these channels may settle, unless it was the end of the main text
  pub record HasStepped (us : List ℕ) (over_now : Bool) (most : ℕ) (w : Worker A C) : Type 0 where
    pub at : over_now ≡ false → LoneAt (MaySettle to_turn us) w
    pub stopped : LoneStopped most w

  -- what a look at the least channel came to that may settle
  abbrev pub HasLooked : Follow → ℕ → List ℕ → ℕ → Settling → Worker A C → Type 0
  HasLooked k p us most S.Rests w = LoneAt (MaySettle k us) w
  HasLooked k p us most S.Again w = LoneAt (MaySettle k (p ∷ us)) w
  HasLooked k p us most (S.Settled cost) w = Went (MaySettle k (p ∷ us)) most w

  -- it settled, by an event of that cost, or doesn't
  abbrev pub HasSettled : Follow → ℕ → List ℕ → ℕ → Option ℕ → Worker A C → Type 0
  HasSettled k p us most None w = LoneAt (MaySettle k us) w
  HasSettled k p us most (Some cost) w = Went (MaySettle k (p ∷ us)) most w

  -- what a look at the clock came to, after a pick
  abbrev pub HasAsked : List ℕ → ℕ → Asked → Worker A C → Type 0
  HasAsked us most Told.Nothing w = LoneAt (MaySettle to_turn us) w
  HasAsked us most Told.Marked w = LoneStopped most w
  HasAsked us most (Told.Ticked cost) w = Went (MaySettle to_turn us) most w

  -- In its first call, with so much left of what it may use up, it goes on from a position of this kind ..
  pub record IsRunning (P : Position → Type 0) (most left : ℕ) (found : Bool) (w : Worker A C) : Type 0 where
    pub first : Worker A C
    pub fresh : first.hand.view.turns ≡ []
    pub spent : HasSpent most left found first w
    pub some : 0 < left
    pub on : found ≡ false
    pub at : LoneAt P w

  -- .. or it stops, where nothing is left or the run's end was found
  pub record IsGoing (P : Position → Type 0) (most left : ℕ) (found : Bool) (w : Worker A C) : Type 0 where
    pub first : Worker A C
    pub fresh : first.hand.view.turns ≡ []
    pub spent : HasSpent most left found first w
    pub at : 0 < left → found ≡ false → LoneAt P w
    pub stopped : (left ≡ 0) ⊎ (found ≡ true) → LoneStopped most w

  -- the channel settled, and may again, or it doesn't settle
  abbrev pub HasCounted : Follow → ℕ → List ℕ → ℕ → Bool → ℕ → Bool → Worker A C → Type 0
  HasCounted k p us most true left found w = IsGoing (MaySettle k (p ∷ us)) most left found w
  HasCounted k p us most false left found w = IsGoing (MaySettle k us) most left found w
