-- Parts in which nothing can go on, and a worker that holds parts as they were settled.
use Rattle.std.specs.Prelude.{◌≡◌, ◌⊎◌, ◌&&◌, ◌||◌, ℕ, ◌<◌, ◌≤◌, [], Option, Some, None, Bool, true, false, not, is_some, length, nat_lt, option_map}
use mathlib.Core.Option.{some}
use lib.ListN.{get_elem?}
use Rattle.ca_term.specs.declared.event.Side.TheVariants.{Put, Take}
use Rattle.ca_meaning.specs.Row.{settle_row, unsettled}
use Rattle.ca_meaning.specs.Wait.{head}
use Rattle.ca_bank.specs.Kept.{is_closed_at, queue_at, takes_one_more}
use Rattle.ca_commit.specs.Contents.{PartContents, Kept, a_bank, a_lane, a_ready, the_timers}
use Rattle.ca_commit.specs.Finding.{holds_one, is_fixed_at}
use Rattle.ca_commit.specs.Holds.{live_of}
use Rattle.ca_states.specs.Code.{CodeView}
use Rattle.ca_turns.specs.Hands as hands
use Rattle.ca_table.specs.Grips.{Grips}
use Rattle.ca_table.specs.Parts.{contents_seen}
use Rattle.ca_table.specs.Seen.{PartSeen, held_of}
use Rattle.ca_table.specs.declared.drawn.Drawn.{Drawn}
use Rattle.ca_table.specs.declared.part.Part.{Part}
use Rattle.ca_pool.specs.declared.stall.Surveyed.{Surveyed}
use Rattle.ca_pool.specs.declared.stall.Surveyed.TheVariants as S

-- no put may move in, and no taker be served, whichever handlers are stale
abbrev pub rests_anyway : Option Kept → Bool
rests_anyway o = not ((is_fixed_at o && takes_one_more o) && nat_lt 0 (length (queue_at Put o))) && not ((holds_one o || is_closed_at o) && nat_lt 0 (length (queue_at Take o)))

-- the channel settles nothing, whichever waits live
abbrev pub ChannelRests : Kept → Type 0
ChannelRests k = (alive : ℕ → Bool) → settle_row k.channel (head (live_of alive k.takes)) (head (live_of alive k.puts)) ≡ unsettled

abbrev pub AllRest : (ℕ → Option Kept) → Type 0
AllRest f = (p : ℕ) (k : Kept) → f p ≡ Some k → ChannelRests k

module _ {A : Type 0} where
  -- a lane or a ready part without a task, or a bank whose channels rest; the other parts are always still
  abbrev pub IsStill : PartContents A → Type 0
  IsStill (a_lane l) = l.task ≡ None
  IsStill (a_ready q) = q ≡ []
  IsStill (a_bank b) = AllRest b.channels
  IsStill other = Unit {0}

  abbrev pub HasNoDeadline : PartContents A → Type 0
  HasNoDeadline (the_timers c) = c.deadlines ≡ []
  HasNoDeadline other = Unit {0}

module _ {A C : Type 0} (least faults : C → ℕ) (readings : C → Option (Rattle.std.specs.Prelude.List ℕ)) where
  -- the part that lies in the hand there is still
  abbrev pub IsStillAt : hands.Held (Part A C) (PartSeen A) Drawn → ℕ → Type 0
  IsStillAt h i = (x : Part A C) → get_elem? h.parts i ≡ some (Some x) → IsStill (held_of (contents_seen least faults readings x.contents))

  -- it has no open deadline
  abbrev pub IsUndatedAt : hands.Held (Part A C) (PartSeen A) Drawn → ℕ → Type 0
  IsUndatedAt h i = (x : Part A C) → get_elem? h.parts i ≡ some (Some x) → HasNoDeadline (held_of (contents_seen least faults readings x.contents))

module _ {A C : Type 0} (seen : Part A C → PartSeen A) where
  -- these parts, each settled as it is
  abbrev pub as_settled : (ℕ → Option (Part A C)) → ℕ → Option (Part A C × PartSeen A)
  as_settled g i = option_map (λ x. (x, seen x)) (g i)

  -- the hand holds these parts of a run of n workers over that code, each settled as it is, and no other
  pub record Surveys (n : ℕ) (code : CodeView) (h : hands.Held (Part A C) (PartSeen A) Drawn) (g : ℕ → Option (Part A C)) : Type 0 where
    pub grips : Grips h (as_settled g)
    pub of : (i : ℕ) (x : Part A C) → g i ≡ Some x → ((seen x).workers ≡ n) × ((seen x).code ≡ code)

module _ {X : Type 0} where
  -- from a on, and before b, each is there; the others are as before
  pub record Fills (a b : ℕ) (old new : ℕ → Option X) : Type 0 where
    pub there : (i : ℕ) → a ≤ i → i < b → is_some (new i) ≡ true
    pub others : (i : ℕ) → (i < a) ⊎ (b ≤ i) → new i ≡ old i

  -- none is there
  pub record Drops (a b : ℕ) (old new : ℕ → Option X) : Type 0 where
    pub gone : (i : ℕ) → a ≤ i → i < b → new i ≡ None
    pub others : (i : ℕ) → (i < a) ⊎ (b ≤ i) → new i ≡ old i

  -- those below low are there, and from middle on those below high
  pub record IsSpread (low middle high : ℕ) (g : ℕ → Option X) : Type 0 where
    pub below : (i : ℕ) → i < low → is_some (g i) ≡ true
    pub between : (i : ℕ) → low ≤ i → i < middle → g i ≡ None
    pub above : (i : ℕ) → middle ≤ i → i < high → is_some (g i) ≡ true
    pub beyond : (i : ℕ) → middle ≤ i → high ≤ i → g i ≡ None

  -- just so many are there
  pub record Fulls (count : ℕ) (g : ℕ → Option X) : Type 0 where
    pub there : (i : ℕ) → i < count → is_some (g i) ≡ true
    pub no_more : (i : ℕ) → count ≤ i → g i ≡ None

-- it found that nothing can go on, and drew that
abbrev pub is_stuck : Surveyed → Bool
is_stuck S.Busy = false
is_stuck (S.Stirs p) = false
is_stuck (S.Waits m) = false
is_stuck S.Stuck = true
