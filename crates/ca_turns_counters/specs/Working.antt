-- A worker between its turns, and what its turns leave of it.
use Rattle.std.specs.Prelude.{◌≡◌, ℕ, ◌+◌, ◌*◌, ◌≤◌, List, length, Option, Some, None, IfSome, vec_len, vec_capacity}
use mathlib.Core.Option.{some}
use lib.ListN.{get_elem?}
use Rattle.ca_turns.specs.Hands.{TableId, HoldsNothing}
use Rattle.ca_turns.specs.declared.rule.Turn.{Turn}
use Rattle.ca_turns.specs.Views.{hands_stood_for}
use Rattle.ca_turns_counters.specs.declared.counters.Event.{Event}
use Rattle.ca_turns_counters.specs.declared.workers.Worker.{Worker}
use Rattle.ca_turns_counters.specs.Turning.{Counting}

-- a hand that holds nothing and drew nothing
abbrev pub IsHandIdle : TableId → Counting → Type 0
IsHandIdle id h = (h.table ≡ id) × HoldsNothing h × (length h.view.turns ≡ 0)

-- it holds nothing, has noted the number of each event that it drew, and its spare hand is idle
pub record IsReadyToCount (id : TableId) (w : Worker) : Type 0 where
  pub table : w.hand.table ≡ id
  pub nothing : HoldsNothing w.hand
  pub noted : vec_len w.numbers ≡ length w.hand.view.turns
  pub spare : IfSome w.spare (IsHandIdle id)

-- for how many hands a worker's hands stand
abbrev pub spare_stands : Option Counting → ℕ
spare_stands None = 0
spare_stands (Some h) = hands_stood_for h.view

abbrev pub stand : Worker → ℕ
stand w = hands_stood_for w.hand.view + spare_stands w.spare

-- how many events a worker drew
abbrev pub events_drawn : Worker → ℕ
events_drawn w = length w.hand.view.turns

pub record SameCountingWorker (old new : Worker) : Type 0 where
  pub opening : new.hand.view.opening ≡ old.hand.view.opening
  pub opened_for : new.hand.view.hands ≡ old.hand.view.hands
  pub stand : stand new ≡ stand old
  pub room : vec_capacity new.numbers ≡ vec_capacity old.numbers

-- each of its events is this one
abbrev pub Repeats : Event → Worker → Type 0
Repeats e w = (k : ℕ) (t : Turn ℕ Event) → get_elem? w.hand.view.turns k ≡ some t → t.event ≡ e

-- a worker of a table that was opened for n hands with these counters, before its first event, with room for that many numbers
pub record IsNew (id : TableId) (cs : List ℕ) (n room : ℕ) (w : Worker) : Type 0 where
  pub ready : IsReadyToCount id w
  pub opening : w.hand.view.opening ≡ cs
  pub opened_for : w.hand.view.hands ≡ n
  pub none_drawn : events_drawn w ≡ 0
  pub has_room : room ≤ vec_capacity w.numbers

-- before its first event, with room for the numbers of two rounds
abbrev pub IsBeforeFirstEvent : TableId → ℕ → Worker → Type 0
IsBeforeFirstEvent id times w = IsReadyToCount id w × (events_drawn w ≡ 0) × (2 * times ≤ vec_capacity w.numbers)

-- after two rounds, in which it repeated one of these two events
pub record Worked (id : TableId) (even odd : Event) (times : ℕ) (old new : Worker) : Type 0 where
  pub ready : IsReadyToCount id new
  pub spare : new.spare ≡ None
  pub same : SameCountingWorker old new
  pub drawn : events_drawn new ≡ events_drawn old + 2 * times
  pub repeats : (e : Event) → even ≡ e → odd ≡ e → Repeats e old → Repeats e new
