-- What the reserving calls have made for an event, and what an event leaves as it is.
use Rattle.std.specs.Prelude.{◌≡◌, ◌<◌, Option, Some, is_some, option_map, true}
use Rattle.ca_value.specs.Tree.{Tree}
use Rattle.ca_value.specs.View.{view}
use Rattle.ca_term.specs.Event.{BranchView, branch_view}
use Rattle.ca_meaning.specs.Channel.{Channel}
use Rattle.ca_meaning.specs.Row.{completes}
use Rattle.ca_meaning.specs.Wait.{port_of}
use Rattle.ca_bank.specs.Kept.{buffer_at, buffer_spare}
use Rattle.ca_commit.specs.Asks.{row_raw}
use Rattle.ca_commit.specs.Contents.{Kept, whole}
use Rattle.ca_commit.specs.Replies.{done_answer, reply_by}
use Rattle.ca_commit.specs.Showing.{channels_held, spares_held}
use Rattle.ca_commit.specs.declared.held.Held.{Held}
use Rattle.ca_commit.specs.declared.planned.Chosen.{Chosen}

-- shards, timers, ready tasks and numbers stay
abbrev pub KeepsOthers : {A : Type 0} → Held A → Held A → Type 0
KeepsOthers old new = (new.shards ≡ old.shards) × (new.timers ≡ old.timers) × (new.ready ≡ old.ready) × (new.new_task ≡ old.new_task) × (new.new_port ≡ old.new_port) × (new.new_wait ≡ old.new_wait) × (new.moment ≡ old.moment)

-- the row of the branch is one that is done
abbrev pub IsDoneRow : Option Kept → BranchView → Type 0
IsDoneRow o b = (k : Kept) × (v : Tree) × (after : Channel) × (o ≡ Some k) × (row_raw k b ≡ completes v after)

module _ {A : Type 0} where
  -- the answer of the branch, for the event and for its task, and room in the channel's buffer
  abbrev pub IsMadeForBranch : Held A → Chosen → BranchView → Type 0
  IsMadeForBranch h c b =
      (option_map view h.spare.value ≡ Some (done_answer (whole (channels_held h.banks) (port_of b)) b))
      × (option_map view h.spare.answer ≡ Some (reply_by c.of_alts (port_of b) (done_answer (whole (channels_held h.banks) (port_of b)) b)))
      × (is_some (buffer_at (whole (channels_held h.banks) (port_of b))) ≡ true → 0 < buffer_spare (whole (spares_held h.banks) (port_of b)))

  abbrev pub IsMadeForDone : Held A → Chosen → Type 0
  IsMadeForDone h c = IsMadeForBranch h c (branch_view c.operation)
