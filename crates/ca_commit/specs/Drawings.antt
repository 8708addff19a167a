-- What the calls of an event promise of the parts, with what the plan tells, is how the event moves them.
use Rattle.std.specs.Prelude.{◌≡◌, ℕ, List, Some, None, option_map}
use Rattle.ca_value.specs.Tree.{Tree}
use Rattle.ca_term.specs.Program.{ProgramView}
use Rattle.ca_term.specs.Operation.{OpView}
use Rattle.ca_term.specs.Event.{BranchView}
use Rattle.ca_meaning.specs.Body.{At}
use Rattle.ca_meaning.specs.ChannelSteps.{other_side}
use Rattle.ca_meaning.specs.Task.{reply_to}
use Rattle.ca_meaning.specs.Wait.{port_of, side_of, told}
use Rattle.ca_bank.specs.Kept.{pruned}
use Rattle.ca_commit.specs.Agents.{TaskAgent, advances_of, gives_of, place_of, wakes_of}
use Rattle.ca_commit.specs.ChannelMoves.{MovesDone, MovesMeet}
use Rattle.ca_commit.specs.Contents.{Parts, whole}
use Rattle.ca_commit.specs.Deciding.{HasPartner, IsAlone}
use Rattle.ca_commit.specs.Listing.{changed_at}
use Rattle.ca_commit.specs.Moves.{Answers, PicksIn, Stays}
use Rattle.ca_commit.specs.Replies.{done_answer, done_change}
use Rattle.ca_commit.specs.Waking.{WakesBy, passing}

-- a branch that is done at once
abbrev pub DoneMoves : {A : Type 0} → (A → At) → (ProgramView → A → A → Type 0) → (A → Tree → A → Type 0) → Type 0
DoneMoves {A} place advances gives = (old new : Parts A) (w t k : ℕ) (op : OpView) (b : BranchView) → IsAlone old b
    → PicksIn old op k b
    → (answers : Answers place advances gives w t op (reply_to op (port_of b) (done_answer (whole old.bank (port_of b)) b)) old new)
    → answers.stands.lane2.counts ≡ answers.stands.lane.counts
    → ((i : ℕ) → new.bank i ≡ changed_at (port_of b) (option_map (done_change b)) old.bank i)
    → Stays old.registry new.registry → Stays old.shard new.shard → Stays old.ready new.ready → new.timers ≡ old.timers
    → MovesDone place advances gives w t k b (done_answer (whole old.bank (port_of b)) b) old new

-- a branch that meets a wait
abbrev pub MeetMoves : {A : Type 0} → (A → At) → (ProgramView → A → A → Type 0) → (A → Tree → A → Type 0) → Type 0
MeetMoves {A} place advances gives = (old new : Parts (TaskAgent A)) (w t k wait o : ℕ) (op : OpView) (b : BranchView) (q : List (ℕ × TaskAgent A)) → HasPartner old b wait o
    → PicksIn old op k b
    → (answers : Answers (place_of place) (advances_of advances) (gives_of place gives) w t op (reply_to op (port_of b) (told (side_of b) (passing (whole old.bank (port_of b)) b))) old new)
    → answers.stands.lane2.counts ≡ answers.stands.lane.counts
    → ((i : ℕ) → new.bank i ≡ changed_at (port_of b) (option_map (pruned (other_side (side_of b)) 0)) old.bank i)
    → Stays old.registry new.registry
    → ((i : ℕ) → new.shard i ≡ changed_at wait (λ z. None) old.shard i)
    → old.ready w ≡ Some q → ((i : ℕ) → (i ≡ w → ⊥) → new.ready i ≡ old.ready i) → ((new.ready w ≡ old.ready w) → Stays old.ready new.ready)
    → WakesBy place gives (whole old.shard wait) (port_of b) (told (other_side (side_of b)) (passing (whole old.bank (port_of b)) b)) (old.ready w) (new.ready w)
    → new.timers ≡ old.timers
    → MovesMeet (place_of place) (advances_of advances) (gives_of place gives) (wakes_of gives) w t k (side_of b) (port_of b) (passing (whole old.bank (port_of b)) b) wait o old new
