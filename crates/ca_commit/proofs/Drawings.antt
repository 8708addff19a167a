-- What the calls of an event promise is how the event moves the parts.
use Rattle.std.proofs.Common.{◌≡◌, ℕ, sym, ap, ◌∙◌, subst, Option, Some, option_map}
use Rattle.ca_value.specs.Tree.{Tree}
use Rattle.ca_term.specs.Program.{ProgramView}
use Rattle.ca_term.specs.Operation.{OpView}
use Rattle.ca_term.specs.Event.{BranchView}
use Rattle.ca_meaning.specs.Body.{At}
use Rattle.ca_meaning.specs.Row.{completes}
use Rattle.ca_meaning.specs.Task.{reply_to}
use Rattle.ca_meaning.specs.Wait.{port_of}
use Rattle.ca_commit.specs.ChannelMoves.{MovesDone}
use Rattle.ca_commit.specs.Contents.{Kept, Parts, whole}
use Rattle.ca_commit.specs.Deciding.{IsAlone}
use Rattle.ca_commit.specs.Listing.{changed_at}
use Rattle.ca_commit.specs.Moves.{Alters, Answers, PicksIn, Stays}
use Rattle.ca_commit.specs.Replies.{done_answer, done_change}
use Rattle.ca_commit.proofs.Altered.{alters}
use Rattle.ca_commit.proofs.RowsDone.{row_done}

module _ {A : Type 0} (place : A → At) (advances : ProgramView → A → A → Type 0) (gives : A → Tree → A → Type 0) where
  -- a branch that is done at once
  pub done_moves : (old new : Parts A) (w t k : ℕ) (op : OpView) (b : BranchView) (alone : IsAlone old b)
      → PicksIn old op k b
      → (answers : Answers place advances gives w t op (reply_to op (port_of b) (done_answer (whole old.bank (port_of b)) b)) old new)
      → answers.stands.lane2.counts ≡ answers.stands.lane.counts
      → ((i : ℕ) → new.bank i ≡ changed_at (port_of b) (option_map (done_change b)) old.bank i)
      → Stays old.registry new.registry → Stays old.shard new.shard → Stays old.ready new.ready → new.timers ≡ old.timers
      → MovesDone place advances gives w t k b (done_answer (whole old.bank (port_of b)) b) old new
  done_moves old new w t k op b alone picks answers counts banks registries shards readys timers = record {
    op = op;
    answers = answers;
    counts = counts;
    picks = picks;
    kept = alone.kept;
    there = alone.there;
    asks = alone.asks;
    after = alone.after;
    by_row = alone.by_row ∙ ap (λ v. completes v alone.after) (sym (ap (λ o. done_answer o b) alone.there ∙ (row_done alone.kept b alone.answer alone.after alone.by_row).0));
    banks = subst (λ (o : Option Kept). Alters old.bank new.bank (port_of b) o) (ap Some (row_done alone.kept b alone.answer alone.after alone.by_row).1) (alters old.bank new.bank (port_of b) (option_map (done_change b)) alone.kept alone.there banks);
    registries = registries;
    shards = shards;
    readys = readys;
    timers = timers;
  }
