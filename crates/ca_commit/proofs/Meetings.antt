-- What the calls of a meeting promise is how it moves the parts.
use Rattle.std.proofs.Common.{◌≡◌, ℕ, List, [], ◌∷◌, ◌++◌, refl, sym, ap, ◌∙◌, subst, Option, Some, None, option_map, is_some, true, remove}
use Rattle.ca_value.specs.Tree.{Tree}
use Rattle.ca_term.specs.declared.event.Side.{Side}
use Rattle.ca_term.specs.Program.{ProgramView}
use Rattle.ca_term.specs.Operation.{OpView}
use Rattle.ca_term.specs.Event.{BranchView}
use Rattle.ca_meaning.specs.Body.{At}
use Rattle.ca_meaning.specs.ChannelSteps.{other_side}
use Rattle.ca_meaning.specs.Row.{meets}
use Rattle.ca_meaning.specs.Task.{reply_to}
use Rattle.ca_meaning.specs.Wait.{Handler, port_of, side_of, told}
use Rattle.ca_bank.specs.Kept.{pruned}
use Rattle.ca_commit.specs.Agents.{TaskAgent, advances_of, gives_of, place_of, wakes_of}
use Rattle.ca_commit.specs.ChannelMoves.{MovesMeet}
use Rattle.ca_commit.specs.Contents.{Kept, Parked, Parts, nobody, on, owner, put_on, whole}
use Rattle.ca_commit.specs.Deciding.{HasPartner}
use Rattle.ca_commit.specs.Listing.{changed_at}
use Rattle.ca_commit.specs.Moves.{Alters, Answers, PicksIn, Stays, WakesIn}
use Rattle.ca_commit.specs.Waking.{WakesBy, passing}
use Rattle.ca_commit.proofs.Altered.{alters}
use Rattle.ca_commit.proofs.RowsDone.{row_meets}

pub there_is : {X : Type 0} (o : Option X) → is_some o ≡ true → (x : X) × (o ≡ Some x)
there_is None e = absurd cc
there_is (Some x) e = (x, refl)

-- the handler in front is gone
pub front_gone : (side : Side) (k : Kept) (h : Handler) (rest : List Handler) → on side k ≡ h ∷ rest → pruned side 0 k ≡ put_on side rest k
front_gone side k h rest e = ap (λ q. put_on side (remove q 0) k) e

module _ {A : Type 0} (place : A → At) (advances : ProgramView → A → A → Type 0) (gives : A → Tree → A → Type 0) where
  -- the ready part of worker w, and no other, has whoever waited
  pub woken_in : (old new : Parts (TaskAgent A)) (w p : ℕ) (parked : Parked (TaskAgent A)) (v : Tree) (q : List (ℕ × TaskAgent A)) → old.ready w ≡ Some q → ((i : ℕ) → (i ≡ w → ⊥) → new.ready i ≡ old.ready i)
      → WakesBy place gives (Some parked) p v (old.ready w) (new.ready w) → ((new.ready w ≡ old.ready w) → Stays old.ready new.ready) → WakesIn (place_of place) (wakes_of gives) old new w p parked v
  woken_in old new w p nobody v q there others wakes stays = stays wakes
  woken_in old new w p (owner u a) v q there others wakes stays =
      (wakes.0, q, (wakes.1, wakes.2, wakes.3), record { was = there; is = wakes.4 ∙ ap (option_map (λ (l : List (ℕ × TaskAgent A)). l ++ (u, wakes.0) ∷ [])) there; others = others })

  pub meet_moves : (old new : Parts (TaskAgent A)) (w t k wait o : ℕ) (op : OpView) (b : BranchView) (q : List (ℕ × TaskAgent A)) (partner : HasPartner old b wait o)
      → PicksIn old op k b
      → (answers : Answers (place_of place) (advances_of advances) (gives_of place gives) w t op (reply_to op (port_of b) (told (side_of b) (passing (whole old.bank (port_of b)) b))) old new)
      → answers.stands.lane2.counts ≡ answers.stands.lane.counts
      → ((i : ℕ) → new.bank i ≡ changed_at (port_of b) (option_map (pruned (other_side (side_of b)) 0)) old.bank i)
      → Stays old.registry new.registry
      → ((i : ℕ) → new.shard i ≡ changed_at wait (λ z. None) old.shard i)
      → old.ready w ≡ Some q → ((i : ℕ) → (i ≡ w → ⊥) → new.ready i ≡ old.ready i) → ((new.ready w ≡ old.ready w) → Stays old.ready new.ready)
      → WakesBy place gives (whole old.shard wait) (port_of b) (told (other_side (side_of b)) (passing (whole old.bank (port_of b)) b)) (old.ready w) (new.ready w)
      → new.timers ≡ old.timers
      → MovesMeet (place_of place) (advances_of advances) (gives_of place gives) (wakes_of gives) w t k (side_of b) (port_of b) (passing (whole old.bank (port_of b)) b) wait o old new
  meet_moves old new w t k wait o op b q partner picks answers counts banks registries shards there others stays wakes timers =
      let x = there_is (whole old.shard wait) partner.lives in record {
        op = op;
        b = b;
        answers = answers;
        counts = counts;
        picks = picks;
        side_is = refl;
        port_is = refl;
        kept = partner.kept;
        there = partner.there;
        asks = partner.asks;
        h = partner.handler;
        rest = partner.rest;
        by_row = partner.by_row ∙ ap (meets partner.handler) (sym (ap (λ z. passing z b) partner.there ∙ row_meets partner.kept b partner.handler partner.value partner.by_row));
        wait_is = partner.wait_is;
        branch_is = partner.branch_is;
        in_front = partner.in_front;
        banks = subst (λ (z : Option Kept). Alters old.bank new.bank (port_of b) z) (ap Some (front_gone (other_side (side_of b)) partner.kept partner.handler partner.rest partner.in_front)) (alters old.bank new.bank (port_of b) (option_map (pruned (other_side (side_of b)) 0)) partner.kept partner.there banks);
        registries = registries;
        parked = x.0;
        lives = x.1;
        shards = alters old.shard new.shard wait (λ z. None) x.0 x.1 shards;
        wakes_up = woken_in old new w (port_of b) x.0 (told (other_side (side_of b)) (passing (whole old.bank (port_of b)) b)) q there others (subst (λ (z : Option (Parked (TaskAgent A))). WakesBy place gives z (port_of b) (told (other_side (side_of b)) (passing (whole old.bank (port_of b)) b)) (old.ready w) (new.ready w)) x.1 wakes) stays;
        timers = timers;
      }
