-- A channel that settles, and a stale handler that is pruned: the worker may draw it, and its lane is not touched.
use Rattle.std.proofs.Common.{◌≡◌, ◌≢◌, ◌∙◌, ℕ, List, [], ◌∷◌, refl, sym, ap, subst, true, false, cond, Option, Some, None, option_map, eqb, is_some}
use Rattle.ca_value.specs.Tree.{Tree}
use Rattle.ca_term.specs.declared.event.Event.{Event}
use Rattle.ca_term.specs.declared.event.Side.{Side}
use Rattle.ca_term.specs.Event.{EventView, event_view, settled}
use Rattle.ca_term.specs.Operation.{SeedView}
use Rattle.ca_term.specs.Program.{ProgramView}
use Rattle.ca_meaning.specs.Body.{At}
use Rattle.ca_meaning.specs.Wait.{told}
use Rattle.ca_bank.specs.Kept.{pruned}
use Rattle.ca_commit.specs.Agents.{TaskAgent}
use Rattle.ca_commit.specs.ChannelMoves.{MovesSettle}
use Rattle.ca_commit.specs.Contents.{Content, LaneView, Parts, TimersPart, home, whole}
use Rattle.ca_commit.specs.Deciding.{IsStale}
use Rattle.ca_commit.specs.Finding.{glance, serves, settle_at}
use Rattle.ca_commit.specs.Listing.{changed_at}
use Rattle.ca_commit.specs.Moves.{Stays}
use Rattle.ca_commit.specs.Moving.{MovesTurn}
use Rattle.ca_commit.specs.Settling.{IsSettled, value_settled}
use Rattle.ca_commit.specs.Showing.{channels_held, waits_held}
use Rattle.ca_commit.specs.SilentMoves.{MovesPrune}
use Rattle.ca_commit.specs.Touched as said
use Rattle.ca_commit.specs.Waking.{WakesBy, ready_in}
use Rattle.ca_commit.specs.declared.held.Held.{Held}
use Rattle.ca_commit.proofs.EventMoves.{prune_moves}
use Rattle.ca_commit.proofs.SettleMoves.{settle_moves}
use Rattle.ca_table.specs.Bearing.{parts_held}
use Rattle.ca_table.specs.Carrying.{Carries, carried}
use Rattle.ca_table.specs.Covering.{Covers}
use Rattle.ca_table.specs.Halting.{KeepAll}
use Rattle.ca_table.specs.Needing.{Brings, drawn_with}
use Rattle.ca_table.proofs.Applied.{other_none, own, own_ready, own_two}
use Rattle.ca_table.proofs.Needing.{covers_by, in_bank, in_shard, shard_held}
use Rattle.ca_table.proofs.PlanCovered.{no_stall}

module _ {A : Type 0} (w : ℕ) (lane : Option (LaneView (TaskAgent A))) (timers : Option TimersPart) (held held2 : Held A) where
  abbrev old : Parts (TaskAgent A)
  old = parts_held w lane timers held

  abbrev new : Parts (TaskAgent A)
  new = parts_held w lane timers held2

  stay : ready_in held2.ready ≡ ready_in held.ready → Stays old.ready new.ready
  stay e i = ap (λ o. cond (eqb w i) o None) e

  module _ (place : A → At) (advances : ProgramView → A → A → Type 0) (gives : A → Tree → A → Type 0) (starts : ProgramView → SeedView → A → Type 0) (n p wait o : ℕ) (side : Side) (e : Event) where
    abbrev value : Tree
    value = value_settled side (whole (channels_held held.banks) p)

    -- what a channel served moves the parts
    pub settled_turns : settle_at (glance (waits_held held.shards)) (whole (channels_held held.banks) p) ≡ serves side wait o → is_some held.ready ≡ true → IsSettled place gives held held2 p side wait o e → MovesTurn place advances gives starts w n (said.shown (event_view e)) old new
    settled_turns served ready is = let q = own_ready w lane timers held ready in
        subst (λ (e : EventView). MovesTurn place advances gives starts w n (said.shown e) old new) (sym is.event)
        (settle_moves place advances gives old new w wait o p side q.0 served is.channels is.registries is.waits q.1
        (λ i ne. other_none w i (ready_in held2.ready) ne ∙ sym (other_none w i (ready_in held.ready) ne))
        (λ same. stay (sym (own w (ready_in held2.ready)) ∙ same ∙ own w (ready_in held.ready)))
        (own_two w (λ x y. WakesBy place gives (whole (waits_held held.shards) wait) p (told side value) x y) (ready_in held.ready) (ready_in held2.ready) is.wakes)
        (λ i. refl) refl)

  -- and a stale handler that leaves its queue
  pub pruned_turns : (place : A → At) (advances : ProgramView → A → A → Type 0) (gives : A → Tree → A → Type 0) (starts : ProgramView → SeedView → A → Type 0) (n p i : ℕ) (side : Side) (stale : IsStale old p side i)
      → ((j : ℕ) → channels_held held2.banks j ≡ changed_at p (option_map (pruned side i)) (channels_held held.banks) j) → KeepAll held held2 → MovesTurn place advances gives starts w n (said.prunes side p stale.handler.wait) old new
  pruned_turns place advances gives starts n p i side stale changed keep = prune_moves old new p side i stale changed keep.registries keep.waits (λ j. refl) (stay keep.ready) refl

module _ {A X : Type 0} (f g : X → Content A) (w n : ℕ) (h : Carries X) (away : h.lane ≡ None) where
  -- they cover what is carried beside the lane
  pub settled_covers : (place : A → At) (wakes : A → Tree → A → Type 0) (wait k p : ℕ) (side : Side) (v : Tree) (ports looked : List ℕ) → MovesSettle place wakes w wait k side p v (carried f w h) (carried g w h) → Brings ports looked false (Some w) h
      → Covers (drawn_with w n (said.shown (settled wait k side p v)) ports looked) h
  settled_covers place wakes wait k p side v ports looked m brings = covers_by h w n (said.shown (settled wait k side p v)) ports looked (record { lane = false; ports = p ∷ []; waits = wait ∷ []; timers = false; ready = Some w }) (no_stall (settled wait k side p v)) refl
      (sym (ap is_some away)) brings (in_bank f w h p m.kept m.there, tt) (in_shard f w h wait (ap is_some m.lives), tt)

  no_prune_stall : (side : Side) (p wait : ℕ) → said.prunes side p wait ≢ said.stalls
  no_prune_stall side p wait e = cc

  pub pruned_covers : (side : Side) (p wait : ℕ) (ports looked : List ℕ) → MovesPrune side p wait (carried f w h) (carried g w h) → Brings ports looked false None h → Covers (drawn_with w n (said.prunes side p wait) ports looked) h
  pruned_covers side p wait ports looked m brings = covers_by h w n (said.prunes side p wait) ports looked (record { lane = false; ports = p ∷ []; waits = wait ∷ []; timers = false; ready = None }) (no_prune_stall side p wait) refl
      (sym (ap is_some away)) brings (in_bank f w h p m.kept m.there, tt) (subst (λ (k : ℕ). is_some (h.shards (home k)) ≡ true) m.wait_is (shard_held f w h (home m.h.wait) m.from m.shard), tt)
