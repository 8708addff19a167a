-- Ports stay in their own banks, waits in their own shards.
use Rattle.std.proofs.Common.{⊎_elim, ◌≡◌, ℕ, List, refl, sym, ap, ◌∙◌, Bool, true, false, cond, Option, Some, None, option_map, eqb, eqb-true}
use Rattle.std.specs.Map.{update}
use mathlib.Core.Logic.{dite}
use native.Mathlib.Decide.{ℕ_discrete}
use Rattle.ca_value.specs.Tree.{Tree}
use Rattle.ca_term.specs.declared.event.Ending.TheVariants.{Ended, Faulted}
use Rattle.ca_term.specs.Program.{ProgramView}
use Rattle.ca_term.specs.Operation.{SeedView}
use Rattle.ca_term.specs.Event.{EventView, BranchView, made, spawned, done, met, parked, posted, settled, defaulted, closed, registered, printed, ticked, over, port_number}
use Rattle.ca_meaning.specs.Body.{At}
use Rattle.ca_commit.specs.Agents.{TaskAgent}
use Rattle.ca_commit.specs.ChannelMoves.{Joins}
use Rattle.ca_commit.specs.Contents.{Kept, LaneView, Parked, Parts, home, whole}
use Rattle.ca_commit.specs.Holds.{join_all, shut_in, shut_kept}
use Rattle.ca_commit.specs.Moves.{Alters, Stays}
use Rattle.ca_commit.specs.Moving.{MovesShown, MovesTurn}
use Rattle.ca_commit.specs.Running.{AllPlaced, Placed, or_was}
use Rattle.ca_commit.specs.SilentMoves.{StayPut}
use Rattle.ca_commit.specs.TaskMoves.{ShutsAt}
use Rattle.ca_commit.specs.Touched.{Turn, asks_clock, fails, halts, picks, prunes, shown, stalls, stops, yields}
use Rattle.ca_commit.proofs.Joining.{joined_there}
use Rattle.ca_commit.proofs.Laid.{IsPart, Within, laid, laid_parts}
use Rattle.ca_commit.proofs.Seats.{some_same}
use Rattle.ca_commit.proofs.Ticking.{shut_old}

module _ {X : Type 0} where
  placed_within : (old now : ℕ → Option (ℕ → Option X)) → Within old now → Placed now → Placed old
  placed_within old now w h i k f x e g = h i k f x (w i f e) g

  placed_stays : (old new : ℕ → Option (ℕ → Option X)) → Placed old → Stays old new → Placed new
  placed_stays old new h s i k f x e g = h i k f x (sym (s i) ∙ e) g

  placed_alters : (old new : ℕ → Option (ℕ → Option X)) (n : ℕ) (w : Option X) → Placed old → Alters old new n w → Placed new
  placed_alters old new n w h a i k f x e g = dite (ℕ_discrete i (home n))
      (λ is. let same : update eqb a.from n w ≡ f = some_same (update eqb a.from n w) f (sym a.is ∙ ap new (sym is) ∙ e) in by (eqb n k) is refl (ap (λ (z : ℕ → Option X). z k) same ∙ g))
      (λ ne. h i k f x (sym (a.others i ne) ∙ e) g) where
        by : (b : Bool) → i ≡ home n → eqb n k ≡ b → cond b w (a.from k) ≡ Some x → home k ≡ i
        by true is e2 v = ap home (sym (eqb-true n k e2)) ∙ sym is
        by false is e2 v = h (home n) k a.from x a.was v ∙ sym is

  -- every part changes by a map that makes no entry
  pub placed_mapped : (old new : ℕ → Option (ℕ → Option X)) (change : (ℕ → Option X) → ℕ → Option X) → ((g : ℕ → Option X) (k : ℕ) (x : X) → change g k ≡ Some x → (y : X) × (g k ≡ Some y)) → Placed old → ((i : ℕ) → new i ≡ option_map change (old i)) → Placed new
  placed_mapped old new change none h m i k f x e g = by (old i) refl (sym (m i) ∙ e) where
    by : (o : Option (ℕ → Option X)) → old i ≡ o → option_map change o ≡ Some f → home k ≡ i
    by None is z = absurd (let y : None ≡ Some f = z in cc)
    by (Some u) is z = let same : change u ≡ f = cc in let there = none u k x (ap (λ (t : ℕ → Option X). t k) same ∙ g) in h i k u there.0 is there.1

  placed_laid : (now new : ℕ → Option (ℕ → Option X)) → Placed now → Placed new → Placed (laid now new)
  placed_laid now new h g i k f x e v = by (new i) refl e where
    by : (o : Option (ℕ → Option X)) → new i ≡ o → or_was o (now i) ≡ Some f → home k ≡ i
    by None is z = h i k f x z v
    by (Some u) is z = g i k f x (is ∙ z) v

pub all_within : {A : Type 0} (old now : Parts A) → IsPart old now → AllPlaced now → AllPlaced old
all_within old now p h = (placed_within old.bank now.bank p.banks h.0, placed_within old.registry now.registry p.registries h.1, placed_within old.shard now.shard p.shards h.2)

pub all_laid : {A : Type 0} (now new : Parts A) → AllPlaced now → AllPlaced new → AllPlaced (laid_parts now new)
all_laid now new h g = (placed_laid now.bank new.bank h.0 g.0, placed_laid now.registry new.registry h.1 g.1, placed_laid now.shard new.shard h.2 g.2)

module _ {A : Type 0} (old new : Parts A) (h : AllPlaced old) where
  all_stay : Stays old.bank new.bank → Stays old.registry new.registry → Stays old.shard new.shard → AllPlaced new
  all_stay a b c = (placed_stays old.bank new.bank h.0 a, placed_stays old.registry new.registry h.1 b, placed_stays old.shard new.shard h.2 c)

  bank_alters : (n : ℕ) (w : Option Kept) → Alters old.bank new.bank n w → Stays old.registry new.registry → Stays old.shard new.shard → AllPlaced new
  bank_alters n w a b c = (placed_alters old.bank new.bank n w h.0 a, placed_stays old.registry new.registry h.1 b, placed_stays old.shard new.shard h.2 c)

  both_alter : (n v : ℕ) (w : Option Kept) (x : Option (Parked A)) → Alters old.bank new.bank n w → Stays old.registry new.registry → Alters old.shard new.shard v x → AllPlaced new
  both_alter n v w x a b c = (placed_alters old.bank new.bank n w h.0 a, placed_stays old.registry new.registry h.1 b, placed_alters old.shard new.shard v x h.2 c)

  wait_joins : (w n wait : ℕ) (bs : List BranchView) (x : Parked A) (l l2 : LaneView A) → Joins w n wait bs x l l2 old new → AllPlaced new
  wait_joins w n wait bs x l l2 m = (placed_mapped old.bank new.bank (join_all wait bs) (λ g k y e. joined_there wait bs g k y e) h.0 m.banks, placed_stays old.registry new.registry h.1 m.registries, placed_alters old.shard new.shard wait (Some x) h.2 m.shards)

  shuts : (r : Option ℕ) → ShutsAt r old.bank new.bank → Stays old.registry new.registry → Stays old.shard new.shard → AllPlaced new
  shuts None a b c = all_stay a b c
  shuts (Some p) a b c = bank_alters p (option_map shut_kept (whole old.bank p)) a b c

  others_stay : StayPut old new → AllPlaced new
  others_stay o = all_stay o.banks o.registries o.shards

module _ {A : Type 0} (place : A → At) (advances : ProgramView → A → A → Type 0) (gives : A → Tree → A → Type 0) (starts : ProgramView → SeedView → A → Type 0) where
  shown_placed : (old new : Parts (TaskAgent A)) (w n : ℕ) (e : EventView) → AllPlaced old → MovesShown place advances gives starts w n e old new → AllPlaced new
  shown_placed old new w n (made t p what moment) h m = (placed_alters old.bank new.bank p _ h.0 m.banks, placed_alters old.registry new.registry p _ h.1 m.registries, placed_stays old.shard new.shard h.2 m.shards)
  shown_placed old new w n (spawned t u kind r) h m = all_stay old new h m.banks m.registries m.shards
  shown_placed old new w n (done t k b v) h m = bank_alters old new h _ _ m.banks m.registries m.shards
  shown_placed old new w n (met t k side p v wait o) h m = both_alter old new h _ wait _ None m.banks m.registries m.shards
  shown_placed old new w n (parked t wait bs) h m = wait_joins old new h w n wait bs _ _ _ m.joins
  shown_placed old new w n (posted t wait p v) h m = wait_joins old new h w n wait _ _ _ _ m.joins
  shown_placed old new w n (settled wait k side p v) h m = both_alter old new h p wait _ None m.banks m.registries m.shards
  shown_placed old new w n (defaulted t v) h m = all_stay old new h m.banks m.registries m.shards
  shown_placed old new w n (closed t p) h m = bank_alters old new h p _ m.banks m.registries m.shards
  shown_placed old new w n (registered t name args v) h m = (placed_stays old.bank new.bank h.0 m.banks, placed_alters old.registry new.registry _ _ h.1 m.registries, placed_stays old.shard new.shard h.2 m.shards)
  shown_placed old new w n (printed t line) h m = all_stay old new h m.banks m.registries m.shards
  shown_placed old new w n (ticked moment ports) h m = (placed_mapped old.bank new.bank (shut_in ports) (λ g k y e. shut_old ports g k y e) h.0 m.banks, placed_stays old.registry new.registry h.1 m.registries, placed_stays old.shard new.shard h.2 m.shards)
  shown_placed old new w n (over t Ended) h m = all_stay old new h m.banks m.halts.registries m.halts.shards
  shown_placed old new w n (over t (Faulted f at r)) h m = ⊎_elim (λ k. shuts old new h (option_map port_number r) m.banks k.registries k.shards)
      (λ k. ⊎_elim (λ j. shuts old new h (option_map port_number r) m.banks j.1.registries j.1.shards) (λ j. shuts old new h (option_map port_number r) m.banks j.1.registries j.1.shards) k) m.halts

  pub turn_placed : (old new : Parts (TaskAgent A)) (w n : ℕ) (what : Turn) → AllPlaced old → MovesTurn place advances gives starts w n what old new → AllPlaced new
  turn_placed old new w n (shown e) h m = shown_placed old new w n e h m
  turn_placed old new w n (picks r) h m = others_stay old new h m.others
  turn_placed old new w n yields h m = others_stay old new h m.others
  turn_placed old new w n (prunes side p wait) h m = bank_alters old new h p _ m.banks m.registries m.shards
  turn_placed old new w n asks_clock h m = all_stay old new h m.banks m.registries m.shards
  turn_placed old new w n fails h m = all_stay old new h m.banks m.registries m.shards
  turn_placed old new w n stops h m = all_stay old new h m.banks m.registries m.shards
  turn_placed old new w n halts h m = all_stay old new h m.banks m.registries m.shards
  turn_placed old new w n stalls h m = others_stay old new h m.others
