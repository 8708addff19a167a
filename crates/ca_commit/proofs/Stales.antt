-- A handler on which a decision hangs, stale or unseen: it stands in front of its queue, and its wait is gone from a held
-- shard, or that isn't held.
use Rattle.std.proofs.Common.{◌≡◌, inl, ℕ, refl, sym, ap, ◌∙◌, subst, Bool, Option, Some, None, slice_get}
use Rattle.ca_term.specs.declared.event.Side.{Side}
use Rattle.ca_term.specs.declared.event.Side.TheVariants.{Take, Put}
use Rattle.ca_term.specs.Operation.{OpView}
use Rattle.ca_term.specs.Event.{BranchView}
use Rattle.ca_meaning.specs.Wait.{head, port_of}
use Rattle.ca_commit.specs.Asks.{Asks, AsksSettle}
use Rattle.ca_commit.specs.Contents.{Kept, Parts, home, on, whole}
use Rattle.ca_commit.specs.Deciding.{AsksFor, HangsOnStale, HangsOnUnseen, IsStale, IsUnseen, RestsOnStale, RestsOnUnseen}
use Rattle.ca_commit.specs.Finding.{Finding, Serving, find_at, glance, glance_at, glance_in, gone, rests_on_stale, rests_on_unheld, settle_at, stale, unheld, unseen}
use Rattle.ca_commit.specs.Moves.{PicksIn}
use Rattle.ca_commit.proofs.Fronts.{head_is}
use Rattle.ca_commit.proofs.Halts.{Asked, AskedUnseen, Halts, Rests, found_halts, front_of, settled_rests}

gone_from : {X : Type 0} (o : Option (ℕ → Option X)) (w : ℕ) → glance_at o w ≡ gone → (f : ℕ → Option X) × (o ≡ Some f) × (f w ≡ None)
gone_from None w e = absurd cc
gone_from {X} (Some f) w e = by (f w) refl e where
  by : (z : Option X) → f w ≡ z → glance_in z ≡ gone → (g : ℕ → Option X) × (Some f ≡ Some g) × (g w ≡ None)
  by None is e = (f, refl, is)
  by (Some x) is e = absurd cc

unheld_from : {X : Type 0} (o : Option (ℕ → Option X)) (w : ℕ) → glance_at o w ≡ unseen → o ≡ None
unheld_from None w e = refl
unheld_from {X} (Some f) w e = by (f w) e where
  by : (z : Option X) → glance_in z ≡ unseen → Some f ≡ None
  by None e = absurd cc
  by (Some x) e = absurd cc

front_on : (side : Side) (k : Kept) → front_of side (head k.takes) (head k.puts) ≡ slice_get (on side k) 0
front_on Take k = head_is k.takes
front_on Put k = head_is k.puts

module _ {A : Type 0} (h : Parts A) where
  -- the handler in front, as the channel's row asks it
  stale_there : (asks : Kept → (ℕ → Bool) → Type 0) (p : ℕ) (k : Kept) (side : Side) → whole h.bank p ≡ Some k → Asked (glance h.shard) (asks k) (head k.takes) (head k.puts) side gone
      → (stale : IsStale h p side 0) × AsksFor stale.handler.wait (asks stale.kept)
  stale_there asks p k side there a =
      let f = gone_from (h.shard (home a.handler.wait)) a.handler.wait a.seen in
      (record { kept = k; there = there; handler = a.handler; at_place = sym (front_on side k) ∙ a.front; from = f.0; shard = f.1; gone = f.2 }, a.asked)

  unseen_there : (asks : Kept → (ℕ → Bool) → Type 0) (p : ℕ) (k : Kept) (w : ℕ) → whole h.bank p ≡ Some k → AskedUnseen (glance h.shard) (asks k) (head k.takes) (head k.puts) w
      → (side : Side) × (unseen : IsUnseen h p side 0) × (unseen.handler.wait ≡ w) × AsksFor w (asks unseen.kept)
  unseen_there asks p k w there a = (
    a.0,
    record { kept = k; there = there; handler = a.1.handler; at_place = sym (front_on a.0 k) ∙ a.1.front; unheld = unheld_from (h.shard (home a.1.handler.wait)) a.1.handler.wait a.1.seen },
    a.2,
    subst (λ (v : ℕ). AsksFor v (asks k)) a.2 a.1.asked,
  )

  halts : (b : BranchView) (k : Kept) (f : Finding) → whole h.bank (port_of b) ≡ Some k → find_at (glance h.shard) (whole h.bank (port_of b)) b ≡ f → Halts (glance h.shard) (λ alive. Asks alive b k) (head k.takes) (head k.puts) f
  halts b k f there e = subst (Halts (glance h.shard) (λ alive. Asks alive b k) (head k.takes) (head k.puts)) (ap (λ o. find_at (glance h.shard) o b) (sym there) ∙ e) (found_halts (glance h.shard) k b)

  -- on which a branch hangs
  pub found_stale : (op : OpView) (n : ℕ) (b : BranchView) (k : Kept) (side : Side) → PicksIn h op n b → whole h.bank (port_of b) ≡ Some k → find_at (glance h.shard) (whole h.bank (port_of b)) b ≡ stale side → HangsOnStale h op (port_of b) side 0
  found_stale op n b k side picked there e =
      let s = stale_there (λ j alive. Asks alive b j) (port_of b) k side there (halts b k (stale side) there e) in
      (s.0, record { number = n; branch = b; picked = picked; at_port = refl; why = inl (refl, s.1) })

  pub found_unseen : (op : OpView) (n : ℕ) (b : BranchView) (k : Kept) (w : ℕ) → PicksIn h op n b → whole h.bank (port_of b) ≡ Some k → find_at (glance h.shard) (whole h.bank (port_of b)) b ≡ unheld w → HangsOnUnseen h op w
  found_unseen op n b k w picked there e =
      let s = unseen_there (λ j alive. Asks alive b j) (port_of b) k w there (halts b k (unheld w) there e) in
      (port_of b, s.0, 0, s.1, s.2, record { number = n; branch = b; picked = picked; at_port = refl; why = inl (refl, s.3) })

  -- on which hangs what a channel settles
  rests_at : (k : Kept) (f : Serving) → settle_at (glance h.shard) (Some k) ≡ f → Rests (glance h.shard) (λ alive. AsksSettle alive k) (head k.takes) (head k.puts) f
  rests_at k f e = subst (Rests (glance h.shard) (λ alive. AsksSettle alive k) (head k.takes) (head k.puts)) e (settled_rests (glance h.shard) k)

  pub rests_stale : (p : ℕ) (side : Side) → settle_at (glance h.shard) (whole h.bank p) ≡ rests_on_stale side → RestsOnStale h p side
  rests_stale p side e = by (whole h.bank p) refl e where
    by : (o : Option Kept) → whole h.bank p ≡ o → settle_at (glance h.shard) o ≡ rests_on_stale side → RestsOnStale h p side
    by None is e = absurd cc
    by (Some k) is e = stale_there (λ j alive. AsksSettle alive j) p k side is (rests_at k (rests_on_stale side) e)

  pub rests_unseen : (p w : ℕ) → settle_at (glance h.shard) (whole h.bank p) ≡ rests_on_unheld w → RestsOnUnseen h p w
  rests_unseen p w e = by (whole h.bank p) refl e where
    by : (o : Option Kept) → whole h.bank p ≡ o → settle_at (glance h.shard) o ≡ rests_on_unheld w → RestsOnUnseen h p w
    by None is e = absurd cc
    by (Some k) is e = unseen_there (λ j alive. AsksSettle alive j) p k w is (rests_at k (rests_on_unheld w) e)

  pub settle_stale : (p : ℕ) (side : Side) → settle_at (glance h.shard) (whole h.bank p) ≡ rests_on_stale side → IsStale h p side 0
  settle_stale p side e = (rests_stale p side e).0
