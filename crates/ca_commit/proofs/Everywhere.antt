-- An entry changes in its own part, which is the change of that entry in every part.
use Rattle.std.proofs.Common.{◌≡◌, ℕ, suc, List, [], ◌∷◌, refl, sym, ap, ◌∙◌, Bool, true, false, cond, Option, Some, None, option_map, eqb, eqb-true, eq-eqb, ne_eqb}
use Rattle.std.proofs.lemmas.Bool.{eqb-false}
use mathlib.Core.Logic.{dite}
use native.Mathlib.Decide.{ℕ_discrete}
use Rattle.ca_term.specs.Event.{BranchView}
use Rattle.ca_meaning.specs.Wait.{brought, is_among, port_of, side_of}
use Rattle.ca_bank.specs.Kept.{Kept, entry_changed, closed_channel, enqueued}
use Rattle.ca_bank.specs.Holds.{join_all}
use Rattle.ca_bank.specs.Standing.{enqueue_from}
use Rattle.ca_bank.proofs.AfterCalls.{queues_joined}
use Rattle.ca_commit.specs.Contents.{home}
use Rattle.ca_commit.specs.Holds.{shut_in, shut_kept}
use Rattle.ca_commit.specs.Listing.{changed_at}
use Rattle.ca_commit.specs.Parking.{queued_from}
use Rattle.ca_commit.specs.Running.{Placed}
use Rattle.ca_commit.specs.Ticking.{closed_all}
use Rattle.ca_commit.proofs.Laid.{same_map}
use Rattle.ca_commit.proofs.Placing.{placed_mapped}

fuse : {X Y Z : Type 0} (f : Y → Z) (g : X → Y) (o : Option X) → option_map f (option_map g o) ≡ option_map (λ x. f (g x)) o
fuse f g None = refl
fuse f g (Some x) = refl

unchanged : {X : Type 0} (o : Option X) → o ≡ option_map (λ x. x) o
unchanged None = refl
unchanged (Some x) = refl

module _ {X : Type 0} (p : ℕ) (f : X → X) where
  gone : (g : ℕ → Option X) → g p ≡ None → g ≡ entry_changed g p f
  gone g e = same_map g (entry_changed g p f) (λ q. by q (eqb p q) refl) where
    by : (q : ℕ) (b : Bool) → eqb p q ≡ b → g q ≡ cond b (option_map f (g p)) (g q)
    by q true is = ap g (sym (eqb-true p q is)) ∙ e ∙ sym (ap (option_map f) e)
    by q false is = refl

  pub at_home : (m : ℕ → Option (ℕ → Option X)) → Placed m → (i : ℕ) → changed_at p (option_map f) m i ≡ option_map (λ g. entry_changed g p f) (m i)
  at_home m placed i = by (eqb (home p) i) refl (m i) refl where
    other : (g : ℕ → Option X) (o : Option X) → m i ≡ Some g → eqb (home p) i ≡ false → g p ≡ o → g ≡ entry_changed g p f
    other g None is e there = gone g there
    other g (Some x) is e there = absurd (eqb-false (home p) i e (placed i p g x is there))

    by : (b : Bool) → eqb (home p) i ≡ b → (o : Option (ℕ → Option X)) → m i ≡ o → cond b (option_map (λ (g : ℕ → Option X). entry_changed g p f) o) o ≡ option_map (λ (g : ℕ → Option X). entry_changed g p f) o
    by true e o is = refl
    by false e None is = refl
    by false e (Some g) is = ap Some (other g (g p) is e refl)

  was_there : (g : ℕ → Option X) (k : ℕ) (x : X) → entry_changed g p f k ≡ Some x → (y : X) × (g k ≡ Some y)
  was_there g k x e = by (eqb p k) refl e where
    of : (o : Option X) → g p ≡ o → p ≡ k → option_map f o ≡ Some x → (y : X) × (g k ≡ Some y)
    of None is same e = absurd (let z : None ≡ Some x = e in cc)
    of (Some y) is same e = (y, ap g (sym same) ∙ is)

    by : (b : Bool) → eqb p k ≡ b → cond b (option_map f (g p)) (g k) ≡ Some x → (y : X) × (g k ≡ Some y)
    by true is e = of (g p) refl (eqb-true p k is) e
    by false is e = (x, e)

  pub placed_changed : (m : ℕ → Option (ℕ → Option X)) → Placed m → Placed (changed_at p (option_map f) m)
  placed_changed m placed = placed_mapped m (changed_at p (option_map f) m) (λ g. entry_changed g p f) was_there placed (at_home m placed)

queued_all : (w k : ℕ) (bs : List BranchView) (m : ℕ → Option (ℕ → Option Kept)) → Placed m → (i : ℕ) → queued_from w k bs m i ≡ option_map (enqueue_from w k bs) (m i)
queued_all w k [] m placed i = unchanged (m i)
queued_all w k (b ∷ bs) m placed i = queued_all w (suc k) bs (changed_at (port_of b) (option_map f) m) (placed_changed (port_of b) f m placed) i
    ∙ ap (option_map (enqueue_from w (suc k) bs)) (at_home (port_of b) f m placed i) ∙ fuse (enqueue_from w (suc k) bs) (λ g. entry_changed g (port_of b) f) (m i) where
      f : Kept → Kept
      f = enqueued (side_of b) (record { wait = w; branch = k; value = brought b })

-- handlers that join their queues one by one are where the new wait is to have them
pub queued_joins : (w : ℕ) (bs : List BranchView) (m : ℕ → Option (ℕ → Option Kept)) → Placed m → (i : ℕ) → queued_from w 0 bs m i ≡ option_map (join_all w bs) (m i)
queued_joins w bs m placed i = queued_all w 0 bs m placed i ∙ ap (λ (f : (ℕ → Option Kept) → ℕ → Option Kept). option_map f (m i)) (λ j ports q. queues_joined w bs ports q j)

closed_more : (p : ℕ) (ps : List ℕ) (g : ℕ → Option Kept) (q : ℕ) → shut_in ps (entry_changed g p closed_channel) q ≡ shut_in (p ∷ ps) g q
closed_more p ps g q = dite (ℕ_discrete p q)
    (λ e. ap (λ b. after (is_among q ps) (cond b (option_map closed_channel (g p)) (g q))) (eq-eqb p q e) ∙ ap (λ (z : ℕ). after (is_among q ps) (option_map closed_channel (g z))) e ∙ by (is_among q ps) (g q) ∙ sym (ap (λ c. cond (cond c true (is_among q ps)) (option_map shut_kept (g q)) (g q)) (eq-eqb q p (sym e))))
    (λ ne. ap (λ b. after (is_among q ps) (cond b (option_map closed_channel (g p)) (g q))) (ne_eqb p q ne) ∙ sym (ap (λ c. cond (cond c true (is_among q ps)) (option_map shut_kept (g q)) (g q)) (ne_eqb q p (λ e. ne (sym e))))) where
      after : Bool → Option Kept → Option Kept
      after b o = cond b (option_map shut_kept o) o

      by : (b : Bool) (o : Option Kept) → after b (option_map closed_channel o) ≡ option_map shut_kept o
      by true None = refl
      by true (Some k) = refl
      by false None = refl
      by false (Some k) = refl

-- channels that are closed one by one are closed in every bank
pub closed_shuts : (ps : List ℕ) (m : ℕ → Option (ℕ → Option Kept)) → Placed m → (i : ℕ) → closed_all ps m i ≡ option_map (shut_in ps) (m i)
closed_shuts [] m placed i = unchanged (m i)
closed_shuts (p ∷ ps) m placed i = closed_shuts ps (changed_at p (option_map closed_channel) m) (placed_changed p closed_channel m placed) i
    ∙ ap (option_map (shut_in ps)) (at_home p closed_channel m placed i) ∙ fuse (shut_in ps) (λ g. entry_changed g p closed_channel) (m i) ∙ ap (λ (f : (ℕ → Option Kept) → ℕ → Option Kept). option_map f (m i)) (λ j g q. closed_more p ps g q j)
