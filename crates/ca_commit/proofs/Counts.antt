-- How many waits are pending on one side of a channel, read off its queue.
use Rattle.std.proofs.Common.{◌≡◌, ℕ, suc, ◌+◌, List, [], ◌∷◌, ◌++◌, refl, sym, ap, ◌∙◌, arith, Bool, true, false, cond, Option, Some, None, eqb, eq-eqb, ne_eqb, is_some}
use Rattle.ca_term.specs.declared.event.Side.{Side}
use Rattle.ca_term.specs.Event.{BranchView}
use Rattle.ca_meaning.specs.Sound.{Each}
use Rattle.ca_meaning.specs.Wait.{Wait, Handler, queue, handlers, joins, pending, is_on, brought, head, is_live}
use Rattle.ca_meaning.proofs.Waits.{handlers_of, front_live}
use Rattle.ca_commit.specs.Contents.{Parked, Parts, alive_in, at_key, home}
use Rattle.ca_commit.specs.Holds.{WaitsDiffer, changes_at, groups, live_of}
use Rattle.ca_commit.specs.Moves.{AllSeen}
use Rattle.ca_commit.proofs.Holding.{filter_same}
use Rattle.ca_commit.proofs.Laid.{IsPart}

abbrev pub is_group : List Handler → ℕ
is_group [] = 0
is_group (h ∷ q) = 1

one_group : (w : ℕ) (hs q : List Handler) → Each (λ (h : Handler). h.wait ≡ w) hs → ((g : Handler) → head q ≡ Some g → eqb w g.wait ≡ false) → groups (hs ++ q) ≡ is_group hs + groups q
one_group w [] q a f = omega arith
one_group w (h ∷ []) q a f = ap (λ (n : ℕ). n + groups q) (by (head q) refl) where
  by : (o : Option Handler) → head q ≡ o → changes_at h.wait o ≡ 1
  by None e = refl
  by (Some g) e = ap (λ c. cond c 0 1) (ap (λ n. eqb n g.wait) a.0 ∙ f g e)
one_group w (h ∷ (g ∷ hs)) q a f = let r : groups ((g ∷ hs) ++ q) ≡ 1 + groups q = one_group w (g ∷ hs) q a.1 f in let s : eqb h.wait g.wait ≡ true = eq-eqb h.wait g.wait (a.0 ∙ sym a.1.0) in
    ap (λ c. cond c 0 1 + groups ((g ∷ hs) ++ q)) s ∙ (let z : 0 + groups ((g ∷ hs) ++ q) ≡ 1 + groups q = omega (arith, r) in z)

-- a wait joins a side exactly where it has a handler there
joins_is : (side : Side) (p w k : ℕ) (bs : List BranchView) (n : ℕ) → cond (joins side p bs) (suc n) n ≡ is_group (handlers side p w k bs) + n
joins_is side p w k [] n = omega arith
joins_is side p w k (b ∷ bs) n = by (is_on side p b) (joins_is side p w (suc k) bs n) where
  by : (t : Bool) → cond (joins side p bs) (suc n) n ≡ is_group (handlers side p w (suc k) bs) + n
      → cond (cond t true (joins side p bs)) (suc n) n ≡ is_group (cond t (record { wait = w; branch = k; value = brought b } ∷ handlers side p w (suc k) bs) (handlers side p w (suc k) bs)) + n
  by true ih = omega arith
  by false ih = ih

pub groups_are : (side : Side) (p : ℕ) (ws : List Wait) → WaitsDiffer ws → groups (queue side p ws) ≡ pending side p ws
groups_are side p [] d = refl
groups_are side p (x ∷ xs) d = one_group x.number (handlers side p x.number 0 x.branches) (queue side p xs) (handlers_of side p x.number 0 x.branches) (λ g e. other g (front_live side p xs g e))
    ∙ ap (λ n. is_group (handlers side p x.number 0 x.branches) + n) (groups_are side p xs d.1) ∙ sym (joins_is side p x.number 0 x.branches (pending side p xs)) where
      other : (g : Handler) → is_live g.wait xs ≡ true → eqb x.number g.wait ≡ false
      other g l = ne_eqb x.number g.wait (λ e. let k : true ≡ false = sym l ∙ ap (λ n. is_live n xs) (sym e) ∙ d.0 in absurd cc)

-- where the shards of all handlers are held, the held parts tell which are live
pub live_seen : {A : Type 0} (old now : Parts A) (q : List Handler) → IsPart old now → AllSeen old q → live_of (alive_in old) q ≡ live_of (alive_in now) q
live_seen {A} old now q part a = filter_same (λ (h : Handler). alive_in old h.wait) (λ (h : Handler). alive_in now h.wait) q (each q a) where
  each : (q : List Handler) → AllSeen old q → Each (λ (h : Handler). alive_in old h.wait ≡ alive_in now h.wait) q
  each [] a = tt
  each (h ∷ q) a = (ap (λ (o : Option (ℕ → Option (Parked A))). is_some (at_key o h.wait)) (a.0.1 ∙ sym (part.shards (home h.wait) a.0.0 a.0.1)), each q a.1)
