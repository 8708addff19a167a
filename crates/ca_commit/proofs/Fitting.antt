-- Which operations aren't refused: those with right operands whose waits find a place.
use Rattle.std.proofs.Common.{◌≡◌, ℕ, zero, suc, ◌+◌, ◌<◌, ◌≤◌, List, [], ◌∷◌, ◌++◌, length, refl, ap, ◌∙◌, arith, Bool, true, false, cond, Option, Some, None, slice_get, nat_le, length-append, leb-true, leb-false}
use Rattle.ca_value.specs.Tree.{Tree}
use Rattle.ca_term.specs.declared.fault.Fault.{Fault}
use Rattle.ca_term.specs.declared.event.Side.{Side}
use Rattle.ca_term.specs.Operation.{OpView, taking, putting, choosing, making, spawning, closing, registering, printing, posting}
use Rattle.ca_term.specs.Event.{BranchView}
use Rattle.ca_meaning.specs.Operands.{or_else}
use Rattle.ca_meaning.specs.Wait.{Wait, Handler, side_of, port_of, queue, handlers, joins, pending, is_on, brought}
use Rattle.ca_meaning.specs.State.{State}
use Rattle.ca_meaning.specs.Choice.{branches_of, default_of, row, is_ready, any_ready}
use Rattle.ca_meaning.specs.Refusal.{unfit, too_many, crowded, crowded_at, crowd_of, has_no_default, refusal}
use Rattle.ca_commit.specs.Contents.{alive}
use Rattle.ca_commit.specs.Holds.{live_of}

or_both : (a b : Option Fault) → a ≡ None → b ≡ None → or_else a b ≡ None
or_both a b e f = ap (λ x. or_else x b) e ∙ f

pub fits : (s : State) (op : OpView) → unfit s op ≡ None → too_many s op ≡ None → refusal s op ≡ None
fits s op e f = or_both (unfit s op) (too_many s op) e f

-- where a branch is ready, no wait joins
pub some_ready : (s : State) (bs : List BranchView) (k : ℕ) (b : BranchView) → slice_get bs k ≡ Some b → is_ready (row s b) ≡ true → any_ready s bs ≡ true
some_ready s [] k b e r = absurd (let j : None ≡ Some b = e in cc)
some_ready s (c ∷ bs) zero b e r = ap (λ x. cond x true (any_ready s bs)) (ap (λ y. is_ready (row s y)) (let j : c ≡ b = cc in j) ∙ r)
some_ready s (c ∷ bs) (suc k) b e r = by (is_ready (row s c)) (some_ready s bs k b e r) where
  by : (x : Bool) → any_ready s bs ≡ true → cond x true (any_ready s bs) ≡ true
  by true h = refl
  by false h = h

pub ready_fits : (s : State) (op : OpView) → any_ready s (branches_of op) ≡ true → too_many s op ≡ None
ready_fits s op e = ap (λ a. cond a None (cond (has_no_default op) (crowded s (branches_of op)) None)) e

-- an operation with a default joins no queue
pub default_fits : (s : State) (op : OpView) (v : Tree) → default_of op ≡ Some v → too_many s op ≡ None
default_fits s op v e = by (any_ready s (branches_of op)) (has_no_default op) (has op e) where
  has : (op : OpView) → default_of op ≡ Some v → has_no_default op ≡ false
  has (choosing ports priority (Some d)) e = refl
  has (choosing ports priority None) e = absurd (let k : None ≡ Some v = e in cc)
  has (taking c) e = absurd (let k : None ≡ Some v = e in cc)
  has (putting c w) e = absurd (let k : None ≡ Some v = e in cc)
  has (posting c w) e = absurd (let k : None ≡ Some v = e in cc)
  has (making what) e = absurd (let k : None ≡ Some v = e in cc)
  has (spawning seed) e = absurd (let k : None ≡ Some v = e in cc)
  has (closing c) e = absurd (let k : None ≡ Some v = e in cc)
  has (registering name args) e = absurd (let k : None ≡ Some v = e in cc)
  has (printing line) e = absurd (let k : None ≡ Some v = e in cc)

  by : (a b : Bool) → b ≡ false → cond a None (cond b (crowded s (branches_of op)) None) ≡ None
  by true b e = refl
  by false false e = refl
  by false true e = absurd (let k : true ≡ false = e in cc)

-- pending waits are at most the handlers of the queue
joins_some : (side : Side) (p w k : ℕ) (bs : List BranchView) → joins side p bs ≡ true → 1 ≤ length (handlers side p w k bs)
joins_some side p w k [] e = absurd (let j : false ≡ true = e in cc)
joins_some side p w k (b ∷ bs) e = by (is_on side p b) (λ f. joins_some side p w (suc k) bs f) e where
  by : (t : Bool) → (joins side p bs ≡ true → 1 ≤ length (handlers side p w (suc k) bs)) → cond t true (joins side p bs) ≡ true → 1 ≤ length (cond t (record { wait = w; branch = k; value = brought b } ∷ handlers side p w (suc k) bs) (handlers side p w (suc k) bs))
  by true ih e = omega arith
  by false ih e = ih e

pending_less : (side : Side) (p : ℕ) (ws : List Wait) → pending side p ws ≤ length (queue side p ws)
pending_less side p [] = omega arith
pending_less side p (x ∷ xs) = by (joins side p x.branches) refl (pending_less side p xs) where
  all : length (handlers side p x.number 0 x.branches ++ queue side p xs) ≡ length (handlers side p x.number 0 x.branches) + length (queue side p xs)
  all = length-append (handlers side p x.number 0 x.branches) (queue side p xs)

  by : (b : Bool) → joins side p x.branches ≡ b → pending side p xs ≤ length (queue side p xs) → cond b (suc (pending side p xs)) (pending side p xs) ≤ length (handlers side p x.number 0 x.branches ++ queue side p xs)
  by true e ih = let a = joins_some side p x.number 0 x.branches e in omega (arith, a, ih, all)
  by false e ih = omega (arith, ih, all)

filter_less : (alive : ℕ → Bool) (q : List Handler) → length (live_of alive q) ≤ length q
filter_less alive [] = omega arith
filter_less alive (h ∷ q) = by (alive h.wait) (filter_less alive q) where
  by : (b : Bool) → length (live_of alive q) ≤ length q → length (cond b (h ∷ live_of alive q) (live_of alive q)) ≤ suc (length q)
  by true e = omega (arith, e)
  by false e = omega (arith, e)

-- a short queue, stale handlers and all, has few pending waits: no shard is looked at
pub short_queue : (alive : ℕ → Bool) (side : Side) (p : ℕ) (ws : List Wait) (q : List Handler) → live_of alive q ≡ queue side p ws → length q < 1024 → pending side p ws < 1024
short_queue alive side p ws q e lt = let a = pending_less side p ws in let b = filter_less alive q in let c : length (live_of alive q) ≡ length (queue side p ws) = ap length e in omega (arith, a, b, c, lt)

pub few_at : (s : State) (b : BranchView) → pending (side_of b) (port_of b) s.waits < 1024 → crowded_at s b ≡ None
few_at s b lt = by (nat_le 1024 (pending (side_of b) (port_of b) s.waits)) refl where
  by : (x : Bool) → nat_le 1024 (pending (side_of b) (port_of b) s.waits) ≡ x → cond x (Some (crowd_of (side_of b))) None ≡ None
  by true e = absurd (let le = leb-true 1024 (pending (side_of b) (port_of b) s.waits) e in omega (arith, le, lt))
  by false e = refl

-- a queue with 1,024 pending waits or more has no place for one more
pub many_at : (s : State) (b : BranchView) → 1024 ≤ pending (side_of b) (port_of b) s.waits → crowded_at s b ≡ Some (crowd_of (side_of b))
many_at s b le = by (nat_le 1024 (pending (side_of b) (port_of b) s.waits)) refl where
  by : (x : Bool) → nat_le 1024 (pending (side_of b) (port_of b) s.waits) ≡ x → cond x (Some (crowd_of (side_of b))) None ≡ Some (crowd_of (side_of b))
  by true e = refl
  by false e = absurd (let lt = leb-false 1024 (pending (side_of b) (port_of b) s.waits) e in omega (arith, le, lt))

pub crowded_here : (s : State) (b : BranchView) (bs : List BranchView) (f : Fault) → crowded_at s b ≡ Some f → crowded s (b ∷ bs) ≡ Some f
crowded_here s b bs f e = ap (λ x. or_else x (crowded s bs)) e

pub crowded_later : (s : State) (b : BranchView) (bs : List BranchView) (f : Fault) → crowded_at s b ≡ None → crowded s bs ≡ Some f → crowded s (b ∷ bs) ≡ Some f
crowded_later s b bs f e g = ap (λ x. or_else x (crowded s bs)) e ∙ g

pub crowd_refuses : (s : State) (op : OpView) (f : Fault) → unfit s op ≡ None → any_ready s (branches_of op) ≡ false → has_no_default op ≡ true → crowded s (branches_of op) ≡ Some f → refusal s op ≡ Some f
crowd_refuses s op f e a b c = ap (λ x. or_else x (too_many s op)) e ∙ ap (λ r. cond r None (cond (has_no_default op) (crowded s (branches_of op)) None)) a ∙ ap (λ r. cond r (crowded s (branches_of op)) None) b ∙ c

pub few_more : (s : State) (b : BranchView) (bs : List BranchView) → pending (side_of b) (port_of b) s.waits < 1024 → crowded s bs ≡ None → crowded s (b ∷ bs) ≡ None
few_more s b bs lt e = or_both (crowded_at s b) (crowded s bs) (few_at s b lt) e

pub few_fits : (s : State) (op : OpView) → crowded s (branches_of op) ≡ None → too_many s op ≡ None
few_fits s op e = by (any_ready s (branches_of op)) (has_no_default op) where
  by : (a b : Bool) → cond a None (cond b (crowded s (branches_of op)) None) ≡ None
  by true b = refl
  by false true = e
  by false false = refl

-- a fault of the operands is the refusal
pub refuses : (s : State) (op : OpView) (f : Fault) → unfit s op ≡ Some f → refusal s op ≡ Some f
refuses s op f e = ap (λ x. or_else x (too_many s op)) e
