-- A take or a put becomes what is seen of its branch.
use Rattle.std.proofs.Common.{◌≡◌, ℕ, [], ◌∷◌, Option, None, Some, is_some, Bool, true, false, length, nat_lt, cond, refl, sym, ap, ◌∙◌}
use Rattle.ca_value.specs.Tree.{Tree, port}
use Rattle.ca_term.specs.declared.fault.Fault.TheVariants.{NilPut, NotAPort}
use Rattle.ca_term.specs.Event.{BranchView, put_of, take_of}
use Rattle.ca_term.specs.Operation.{OpView, choosing, closing, making, posting, printing, putting, registering, spawning, taking}
use Rattle.ca_meaning.specs.Body.{At}
use Rattle.ca_meaning.specs.Choice.{branches_of, parks}
use Rattle.ca_meaning.specs.Operands.{is_nil, or_else, port_of_value}
use Rattle.ca_meaning.specs.Refusal.{crowd_of, nil_put, not_a_channel}
use Rattle.ca_meaning.specs.Registry.{Registry}
use Rattle.ca_meaning.specs.Wait.{port_of, side_of}
use Rattle.ca_bank.specs.Kept.{queue_at}
use Rattle.ca_commit.specs.Branching.{single_branch}
use Rattle.ca_commit.specs.Contents.{Kept, Parked, Parts, at_key, channel_of, home, whole}
use Rattle.ca_commit.specs.Deciding.{seen_in}
use Rattle.ca_commit.specs.Finding.{Finding, Glance, alone, found_by_asking, find_at, glance, glance_at, glance_in, gone, here, partner, stale, unready}
use Rattle.ca_commit.specs.Holds.{groups}
use Rattle.ca_commit.specs.InPlace.{IsPlainOperation}
use Rattle.ca_commit.specs.PlainPlans.{IsSightSeen, PlainDone, PlainMeets, PlainStale, PlainWaits}
use Rattle.ca_commit.specs.Planning.{Planned, Seen, all_asked, chosen, counted_for, decided, is_alts, otherwise, planned, state_of, to_do, to_meet, to_park, to_post, to_refuse, unless_refused}
use Rattle.ca_commit.specs.Sights.{found_by}
use Rattle.ca_commit.specs.Standing.{branch_no, is_alts_at, nth_branch, op_at}
use Rattle.ca_commit.specs.declared.sight.Sight.{Sight}
use Rattle.ca_commit.proofs.BranchLaws.{one_is}

-- the one branch of a plain operation
abbrev one_of : OpView → BranchView
one_of op = nth_branch (branches_of op) 0

-- the operands of a plain operation are right, whatever else there is
channel_is : (ports : ℕ → Option Kept) (regs : ℕ → Option Registry) (c : Tree) → c ≡ port (port_of_value c) → is_some (ports (port_of_value c)) ≡ true → not_a_channel (state_of ports regs) c ≡ None
channel_is ports regs c e there = ap (not_a_channel (state_of ports regs)) e ∙ by (ports (port_of_value c)) there where
  by : (o : Option Kept) → is_some o ≡ true → cond (is_some (channel_of o)) None (Some NotAPort) ≡ None
  by None f = absurd cc
  by (Some k) f = refl

put_is : (ports : ℕ → Option Kept) (regs : ℕ → Option Registry) (c v : Tree) → c ≡ port (port_of_value c) → is_some (ports (port_of_value c)) ≡ true → is_nil v ≡ false → or_else (not_a_channel (state_of ports regs) c) (nil_put v) ≡ None
put_is ports regs c v e there real = ap (λ o. or_else o (nil_put v)) (channel_is ports regs c e there) ∙ ap (λ z. cond z (Some NilPut) None) real

-- what is seen at the port is what its bank has there
there_too : (kept ports : ℕ → Option Kept) (c : Tree) → ports (port_of_value c) ≡ kept (port_of_value c) → is_some (kept (port_of_value c)) ≡ true → is_some (ports (port_of_value c)) ≡ true
there_too kept ports c e f = ap is_some e ∙ f

-- a plain operation becomes what its branch decides
one_planned : (kept : ℕ → Option Kept) (x : Seen) (op : OpView) (start : ℕ) → IsPlainOperation kept op → x.ports (port_of (one_of op)) ≡ kept (port_of (one_of op)) → planned x op start ≡ single_branch x (parks op) (one_of op)
one_planned kept x (taking c) start plain same = ap (λ o. unless_refused x o (chosen x (taking c) start)) (channel_is x.ports x.registries c plain.0 (there_too kept x.ports c same plain.1)) ∙ one_is x start (take_of (port_of_value c)) (otherwise x (taking c) None)
one_planned kept x (putting c v) start plain same = ap (λ o. unless_refused x o (chosen x (putting c v) start)) (put_is x.ports x.registries c v plain.0.0 (there_too kept x.ports c same plain.0.1) plain.1) ∙ one_is x start (put_of (port_of_value c) v) (otherwise x (putting c v) None)
one_planned kept x (posting c v) start plain same = ap (λ o. unless_refused x o (chosen x (posting c v) start)) (put_is x.ports x.registries c v plain.0.0 (there_too kept x.ports c same plain.0.1) plain.1) ∙ one_is x start (put_of (port_of_value c) v) (otherwise x (posting c v) None)
one_planned kept x (choosing ports priority default) start plain same = absurd plain
one_planned kept x (making what) start plain same = absurd plain
one_planned kept x (spawning seed) start plain same = absurd plain
one_planned kept x (closing c) start plain same = absurd plain
one_planned kept x (registering name args) start plain same = absurd plain
one_planned kept x (printing line) start plain same = absurd plain

no_alts : (kept : ℕ → Option Kept) (op : OpView) → IsPlainOperation kept op → is_alts op ≡ false
no_alts kept (taking c) plain = refl
no_alts kept (putting c v) plain = refl
no_alts kept (posting c v) plain = refl
no_alts kept (choosing ports priority default) plain = absurd plain
no_alts kept (making what) plain = absurd plain
no_alts kept (spawning seed) plain = absurd plain
no_alts kept (closing c) plain = absurd plain
no_alts kept (registering name args) plain = absurd plain
no_alts kept (printing line) plain = absurd plain

-- what all of them show at n is what that part shows
pub shows_at : {X : Type 0} (m : ℕ → Option (ℕ → Option X)) (n : ℕ) (x : ℕ → Option X) → m (home n) ≡ Some x → whole m n ≡ x n
shows_at {X} m n x e = ap (λ (o : Option (ℕ → Option X)). at_key o n) e

-- where none is ready
abbrev waits_as : BranchView → Bool → Planned
waits_as b p = cond p (to_park (b ∷ [])) (to_post (b ∷ []))

-- so it becomes what is found
found_planned : {A : Type 0} (old : Parts A) (kept : ℕ → Option Kept) (at : At) (start : ℕ) (s : Sight) (f : Finding) → IsSightSeen old kept at s → f ≡ found_by s (glance old.shard)
    → planned (seen_in old) (op_at at) start ≡ decided f false 0 (branch_no at 0) (counted_for (seen_in old) (branch_no at 0) (waits_as (branch_no at 0) (parks (op_at at))))
found_planned old kept at start s f seen e =
    let b = branch_no at 0 in
    let shown = shows_at old.bank (port_of b) kept seen.was in
    one_planned kept (seen_in old) (op_at at) start seen.plain shown
    ∙ ap (λ z. decided z false 0 b (counted_for (seen_in old) b (waits_as b (parks (op_at at))))) (ap (λ o. find_at (glance old.shard) o b) shown ∙ sym (seen.found (glance old.shard)) ∙ sym e)

of_alts : {A : Type 0} (old : Parts A) (kept : ℕ → Option Kept) (at : At) (s : Sight) → IsSightSeen old kept at s → false ≡ is_alts_at at
of_alts old kept at s seen = sym (no_alts kept (op_at at) seen.plain)

pub plain_done : {A : Type 0} → PlainDone A
plain_done old kept at start seen = found_planned old kept at start Sight.Alone alone seen refl ∙ ap (λ c. to_do 0 (branch_no at 0) c) (of_alts old kept at Sight.Alone seen)

pub lives_here : {X : Type 0} (o : Option X) → is_some o ≡ true → here ≡ glance_in o
lives_here None e = absurd cc
lives_here (Some x) e = refl

pub not_here : {X : Type 0} (o : Option X) → is_some o ≡ false → gone ≡ glance_in o
not_here None e = refl
not_here (Some x) e = absurd cc

pub glanced : {A : Type 0} (old : Parts A) (w : ℕ) (from : ℕ → Option (Parked A)) (g : Glance) → old.shard (home w) ≡ Some from → g ≡ glance_in (from w) → g ≡ glance old.shard w
glanced {A} old w from g was e = e ∙ sym (ap (λ (o : Option (ℕ → Option (Parked A))). glance_at o w) was)

pub plain_meets : {A : Type 0} → PlainMeets A
plain_meets old kept at start side q from seen was lives =
    found_planned old kept at start (Sight.Meets side q) (partner q.wait.n q.branch) seen (ap (λ g. found_by_asking g side q.wait.n (partner q.wait.n q.branch)) (glanced old q.wait.n from here was (lives_here (from q.wait.n) lives)))
    ∙ ap (λ c. to_meet 0 (branch_no at 0) c q.wait.n q.branch) (of_alts old kept at (Sight.Meets side q) seen)

pub plain_stale : {A : Type 0} → PlainStale A
plain_stale old kept at start side q from seen was lives =
    found_planned old kept at start (Sight.Meets side q) (stale side) seen (ap (λ g. found_by_asking g side q.wait.n (partner q.wait.n q.branch)) (glanced old q.wait.n from gone was (not_here (from q.wait.n) lives)))

short : (x : Seen) (b : BranchView) (rest : Planned) → nat_lt (length (queue_at (side_of b) (x.ports (port_of b)))) 1024 ≡ true → counted_for x b rest ≡ rest
short x b rest e = let q = queue_at (side_of b) (x.ports (port_of b)) in ap (λ c. cond c rest (all_asked x (port_of b) (side_of b) 0 q (cond (nat_lt (groups q) 1024) rest (to_refuse (crowd_of (side_of b)))))) e

pub plain_waits : {A : Type 0} → PlainWaits A
plain_waits old kept at start seen =
    let b = branch_no at 0 in
    found_planned old kept at start Sight.Unready unready seen refl
    ∙ short (seen_in old) b (waits_as b (parks (op_at at))) (ap (λ (o : Option Kept). nat_lt (length (queue_at (side_of b) o)) 1024) (shows_at old.bank (port_of b) kept seen.was) ∙ seen.few)
