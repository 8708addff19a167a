-- A plain event touches the bank of its channel and no other, and asks no wait beside its own.
use Rattle.std.proofs.Common.{◌≡◌, ℕ, [], ◌∷◌, ◌++◌, List, Option, None, Some, Bool, true, false, cond, length, nat_lt, refl, sym, ap, ◌∙◌, eqb, map}
use Rattle.ca_term.specs.declared.event.Side.TheVariants.{Put, Take}
use Rattle.ca_term.specs.Event.{BranchView, put_of, take_of}
use Rattle.ca_term.specs.Operation.{OpView, choosing, closing, making, posting, printing, putting, registering, spawning, taking}
use Rattle.ca_meaning.specs.Choice.{branches_of, has_priority}
use Rattle.ca_meaning.specs.Wait.{Handler, port_of, side_of}
use Rattle.ca_bank.specs.Kept.{is_closed_at, queue_at, takes_one_more}
use Rattle.ca_commit.specs.Contents.{Kept, Parts, home, whole}
use Rattle.ca_commit.specs.Finding.{Glance, find_at, find_put, front_at, gone, is_promise_at, unready}
use Rattle.ca_commit.specs.InPlace.{IsPlainOperation}
use Rattle.ca_commit.specs.Just.{crowd_at, crowds, rival_at, rival_by, rivals}
use Rattle.ca_commit.specs.JustPlain.{PlainJust}
use Rattle.ca_commit.specs.Naming.{named_ports, listed_port}
use Rattle.ca_commit.specs.Standing.{nth_branch}
use Rattle.ca_commit.specs.Touched.{Drawn, homes}

twice : (n i : ℕ) → homes (n ∷ []) i ≡ homes (n ∷ n ∷ []) i
twice n i = by (eqb i (home n)) where
  by : (b : Bool) → cond b true false ≡ cond b true (cond b true false)
  by true = refl
  by false = refl

-- a plain operation names its channel alone
names_one : (kept : ℕ → Option Kept) (op : OpView) → IsPlainOperation kept op → named_ports op ≡ port_of (nth_branch (branches_of op) 0) ∷ []
names_one kept (taking c) plain = ap listed_port plain.0
names_one kept (putting c v) plain = ap listed_port plain.0.0
names_one kept (choosing ports priority default) plain = absurd plain
names_one kept (posting c v) plain = ap listed_port plain.0.0
names_one kept (making what) plain = absurd plain
names_one kept (spawning seed) plain = absurd plain
names_one kept (closing c) plain = absurd plain
names_one kept (registering name args) plain = absurd plain
names_one kept (printing line) plain = absurd plain

touches_one : (kept : ℕ → Option Kept) (op : OpView) → IsPlainOperation kept op → (i : ℕ) → homes ((port_of (nth_branch (branches_of op) 0) ∷ []) ++ []) i ≡ homes ((port_of (nth_branch (branches_of op) 0) ∷ []) ++ named_ports op) i
touches_one kept op plain i = twice (port_of (nth_branch (branches_of op) 0)) i ∙ ap (λ ns. homes (port_of (nth_branch (branches_of op) 0) ∷ ns) i) (sym (names_one kept op plain))

-- a put that isn't ready though nobody was asked has no rival
no_rival_by : (c p r : Bool) (t u : Option Handler) → unready ≡ find_put (λ w. gone) c p r t u → rival_by c p r t u ≡ []
no_rival_by true p r t u e = absurd cc
no_rival_by false true r t u e = absurd cc
no_rival_by false false true (Some h) u e = refl
no_rival_by false false false (Some h) u e = refl
no_rival_by false false true None (Some h) e = absurd cc
no_rival_by false false true None None e = refl
no_rival_by false false false None u e = refl

no_rival : (o : Option Kept) (b : BranchView) → ((see : ℕ → Glance) → unready ≡ find_at see o b) → rival_at o b ≡ []
no_rival o (take_of p) f = refl
no_rival o (put_of p v) f = no_rival_by (is_closed_at o) (is_promise_at o) (takes_one_more o) (front_at Take o) (front_at Put o) (f (λ w. gone))

no_crowd : (o : Option Kept) (b : BranchView) → nat_lt (length (queue_at (side_of b) o)) 1024 ≡ true → crowd_at o b ≡ []
no_crowd o b e = ap (λ c. cond c [] (map (λ h. h.wait) (queue_at (side_of b) o))) e

one_only : (kept : ℕ → Option Kept) (op : OpView) → IsPlainOperation kept op → branches_of op ≡ nth_branch (branches_of op) 0 ∷ []
one_only kept (taking c) plain = refl
one_only kept (putting c v) plain = refl
one_only kept (choosing ports priority default) plain = absurd plain
one_only kept (posting c v) plain = refl
one_only kept (making what) plain = absurd plain
one_only kept (spawning seed) plain = absurd plain
one_only kept (closing c) plain = absurd plain
one_only kept (registering name args) plain = absurd plain
one_only kept (printing line) plain = absurd plain

-- with priority or not, none stands before the first
asked_first : (x : Bool) → cond {A = List ℕ} x [] [] ≡ []
asked_first true = refl
asked_first false = refl

-- where it waits no other wait is asked
none_asked : {A : Type 0} (d : Drawn) (old : Parts A) (kept : ℕ → Option Kept) (op : OpView) → d.looked ≡ [] → IsPlainOperation kept op → whole old.bank (port_of (nth_branch (branches_of op) 0)) ≡ kept (port_of (nth_branch (branches_of op) 0))
    → ((see : ℕ → Glance) → unready ≡ find_at see (kept (port_of (nth_branch (branches_of op) 0))) (nth_branch (branches_of op) 0))
    → nat_lt (length (queue_at (side_of (nth_branch (branches_of op) 0)) (kept (port_of (nth_branch (branches_of op) 0))))) 1024 ≡ true
    → d.looked ≡ rivals (whole old.bank) (branches_of op) ++ crowds (whole old.bank) (branches_of op)
none_asked d old kept op looked plain same f few =
    let b = nth_branch (branches_of op) 0 in
    looked ∙ sym (
    ap (λ bs. rivals (whole old.bank) bs ++ crowds (whole old.bank) bs) (one_only kept op plain)
    ∙ ap (λ o. (rival_at o b ++ []) ++ (crowd_at o b ++ [])) same
    ∙ ap (λ r. (r ++ []) ++ (crowd_at (kept (port_of b)) b ++ [])) (no_rival (kept (port_of b)) b f)
    ∙ ap (λ r. r ++ []) (no_crowd (kept (port_of b)) b few))

pub plain_just : {A : Type 0} → PlainJust A
plain_just {A} d old kept op ports looked plain same =
    let b = nth_branch (branches_of op) 0 in
    let banks : (i : ℕ) → homes ((port_of b ∷ []) ++ d.ports) i ≡ homes ((port_of b ∷ []) ++ named_ports op) i = λ i. ap (λ ns. homes ((port_of b ∷ []) ++ ns) i) ports ∙ touches_one kept op plain i in (
      (λ t v. (banks, λ i. ap (λ ns. homes ns i) (looked ∙ sym (asked_first (has_priority op))))),
      (λ t wait o side v. (banks, λ i. ap (λ ns. homes (wait ∷ ns) i) (looked ∙ sym (asked_first (has_priority op))))),
      (λ f few. let none = none_asked d old kept op looked plain same f few in
          ((λ t wait. (banks, λ i. ap (λ ns. homes (wait ∷ ns) i) none)), (λ t wait v. (banks, λ i. ap (λ ns. homes (wait ∷ ns) i) none)))),
    )
