-- What is seen of the branches of an alts decides what it becomes.
use Rattle.std.proofs.Common.{◌≡◌, ℕ, zero, suc, ◌+◌, ◌<◌, ◌%◌, List, [], ◌∷◌, length, take, drop, Option, None, Bool, true, cond, refl, sym, ap, ◌∙◌, subst, arith}
use Rattle.ca_value.specs.Tree.{Tree}
use Rattle.ca_value.specs.View.{trees}
use Rattle.ca_value.specs.declared.value.Value.{Value}
use Rattle.ca_term.specs.Event.{BranchView}
use Rattle.ca_term.specs.Operation.{OpView, choosing}
use Rattle.ca_meaning.specs.Body.{At}
use Rattle.ca_meaning.specs.Choice.{branches_of, default_of}
use Rattle.ca_meaning.specs.Refusal.{bad_choice, unfit}
use Rattle.ca_commit.specs.Branching.{branches_in}
use Rattle.ca_commit.specs.Choosing.{ChoosesAs, IsChosen, IsDecisive, IsIdle, IsSeenAt}
use Rattle.ca_commit.specs.Finding.{Glance, gone, here, unseen}
use Rattle.ca_commit.specs.Planning.{Planned, Seen, decided, first_from, fitting, found_of, in_turn, is_alts, otherwise, planned, state_of, to_print, unless_refused}
use Rattle.ca_commit.specs.Showing.{seen_by, state_held}
use Rattle.ca_commit.specs.Sights.{asked_of, found_by, found_with}
use Rattle.ca_commit.specs.Standing.{branch_no, nth_branch, op_at}
use Rattle.ca_commit.specs.declared.choosing.Choice.{Choice}
use Rattle.ca_commit.specs.declared.held.HeldBank.{HeldBank}
use Rattle.ca_commit.specs.declared.listing.Listing.{Listing}
use Rattle.ca_commit.specs.declared.sight.Sight.{Sight}
use Rattle.ca_commit.proofs.BranchLaws.{alts_is, branches_are, drop_in, take_in}

-- what decides leaves nothing to the rest
alike : (s : Sight) (g : Glance) (k : ℕ) (b : BranchView) (p q : Planned) → IsDecisive s → decided (found_with s g) true k b p ≡ decided (found_with s g) true k b q
alike Sight.Alone g k b p q d = refl
alike (Sight.Meets side x) here k b p q d = refl
alike (Sight.Meets side x) gone k b p q d = refl
alike (Sight.Meets side x) unseen k b p q d = refl
alike Sight.Unready g k b p q d = absurd d
alike Sight.Crowded g k b p q d = absurd d
alike (Sight.Rivals w) g k b p q d = absurd d

idle : (s : Sight) (g : Glance) (k : ℕ) (b : BranchView) (p : Planned) → IsIdle s → decided (found_with s g) true k b p ≡ p
idle Sight.Unready g k b p i = refl
idle Sight.Crowded g k b p i = refl
idle Sight.Alone g k b p i = absurd i
idle (Sight.Meets side x) g k b p i = absurd i
idle (Sight.Rivals w) g k b p i = absurd i

cut_at : (vs : List Value) (i : ℕ) → i < length vs → branches_in (drop i vs) ≡ nth_branch (branches_in vs) i ∷ branches_in (drop (suc i) vs)
cut_at [] i lt = absurd (omega (arith, lt))
cut_at (v ∷ vs) zero lt = refl
cut_at (v ∷ vs) (suc i) lt = cut_at vs i (omega (arith, lt))

turn_at : (x : Seen) (vs : List Value) (i : ℕ) (rest : Planned) → i < length vs
    → in_turn x true i (branches_in (drop i vs)) rest ≡ decided (found_of x (nth_branch (branches_in vs) i)) true i (nth_branch (branches_in vs) i) (in_turn x true (i + 1) (branches_in (drop (i + 1) vs)) rest)
turn_at x vs i rest lt = ap (λ bs. in_turn x true i bs rest) (cut_at vs i lt)
    ∙ ap (λ n. decided (found_of x (nth_branch (branches_in vs) i)) true i (nth_branch (branches_in vs) i) (in_turn x true (i + 1) (branches_in (drop n vs)) rest)) (let e : suc i ≡ i + 1 = omega arith in e)

-- a branch that decides
pub seen_decides : (x : Seen) (vs : List Value) (i : ℕ) (s : Sight) (rest : Planned) → IsDecisive s → i < length vs → found_by s x.see ≡ found_of x (nth_branch (branches_in vs) i)
    → in_turn x true i (branches_in (drop i vs)) rest ≡ decided (found_by s x.see) true i (nth_branch (branches_in vs) i) rest
seen_decides x vs i s rest d lt f =
    let b = nth_branch (branches_in vs) i in
    let later = in_turn x true (i + 1) (branches_in (drop (i + 1) vs)) rest in
    turn_at x vs i rest lt ∙ ap (λ z. decided z true i b later) (sym f) ∙ alike s (x.see (asked_of s)) i b later rest d

-- one that isn't ready
pub seen_passes : (x : Seen) (vs : List Value) (i : ℕ) (s : Sight) (rest : Planned) → IsIdle s → i < length vs → found_by s x.see ≡ found_of x (nth_branch (branches_in vs) i)
    → in_turn x true i (branches_in (drop i vs)) rest ≡ in_turn x true (i + 1) (branches_in (drop (i + 1) vs)) rest
seen_passes x vs i s rest d lt f =
    let b = nth_branch (branches_in vs) i in
    let later = in_turn x true (i + 1) (branches_in (drop (i + 1) vs)) rest in
    turn_at x vs i rest lt ∙ ap (λ z. decided z true i b later) (sym f) ∙ idle s (x.see (asked_of s)) i b later d

nth_taken : (bs : List BranchView) (n k : ℕ) → k < length (take n bs) → (k < length bs) × (nth_branch (take n bs) k ≡ nth_branch bs k)
nth_taken bs zero k lt = absurd (omega (arith, lt))
nth_taken [] (suc n) k lt = absurd (omega (arith, lt))
nth_taken (b ∷ bs) (suc n) zero lt = (omega arith, refl)
nth_taken (b ∷ bs) (suc n) (suc k) lt = let r = nth_taken bs n k (omega (arith, lt)) in (omega (arith, r.0), r.1)

module _ (banks : Listing HeldBank) (vs : List Value) (at : ℕ) where
  abbrev Later : (ℕ → Glance) → Planned → Planned
  Later see rest = in_turn (seen_by banks see) true at (branches_in (drop at vs)) rest

  abbrev Earlier : (ℕ → Glance) → Planned → Planned
  Earlier see rest = in_turn (seen_by banks see) true 0 (branches_in (take at vs)) rest

  abbrev All : (ℕ → Glance) → Planned → Planned
  All see rest = first_from (seen_by banks see) true at (branches_in vs) rest

  both : (see : ℕ → Glance) (rest : Planned) → All see rest ≡ Later see (Earlier see rest)
  both see rest =
      ap (λ bs. in_turn (seen_by banks see) true at bs (in_turn (seen_by banks see) true 0 (take at (branches_in vs)) rest)) (sym (drop_in vs at))
      ∙ ap (λ bs. in_turn (seen_by banks see) true at (branches_in (drop at vs)) (in_turn (seen_by banks see) true 0 bs rest)) (sym (take_in vs at))

  -- one of the later ones decides
  pub first_chosen : (k : ℕ) (s : Sight) → IsSeenAt banks (branches_in vs) (Choice.Branch k s) → ChoosesAs (branches_in vs) Later (Choice.Branch k s) → ChoosesAs (branches_in vs) All (Choice.Branch k s)
  first_chosen k s seen f see rest = both see rest ∙ f see (Earlier see rest) ∙ alike s (see (asked_of s)) k (nth_branch (branches_in vs) k) (Earlier see rest) rest seen.1

  taken_there : (k : ℕ) → k < length (branches_in (take at vs)) → (k < length (branches_in vs)) × (nth_branch (branches_in (take at vs)) k ≡ nth_branch (branches_in vs) k)
  taken_there k lt = let e = take_in vs at in let r = nth_taken (branches_in vs) at k (subst (λ (bs : List BranchView). k < length bs) e lt) in (r.0, ap (λ bs. nth_branch bs k) e ∙ r.1)

  -- none of them does
  pub second_chosen : (c : Choice) → ChoosesAs (branches_in vs) Later Choice.Unready → IsSeenAt banks (branches_in (take at vs)) c → ChoosesAs (branches_in (take at vs)) Earlier c → ChoosesAs (branches_in vs) All c
  second_chosen Choice.Unready f seen g = λ see rest. both see rest ∙ f see (Earlier see rest) ∙ g see rest
  second_chosen Choice.Asks f seen g = tt
  second_chosen (Choice.Branch k s) f seen g = λ see rest. both see rest ∙ f see (Earlier see rest) ∙ g see rest ∙ ap (λ b. decided (found_by s see) true k b rest) (taken_there k seen.0).1

  pub second_seen : (c : Choice) → IsSeenAt banks (branches_in (take at vs)) c → IsSeenAt banks (branches_in vs) c
  second_seen Choice.Unready seen = tt
  second_seen Choice.Asks seen = tt
  second_seen (Choice.Branch k s) seen = let r = taken_there k seen.0 in (r.0, seen.1, λ see. seen.2 see ∙ ap (found_of (seen_by banks see)) r.1)

-- an alts whose operands are right
alts_planned : (x : Seen) (op : OpView) (vs : List Value) (priority : Bool) (d : Option Tree) (start at : ℕ) → op ≡ choosing (trees vs) priority d → unfit (state_of x.ports x.registries) op ≡ None → at ≡ cond priority 0 (start % length vs)
    → planned x op start ≡ first_from x true at (branches_in vs) (otherwise x op (default_of op))
alts_planned x op vs priority d start at e right n =
    ap (λ f. unless_refused x f (fitting x op start)) right
    ∙ ap (λ o. fitting x o start) e ∙ alts_is x vs priority d start ∙ ap (λ k. first_from x true k (branches_in vs) (otherwise x (choosing (trees vs) priority d) d)) (sym n)
    ∙ ap (λ o. first_from x true at (branches_in vs) (otherwise x o (default_of o))) (sym e)

pub op_chosen : (banks : Listing HeldBank) (place : At) (vs : List Value) (priority : Bool) (d : Option Tree) (start at : ℕ) (c : Choice) → op_at place ≡ choosing (trees vs) priority d → bad_choice (state_held banks) (trees vs) ≡ None → at ≡ cond priority 0 (start % length vs)
    → IsSeenAt banks (branches_in vs) c → ChoosesAs (branches_in vs) (λ see rest. first_from (seen_by banks see) true at (branches_in vs) rest) c → IsChosen banks place start c
op_chosen banks place vs priority d start at Choice.Asks e right n seen f = tt
op_chosen banks place vs priority d start at Choice.Unready e right n seen f = λ see. alts_planned (seen_by banks see) (op_at place) vs priority d start at e (ap (unfit (state_held banks)) e ∙ right) n ∙ f see (otherwise (seen_by banks see) (op_at place) (default_of (op_at place)))
op_chosen banks place vs priority d start at (Choice.Branch k s) e right n seen f = λ see.
    let rest = otherwise (seen_by banks see) (op_at place) (default_of (op_at place)) in
    alts_planned (seen_by banks see) (op_at place) vs priority d start at e (ap (unfit (state_held banks)) e ∙ right) n
    ∙ f see rest ∙ alike s (see (asked_of s)) k (nth_branch (branches_in vs) k) rest (to_print []) seen.1
    ∙ ap (λ bs. decided (found_by s see) true k (nth_branch bs k) (to_print [])) (sym (branches_are vs) ∙ sym (ap branches_of e))
    ∙ ap (λ c. decided (found_by s see) c k (branch_no place k) (to_print [])) (sym (ap is_alts e))

pub op_seen : (banks : Listing HeldBank) (place : At) (vs : List Value) (priority : Bool) (d : Option Tree) (c : Choice) → op_at place ≡ choosing (trees vs) priority d → IsSeenAt banks (branches_in vs) c → IsSeenAt banks (branches_of (op_at place)) c
op_seen banks place vs priority d c e seen = subst (λ (bs : List BranchView). IsSeenAt banks bs c) (sym (branches_are vs) ∙ sym (ap branches_of e)) seen
