-- The events of operations that put, take or choose: each is the one that the plan tells.
use Rattle.std.proofs.Common.{◌≡◌, ℕ, zero, suc, List, [], ◌∷◌, refl, sym, ap, ◌∙◌, subst, Bool, true, cond, Some, None, slice_get}
use Rattle.ca_value.specs.Tree.{Tree, port}
use Rattle.ca_term.specs.Event.{BranchView, done, met, put_of}
use Rattle.ca_term.specs.Operation.{OpView, choosing, closing, making, posting, printing, putting, registering, spawning, taking}
use Rattle.ca_meaning.specs.Channel.{Channel}
use Rattle.ca_meaning.specs.Choice.{NoneReady, Picks, branches_of, default_of, parks, row}
use Rattle.ca_meaning.specs.Row.{completes, meets, not_ready}
use Rattle.ca_meaning.specs.State.{State}
use Rattle.ca_meaning.specs.Wait.{Handler, port_of, side_of}
use Rattle.ca_commit.specs.Applying.{IsEvent, event_of}
use Rattle.ca_commit.specs.Contents.{Parts}
use Rattle.ca_commit.specs.Deciding.{seen_in}
use Rattle.ca_commit.specs.Finding.{Finding, alone, partner, stale, unheld, unready}
use Rattle.ca_commit.specs.Planning.{Planned, chosen, decided, fitting, found_of, is_alts, otherwise, to_default, to_park, to_post}
use Rattle.ca_commit.proofs.Shown.{Shown}
use Rattle.ca_follow.proofs.OnlyTurns.{about, all_counted_event, none_at, row_says}

none_of : {X : Type 0} (k : ℕ) (b : X) → slice_get [] k ≡ Some b → ⊥
none_of zero b e = cc
none_of (suc k) b e = cc

module _ {A : Type 0} (h : Parts A) (s : State) (shown : Shown h s) where
  -- an operation that has a branch, or that parks, or that has a default, is chosen
  chosen_branch : (op : OpView) (k start : ℕ) (b : BranchView) → slice_get (branches_of op) k ≡ Some b → fitting (seen_in h) op start ≡ chosen (seen_in h) op start
  chosen_branch (taking c) k start b e = refl
  chosen_branch (putting c v) k start b e = refl
  chosen_branch (posting c v) k start b e = refl
  chosen_branch (choosing ports priority default) k start b e = refl
  chosen_branch (making what) k start b e = absurd (none_of k b e)
  chosen_branch (spawning seed) k start b e = absurd (none_of k b e)
  chosen_branch (closing c) k start b e = absurd (none_of k b e)
  chosen_branch (registering name args) k start b e = absurd (none_of k b e)
  chosen_branch (printing line) k start b e = absurd (none_of k b e)

  chosen_parks : (op : OpView) (start : ℕ) → parks op ≡ true → fitting (seen_in h) op start ≡ chosen (seen_in h) op start
  chosen_parks (taking c) start e = refl
  chosen_parks (putting c v) start e = refl
  chosen_parks (posting c v) start e = refl
  chosen_parks (choosing ports priority default) start e = refl
  chosen_parks (making what) start e = absurd cc
  chosen_parks (spawning seed) start e = absurd cc
  chosen_parks (closing c) start e = absurd cc
  chosen_parks (registering name args) start e = absurd cc
  chosen_parks (printing line) start e = absurd cc

  chosen_default : (op : OpView) (start : ℕ) (v : Tree) → default_of op ≡ Some v → fitting (seen_in h) op start ≡ chosen (seen_in h) op start
  chosen_default (choosing ports priority default) start v e = refl
  chosen_default (taking c) start v e = refl
  chosen_default (putting c u) start v e = refl
  chosen_default (posting c u) start v e = refl
  chosen_default (making what) start v e = absurd cc
  chosen_default (spawning seed) start v e = absurd cc
  chosen_default (closing c) start v e = absurd cc
  chosen_default (registering name args) start v e = absurd cc
  chosen_default (printing line) start v e = absurd cc

  -- the branch that the meaning says is done at once
  done_found : (t u p w m k : ℕ) (b : BranchView) (alts : Bool) (rest : Planned) (v : Tree) (after : Channel) (f : Finding) → found_of (seen_in h) b ≡ f → row s b ≡ completes v after → IsEvent (decided f alts k b rest)
      → event_of h.bank h.registry t u p w m (decided f alts k b rest) ≡ done t k b v
  done_found t u p w m k b alts rest v after unready e r event = absurd (let c : not_ready ≡ completes v after = sym (row_says h s shown b unready e) ∙ r in cc)
  done_found t u p w m k b alts rest v after alone e r event = let z = row_says h s shown b alone e in let c : completes z.0 z.1 ≡ completes v after = sym z.2 ∙ r in
      ap (λ y. done t k b y) (z.3 ∙ (let same : z.0 ≡ v = cc in same))
  done_found t u p w m k b alts rest v after (partner x o) e r event = absurd (let z = row_says h s shown b (partner x o) e in let c : meets z.0 z.1 ≡ completes v after = sym z.2 ∙ r in cc)
  done_found t u p w m k b alts rest v after (stale side) e r event = absurd event
  done_found t u p w m k b alts rest v after (unheld x) e r event = absurd event

  pub done_only : (t u p w m k : ℕ) (op : OpView) (b : BranchView) (v : Tree) (after : Channel) → Picks s op k b → row s b ≡ completes v after → IsEvent (fitting (seen_in h) op k)
      → event_of h.bank h.registry t u p w m (fitting (seen_in h) op k) ≡ done t k b v
  done_only t u p w m k op b v after picks r event =
      let chosen_is = chosen_branch op k k b picks.0 in
      let it = about h s shown op k b picks (λ n. let c : not_ready ≡ completes v after = sym n ∙ r in cc) (subst IsEvent chosen_is event) in
      ap (event_of h.bank h.registry t u p w m) (chosen_is ∙ it.1) ∙ done_found t u p w m k b (is_alts op) it.0 v after (found_of (seen_in h) b) refl r (subst IsEvent (chosen_is ∙ it.1) event)

  -- the branch that the meaning says meets a wait
  met_found : (t u p w m k : ℕ) (b : BranchView) (alts : Bool) (rest : Planned) (g : Handler) (v : Tree) (f : Finding) → found_of (seen_in h) b ≡ f → row s b ≡ meets g v → IsEvent (decided f alts k b rest)
      → event_of h.bank h.registry t u p w m (decided f alts k b rest) ≡ met t k (side_of b) (port_of b) v g.wait g.branch
  met_found t u p w m k b alts rest g v unready e r event = absurd (let c : not_ready ≡ meets g v = sym (row_says h s shown b unready e) ∙ r in cc)
  met_found t u p w m k b alts rest g v alone e r event = absurd (let z = row_says h s shown b alone e in let c : completes z.0 z.1 ≡ meets g v = sym z.2 ∙ r in cc)
  met_found t u p w m k b alts rest g v (partner x o) e r event =
      let z = row_says h s shown b (partner x o) e in
      let c : meets z.0 z.1 ≡ meets g v = sym z.2 ∙ r in
      let same : z.0 ≡ g = cc in
      let value : z.1 ≡ v = cc in
      ap (λ y. met t k (side_of b) (port_of b) y x o) (z.5 ∙ value)
      ∙ ap (λ n. met t k (side_of b) (port_of b) v n o) (sym z.3 ∙ ap (λ (y : Handler). y.wait) same)
      ∙ ap (λ n. met t k (side_of b) (port_of b) v g.wait n) (sym z.4 ∙ ap (λ (y : Handler). y.branch) same)
  met_found t u p w m k b alts rest g v (stale side) e r event = absurd event
  met_found t u p w m k b alts rest g v (unheld x) e r event = absurd event

  pub met_only : (t u p w m k : ℕ) (op : OpView) (b : BranchView) (g : Handler) (v : Tree) → Picks s op k b → row s b ≡ meets g v → IsEvent (fitting (seen_in h) op k)
      → event_of h.bank h.registry t u p w m (fitting (seen_in h) op k) ≡ met t k (side_of b) (port_of b) v g.wait g.branch
  met_only t u p w m k op b g v picks r event =
      let chosen_is = chosen_branch op k k b picks.0 in
      let it = about h s shown op k b picks (λ n. let c : not_ready ≡ meets g v = sym n ∙ r in cc) (subst IsEvent chosen_is event) in
      ap (event_of h.bank h.registry t u p w m) (chosen_is ∙ it.1) ∙ met_found t u p w m k b (is_alts op) it.0 g v (found_of (seen_in h) b) refl r (subst IsEvent (chosen_is ∙ it.1) event)

  -- where none is ready: a new wait, a put without its task, or the default
  waits_only : (op : OpView) (start : ℕ) → default_of op ≡ None → NoneReady s (branches_of op) → IsEvent (chosen (seen_in h) op start)
      → chosen (seen_in h) op start ≡ cond (parks op) (to_park (branches_of op)) (to_post (branches_of op))
  waits_only op start default none event =
      let is = none_at h s shown op start none event ∙ ap (otherwise (seen_in h) op) default in
      is ∙ all_counted_event (seen_in h) (branches_of op) (cond (parks op) (to_park (branches_of op)) (to_post (branches_of op))) (subst IsEvent is event)

  pub parked_only : (op : OpView) (start : ℕ) (bs : List BranchView) → parks op ≡ true → branches_of op ≡ bs → default_of op ≡ None → NoneReady s bs → IsEvent (fitting (seen_in h) op start)
      → fitting (seen_in h) op start ≡ to_park bs
  parked_only op start bs waits branches default none event =
      let chosen_is = chosen_parks op start waits in
      chosen_is ∙ waits_only op start default (subst (NoneReady s) (sym branches) none) (subst IsEvent chosen_is event) ∙ ap (λ z. cond z (to_park (branches_of op)) (to_post (branches_of op))) waits ∙ ap to_park branches

  pub posted_only : (p start : ℕ) (v : Tree) → NoneReady s (put_of p v ∷ []) → IsEvent (fitting (seen_in h) (posting (port p) v) start) → fitting (seen_in h) (posting (port p) v) start ≡ to_post (put_of p v ∷ [])
  posted_only p start v none event = waits_only (posting (port p) v) start refl none event

  pub defaulted_only : (op : OpView) (start : ℕ) (v : Tree) → default_of op ≡ Some v → NoneReady s (branches_of op) → IsEvent (fitting (seen_in h) op start) → fitting (seen_in h) op start ≡ to_default v
  defaulted_only op start v default none event =
      let chosen_is = chosen_default op start v default in
      chosen_is ∙ none_at h s shown op start none (subst IsEvent chosen_is event) ∙ ap (otherwise (seen_in h) op) default
