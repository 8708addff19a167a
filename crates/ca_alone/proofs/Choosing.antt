-- The branch that a plan takes without priority is the first that is ready in the state, going round from the
-- number of the task's earlier alts.
use Rattle.std.proofs.Common.{◌≡◌, ℕ, zero, suc, ◌+◌, ◌%◌, List, [], ◌∷◌, length, refl, sym, ap, ◌∙◌, subst, Bool, true, false, cond, Option, Some, None, slice_get, nat_lt}
use Rattle.ca_value.specs.Tree.{Tree}
use Rattle.ca_term.specs.declared.event.Side.{Side}
use Rattle.ca_term.specs.declared.fault.Fault.{Fault}
use Rattle.ca_term.specs.Program.{ProgramView}
use Rattle.ca_term.specs.Operation.{OpView, choosing, closing, making, posting, printing, putting, registering, spawning, taking}
use Rattle.ca_term.specs.Event.{BranchView}
use Rattle.ca_meaning.specs.Body.{At}
use Rattle.ca_meaning.specs.Choice.{branches_of, default_of, has_priority, parks}
use Rattle.ca_meaning.specs.Refusal.{crowd_of, unfit}
use Rattle.ca_meaning.specs.Solo.{IsFirstFrom}
use Rattle.ca_meaning.specs.State.{State}
use Rattle.ca_meaning.specs.Task.{TaskBody}
use Rattle.ca_meaning.specs.Wait.{Handler, port_of, side_of}
use Rattle.ca_bank.specs.Kept.{queue_at}
use Rattle.ca_commit.specs.Contents.{Parts}
use Rattle.ca_commit.specs.Deciding.{seen_in}
use Rattle.ca_commit.specs.Finding.{Glance, gone, here, unready, unseen}
use Rattle.ca_commit.specs.Holds.{groups}
use Rattle.ca_commit.specs.Planning.{Planned, Seen, all_asked, all_counted, handler_asked, chosen, queue_counted, first_from, fitting, found_of, is_alts, otherwise, planned, state_of, to_park, to_post, to_refuse, unless_refused}
use Rattle.ca_commit.proofs.Laid.{IsPart}
use Rattle.ca_commit.proofs.PlanTold.{none_ready_in}
use Rattle.ca_commit.proofs.Shown.{shown_by, unready_in}
use Rattle.ca_commit.proofs.Steps.{StandsFor}
use Rattle.ca_alone.proofs.NamesHeld.{branch_held, branches_held}
use Rattle.ca_alone.proofs.Rounds.{FirstFound, first_found}
use Rattle.ca_alone.specs.OwnTurn.{branch_taken}

module _ (x : Seen) where
  asked_takes : (z : Glance) (p : ℕ) (side : Side) (place w : ℕ) (rest : Planned) → branch_taken rest ≡ None → branch_taken (handler_asked z p side place w rest) ≡ None
  asked_takes here p side place w rest e = e
  asked_takes gone p side place w rest e = refl
  asked_takes unseen p side place w rest e = refl

  all_asked_takes : (p : ℕ) (side : Side) (place : ℕ) (q : List Handler) (rest : Planned) → branch_taken rest ≡ None → branch_taken (all_asked x p side place q rest) ≡ None
  all_asked_takes p side place [] rest e = e
  all_asked_takes p side place (h ∷ q) rest e = asked_takes (x.see h.wait) p side place h.wait (all_asked x p side (place + 1) q rest) (all_asked_takes p side (place + 1) q rest e)

  counted_takes : (side : Side) (p : ℕ) (q : List Handler) (rest : Planned) → branch_taken rest ≡ None → branch_taken (queue_counted x side p q rest) ≡ None
  counted_takes side p q rest e = by (nat_lt (length q) 1024) where
    after : (b : Bool) → branch_taken (cond b rest (to_refuse (crowd_of side))) ≡ None
    after true = e
    after false = refl

    by : (b : Bool) → branch_taken (cond b rest (all_asked x p side 0 q (cond (nat_lt (groups q) 1024) rest (to_refuse (crowd_of side))))) ≡ None
    by true = e
    by false = all_asked_takes p side 0 q (cond (nat_lt (groups q) 1024) rest (to_refuse (crowd_of side))) (after (nat_lt (groups q) 1024))

  all_counted_takes : (bs : List BranchView) (rest : Planned) → branch_taken rest ≡ None → branch_taken (all_counted x bs rest) ≡ None
  all_counted_takes [] rest e = e
  all_counted_takes (b ∷ bs) rest e = counted_takes (side_of b) (port_of b) (queue_at (side_of b) (x.ports (port_of b))) (all_counted x bs rest) (all_counted_takes bs rest e)

  -- where none is ready no branch is taken
  otherwise_takes : (op : OpView) (o : Option Tree) → branch_taken (otherwise x op o) ≡ None
  otherwise_takes op (Some v) = refl
  otherwise_takes op None = all_counted_takes (branches_of op) (cond (parks op) (to_park (branches_of op)) (to_post (branches_of op))) (by (parks op)) where
    by : (b : Bool) → branch_taken (cond b (to_park (branches_of op)) (to_post (branches_of op))) ≡ None
    by true = refl
    by false = refl

  chosen_first : (op : OpView) (start k : ℕ) → has_priority op ≡ false → branch_taken (chosen x op start) ≡ Some k → FirstFound x (is_alts op) (start % length (branches_of op)) (branches_of op) k
  chosen_first op start k plain e = first_found x (is_alts op) (start % length (branches_of op)) (branches_of op) (otherwise x op (default_of op)) k (otherwise_takes op (default_of op))
      (ap (λ b. branch_taken (first_from x (is_alts op) (cond b 0 (start % length (branches_of op))) (branches_of op) (otherwise x op (default_of op)))) (sym plain) ∙ e)

  fitting_first : (op : OpView) (start k : ℕ) → has_priority op ≡ false → branch_taken (fitting x op start) ≡ Some k → FirstFound x (is_alts op) (start % length (branches_of op)) (branches_of op) k
  fitting_first (taking c) start k plain e = chosen_first (taking c) start k plain e
  fitting_first (putting c v) start k plain e = chosen_first (putting c v) start k plain e
  fitting_first (posting c v) start k plain e = chosen_first (posting c v) start k plain e
  fitting_first (choosing ports priority default) start k plain e = chosen_first (choosing ports priority default) start k plain e
  fitting_first (making what) start k plain e = absurd (let z : None ≡ Some k = e in cc)
  fitting_first (spawning seed) start k plain e = absurd (let z : None ≡ Some k = e in cc)
  fitting_first (closing c) start k plain e = absurd (let z : None ≡ Some k = e in cc)
  fitting_first (registering name args) start k plain e = absurd (let z : None ≡ Some k = e in cc)
  fitting_first (printing line) start k plain e = absurd (let z : None ≡ Some k = e in cc)

-- the operands are right where the plan takes a branch
fit_where_taken : (x : Seen) (op : OpView) (start k : ℕ) → branch_taken (planned x op start) ≡ Some k → (unfit (state_of x.ports x.registries) op ≡ None) × (branch_taken (fitting x op start) ≡ Some k)
fit_where_taken x op start k e = by (unfit (state_of x.ports x.registries) op) refl e where
  by : (o : Option Fault) → unfit (state_of x.ports x.registries) op ≡ o → branch_taken (unless_refused x o (fitting x op start)) ≡ Some k → (unfit (state_of x.ports x.registries) op ≡ None) × (branch_taken (fitting x op start) ≡ Some k)
  by (Some f) is t = absurd (let z : None ≡ Some k = t in cc)
  by None is t = (is, t)

module _ {A : Type 0} (place : A → At) (stands : ProgramView → A → Option ℕ → TaskBody → Type 0) (program : ProgramView) (n : ℕ) where
  -- Over held parts h of those that stand for the state, with the start that `plan` is given.
  pub plan_takes_first : (now h : Parts A) (s : State) (op : OpView) (start k : ℕ) → StandsFor place stands program n now s → IsPart h now
      → branch_taken (planned (seen_in h) op start) ≡ Some k → has_priority op ≡ false → IsFirstFrom s (branches_of op) start k
  plan_takes_first now h s op start k st part e plain j o at less =
      let fit = fit_where_taken (seen_in h) op start k e in
      let there = branch_held h (branches_of op) j o (branches_held h op fit.0) at in
      let found = fitting_first (seen_in h) op start k plain fit.1 j o at less in
      let unready_here = none_ready_in h (o ∷ []) (there, tt) (λ i b g. subst (λ (c : BranchView). found_of (seen_in h) c ≡ unready) (only o b i g) found) in
      unready_in now h s o (shown_by st) part unready_here.0 where
        only : (o b : BranchView) (i : ℕ) → slice_get (o ∷ []) i ≡ Some b → o ≡ b
        only o b zero g = let z : o ≡ b = cc in z
        only o b (suc zero) g = absurd (let z : None ≡ Some b = g in cc)
        only o b (suc (suc i)) g = absurd (let z : None ≡ Some b = g in cc)
