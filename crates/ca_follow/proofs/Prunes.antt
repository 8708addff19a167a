-- A stale handler that is taken out of its queue leaves fewer handlers at the channels of the operation.
use Rattle.std.proofs.Common.{◌≡◌, ◌⊎◌, inl, inr, ⊎_elim, ℕ, zero, suc, ◌<◌, ◌≤◌, List, [], ◌∷◌, refl, sym, ap, ◌∙◌, subst, arith, Bool, true, false, cond, eqb, eqb-true, eq-eqb, Option, Some, option_map, slice_get}
use Rattle.std.proofs.lemmas.List.Edits.{length-remove}
use Rattle.std.proofs.lemmas.Option.{slice_get_within}
use Rattle.ca_term.specs.declared.event.Side.{Side}
use Rattle.ca_term.specs.declared.event.Side.TheVariants.{Put, Take}
use Rattle.ca_term.specs.Event.{BranchView}
use Rattle.ca_term.specs.Operation.{OpView}
use Rattle.ca_meaning.specs.Choice.{branches_of}
use Rattle.ca_meaning.specs.Wait.{Handler, port_of}
use Rattle.ca_bank.specs.Kept.{on, pruned}
use Rattle.ca_commit.specs.Applying.{BankChannels}
use Rattle.ca_commit.specs.Contents.{Kept, whole}
use Rattle.ca_commit.specs.Deciding.{IsStale, PlanTells, seen_in}
use Rattle.ca_commit.specs.Finding.{glance, rests_on_stale, settle_at}
use Rattle.ca_commit.specs.Listing.{changed_at}
use Rattle.ca_commit.specs.Planning.{planned, to_prune}
use Rattle.ca_commit.proofs.PlanTold.{plan_tells}
use Rattle.ca_commit.proofs.Stales.{settle_stale}
use Rattle.ca_commit.proofs.Wholes.{whole_changed}
use Rattle.ca_follow.specs.Has.{Has, parts_had}
use Rattle.ca_follow.specs.Pruning.{queued_at, queued_in}

-- some branch is of this channel
abbrev IsPortOf : ℕ → List BranchView → Type 0
IsPortOf p [] = ⊥
IsPortOf p (b ∷ bs) = (port_of b ≡ p) ⊎ IsPortOf p bs

port_there : (p : ℕ) (bs : List BranchView) (i : ℕ) (b : BranchView) → slice_get bs i ≡ Some b → port_of b ≡ p → IsPortOf p bs
port_there p [] zero b e is = absurd cc
port_there p [] (suc i) b e is = absurd cc
port_there p (c ∷ bs) zero b e is = inl (ap port_of (let same : c ≡ b = cc in same) ∙ is)
port_there p (c ∷ bs) (suc i) b e is = inr (port_there p bs i b e is)

-- a handler less
shorter : (k : Kept) (side : Side) (place : ℕ) (g : Handler) → slice_get (on side k) place ≡ Some g → queued_at (Some (pruned side place k)) < queued_at (Some k)
shorter k Take place g e = let l = length-remove k.takes place (slice_get_within k.takes place g e) in omega (arith, l)
shorter k Put place g e = let l = length-remove k.puts place (slice_get_within k.puts place g e) in omega (arith, l)

module _ {A : Type 0} (h : Has A) (p place : ℕ) (side : Side) (new : BankChannels) (stale_there : IsStale (parts_had h) p side place) (is : (i : ℕ) → new i ≡ changed_at p (option_map (pruned side place)) h.bank i) where
  whole_is : (q : ℕ) → whole new q ≡ cond (eqb p q) (option_map (pruned side place) (whole h.bank p)) (whole h.bank q)
  whole_is q = whole_changed p (pruned side place) h.bank new is q

  here_less : queued_at (option_map (pruned side place) (whole h.bank p)) < queued_at (whole h.bank p)
  here_less = subst (λ (o : Option Kept). queued_at (option_map (pruned side place) o) < queued_at o) (sym stale_there.there) (shorter stale_there.kept side place stale_there.handler stale_there.at_place)

  less_at : (q : ℕ) → p ≡ q → queued_at (whole new q) < queued_at (whole h.bank q)
  less_at q e = subst (λ (z : ℕ). queued_at (whole new z) < queued_at (whole h.bank z)) e
      (subst (λ (o : Option Kept). queued_at o < queued_at (whole h.bank p)) (sym (whole_is p ∙ ap (λ b. cond b (option_map (pruned side place) (whole h.bank p)) (whole h.bank p)) (eq-eqb p p refl))) here_less)

  no_more_at : (q : ℕ) → queued_at (whole new q) ≤ queued_at (whole h.bank q)
  no_more_at q = by (eqb p q) refl where
    by : (b : Bool) → eqb p q ≡ b → queued_at (whole new q) ≤ queued_at (whole h.bank q)
    by true e = let lt = less_at q (eqb-true p q e) in omega (arith, lt)
    by false e = let same : queued_at (whole new q) ≡ queued_at (whole h.bank q) = ap queued_at (whole_is q ∙ ap (λ b. cond b (option_map (pruned side place) (whole h.bank p)) (whole h.bank q)) e) in omega (arith, same)

  no_more : (bs : List BranchView) → queued_in bs new ≤ queued_in bs h.bank
  no_more [] = omega arith
  no_more (b ∷ bs) = let one = no_more_at (port_of b) in let rest = no_more bs in omega (arith, one, rest)

  fewer : (bs : List BranchView) → IsPortOf p bs → queued_in bs new < queued_in bs h.bank
  fewer [] there = absurd there
  fewer (b ∷ bs) there = ⊎_elim first (λ k. later (fewer bs k)) there where
    first : port_of b ≡ p → queued_in (b ∷ bs) new < queued_in (b ∷ bs) h.bank
    first e = let one = less_at (port_of b) (sym e) in let rest = no_more bs in omega (arith, one, rest)

    later : queued_in bs new < queued_in bs h.bank → queued_in (b ∷ bs) new < queued_in (b ∷ bs) h.bank
    later rest = let one = no_more_at (port_of b) in omega (arith, one, rest)

module _ {A : Type 0} where
  pub prunes_fewer : (h : Has A) (op : OpView) (start p place : ℕ) (side : Side) (new : BankChannels) → to_prune p side place ≡ planned (seen_in (parts_had h)) op start
      → ((i : ℕ) → new i ≡ changed_at p (option_map (pruned side place)) h.bank i) → queued_in (branches_of op) new < queued_in (branches_of op) h.bank
  prunes_fewer h op start p place side new plan is =
      let tells = subst (PlanTells (parts_had h) op) (sym plan) (plan_tells (parts_had h) op start) in
      let hangs = tells.1.1 in
      fewer h p place side new tells.1.0 is (branches_of op) (port_there p (branches_of op) hangs.number hangs.branch hangs.picked.0 hangs.at_port)

  -- the same where a channel would settle
  pub settle_prunes_fewer : (h : Has A) (p : ℕ) (side : Side) (new : BankChannels) → settle_at (glance h.shard) (whole h.bank p) ≡ rests_on_stale side
      → ((i : ℕ) → new i ≡ changed_at p (option_map (pruned side 0)) h.bank i) → queued_at (whole new p) < queued_at (whole h.bank p)
  settle_prunes_fewer h p side new rests is = less_at h p 0 side new (settle_stale (parts_had h) p side rests) is p refl
