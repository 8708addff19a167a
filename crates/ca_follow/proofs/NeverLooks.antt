-- Where all shards are held, no plan waits for one, and no channel's settling does.
use Rattle.std.proofs.Common.{◌≡◌, ℕ, sym, ap, ◌∙◌, subst, arith, true, false, Option, None, is_some, mod-lt}
use Rattle.ca_term.specs.Operation.{OpView}
use Rattle.ca_commit.specs.Contents.{home, whole}
use Rattle.ca_commit.specs.Deciding.{PlanTells, seen_in}
use Rattle.ca_commit.specs.Finding.{glance, rests_on_unheld, settle_at}
use Rattle.ca_commit.specs.Planning.{planned, to_look}
use Rattle.ca_commit.proofs.PlanTold.{plan_tells}
use Rattle.ca_commit.proofs.Stales.{rests_unseen}
use Rattle.ca_follow.specs.Has.{AreAll, Has, parts_had}

all_there : {X : Type 0} (shards : ℕ → Option X) (w : ℕ) → AreAll shards → shards (home w) ≡ None → ⊥
all_there shards w all e = let t : false ≡ true = sym (ap is_some e) ∙ all (home w) (mod-lt w (omega arith)) in cc

module _ {A : Type 0} where
  pub never_looks : (h : Has A) (op : OpView) (start w : ℕ) → AreAll h.shard → to_look w ≡ planned (seen_in (parts_had h)) op start → ⊥
  never_looks h op start w all plan = let tells = subst (PlanTells (parts_had h) op) (sym plan) (plan_tells (parts_had h) op start) in all_there h.shard tells.1.3.handler.wait all tells.1.3.unheld

  pub settle_never_looks : (h : Has A) (p w : ℕ) → AreAll h.shard → settle_at (glance h.shard) (whole h.bank p) ≡ rests_on_unheld w → ⊥
  settle_never_looks h p w all e = let tells = rests_unseen (parts_had h) p w e in all_there h.shard tells.1.handler.wait all tells.1.unheld
