use Rattle.std.proofs.Common.{refl, sym, ap, ◌∙◌, subst}
use Rattle.std.specs.Prelude.{IsSome}
use Rattle.ca_commit.specs.Showing.{waits_held}
use Rattle.ca_commit.specs.Waking.{ready_in}
use Rattle.ca_follow.specs.Follower.{has}
use Rattle.ca_follow.proofs.Operates.{all_pruned, follower_by, keeps_pruned, pruned_has, stands_pruned}
use Rattle.ca_follow.proofs.follower.Follower.prune.Goals as goal

pub returns-clause-follower : goal.returns-clause-follower
returns-clause-follower c = let f = c.args.self.now in let g = record f { held = c.prune_held.new.held } in let e = c.prune_held.ensures in let o = e.others in
    follower_by f g c.requires.follower (all_pruned (has f) (has g) c.args.port.n c.args.place c.args.side c.requires.follower.all (pruned_has f g c.args.port.n c.args.place c.args.side e.channels e.registries o.0 o.1 refl refl))
    (subst (λ z. IsSome z) (sym o.1) c.requires.follower.timers) (ap ready_in o.2 ∙ c.requires.follower.ready) refl (λ i. ap (λ z. waits_held z i) o.0) refl

pub returns-clause-keeps : goal.returns-clause-keeps
returns-clause-keeps c t a = let f = c.args.self.now in let g = record f { held = c.prune_held.new.held } in let e = c.prune_held.ensures in let o = e.others in
    keeps_pruned (has f) (has g) c.args.port.n c.args.place c.args.side c.requires.stale (pruned_has f g c.args.port.n c.args.place c.args.side e.channels e.registries o.0 o.1 refl refl) t a

pub returns-clause-stands : goal.returns-clause-stands
returns-clause-stands c program s k = let f = c.args.self.now in let g = record f { held = c.prune_held.new.held } in let e = c.prune_held.ensures in let o = e.others in
    stands_pruned (has f) (has g) c.args.port.n c.args.place c.args.side c.requires.stale (pruned_has f g c.args.port.n c.args.place c.args.side e.channels e.registries o.0 o.1 refl refl) program s k
