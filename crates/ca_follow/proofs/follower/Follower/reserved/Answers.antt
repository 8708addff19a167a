use Rattle.std.proofs.Common.{refl, sym, ◌∙◌, subst}
use Rattle.ca_commit.specs.Plans.{plan_view}
use Rattle.ca_follow.specs.Follower.{has}
use Rattle.ca_follow.specs.Has.{IsAll}
use Rattle.ca_follow.proofs.Leading.{same_has}
use Rattle.ca_follow.proofs.Operates.{follower_by, same_timers}
use Rattle.ca_follow.proofs.Readied.{has_parts, on_ok}
use Rattle.ca_follow.proofs.follower.Follower.reserved.Goals as goal

pub reserve-requires-clause-parts : goal.reserve-requires-clause-parts
reserve-requires-clause-parts c = has_parts c.args.self.now (plan_view c.args.plan.now) c.requires.follower

pub returns-clause-same : goal.returns-clause-same
returns-clause-same c = let f = c.args.self.now in let g = record f { held = c.reserve.new.held } in let e = c.reserve.ensures in
    on_ok c.reserve.result (same_has (has g) (has f) e.channels e.registries e.waits e.times (λ v. refl) (λ v. refl) (λ v. refl))

pub returns-clause-follower : goal.returns-clause-follower
returns-clause-follower c = let f = c.args.self.now in let g = record f { held = c.reserve.new.held } in let e = c.reserve.ensures in
    on_ok c.reserve.result (follower_by f g c.requires.follower (subst (λ z. IsAll z) (sym (same_has (has g) (has f) e.channels e.registries e.waits e.times (λ v. refl) (λ v. refl) (λ v. refl))) c.requires.follower.all)
    (same_timers f.held.timers g.held.timers e.times c.requires.follower.timers) (e.ready ∙ c.requires.follower.ready) refl e.waits refl)

pub returns-clause-counts : goal.returns-clause-counts
returns-clause-counts c = on_ok c.reserve.result c.reserve.ensures.counts
