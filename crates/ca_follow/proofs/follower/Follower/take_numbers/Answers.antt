use Rattle.std.proofs.Common.{refl, sym, ap, ◌∙◌, subst}
use Rattle.std.specs.Prelude.{IsSome}
use Rattle.ca_commit.specs.Showing.{waits_held}
use Rattle.ca_commit.specs.Waking.{ready_in}
use Rattle.ca_follow.specs.Has.{IsAll}
use Rattle.ca_follow.proofs.Operates.{follower_by}
use Rattle.ca_follow.proofs.Readied.{held_has}
use Rattle.ca_follow.proofs.follower.Follower.take_numbers.Goals as goal

pub returns-clause-same : goal.returns-clause-same
returns-clause-same c = let f = c.args.self.now in let e = c.give_numbers.ensures in held_has f (record f { held = c.give_numbers.new.held }) e.banks e.shards e.timers refl refl

pub returns-clause-follower : goal.returns-clause-follower
returns-clause-follower c = let f = c.args.self.now in let g = record f { held = c.give_numbers.new.held } in let e = c.give_numbers.ensures in
    follower_by f g c.requires.follower (subst (λ z. IsAll z) (sym (held_has f g e.banks e.shards e.timers refl refl)) c.requires.follower.all)
    (subst (λ z. IsSome z) (sym e.timers) c.requires.follower.timers) (ap ready_in e.ready ∙ c.requires.follower.ready) refl (λ i. ap (λ z. waits_held z i) e.shards) refl
