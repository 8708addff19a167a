use Rattle.std.proofs.Common.{◌≡◌, ◌∙◌, refl, sym, ap, subst, true, false}
use Rattle.std.specs.Prelude.{IsSome}
use Rattle.ca_term.specs.Event.{event_view}
use Rattle.ca_states.specs.ValidCode.{valid_code}
use Rattle.ca_commit.specs.NewPort.{times_in}
use Rattle.ca_follow.specs.Follower.{has}
use Rattle.ca_follow.proofs.Ticks.{ticked_follower, ticked_has, ticks_off, ticks_on}
use Rattle.ca_follow.proofs.follower.Follower.tick.Goals as goal

pub returns-in-Some-clause-allowed : goal.returns-in-Some-clause-allowed
returns-in-Some-clause-allowed c same = let f = c.args.self.now in let d = c.reserve_tick.new.held in let d2 = c.tick.new.held in let r = c.reserve_tick.ensures in let e = c.tick.ensures in let some = c.in-Some.ensures.some in let m = c.args.moment in
    ticks_on (valid_code f.code.now) (event_view c.args.event.now) (has f) m (has (record f { held = d2 })) d.timers (sym (ap times_in r.others.1)) c.requires.follower.all (subst (λ z. IsSome z) (sym r.others.1) c.requires.follower.timers)
    (c.if-not-may_reach.ensures.0 refl).0 (c.if-not-may_reach.ensures.0 refl).1 some.1 (sym some.0 ∙ c.agrees.ensures.0 same) (ticked_has f d d2 m r.banks r.others e.channels e.registries e.shards some.2)

pub returns-in-Some-clause-refused : goal.returns-in-Some-clause-refused
returns-in-Some-clause-refused c other = let f = c.args.self.now in let d = c.reserve_tick.new.held in let some = c.in-Some.ensures.some in
    ticks_off (valid_code f.code.now) (event_view c.args.event.now) (has f) c.args.moment d.timers (sym (ap times_in c.reserve_tick.ensures.others.1)) c.requires.event
    (λ late bound due same. let z : true ≡ false = sym (c.agrees.ensures.1 (some.0 ∙ same)) ∙ other in absurd cc)

pub returns-in-Some-clause-follower : goal.returns-in-Some-clause-follower
returns-in-Some-clause-follower c same = let r = c.reserve_tick.ensures in let e = c.tick.ensures in
    ticked_follower c.args.self.now c.reserve_tick.new.held c.tick.new.held c.args.moment r.banks r.others e.channels e.registries e.shards c.in-Some.ensures.some.2 e.ready c.requires.follower
