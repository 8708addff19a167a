use Rattle.std.proofs.Common.{◌≡◌, ◌∙◌, sym, subst, true, false}
use Rattle.ca_term.specs.Event.{event_view}
use Rattle.ca_states.specs.ValidCode.{valid_code}
use Rattle.ca_commit.specs.declared.settling.SettleNext.TheVariants as S
use Rattle.ca_follow.specs.Follower.{SettledBy}
use Rattle.ca_follow.proofs.Settled.{Takes, rests_refuses, served, served_leads, served_refuses}
use Rattle.ca_follow.proofs.follower.Follower.settle.Goals as goal

pub returns-in_ok-take_ready-in-Settled-clause-allowed : goal.returns-in_ok-take_ready-in-Settled-clause-allowed
returns-in_ok-take_ready-in-Settled-clause-allowed c same = let old = c.args.self.now in let mid = c.settled.new.self in let new = c.take_ready.new.self in let p = c.args.port.n in let st = c.requires.stands in let t = c.take_ready.ensures in let k = c.in_ok-take_ready-in-Settled.ensures in
    let x : SettledBy old mid p (S.Settled c.in-Settled.made) = subst (λ n. SettledBy old mid p n) c.in-Settled.is c.in_ok-made.ensures.settled in
    let takes : Takes mid new = record { ready = k.ready; running = k.running; known = k.known; banks = t.banks; shards = t.shards; timers = t.timers; waits = t.waits; code = t.code } in
    served_leads (valid_code old.code.now) (event_view c.args.event.now) old mid new p c.in-Settled.made x (served old mid new p c.in-Settled.made x takes st.0 st.1 st.3) (c.agrees.ensures.0 same)

pub returns-in_ok-take_ready-in-Settled-clause-refused : goal.returns-in_ok-take_ready-in-Settled-clause-refused
returns-in_ok-take_ready-in-Settled-clause-refused c other = let old = c.args.self.now in let mid = c.settled.new.self in let new = c.take_ready.new.self in let p = c.args.port.n in let st = c.requires.stands in let t = c.take_ready.ensures in let k = c.in_ok-take_ready-in-Settled.ensures in
    let x : SettledBy old mid p (S.Settled c.in-Settled.made) = subst (λ n. SettledBy old mid p n) c.in-Settled.is c.in_ok-made.ensures.settled in
    let takes : Takes mid new = record { ready = k.ready; running = k.running; known = k.known; banks = t.banks; shards = t.shards; timers = t.timers; waits = t.waits; code = t.code } in
    served_refuses (valid_code old.code.now) (event_view c.args.event.now) old mid new p c.in-Settled.made x (served old mid new p c.in-Settled.made x takes st.0 st.1 st.3) c.requires.event
    (λ is. let z : true ≡ false = sym (c.agrees.ensures.1 is) ∙ other in absurd cc)

pub returns-in_ok-take_ready-in-Settled-clause-follower : goal.returns-in_ok-take_ready-in-Settled-clause-follower
returns-in_ok-take_ready-in-Settled-clause-follower c same = let old = c.args.self.now in let mid = c.settled.new.self in let new = c.take_ready.new.self in let p = c.args.port.n in let st = c.requires.stands in let t = c.take_ready.ensures in let k = c.in_ok-take_ready-in-Settled.ensures in
    let x : SettledBy old mid p (S.Settled c.in-Settled.made) = subst (λ n. SettledBy old mid p n) c.in-Settled.is c.in_ok-made.ensures.settled in
    let takes : Takes mid new = record { ready = k.ready; running = k.running; known = k.known; banks = t.banks; shards = t.shards; timers = t.timers; waits = t.waits; code = t.code } in
    (served old mid new p c.in-Settled.made x takes st.0 st.1 st.3).follower

pub returns-in_default-clause-refused : goal.returns-in_default-clause-refused
returns-in_default-clause-refused c other = let old = c.args.self.now in let mid = c.settled.new.self in
    rests_refuses (valid_code old.code.now) (event_view c.args.event.now) old mid mid c.args.port.n c.in_ok-made.field-0 c.in_ok-made.ensures.settled c.in_ok-made.ensures.decided c.in_default.not-Settled c.requires.event
