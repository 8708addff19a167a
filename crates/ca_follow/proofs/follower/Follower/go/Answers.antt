use Rattle.std.proofs.Common.{refl, ◌∙◌}
use Rattle.ca_states.specs.ValidCode.{valid_code}
use Rattle.ca_commit.specs.Plans.{plan_view}
use Rattle.ca_commit.specs.Tasks.{agent_of}
use Rattle.ca_follow.specs.Follower.{has}
use Rattle.ca_follow.proofs.Readied.{event_with, is_timely, plan_for}
use Rattle.ca_follow.proofs.WentOn.{Went, went_applied, went_follower}
use Rattle.ca_follow.proofs.follower.Follower.go.Goals as goal

pub apply-event-requires-clause-planned : goal.apply-event-requires-clause-planned
apply-event-requires-clause-planned c = plan_for c.args.self.now (agent_of c.args.task) (plan_view c.args.plan) c.requires.plan

pub apply-event-requires-clause-timely : goal.apply-event-requires-clause-timely
apply-event-requires-clause-timely c = is_timely c.args.self.now (plan_view c.args.plan) c.args.self.now.held.new_task c.args.self.now.held.new_port c.args.self.now.held.new_wait c.requires.new

pub returns-clause-event : goal.returns-clause-event
returns-clause-event c = let f = c.args.self.now in let h = has f in
    c.apply-event.ensures.event ∙ event_with (valid_code f.code.now) (agent_of c.args.task) h.bank h.registry c.args.task.number f.held.new_task f.held.new_port f.held.new_wait f.held.moment (plan_view c.args.plan) c.args.spawned c.requires.spawned c.requires.starts

pub returns-clause-applies : goal.returns-clause-applies
returns-clause-applies c = let f = c.args.self.now in let d = c.apply-event.new.held in
    let g = record f { held = record d { ready = c.take_running.new.ready }; tasks = c.take_running.new.tasks; waits = c.note_wait.new.waits } in let e = c.apply-event.ensures in let r = c.in_ok-take_running.ensures in
    let k : Went f g d c.args.task (plan_view c.args.plan) c.apply-event.result.running c.args.spawned = record {
      channels = e.channels;
      registries = e.registries;
      waits = e.waits;
      ready = e.ready;
      times = e.times;
      runs = e.running;
      taken = r.running;
      known = r.known;
      empty = r.ready;
      used = c.in_ok-note_wait.ensures;
    } in went_applied f g d c.args.task (plan_view c.args.plan) c.apply-event.result.running c.args.spawned c.requires.follower c.requires.none k c.requires.starts c.requires.known

pub returns-clause-follower : goal.returns-clause-follower
returns-clause-follower c = let f = c.args.self.now in let d = c.apply-event.new.held in
    let g = record f { held = record d { ready = c.take_running.new.ready }; tasks = c.take_running.new.tasks; waits = c.note_wait.new.waits } in let e = c.apply-event.ensures in let r = c.in_ok-take_running.ensures in
    let k : Went f g d c.args.task (plan_view c.args.plan) c.apply-event.result.running c.args.spawned = record {
      channels = e.channels;
      registries = e.registries;
      waits = e.waits;
      ready = e.ready;
      times = e.times;
      runs = e.running;
      taken = r.running;
      known = r.known;
      empty = r.ready;
      used = c.in_ok-note_wait.ensures;
    } in went_follower f g d c.args.task (plan_view c.args.plan) c.apply-event.result.running c.args.spawned c.requires.follower c.requires.none k c.requires.starts c.requires.over c.requires.plan refl
