use Rattle.std.proofs.Common.{rules}
use Rattle.ca_term.specs.Event.{event_view}
use Rattle.ca_meaning.specs.Steps.{Step}
use Rattle.ca_replay.specs.Judged.{TellsEvent}
use Rattle.ca_replay.specs.World.{IsWorld, world_program, world_state}
use Rattle.ca_replay.proofs.JudgedRuns.{run_more}
use Rattle.ca_replay.proofs.judging.does.Goals as goal

pub see-requires : goal.see-requires
see-requires g c =
    let r = c.requires in let e = event_view c.args.event.now in let old = c.args.world.now in let new = c.step.new.self in
    let allowed : Step (world_program old) (world_state old) e (world_state new) = search rules in
    let world : IsWorld new = search rules in
    (r.0, r.1, r.2, record { checked = r.3.checked; few = r.3.few; run = run_more r.0 r.1 old e new r.3.run world c.step.ensures.program allowed })

pub returns-clause-run : goal.returns-clause-run
returns-clause-run g c =
    let e = event_view c.args.event.now in let old = c.args.world.now in let new = c.step.new.self in
    let allowed : Step (world_program old) (world_state old) e (world_state new) = search rules in
    let world : IsWorld new = search rules in
    λ t program before may. run_more program before old e new may.run world c.step.ensures.program allowed

pub returns-clause-saw : goal.returns-clause-saw
returns-clause-saw g c =
    let e = event_view c.args.event.now in let old = c.args.world.now in let new = c.step.new.self in
    let allowed : Step (world_program old) (world_state old) e (world_state new) = search rules in
    let world : IsWorld new = search rules in
    let tells : TellsEvent g.O.Observer.saw g.O.Observer.most e new c.args.observer.now c.see.new.self = c.in_ok-see.ensures in
    λ t program before saw may. tells program before saw (record { checked = may.checked; few = may.few; run = run_more program before old e new may.run world c.step.ensures.program allowed })
