use Rattle.std.proofs.Common.{None}
use Rattle.ca_commit.specs.Contents.{whole}
use Rattle.ca_commit.specs.Settling.{value_settled}
use Rattle.ca_commit.specs.Showing.{channels_held}
use Rattle.ca_pool.proofs.Asides.{served_moved, settled_held}
use Rattle.ca_pool.proofs.LoneSettling.{settled_goes}
use Rattle.ca_pool.proofs.settle.draw_served.Goals as goal

pub draw_aside-requires-clause-moved : goal.draw_aside-requires-clause-moved
draw_aside-requires-clause-moved g c = let a = g.A.Agent in let K = g.C.Clock in let r = c.requires.carries in let held = c.args.held.now in let held2 = c.settled_by-event.new.held in let p = c.args.port.n in let w = c.args.worker.now.number in let e = c.settled_by-event.result in let s = c.settled_by-event.ensures in (
  r.0,
  r.1,
  r.2,
  None,
  held,
  r.3,
  settled_held a.place a.gives held held2 p c.args.wait.n c.args.branch c.args.side e s None,
  served_moved a.over a.place a.advances a.gives a.starts K.least K.faults K.readings c.args.code.now r.1 w r.2 g.met.A.Agent.stays held held2 p c.args.wait.n c.args.branch c.args.side e c.requires.serves c.requires.ready s,
)

pub returns-clause-carries : goal.returns-clause-carries
returns-clause-carries g c = λ program n l h. let a = g.A.Agent in let K = g.C.Clock in let held = c.args.held.now in let held2 = c.settled_by-event.new.held in let p = c.args.port.n in let w = c.args.worker.now.number in let e = c.settled_by-event.result in let s = c.settled_by-event.ensures in
    c.draw_aside.ensures.carries program n l None held h (settled_held a.place a.gives held held2 p c.args.wait.n c.args.branch c.args.side e s None)
    (served_moved a.over a.place a.advances a.gives a.starts K.least K.faults K.readings c.args.code.now n w l g.met.A.Agent.stays held held2 p c.args.wait.n c.args.branch c.args.side e c.requires.serves c.requires.ready s)

pub returns-clause-solo : goal.returns-clause-solo
returns-clause-solo g c = λ k us most m. let a = g.A.Agent in let d = c.draw_aside.ensures in let held = c.args.held.now in let p = c.args.port.n in let side = c.args.side in
    settled_goes a.over a.place a.stands a.advances a.gives a.starts g.met.A.Agent.advanced g.met.A.Agent.answered g.met.A.Agent.started c.args.code.now k us most c.args.wait.n c.args.branch p side (value_settled side (whole (channels_held held.banks) p)) c.settled_by-event.result c.settled_by-event.ensures.event d.same d.hand d.turns m
