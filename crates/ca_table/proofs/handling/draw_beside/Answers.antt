use Rattle.std.proofs.Common.{◌∙◌}
use Rattle.ca_states.specs.ValidCode.{valid_code}
use Rattle.ca_table.proofs.Aside.{drew_aside, may_draw_aside}
use Rattle.ca_table.proofs.handling.draw_beside.Goals as goal

pub draw_event-requires-clause-one : goal.draw_event-requires-clause-one
draw_event-requires-clause-one g c = let r = c.requires.carries in (r.0, valid_code r.1, r.2, r.4.one)

pub draw_event-requires-clause-allows : goal.draw_event-requires-clause-allows
draw_event-requires-clause-allows g c = λ i holds none. c.requires.allows i

pub draw_event-requires-clause-moved : goal.draw_event-requires-clause-moved
draw_event-requires-clause-moved g c = let a = g.A.Agent in let K = g.C.Clock in let r = c.requires.carries in
    may_draw_aside a.over a.place a.advances a.gives a.starts K.least K.faults K.readings a.stands r.0 r.1 c.args.table.now.id r.2 c.args.worker.now c.args.drawn r.3 r.4 r.5 (c.requires.code ∙ r.4.one.of_code)

pub returns-clause-carries : goal.returns-clause-carries
returns-clause-carries g c = λ program code n h s m. let a = g.A.Agent in let K = g.C.Clock in let q = c.draw_event.ensures in
    drew_aside a.over a.place a.advances a.gives a.starts K.least K.faults K.readings a.stands program code c.args.table.now.id n c.args.worker.now c.args.drawn h s m (c.requires.code ∙ s.one.of_code) c.draw_event.new.worker (q.one program (valid_code code) n s.one) q.same.number q.grips
