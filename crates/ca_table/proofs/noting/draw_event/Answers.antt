use Rattle.ca_table.proofs.Noted.{drew_one}
use Rattle.ca_table.proofs.noting.draw_event.Goals as goal

pub returns-clause-one : goal.returns-clause-one
returns-clause-one g c = λ program code n one. let d = c.draw-number.ensures in
    drew_one g.A.Agent.over g.A.Agent.stands program code c.args.table.now.id n c.args.worker.now c.draw-number.new.hand c.note.new.into c.draw-number.result c.args.drawn d.drew.0 d.drew.1 d.same d.drew.2 d.later c.note.ensures.noted d.left one
