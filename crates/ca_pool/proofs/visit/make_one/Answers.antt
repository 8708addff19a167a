use Rattle.std.specs.Prelude.{[], option_map}
use Rattle.ca_term.specs.Event.{port_number}
use Rattle.ca_solo.specs.Stirs.{port_if}
use Rattle.ca_alone.specs.Schedule.{MaySettle, to_turn}
use Rattle.ca_pool.proofs.AtWork.{spent_event, worked_out}
use Rattle.ca_pool.proofs.Lone.{goes_on_to, running_may_go}
use Rattle.ca_pool.proofs.visit.make_one.Goals as goal

pub returns-in-Ok-clause-spent : goal.returns-in-Ok-clause-spent
returns-in-Ok-clause-spent g c = λ start w h. spent_event c.saturating_sub-left.result c.saturating_sub-left.ensures c.requires.some h c.in-Ok.ensures.drew

pub returns-in-Err-clause-stopped : goal.returns-in-Err-clause-stopped
returns-in-Err-clause-stopped g c = λ start w h. worked_out h c.in-Err.ensures.refused

pub returns-in-Ok-clause-solo : goal.returns-in-Ok-clause-solo
returns-in-Ok-clause-solo g c = λ most few r. let a = g.A.Agent in let m = g.met.A.Agent in
    let s = c.in-Ok.ensures.solo few most (running_may_go a.over a.place a.stands a.advances a.gives a.starts m.advanced m.answered m.started c.args.code.now {P = MaySettle to_turn []} r) in
    goes_on_to a.over a.place a.stands a.advances a.gives a.starts m.advanced m.answered m.started c.args.code.now {P = MaySettle to_turn []} {Q = MaySettle to_turn (port_if (option_map port_number c.in-Ok.stepped.stirred))} r (returns-in-Ok-clause-spent g c) (λ some on. s.at on) (λ is. s.stopped)
