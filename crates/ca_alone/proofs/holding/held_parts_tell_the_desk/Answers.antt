use Rattle.ca_alone.proofs.HeldDesk.{held_lane, held_ready, held_timers}
use Rattle.ca_alone.proofs.holding.held_parts_tell_the_desk.Goals as goal

pub returns-clause-lane : goal.returns-clause-lane
returns-clause-lane g c = let a = g.A.Agent in λ program code v answers w c l h s e is. held_lane a.over a.place a.stands program code v h answers w s c l e is

pub returns-clause-ready : goal.returns-clause-ready
returns-clause-ready g c = let a = g.A.Agent in λ program code v answers w c q h s e is. held_ready a.over a.place a.stands program code v h answers w s c q e is

pub returns-clause-timers : goal.returns-clause-timers
returns-clause-timers g c = let a = g.A.Agent in λ program code v answers w c t h s e is. held_timers a.over a.place a.stands program code v h answers w s c t e is
