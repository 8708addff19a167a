use Rattle.ca_alone.proofs.Lone.{lone_reaches, lone_solo}
use Rattle.ca_alone.proofs.lone_hands.lone_workers_show_the_schedule.Goals as goal

pub returns-clause-solo : goal.returns-clause-solo
returns-clause-solo g c = let a = g.A.Agent in λ program code v answers w s used. lone_solo a.over a.place a.stands program code v answers w s used

pub returns-clause-reaches : goal.returns-clause-reaches
returns-clause-reaches g c = let a = g.A.Agent in λ program code v answers w s. lone_reaches a.over a.place a.stands program code v answers w s
