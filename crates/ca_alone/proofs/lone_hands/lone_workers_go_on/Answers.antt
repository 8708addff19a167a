use Rattle.ca_alone.proofs.LoneMoves.{lone_passes, lone_rests, lone_untimed}
use Rattle.ca_alone.proofs.lone_hands.lone_workers_go_on.Goals as goal

pub returns-clause-untimed : goal.returns-clause-untimed
returns-clause-untimed g c = let a = g.A.Agent in λ program code v answers w s phase none. lone_untimed a.over a.place a.stands program code v answers w s phase none

pub returns-clause-passes : goal.returns-clause-passes
returns-clause-passes g c = let a = g.A.Agent in λ program code v answers w p us s phase not. let n = lone_passes a.over a.place a.stands program code v answers w s p us phase not in (n.0, n.1, n.2)

pub returns-clause-rests : goal.returns-clause-rests
returns-clause-rests g c = let a = g.A.Agent in λ program code v answers w s phase none. lone_rests a.over a.place a.stands program code v answers w s phase none
