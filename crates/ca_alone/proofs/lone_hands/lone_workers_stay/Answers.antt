use Rattle.ca_alone.proofs.LoneMoves.{lone_halts, lone_prunes, lone_stalls}
use Rattle.ca_alone.proofs.lone_hands.lone_workers_stay.Goals as goal

pub returns-clause-prune : goal.returns-clause-prune
returns-clause-prune g c = let a = g.A.Agent in λ program code v v2 answers w side p wait s d. lone_prunes a.over a.place a.stands a.advances a.gives a.starts g.met.A.Agent.advanced g.met.A.Agent.answered g.met.A.Agent.started program code v v2 d.turn d.goes d.after answers w s side p wait d.is

pub returns-clause-stall : goal.returns-clause-stall
returns-clause-stall g c = let a = g.A.Agent in λ program code v v2 answers w s d. lone_stalls a.over a.place a.stands a.advances a.gives a.starts g.met.A.Agent.advanced g.met.A.Agent.answered g.met.A.Agent.started program code v v2 d.turn d.goes d.after answers w s d.is

pub returns-clause-halt : goal.returns-clause-halt
returns-clause-halt g c = let a = g.A.Agent in λ program code v v2 answers w s d. lone_halts a.over a.place a.stands a.advances a.gives a.starts g.met.A.Agent.advanced g.met.A.Agent.answered g.met.A.Agent.started program code v v2 d.turn d.goes d.after answers w s d.is
