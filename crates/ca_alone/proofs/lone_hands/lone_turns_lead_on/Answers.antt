use Rattle.ca_alone.proofs.LoneMoves.{lone_is_late, lone_picks, lone_reads, lone_settles, lone_waits, lone_yields}
use Rattle.ca_alone.proofs.lone_hands.lone_turns_lead_on.Goals as goal

pub returns-clause-pick : goal.returns-clause-pick
returns-clause-pick g c = let a = g.A.Agent in λ program code v v2 answers w s d phase. lone_picks a.over a.place a.stands a.advances a.gives a.starts g.met.A.Agent.advanced g.met.A.Agent.answered g.met.A.Agent.started program code v v2 d.turn d.goes d.after answers w s d.is phase

pub returns-clause-back : goal.returns-clause-back
returns-clause-back g c = let a = g.A.Agent in λ program code v v2 answers w s d phase enough. lone_yields a.over a.place a.stands a.advances a.gives a.starts g.met.A.Agent.advanced g.met.A.Agent.answered g.met.A.Agent.started program code v v2 d.turn d.goes d.after answers w s d.is phase enough

pub returns-clause-settle : goal.returns-clause-settle
returns-clause-settle g c = let a = g.A.Agent in λ program code v v2 answers w wait k side p x us s d phase. let n = lone_settles a.over a.place a.stands a.advances a.gives a.starts g.met.A.Agent.advanced g.met.A.Agent.answered g.met.A.Agent.started program code v v2 d.turn d.goes d.after answers w s wait k side p x us d.is phase in (n.0, n.1, n.2)

pub returns-clause-read : goal.returns-clause-read
returns-clause-read g c = let a = g.A.Agent in λ program code v v2 answers w m s d phase early. lone_reads a.over a.place a.stands a.advances a.gives a.starts g.met.A.Agent.advanced g.met.A.Agent.answered g.met.A.Agent.started program code v v2 d.turn d.goes d.after answers w s m d.is phase early

pub returns-clause-late : goal.returns-clause-late
returns-clause-late g c = let a = g.A.Agent in λ program code v v2 answers w m ports us s d phase due order. lone_is_late a.over a.place a.stands a.advances a.gives a.starts g.met.A.Agent.advanced g.met.A.Agent.answered g.met.A.Agent.started program code v v2 d.turn d.goes d.after answers w s m ports us d.is phase due order

pub returns-clause-idle : goal.returns-clause-idle
returns-clause-idle g c = let a = g.A.Agent in λ program code v v2 answers w m ports us s d phase none due order. let n = lone_waits a.over a.place a.stands a.advances a.gives a.starts g.met.A.Agent.advanced g.met.A.Agent.answered g.met.A.Agent.started program code v v2 d.turn d.goes d.after answers w s m ports us d.is phase none due order in (n.0, n.1, n.2)
