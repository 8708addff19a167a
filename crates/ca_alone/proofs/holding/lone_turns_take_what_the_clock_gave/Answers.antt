use Rattle.ca_alone.proofs.LoneClock.{begins_given, lone_given, lone_reads_given}
use Rattle.ca_alone.proofs.holding.lone_turns_take_what_the_clock_gave.Goals as goal

pub returns-clause-none : goal.returns-clause-none
returns-clause-none g c = let a = g.A.Agent in λ program code v k none. begins_given a.over a.stands program code v k none

pub returns-clause-more : goal.returns-clause-more
returns-clause-more g c = let a = g.A.Agent in λ program code v v2 answers w first what given s d. lone_given a.over a.place a.stands a.advances a.gives a.starts g.met.A.Agent.advanced g.met.A.Agent.answered g.met.A.Agent.started program code v v2 d.turn d.goes d.after first answers given s.coded w.state s.position.run what d.is

pub returns-clause-read : goal.returns-clause-read
returns-clause-read g c = let a = g.A.Agent in λ program code v v2 answers w first given s d phase early. lone_reads_given a.over a.place a.stands a.advances a.gives a.starts g.met.A.Agent.advanced g.met.A.Agent.answered g.met.A.Agent.started program code v v2 d.turn d.goes d.after first answers given w s d.is phase early
