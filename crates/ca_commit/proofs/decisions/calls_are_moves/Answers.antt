use Rattle.ca_commit.specs.Agents.{advances_of, gives_of, place_of}
use Rattle.ca_commit.proofs.Drawings.{done_moves}
use Rattle.ca_commit.proofs.EventMoves.{close_moves, default_moves, make_moves, park_moves, post_moves, print_moves, prune_moves, register_moves, result_closes, spawn_moves, tick_moves}
use Rattle.ca_commit.proofs.Meetings.{meet_moves}
use Rattle.ca_commit.proofs.SettleMoves.{settle_moves}
use Rattle.ca_commit.proofs.decisions.calls_are_moves.Goals as goal

pub returns-clause-done : goal.returns-clause-done
returns-clause-done g c = done_moves (place_of g.A.Agent.place) (advances_of g.A.Agent.advances) (gives_of g.A.Agent.place g.A.Agent.gives)

pub returns-clause-meet : goal.returns-clause-meet
returns-clause-meet g c = meet_moves g.A.Agent.place g.A.Agent.advances g.A.Agent.gives

pub returns-clause-park : goal.returns-clause-park
returns-clause-park g c = park_moves g.A.Agent.place g.A.Agent.advances

pub returns-clause-post : goal.returns-clause-post
returns-clause-post g c = post_moves g.A.Agent.place g.A.Agent.advances g.A.Agent.gives

pub returns-clause-default : goal.returns-clause-default
returns-clause-default g c = default_moves g.A.Agent.place g.A.Agent.advances g.A.Agent.gives

pub returns-clause-close : goal.returns-clause-close
returns-clause-close g c = close_moves g.A.Agent.place g.A.Agent.advances g.A.Agent.gives

pub returns-clause-make : goal.returns-clause-make
returns-clause-make g c = make_moves g.A.Agent.place g.A.Agent.advances g.A.Agent.gives

pub returns-clause-spawn : goal.returns-clause-spawn
returns-clause-spawn g c = spawn_moves g.A.Agent.place g.A.Agent.advances g.A.Agent.gives g.A.Agent.starts

pub returns-clause-register : goal.returns-clause-register
returns-clause-register g c = register_moves g.A.Agent.place g.A.Agent.advances g.A.Agent.gives

pub returns-clause-print : goal.returns-clause-print
returns-clause-print g c = print_moves g.A.Agent.place g.A.Agent.advances g.A.Agent.gives

pub returns-clause-result : goal.returns-clause-result
returns-clause-result g c = result_closes g.A.Agent.place g.A.Agent.advances

pub returns-clause-tick : goal.returns-clause-tick
returns-clause-tick g c = tick_moves

pub returns-clause-prune : goal.returns-clause-prune
returns-clause-prune g c = prune_moves

pub returns-clause-settle : goal.returns-clause-settle
returns-clause-settle g c = settle_moves g.A.Agent.place g.A.Agent.advances g.A.Agent.gives
