use Rattle.ca_term.specs.Operation.{want_view}
use Rattle.ca_commit.specs.Showing.{state_held}
use Rattle.ca_table.proofs.Drawing.{drew_none}
use Rattle.ca_pool.proofs.Resolutions.{wants_more}
use Rattle.ca_pool.proofs.Lone.{stayed_same}
use Rattle.ca_pool.proofs.resolution.try_once.Goals as goal

pub plan-requires : goal.plan-requires
plan-requires g c = record { apart = c.requires.apart (want_view c.want.result.now) c.want.ensures (state_held c.args.held.now.banks) }

pub follow-requires-clause-planned : goal.follow-requires-clause-planned
follow-requires-clause-planned g c = (want_view c.want.result.now, c.want.ensures, c.in-Ok.ensures.plan)

pub returns-in-Err-clause-drew : goal.returns-in-Err-clause-drew
returns-in-Err-clause-drew g c = drew_none c.put_off.ensures.same c.put_off.ensures.turns

pub returns-in-Err-clause-wants : goal.returns-in-Err-clause-wants
returns-in-Err-clause-wants g c = wants_more g.A.Agent.place c.args.wanted.now.banks c.args.wanted.now.banks c.args.held.now.new_port c.put_off.new.held.new_port c.args.task.now (λ i e. e) c.put_off.ensures.numbers.port c.requires.wants

pub returns-in-Err-clause-refused : goal.returns-in-Err-clause-refused
returns-in-Err-clause-refused g c = record { bare = c.put_off.ensures.bare; carries = c.put_off.ensures.carries }

pub returns-in-Err-clause-stayed : goal.returns-in-Err-clause-stayed
returns-in-Err-clause-stayed g c = stayed_same c.put_off.ensures.same c.put_off.ensures.turns
