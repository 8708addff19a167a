use Rattle.ca_pool.proofs.Preparations.{next_itself, shown_itself}
use Rattle.ca_pool.proofs.preparation.make_parts.Goals as goal

pub returns-in_err-make_room-clause-shown : goal.returns-in_err-make_room-clause-shown
returns-in_err-make_room-clause-shown g c = shown_itself c.args.held.now

pub returns-in_err-make_room-clause-next : goal.returns-in_err-make_room-clause-next
returns-in_err-make_room-clause-next g c = next_itself c.args.held.now

pub returns-in_err-started-clause-shown : goal.returns-in_err-started-clause-shown
returns-in_err-started-clause-shown g c = shown_itself c.args.held.now

pub returns-in_err-started-clause-next : goal.returns-in_err-started-clause-next
returns-in_err-started-clause-next g c = next_itself c.args.held.now
