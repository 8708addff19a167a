use Rattle.ca_pool.proofs.work.take_turns.Goals as goal

pub returns-clause-worked : goal.returns-clause-worked
returns-clause-worked g c = c.leave_seat.ensures.worked c.args.allowance c.args.worker.now (c.in_ok-going.ensures.spent c.args.allowance c.args.worker.now c.take_seat-seated.ensures.spent)
