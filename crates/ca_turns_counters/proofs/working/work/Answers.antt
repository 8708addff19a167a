use Rattle.ca_turns_counters.proofs.working.work.Goals as goal

pub returns-clause-repeats : goal.returns-clause-repeats
returns-clause-repeats g c = λ all. c.turn_times-2.ensures.repeats (c.take_in.ensures.repeats c.args.event.now (c.turn_times.ensures.repeats all))
