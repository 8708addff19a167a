use Rattle.ca_table.specs.Parts.{part_seen}
use Rattle.ca_pool.proofs.AllParts.{settled_at, surveys_less}
use Rattle.ca_pool.proofs.Lefts.{gave_left}
use Rattle.ca_pool.proofs.stall.give_one.Goals as goal

pub give_back-requires-clause-settled : goal.give_back-requires-clause-settled
give_back-requires-clause-settled g c = let K = g.C.Clock in let r = c.requires.settled in let h = c.args.worker.now.hand in settled_at (part_seen K.least K.faults K.readings) r.0 r.1 h h r.2 r.3 c.args.at r.4

pub returns-clause-gives : goal.returns-clause-gives
returns-clause-gives g c = λ n code f s. let K = g.C.Clock in let q = c.give_back.ensures in surveys_less (part_seen K.least K.faults K.readings) n code c.args.worker.now.hand c.give_back.new.hand f s c.args.at q.others q.without

pub returns-clause-left : goal.returns-clause-left
returns-clause-left g c = gave_left c.args.worker.now.hand.view c.give_back.new.hand.view c.args.at c.give_back.ensures.given
