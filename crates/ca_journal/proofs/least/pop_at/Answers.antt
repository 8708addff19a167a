use Rattle.std.proofs.Common.{arith}
use Rattle.ca_journal.specs.Left.{entries_waiting}
use Rattle.ca_journal.proofs.Fronts.{popped}
use Rattle.ca_journal.proofs.least.pop_at.Goals as goal

pub returns-clause-rest : goal.returns-clause-rest
returns-clause-rest c =
    popped (entries_waiting c.args.lists.now) c.args.fronts.now.items c.args.place c.index_mut-front.result.now c.pop.new.front (omega (arith, c.requires, c.args.fronts.now.ok)) c.index_mut-front.ensures.value c.pop.ensures.rest
