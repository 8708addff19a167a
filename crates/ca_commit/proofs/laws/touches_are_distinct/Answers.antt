use Rattle.ca_commit.proofs.Apart.{touches_distinct, touches_rise}
use Rattle.ca_commit.proofs.laws.touches_are_distinct.Goals as goal

pub returns-clause-ascend : goal.returns-clause-ascend
returns-clause-ascend c = touches_rise

pub returns-clause-distinct : goal.returns-clause-distinct
returns-clause-distinct c = touches_distinct
