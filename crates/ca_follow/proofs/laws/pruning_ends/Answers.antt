use Rattle.ca_follow.proofs.NeverLooks.{never_looks, settle_never_looks}
use Rattle.ca_follow.proofs.Pruned.{pruned_follows}
use Rattle.ca_follow.proofs.Prunes.{prunes_fewer, settle_prunes_fewer}
use Rattle.ca_follow.proofs.laws.pruning_ends.Goals as goal

pub returns-clause-looks : goal.returns-clause-looks
returns-clause-looks g c = never_looks

pub returns-clause-settling_looks : goal.returns-clause-settling_looks
returns-clause-settling_looks g c = settle_never_looks

pub returns-clause-pruned : goal.returns-clause-pruned
returns-clause-pruned g c program = pruned_follows g.A.Agent.place g.A.Agent.stands program

pub returns-clause-fewer : goal.returns-clause-fewer
returns-clause-fewer g c = prunes_fewer

pub returns-clause-settling_fewer : goal.returns-clause-settling_fewer
returns-clause-settling_fewer g c = settle_prunes_fewer
