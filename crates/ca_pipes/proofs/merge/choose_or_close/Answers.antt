use Rattle.std.proofs.Common.{length}
use Rattle.ca_value.specs.View.{vector_trees}
use Rattle.ca_pipes.proofs.MergeLaws.{some_inputs, not_none}
use Rattle.ca_pipes.proofs.merge.choose_or_close.Goals as goal

pub returns-else-is_empty : goal.returns-else-is_empty
returns-else-is_empty c =
    some_inputs c.chooses.result c.args.out.n c.args.place c.as_slice.result.now (vector_trees c.args.ports.now) c.as_slice.ensures
    (not_none (length c.as_slice.result.now) c.is_empty.result c.is_empty.ensures c.if-is_empty.false) c.chooses.ensures
