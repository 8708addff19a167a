use Rattle.std.proofs.Common.{length, option_map}
use Rattle.ca_value.specs.View.{view}
use Rattle.ca_meaning.specs.Asks.{trees_in}
use Rattle.ca_pipes.specs.MergeViews.{chosen_view}
use Rattle.ca_pipes.proofs.MergeLaws.{alts_follow, not_none}
use Rattle.ca_pipes.proofs.merge.after_alts.Goals as goal

pub returns : goal.returns
returns c =
    alts_follow c.after_chosen.result (option_map chosen_view c.in_ok-chosen.chosen) (view c.args.answer.now) c.items_of.result.now (trees_in (view c.args.inputs)) c.items_of.ensures
    (not_none (length c.items_of.result.now) c.is_empty.result c.is_empty.ensures c.if-is_empty.false) c.in_ok-chosen.ensures c.after_chosen.ensures
