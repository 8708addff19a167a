use Rattle.ca_states.specs.Code.{slots_view}
use Rattle.ca_states.proofs.range.Texts.is_valid_block.Goals as goal

pub knows_slots-requires-clause-told : goal.knows_slots-requires-clause-told
knows_slots-requires-clause-told c = c.begin.ensures.told (slots_view c.args.block.now.entry)
