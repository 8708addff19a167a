use Rattle.std.proofs.Common.{map}
use Rattle.std.specs.Mem.Slots.{slots_items}
use Rattle.crossbeam_utils.specs.Padded.{padded_value}
use Rattle.ca_turns.specs.OneHistory.{OneHistory}
use Rattle.ca_turns.proofs.Endings.{closes}
use Rattle.ca_turns.proofs.Spread.{spread_end}
use Rattle.ca_turns.proofs.ends.close_slots.Goals as goal

pub returns-clause-history : goal.returns-clause-history
returns-clause-history g c = let t = c.requires.table in let o = g.O.Object in let start = map o.content c.args.table.shared.key.parts.value.items in let hands = c.args.table.shared.key.hands in
    closes o.content o.touches o.moves start hands o.distinct _ (map padded_value (slots_items c.close_with.result.slots)) _ c.args.seat.me.0 t.1 t.2 c.requires.home
    (spread_end (OneHistory o.content o.touches o.moves start hands) _ _ _ c.args.seat.me.0 c.close_with.ensures.values.2)
