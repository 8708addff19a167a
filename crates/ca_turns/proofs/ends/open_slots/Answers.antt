use Rattle.std.proofs.Common.{◌+◌, map, length, replicate, refl}
use Rattle.crossbeam_utils.specs.Padded.{padded_value}
use Rattle.ca_turns.specs.OneHistory.{OneHistory}
use Rattle.ca_turns.specs.Views.{first_view}
use Rattle.ca_turns.proofs.Endings.{opens}
use Rattle.ca_turns.proofs.Spread.{spread_open}
use Rattle.ca_turns.proofs.ends.open_slots.Goals as goal

pub new-requires : goal.new-requires
new-requires g c = let p = c.requires.parts in let o = g.O.Object in let ps = c.args.start.now.parts.value.items in let hands = c.args.start.now.hands in let xs = map padded_value c.args.slots.items in
    spread_open (OneHistory o.content o.touches o.moves (map o.content ps) hands) c.args.words.now c.args.slots.items xs (first_view (map o.content ps) hands) p.1 refl
    (opens o.content o.touches o.moves ps hands c.requires.hands.0 c.requires.hands.1 xs (replicate (length xs + 1) 0) p.0 refl)
