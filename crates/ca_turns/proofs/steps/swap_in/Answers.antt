use Rattle.ca_turns.proofs.Spread.{padded_front}
use Rattle.ca_turns.proofs.steps.swap_in.Goals as goal

pub slot_mut-slot-requires : goal.slot_mut-slot-requires
slot_mut-slot-requires g c = (c.requires.table, padded_front c.args.seat.now.me.1 c.args.part c.requires.out.0 _ c.requires.out.1)
