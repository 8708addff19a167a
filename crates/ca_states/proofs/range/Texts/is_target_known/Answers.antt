use Rattle.std.proofs.Common.{sym, ap}
use Rattle.ca_value.specs.Seq.{list}
use Rattle.ca_states.specs.Code.{no_block, block_view, slots_view}
use Rattle.ca_states.specs.Valid.{are_entry_slots_known}
use Rattle.ca_states.specs.Told.{slot_told}
use Rattle.ca_states.proofs.RowLaws.{none_at}
use Rattle.ca_states.proofs.range.Texts.is_target_known.Goals as goal

pub returns-in-None : goal.returns-in-None
returns-in-None c =
    sym (ap (λ b. are_entry_slots_known (slot_told c.args.notes.now (slots_view c.args.entry.now)) b.entry) (none_at block_view (list c.args.self.now.blocks) c.args.number no_block (sym c.in-None.ensures)))
