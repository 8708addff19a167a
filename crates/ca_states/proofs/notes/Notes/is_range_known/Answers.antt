use Rattle.std.proofs.Common.{length, arith}
use Rattle.ca_value.specs.Seq.{list}
use Rattle.ca_states.proofs.RowLaws.{row_within}
use Rattle.ca_states.proofs.notes.Notes.is_range_known.Goals as goal

pub overflow_add-from : goal.overflow_add-from
overflow_add-from c =
    let h = row_within (length (list c.args.self.now.marks)) c.args.from c.args.count c.loop-i.i c.requires c.loop-i-test.true in
    omega (arith, h, c.len-width.type_inv, c.len-width.ensures)
