use Rattle.std.proofs.Common.{length, ◌∙◌, arith}
use Rattle.ca_value.specs.View.{views}
use Rattle.ca_states.proofs.RowLaws.{row_within}
use Rattle.ca_states.proofs.SlotLaws.{take_next}
use Rattle.ca_states.proofs.slots.clear_row.Goals as goal

pub overflow_add-from : goal.overflow_add-from
overflow_add-from c =
    let h = row_within (length c.args.slots.now) c.args.from c.args.count c.loop-i.i c.requires c.loop-i-test.true in
    omega (arith, h, c.width_of-width.type_inv, c.width_of-width.ensures)

pub clear_at-requires : goal.clear_at-requires
clear_at-requires c =
    let h = row_within (length c.args.slots.now) c.args.from c.args.count c.loop-i.i c.requires c.loop-i-test.true in
    omega (arith, h, c.loop-i.invariant.0)

pub loop-i-preserved : goal.loop-i-preserved
loop-i-preserved c = (
  c.clear_at.ensures.same ∙ c.loop-i.invariant.0,
  take_next (views c.loop-i.slots) (views c.clear_at.new.slots) c.args.from c.loop-i.i c.args.count c.loop-i-test.true c.clear_at.ensures.taken ∙ c.loop-i.invariant.1,
)
