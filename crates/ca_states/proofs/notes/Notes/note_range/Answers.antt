use Rattle.std.proofs.Common.{◌+◌, ◌-◌, ◌<◌, length, arith, ◌∙◌, sym, ap, subst}
use Rattle.ca_value.specs.Seq.{list}
use Rattle.ca_states.specs.Machine.{slots_from}
use Rattle.ca_states.specs.Valid.{slot_noted, noted_all}
use Rattle.ca_states.specs.Told.{slot_told}
use Rattle.ca_states.proofs.RowLaws.{row_within, row_first, noted_all_same}
use Rattle.ca_states.proofs.notes.Notes.note_range.Goals as goal

pub overflow_add-from : goal.overflow_add-from
overflow_add-from c =
    let h = row_within (length (list c.args.self.now.marks)) c.args.from c.args.count c.loop-i.i c.requires c.loop-i-test.true in
    omega (arith, h, c.len-width.type_inv, c.len-width.ensures)

pub note-requires : goal.note-requires
note-requires c =
    let h = row_within (length (list c.args.self.now.marks)) c.args.from c.args.count c.loop-i.i c.requires c.loop-i-test.true in
    omega (arith, h, c.loop-i.invariant.0)

pub loop-i-preserved : goal.loop-i-preserved
loop-i-preserved c =
    let i = c.loop-i.i in
    let more = slots_from (c.args.from + (i + 1)) (c.args.count - (i + 1)) in (
      c.note.ensures.same ∙ c.loop-i.invariant.0,
      c.note.ensures.block ∙ c.loop-i.invariant.1,
      λ n lt b. c.note.ensures.before n (subst (λ x. x < n) (sym c.loop-i.invariant.1) lt) (c.loop-i.invariant.2 n lt b),
      λ s k.
          noted_all_same c.args.known more (slot_told c.note.new.self s) (slot_noted c.args.known (c.args.from + i) (slot_told c.loop-i.self s)) (c.note.ensures.told s) k
          ∙ sym (ap (λ r. noted_all c.args.known r (slot_told c.loop-i.self s) k) (row_first c.args.from i c.args.count c.loop-i-test.true))
          ∙ c.loop-i.invariant.3 s k,
    )
