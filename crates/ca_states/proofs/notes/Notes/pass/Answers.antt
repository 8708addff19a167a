use Rattle.std.proofs.Common.{length, subst, sym, arith}
use Rattle.std.specs.Prelude.{IsTrue}
use Rattle.ca_value.specs.Seq.{list}
use Rattle.ca_states.specs.Code.{instruction}
use Rattle.ca_states.specs.Valid.{are_below}
use Rattle.ca_states.proofs.RowLaws.{in_range_parts}
use Rattle.ca_states.proofs.notes.Notes.pass.Goals as goal

pub are_known-known-requires : goal.are_known-known-requires
are_known-known-requires c =
    let width = length (list c.args.self.now.marks) in
    subst (λ ks. IsTrue (are_below width ks)) (sym c.reads.ensures) (in_range_parts c.args.width width (instruction c.args.instr.now) c.requires.wide c.requires.range).0

pub note_all-requires : goal.note_all-requires
note_all-requires c =
    let width = length (list c.args.self.now.marks) in
    subst (λ ks. IsTrue (are_below width ks)) (sym c.empties.ensures) (in_range_parts c.args.width width (instruction c.args.instr.now) c.requires.wide c.requires.range).1

pub note_all-requires-2 : goal.note_all-requires-2
note_all-requires-2 c =
    let width = length (list c.note_all.new.self.marks) in
    subst (λ ks. IsTrue (are_below width ks)) (sym c.writes.ensures)
    (in_range_parts c.args.width width (instruction c.args.instr.now) (omega (arith, c.requires.wide, c.note_all.ensures.same)) c.requires.range).2
