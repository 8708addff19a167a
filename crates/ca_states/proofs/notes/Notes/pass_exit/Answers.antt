use Rattle.std.proofs.Common.{length, subst, sym}
use Rattle.std.specs.Prelude.{IsTrue}
use Rattle.ca_value.specs.Seq.{list}
use Rattle.ca_states.specs.Valid.{are_below}
use Rattle.ca_states.specs.Touched.{emptied_at}
use Rattle.ca_states.proofs.RowLaws.{below_more}
use Rattle.ca_states.proofs.notes.Notes.pass_exit.Goals as goal

pub note_all-requires : goal.note_all-requires
note_all-requires c =
    let width = length (list c.args.self.now.marks) in
    subst (λ ks. IsTrue (are_below width ks)) (sym c.empties.ensures) (below_more c.args.width width (emptied_at c.args.exit.now) c.requires.wide c.requires.empties)
