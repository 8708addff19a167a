use Rattle.std.proofs.Common.{◌<◌, sym, subst}
use Rattle.ca_states.proofs.notes.Notes.note_all.Goals as goal

pub returns-in-Three-clause-before : goal.returns-in-Three-clause-before
returns-in-Three-clause-before c = λ n lt b.
    let first = c.note-in-Three.ensures in
    let second = c.note-in-Three-2.ensures in
    let third = c.note-in-Three-3.ensures in
    let lt2 = subst (λ x. x < n) (sym first.block) lt in
    let lt3 = subst (λ x. x < n) (sym second.block) lt2 in
    third.before n lt3 (second.before n lt2 (first.before n lt b))
