use Rattle.std.proofs.Common.{refl}
use Rattle.ca_value.specs.IsValue.{written}
use Rattle.ca_journal.specs.Events.{events}
use Rattle.ca_run.proofs.Written.{all_told}
use Rattle.ca_run.proofs.laws.written_journals_are_read.Goals as goal

pub returns : goal.returns
returns c = λ script program p legal.
    let journal = events c.args.journal.now in
    let values = (c.journals_of_a_text_keep_the_laws.ensures script program p journal legal).values in
    let text = c.read_forms_are_written.ensures.written script p.1.0 p.1.1 in
    let scalars = c.expanded_forms_keep_their_scalars.ensures p.1.0 p.0 (c.read_forms_are_written.ensures.scalars p.1.0 text) p.1.2 in
    let shown = c.journals_are_told_apart.ensures.shown journal (record {
      program = program;
      checked = c.programs_are_checked.ensures p.0 program p.2;
      constants = c.programs_keep_their_scalars.ensures written p.0 program scalars p.2;
      legal = legal;
      numbered = c.journals_are_numbered.ensures;
    }) in
    record { text = refl; told = all_told journal values shown }
