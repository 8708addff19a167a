use Rattle.ca_run.proofs.laws.journals_of_a_text_keep_the_laws.Goals as goal

pub returns : goal.returns
returns c = λ input program p journal legal.
    let written = c.read_forms_are_written.ensures.written input p.1.0 p.1.1 in
    c.journals_of_scripts_keep_the_laws.ensures p.0 program
    (c.expanded_forms_keep_their_scalars.ensures p.1.0 p.0 (c.read_forms_are_written.ensures.scalars p.1.0 written) p.1.2) p.2 journal legal
