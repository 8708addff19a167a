use Rattle.std.proofs.Common.{sym, subst, ◌∙◌}
use Rattle.ca_term.specs.Program.{program_view}
use Rattle.ca_meaning.specs.IsBody.{IsBody}
use Rattle.ca_meaning.proofs.Bodies.{known_body}
use Rattle.ca_meaning.proofs.Beginnings.{main_of_program}
use Rattle.ca_meaning.proofs.body.Body.main.Goals as goal

pub of-requires : goal.of-requires
of-requires c =
    let P = program_view c.args.program.now in
    subst IsBody (sym (c.in_ok-copy.ensures ∙ c.main.ensures.text)) (known_body P P.main (main_of_program P c.main.ensures.checked))
