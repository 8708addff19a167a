use Rattle.std.proofs.Common.{◌≡◌, true, false, sym, ap, ◌∙◌, subst}
use Rattle.ca_term.specs.Program.{program_view}
use Rattle.ca_states.specs.Code.{code_view}
use Rattle.ca_states.specs.Valid.{is_valid}
use Rattle.ca_lower.specs.Gos.{SameGos}
use Rattle.ca_lower.specs.Lowered.{Lowered}
use Rattle.ca_lower.proofs.Gos.{same_gos}
use Rattle.ca_lower.proofs.Stands.{code_stands}
use Rattle.ca_lower.proofs.Whole.{code_valid}
use Rattle.ca_lower.proofs.lower.lower.Goals as goal

pub unreachable-requires : goal.unreachable-requires
unreachable-requires c =
    let valid : is_valid (code_view c.in_ok-code_for.field-0) ≡ true = ap is_valid c.in_ok-code_for.ensures ∙ code_valid (program_view c.args.program.now) c.checked.ensures in
    let not_valid : is_valid (code_view c.in_ok-code_for.field-0) ≡ false = c.in-Err.ensures.invalid in
    cc

pub returns-clause-lowered : goal.returns-clause-lowered
returns-clause-lowered c =
    let P = program_view c.args.program.now in
    subst (Lowered P) (sym (c.in-Ok.ensures.same ∙ c.in_ok-code_for.ensures)) (code_stands P c.checked.ensures)

pub returns-clause-gos : goal.returns-clause-gos
returns-clause-gos c =
    let P = program_view c.args.program.now in
    subst (SameGos P) (sym (c.in-Ok.ensures.same ∙ c.in_ok-code_for.ensures)) (same_gos P)
