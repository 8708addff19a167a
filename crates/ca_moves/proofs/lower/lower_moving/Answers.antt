use Rattle.std.proofs.Common.{◌≡◌, true, IfSome, IsTrue, ap, subst}
use Rattle.ca_term.specs.Program.{ProgramView, program_view}
use Rattle.ca_states.specs.Code.{CodeView, code_view}
use Rattle.ca_states.specs.Valid.{is_valid, takes}
use Rattle.ca_states.specs.ValidCode.{valid_code}
use Rattle.ca_lower.specs.Gos.{SameGos}
use Rattle.ca_lower.specs.Lowered.{Lowered}
use Rattle.ca_moves.specs.Plain.{plain_code}
use Rattle.ca_moves.proofs.lower.lower_moving.Goals as goal

-- code with the same plain code has the same go bodies
same_plain : (P : ProgramView) (C D : CodeView) → plain_code D ≡ plain_code C → SameGos P C → SameGos P D
same_plain P C D e s = record { each = λ n count start. s.each n count (subst (λ bodies. IsTrue (takes bodies n count)) (ap (λ (E : CodeView). E.bodies) e) start) }

pub returns-in-Some : goal.returns-in-Some
returns-in-Some c =
    let program = program_view c.args.program.now in
    let before = code_view c.in_ok-laid_out.field-0 in
    let after = valid_code c.in-Some.code in
    let stays = subst (λ o. IfSome o (λ v. (program : ProgramView) → is_valid before ≡ true → Lowered program before → Lowered program (valid_code v))) c.in-Some.is c.in_ok-code.ensures.lowered in
    let plain = subst (λ o. IfSome o (λ v. plain_code (valid_code v) ≡ plain_code before)) c.in-Some.is c.in_ok-code.ensures.plain in
    record {
      lowered = stays program c.in_ok-laid_out.ensures.valid c.in_ok-laid_out.ensures.lowered;
      gos = same_plain program before after plain c.in_ok-laid_out.ensures.gos;
    }
