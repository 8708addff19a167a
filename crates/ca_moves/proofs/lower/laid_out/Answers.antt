use Rattle.std.proofs.Common.{◌≡◌, true, sym, subst, Result, Ok, Err, IfOk}
use Rattle.ca_value.specs.declared.memory.OutOfMemory.{OutOfMemory}
use Rattle.ca_term.specs.Program.{program_view}
use Rattle.ca_states.specs.declared.code.Code.{Code}
use Rattle.ca_states.specs.Code.{CodeView, code_view}
use Rattle.ca_states.specs.Valid.{is_valid}
use Rattle.ca_lower.specs.Emit.{code_of}
use Rattle.ca_lower.specs.Gos.{SameGos}
use Rattle.ca_lower.specs.Lowered.{Lowered}
use Rattle.ca_lower.proofs.Gos.{same_gos}
use Rattle.ca_lower.proofs.Stands.{code_stands}
use Rattle.ca_lower.proofs.Whole.{code_valid}
use Rattle.ca_moves.proofs.lower.laid_out.Goals as goal

-- what is true of the code as it is laid out is true of the code that is made so
made : (K : CodeView → Type 0) (laid : CodeView) → K laid → (r : Result Code OutOfMemory) → IfOk r (λ c. code_view c ≡ laid) → IfOk r (λ c. K (code_view c))
made K laid h (Ok c) e = subst K (sym e) h
made K laid h (Err x) e = tt

pub returns-clause-valid : goal.returns-clause-valid
returns-clause-valid c = let P = program_view c.args.program.now in made (λ code. is_valid code ≡ true) (code_of P) (code_valid P c.checked.ensures) c.code_for.result c.code_for.ensures

pub returns-clause-lowered : goal.returns-clause-lowered
returns-clause-lowered c = let P = program_view c.args.program.now in made (Lowered P) (code_of P) (code_stands P c.checked.ensures) c.code_for.result c.code_for.ensures

pub returns-clause-gos : goal.returns-clause-gos
returns-clause-gos c = let P = program_view c.args.program.now in made (SameGos P) (code_of P) (same_gos P) c.code_for.result c.code_for.ensures
