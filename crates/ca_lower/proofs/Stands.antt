-- The code that is laid out for a checked program stands for it.
use Rattle.ca_term.specs.Program.{ProgramView, IsProgram}
use Rattle.ca_lower.specs.Emit.{code_of}
use Rattle.ca_lower.specs.Lowered.{Lowered}
use Rattle.ca_lower.proofs.Lowers.{lowered}
use Rattle.ca_lower.proofs.Texts.{code_implements}

pub code_stands : (P : ProgramView) → IsProgram P → Lowered P (code_of P)
code_stands P fit = lowered P (code_of P) (code_implements P fit)
