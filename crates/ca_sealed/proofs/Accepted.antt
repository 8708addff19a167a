-- The program of an accepted script is sealed, and starts each of the tasks that use a port alone at most once for each
-- name.
use Rattle.std.proofs.Common.{◌≡◌, [], Ok}
use Rattle.ca_term.specs.Program.{ProcedureView, ProgramView}
use Rattle.ca_reader.specs.Form.{FormTrees}
use Rattle.ca_check.specs.Expansion.{expansion_of}
use Rattle.ca_sealed.proofs.Outcomes.{all_of_each}
use Rattle.ca_roles.specs.Sealed.{all_public, IsSealedProcedure, IsSealed}
use Rattle.ca_roles.specs.Once.{UsesOnce, IsOnceProcedure, StartsOnce}
use Rattle.ca_sealed.proofs.Once.{once}
use Rattle.ca_sealed.proofs.Words.{IsTidyText}
use Rattle.ca_sealed.proofs.Scopes.{parameters_public, parameters_fresh}
use Rattle.ca_sealed.proofs.Sealing.{sealed}
use Rattle.ca_sealed.proofs.Scripts.{IsTidyProgram, accepted_tidy}
use Rattle.ca_meaning.proofs.Waits.{each-weaker}

pub text_sealed : (t : ProcedureView) → IsTidyText t → IsSealedProcedure t
text_sealed t x me = sealed me x.base x.used x.size t.body x.tidy x.only (all_public t.parameters)
    ((λ k l u. parameters_public t.parameters k (x.bound k l u)), parameters_fresh t.parameters x.size x.below)

pub tidy_sealed : (p : ProgramView) → IsTidyProgram p → IsSealed p
tidy_sealed p x = record {
  functions = all_of_each IsSealedProcedure p.functions (each-weaker IsTidyText IsSealedProcedure p.functions text_sealed x.functions);
  bodies = all_of_each IsSealedProcedure p.bodies (each-weaker IsTidyText IsSealedProcedure p.bodies text_sealed x.bodies);
  main = λ me. text_sealed (record { parameters = []; body = p.main }) x.main me;
}

pub accepted_sealed : (forms : FormTrees) (program : ProgramView) → expansion_of forms ≡ Ok program → IsSealed program
accepted_sealed forms program e = tidy_sealed program (accepted_tidy forms program e)

pub text_once : (t : ProcedureView) → IsTidyText t → UsesOnce t.body
text_once t x = once x.base x.used x.size t.body x.tidy x.only (all_public t.parameters)
    ((λ k l u. parameters_public t.parameters k (x.bound k l u)), parameters_fresh t.parameters x.size x.below)

pub tidy_once : (p : ProgramView) → IsTidyProgram p → StartsOnce p
tidy_once p x = record {
  functions = all_of_each IsOnceProcedure p.functions (each-weaker IsTidyText IsOnceProcedure p.functions text_once x.functions);
  bodies = all_of_each IsOnceProcedure p.bodies (each-weaker IsTidyText IsOnceProcedure p.bodies text_once x.bodies);
  main = text_once (record { parameters = []; body = p.main }) x.main;
}

pub accepted_once : (forms : FormTrees) (program : ProgramView) → expansion_of forms ≡ Ok program → StartsOnce program
accepted_once forms program e = tidy_once program (accepted_tidy forms program e)
