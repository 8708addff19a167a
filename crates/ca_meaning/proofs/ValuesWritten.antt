-- The constants of a checked program are values, with such scalars in them as are said of them.
use Rattle.std.proofs.Common.{◌≡◌, zero, suc, List, [], ◌∷◌, arith, All}
use Rattle.std.specs.Prelude.{slice_index_or}
use Rattle.ca_value.specs.Tree.{Tree, nil, bool, int, text, key, vector, map, port}
use Rattle.ca_value.specs.IsValue.{Scalars, any, IsValue}
use Rattle.ca_term.specs.Kernel.{Kernel, Kernels, Bindings, const, var, branch, bind, loop, seq, frame, turn, apply, none, item, empty, binding}
use Rattle.ca_term.specs.Fits.{Known}
use Rattle.ca_term.specs.Source.{IsLiteral, IsSource, AreSource, AreSourceBindings}
use Rattle.ca_term.specs.Program.{ProgramView, ProcedureView, IsProcedure, IsProgram, known_in}
use Rattle.ca_term.specs.Constants.{IsScalar, HasScalars, TermsHaveScalars, BindingsHaveScalars, ProgramHasScalars}
use Rattle.ca_meaning.specs.RunValues.{HasValues, HaveValues, BindingsHaveValues}
use Rattle.ca_meaning.proofs.ValueTerms.{AllHaveValues, IsWritten, nil_is_value}

module _ (scalars : Scalars) where
  literal_value : (v : Tree) → IsLiteral v → IsScalar scalars v → IsValue scalars v
  literal_value nil h k = nil_is_value scalars
  literal_value (bool b) h k = record { regular = tt; light = omega arith; shallow = omega arith }
  literal_value (int z) h k = record { regular = k; light = omega arith; shallow = omega arith }
  literal_value (text s) h k = record { regular = tt; light = omega (arith, h); shallow = omega arith }
  literal_value (key s) h k = record { regular = k; light = omega (arith, h); shallow = omega arith }
  literal_value (vector ts) h k = absurd h
  literal_value (map ps) h k = absurd h
  literal_value (port n) h k = absurd h

  mutual
    source_has : (t : Kernel) → IsSource t → HasScalars scalars t → HasValues scalars t
    source_has (const v) h k = literal_value v h k
    source_has (var n) h k = tt
    source_has (branch c a b) h k = (source_has c h.0 k.0, source_has a h.1 k.1, source_has b h.2 k.2)
    source_has (bind bs body) h k = (bindings_have bs h.0 k.0, source_has body h.1 k.1)
    source_has (loop [] bs body) h k = (tt, bindings_have bs h.1 k.0, source_has body h.2 k.1)
    source_has (loop (f ∷ fs) bs body) h k = let e : f ∷ fs ≡ [] = h.0 in cc
    source_has (seq ts) h k = sources_have ts h k
    source_has (frame body) h k = absurd h
    source_has (turn names whole now) h k = absurd h
    source_has (apply f ts p) h k = (h.0, sources_have ts h.1 k)

    sources_have : (ts : Kernels) → AreSource ts → TermsHaveScalars scalars ts → HaveValues scalars ts
    sources_have none h k = tt
    sources_have (item t ts) h k = (source_has t h.0 k.0, sources_have ts h.1 k.1)

    bindings_have : (bs : Bindings) → AreSourceBindings bs → BindingsHaveScalars scalars bs → BindingsHaveValues scalars bs
    bindings_have empty h k = tt
    bindings_have (binding n t bs) h k = (source_has t h.0 k.0, bindings_have bs h.1 k.1)

  procedures_have : (known : Known) (ps : List ProcedureView) → All (IsProcedure known) ps → All (λ (t : ProcedureView). HasScalars scalars t.body) ps → AllHaveValues scalars ps
  procedures_have known [] all each = tt
  procedures_have known (p ∷ ps) all each =
      (source_has p.body (all zero p (omega arith)).source (each zero p (omega arith)), procedures_have known ps (λ k d lt. all (suc k) d (omega (arith, lt))) (λ k d lt. each (suc k) d (omega (arith, lt))))

  pub written_of : (program : ProgramView) → IsProgram program → ProgramHasScalars scalars program → IsWritten scalars program
  written_of program h k = record {
    functions = procedures_have (known_in h.plain program) program.functions h.functions_fit k.functions;
    bodies = procedures_have (known_in h.plain program) program.bodies h.bodies_fit k.bodies;
    main = source_has program.main h.main_fits.source k.main;
  }

-- of any scalars
any_scalar : (v : Tree) → IsScalar any v
any_scalar nil = tt
any_scalar (bool b) = tt
any_scalar (int z) = tt
any_scalar (text s) = tt
any_scalar (key s) = tt
any_scalar (vector ts) = tt
any_scalar (map ps) = tt
any_scalar (port n) = tt

mutual
  any_has : (t : Kernel) → HasScalars any t
  any_has (const v) = any_scalar v
  any_has (var n) = tt
  any_has (branch c a b) = (any_has c, any_has a, any_has b)
  any_has (bind bs body) = (any_bindings bs, any_has body)
  any_has (loop fs bs body) = (any_bindings bs, any_has body)
  any_has (seq ts) = any_have ts
  any_has (frame body) = any_has body
  any_has (turn names whole now) = (any_has whole, any_has now)
  any_has (apply f ts p) = any_have ts

  any_have : (ts : Kernels) → TermsHaveScalars any ts
  any_have none = tt
  any_have (item t ts) = (any_has t, any_have ts)

  any_bindings : (bs : Bindings) → BindingsHaveScalars any bs
  any_bindings empty = tt
  any_bindings (binding n t bs) = (any_has t, any_bindings bs)

pub any_program : (program : ProgramView) → ProgramHasScalars any program
any_program program = record { functions = λ k d lt. any_has (slice_index_or program.functions k d).body; bodies = λ k d lt. any_has (slice_index_or program.bodies k d).body; main = any_has program.main }
