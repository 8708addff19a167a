-- The code that is laid out for a program has the go bodies of the program alone.
use Rattle.std.proofs.Common.{◌≡◌, ◌∙◌, ℕ, zero, suc, ◌<◌, List, [], ◌∷◌, length, get_or, refl, sym, subst, arith, nat_lt, ◌==◌}
use Rattle.std.proofs.lemmas.Bool.{and_parts, eqb-true, ltb-true}
use Rattle.ca_term.specs.Program.{ProcedureView, ProgramView, arity}
use Rattle.ca_meaning.specs.Started.{procedure_at}
use Rattle.ca_states.specs.declared.runner.Start.TheVariants.{Go}
use Rattle.ca_states.specs.Code.{no_entry}
use Rattle.ca_states.specs.Standing.{IsStart}
use Rattle.ca_lower.specs.Emit.{Builder, code_of, emit_text, emit_texts, text_entries, nothing_built}
use Rattle.ca_lower.specs.Gos.{SameGos}
use Rattle.ca_lower.proofs.Texts.{length_entries}

values_at : (ts : List ProcedureView) (B : Builder) (n : ℕ) → n < length ts → (get_or (text_entries ts B) n no_entry).values ≡ arity (procedure_at ts n)
values_at [] B n lt = absurd (omega (arith, lt))
values_at (t ∷ ts) B zero lt = refl
values_at (t ∷ ts) B (suc n) lt = values_at ts (emit_text t B) n (omega (arith, lt))

one_of : (P : ProgramView) (n count : ℕ) → IsStart (code_of P) (Go n) count → (n < length P.bodies) × (count ≡ arity (procedure_at P.bodies n))
one_of P n count start =
    let F = emit_texts P.functions nothing_built in
    let es = text_entries P.bodies F in
    let both = and_parts (nat_lt n (length es)) ((get_or es n no_entry).values == count) start in
    let there : n < length P.bodies = subst (λ (k : ℕ). n < k) (length_entries P.bodies F) (ltb-true n (length es) both.0) in
    (there, sym (eqb-true (get_or es n no_entry).values count both.1) ∙ values_at P.bodies F n there)

pub same_gos : (P : ProgramView) → SameGos P (code_of P)
same_gos P = record { each = one_of P }
