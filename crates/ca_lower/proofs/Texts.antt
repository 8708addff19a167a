-- The code that is laid out for a program implements each of its texts.
use Rattle.std.proofs.Common.{◌≡◌, ℕ, zero, suc, ◌<◌, List, [], ◌∷◌, ◌++◌, length, get_or, map, All, None, refl, sym, ap, ◌∙◌, subst, arith, append_assoc, append-nil, inl, inr, ⊎_elim}
use Rattle.std.proofs.lemmas.List.{get_or_at}
use Rattle.ca_term.specs.Fits.{Known, Takes}
use Rattle.ca_term.specs.Program.{ProgramView, ProcedureView, arity, known_in, IsProcedure, IsProgram}
use Rattle.ca_meaning.specs.Started.{procedure_at}
use Rattle.ca_states.specs.declared.code.Exit.{Exit}
use Rattle.ca_states.specs.declared.code.Exit.TheVariants.{Return}
use Rattle.ca_states.specs.Code.{Instruction, BlockView, CodeView, no_block, block_at, no_entry, function_at}
use Rattle.ca_lower.specs.Implements.{position, start_of, in_slots, Implements, ImplementsText, identity_text, ImplementsProgram}
use Rattle.ca_lower.specs.Emit.{Builder, building, at_work, blocks_finished, block_of, close, emit, text_opened, width_of, emit_text, emit_texts, text_entries, main_procedure, nothing_built, code_of}
use Rattle.ca_lower.proofs.Lays.{Ends, Covers, lays}

-- the code's blocks begin with those that are finished
abbrev pub Has : CodeView → Builder → Type 0
Has C B = (rest : List BlockView) × (C.blocks ≡ blocks_finished B ++ rest)

pub has_close : (C : CodeView) (w : ℕ) (B : Builder) (x : Exit) (next : ℕ) → Has C (close w x next B) → Ends C w B [] x
has_close C w (building done below is) x next h =
    (h.0, h.1 ∙ append_assoc done (block_of w below is x ∷ []) h.0 ∙ ap (λ l. done ++ block_of w below l x ∷ h.0) (sym (append-nil is)))

pub has_ends : (C : CodeView) (w : ℕ) (B : Builder) (is : List Instruction) (x : Exit) → Ends C w B is x → Has C B
has_ends C w (building done below is0) is x h = (block_of w below (is0 ++ is) x ∷ h.0, h.1)

pub has_opened : (C : CodeView) (k : ℕ) (B : Builder) → Has C (text_opened k B) → Has C B
has_opened C k (building done below is) h = h

pub opened_work : (k : ℕ) (B : Builder) → at_work (text_opened k B) ≡ at_work B
opened_work k (building done below is) = refl

-- the first block of a text
pub first_block : (C : CodeView) (w k : ℕ) (B : Builder) (is : List Instruction) (x : Exit) → Ends C w (text_opened k B) is x → block_at C (at_work B) ≡ block_of w k is x
first_block C w k (building done below is0) is x h =
    ap (λ l. get_or l (length done) no_block) h.1 ∙ get_or_at done (block_of w k is x) h.0 no_block (length done) refl

pub covers_parameters : (xs : List ℕ) (a : ℕ) → Covers xs (in_slots xs a)
covers_parameters [] a x i = absurd i
covers_parameters (y ∷ xs) a x i = ⊎_elim (λ e. inl e) (λ j. inr (covers_parameters xs (suc a) x j)) i

module _ (C : CodeView) (known : Known) (there : (f k : ℕ) → Takes known.functions f k → (f < length C.functions) × (k ≡ (function_at C f).values)) where
  text_implemented : (t : ProcedureView) (B : Builder) → IsProcedure known t → Has C (emit_text t B) → ImplementsText C t (record { block = at_work B; values = arity t }) × Has C B
  text_implemented t B text has =
      let w = width_of t in
      let k = arity t in
      let O = text_opened k B in
      let S = in_slots t.parameters 0 in
      let E = emit w None S k t.body O in
      let e = has_close C w E (Return k) 0 has in
      let l = lays C w known there None None t.parameters S k t.body O [] (Return k) text.source text.bound text.fits (covers_parameters t.parameters 0) tt e in
      let s : position (at_work O) l.0 l.1 ≡ start_of C (at_work B) =
      ap (λ n. position n l.0 l.1) (opened_work k B) ∙ sym (ap (λ (b : BlockView). position (at_work B) b.instrs b.exit) (first_block C w k B l.0 l.1 l.2)) in
      ((at_work E, refl, subst (λ z. Implements C None S k t.body z (position (at_work E) [] (Return k))) s l.3), has_opened C k B (has_ends C w O l.0 l.1 l.2))

  texts_implemented : (ts : List ProcedureView) (B : Builder) → All (IsProcedure known) ts → Has C (emit_texts ts B)
      → ((n : ℕ) → n < length ts → ImplementsText C (procedure_at ts n) (get_or (text_entries ts B) n no_entry)) × Has C B
  texts_implemented [] B fit has = (λ n lt. absurd (omega (arith, lt)), has)
  texts_implemented (t ∷ ts) B fit has =
      let rest = texts_implemented ts (emit_text t B) (λ n d lt. fit (suc n) d (omega (arith, lt))) has in
      let here = text_implemented t B (fit 0 t (omega arith)) rest.1 in
      (choose rest.0 here.0, here.1)
    where
      choose : ((n : ℕ) → n < length ts → ImplementsText C (procedure_at ts n) (get_or (text_entries ts (emit_text t B)) n no_entry)) → ImplementsText C t (record { block = at_work B; values = arity t })
          → (n : ℕ) → n < suc (length ts) → ImplementsText C (procedure_at (t ∷ ts) n) (get_or (text_entries (t ∷ ts) B) n no_entry)
      choose more here zero lt = here
      choose more here (suc n) lt = more n (omega (arith, lt))

pub length_entries : (ts : List ProcedureView) (B : Builder) → length (text_entries ts B) ≡ length ts
length_entries [] B = refl
length_entries (t ∷ ts) B = ap suc (length_entries ts (emit_text t B))

pub takes_entry : (ts : List ProcedureView) (B : Builder) (n k : ℕ) → Takes (map arity ts) n k → (n < length (text_entries ts B)) × (k ≡ (get_or (text_entries ts B) n no_entry).values)
takes_entry [] B n k h = absurd h
takes_entry (t ∷ ts) B zero k h = (omega arith, sym h)
takes_entry (t ∷ ts) B (suc n) k h = let r = takes_entry ts (emit_text t B) n k h in (let lt = r.0 in omega (arith, lt), r.1)

pub identity_fits : (known : Known) → IsProcedure known identity_text
identity_fits known = record { bound = inl refl; anew = tt; fits = tt; source = tt }

pub code_implements : (P : ProgramView) → IsProgram P → ImplementsProgram (code_of P) P
code_implements P fit =
    let C = code_of P in
    let known = known_in fit.plain P in
    let F = emit_texts P.functions nothing_built in
    let G = emit_texts P.bodies F in
    let there : (f k : ℕ) → Takes known.functions f k → (f < length C.functions) × (k ≡ (function_at C f).values) = takes_entry P.functions nothing_built in
    let M = emit_text (main_procedure P) G in
    let identity = text_implemented C known there identity_text M (identity_fits known) ([], sym (append-nil C.blocks)) in
    let main = text_implemented C known there (main_procedure P) G fit.main_fits identity.1 in
    let bodies = texts_implemented C known there P.bodies F fit.bodies_fit main.1 in
    let functions = texts_implemented C known there P.functions nothing_built fit.functions_fit bodies.1 in
    record {
      main = main.0;
      identity = identity.0;
      bodies = bodies.0;
      as_many = sym (length_entries P.functions nothing_built);
      functions = functions.0;
    }
