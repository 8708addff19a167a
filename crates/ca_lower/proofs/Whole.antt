-- The code that is laid out for a program is valid.
use Rattle.std.proofs.Common.{◌≡◌, ℕ, suc, ◌+◌, ◌<◌, ◌≤◌, List, [], ◌∷◌, length, get_or, map, All, Option, None, true, refl, sym, ap, ◌∙◌, subst, arith, ◌&&◌, append-nil, length-append, ⊎_elim}
use Rattle.std.proofs.lemmas.Bool.{lt-ltb, eq-eqb, cases_lt}
use Rattle.std.specs.Prelude.{◌==◌, nat_lt, slice_index_or}
use Rattle.ca_term.specs.declared.head.Head.{Head}
use Rattle.ca_term.specs.declared.head.Head.TheVariants.{Recur, Builtin, Take, Put, Alts, Make, Spawn, Close, Register, Print, Post}
use Rattle.ca_term.specs.declared.head.Head.TheVariants as head
use Rattle.ca_term.specs.declared.head.SeedKind.{SeedKind}
use Rattle.ca_term.specs.declared.head.SystemTask.{SystemTask}
use Rattle.ca_term.specs.declared.head.SystemTask.TheVariants as task
use Rattle.ca_term.specs.declared.head.PlainFunction.{PlainFunction}
use Rattle.ca_term.specs.Fits.{Known, Takes, Suits, SuitsSystem, IsApplicable}
use Rattle.ca_term.specs.Program.{ProgramView, ProcedureView, arity, known_in, IsProcedure, IsProgram}
use Rattle.ca_states.specs.declared.code.Exit.{Exit}
use Rattle.ca_states.specs.declared.code.Exit.TheVariants.{Return}
use Rattle.ca_states.specs.Code.{has_slot, Instruction, BlockView, CodeView, block_count, no_block, block_at, no_entry, function_at}
use Rattle.ca_states.specs.Valid.{each, takes, is_applied, is_task, is_operation, is_valid_block, are_valid_blocks, are_just, begins_well, main_entry, identity_entry, is_valid}
use Rattle.ca_lower.specs.Implements.{in_slots, identity_text}
use Rattle.ca_lower.specs.Emit.{Builder, building, at_work, blocks_finished, block_of, emit, text_opened, width_of, emit_text, emit_texts, text_entries, widest, greater, main_procedure, nothing_built, code_of}
use Rattle.ca_lower.proofs.Lays.{Ends, closed_at}
use Rattle.ca_lower.proofs.Texts.{Has, has_close, has_ends, has_opened, opened_work, first_block, covers_parameters, takes_entry, identity_fits}
use Rattle.ca_lower.proofs.Knows.{both_true, up_first, first_slots, just_first, Valid, valid_block, valid_return}
use Rattle.ca_lower.proofs.Sound.{enough, own_slot, below_range, sound}

within : (C : CodeView) (w k : ℕ) (B : Builder) (is : List Instruction) (x : Exit) → Ends C w (text_opened k B) is x → at_work B < block_count C
within C w k (building done below is0) is x h =
    let all : length C.blocks ≡ length done + suc (length h.0) = ap length h.1 ∙ length-append done (block_of w k is x ∷ h.0) in omega (arith, all)

module _ (C : CodeView) (known : Known) (there : (f k : ℕ) → Takes known.functions f k → (f < length C.functions) × (k ≡ (function_at C f).values))
    (bodies_there : (f k : ℕ) → Takes known.bodies f k → takes C.bodies f k ≡ true) where
  called : (f k : ℕ) → Takes known.functions f k → takes C.functions f k ≡ true
  called f k t =
      let r = there f k t in
      both_true (nat_lt f (length C.functions)) ((slice_index_or C.functions f no_entry).values == k) (lt-ltb f (length C.functions) r.0) (eq-eqb (slice_index_or C.functions f no_entry).values k (sym r.1))

  applies : (f : PlainFunction) → IsApplicable known f → is_applied C f ≡ true
  applies (PlainFunction.Defined n) h = called n 1 h.0
  applies (PlainFunction.Builtin b) h = h
  applies PlainFunction.Keyword h = refl

  runs_task : (t : SystemTask) → SuitsSystem known t → is_task C t ≡ true
  runs_task task.Mult h = refl
  runs_task task.Deliver h = refl
  runs_task task.Mix h = refl
  runs_task (task.Pub f) h = applies f h
  runs_task task.Pipe h = refl
  runs_task task.Merge h = refl
  runs_task task.Onto h = refl
  runs_task task.Feed h = refl
  runs_task (task.Job xf f) h = applies f h
  runs_task task.Collect h = refl

  asks : (f : Head) (k : ℕ) (target : Option ℕ) → Suits known target f k → (f ≡ Recur → ⊥) → ((b : _) → f ≡ Builtin b → ⊥) → ((m : ℕ) → f ≡ head.Call m → ⊥) → is_operation C k f ≡ true
  asks Recur k target fit r b c = absurd (r refl)
  asks (Builtin x) k target fit r b c = absurd (b x refl)
  asks (head.Call m) k target fit r b c = absurd (c m refl)
  asks Take k target fit r b c = refl
  asks Put k target fit r b c = refl
  asks (Alts options) k target fit r b c = refl
  asks (Make kind) k target fit r b c = refl
  asks (Spawn (SeedKind.Go n)) k target fit r b c = bodies_there n k fit
  asks (Spawn (SeedKind.System t)) k target fit r b c = runs_task t fit
  asks Close k target fit r b c = refl
  asks (Register name) k target fit r b c = refl
  asks Print k target fit r b c = refl
  asks Post k target fit r b c = refl

  -- the blocks from m up to, not including, n are valid
  abbrev pub Valids : ℕ → ℕ → Type 0
  Valids m n = (j : ℕ) → m ≤ j → j < n → is_valid_block C j (block_at C j) ≡ true

  text_valid : (t : ProcedureView) (B : Builder) → IsProcedure known t → width_of t ≤ C.width → Has C (emit_text t B)
      → Valids (at_work B) (at_work (emit_text t B)) × (begins_well C (record { block = at_work B; values = arity t }) ≡ true) × Has C B
  text_valid t B text wide has =
      let w = width_of t in
      let k = arity t in
      let O = text_opened k B in
      let S = in_slots t.parameters 0 in
      let E = emit w None S k t.body O in
      let e = has_close C w E (Return k) 0 has in
      let own = own_slot k t.body in
      let s = sound C w wide known there called asks None None t.parameters S k t.body O [] (Return k) text.source text.bound text.fits (covers_parameters t.parameters 0) tt (below_range t.parameters 0 k (omega arith)) tt tt (omega arith) e
      (λ K up. valid_return C w (at_work E) k K (omega (arith, own)) (up k (omega arith))) in
      let at_b = opened_work k B in
      let first : block_at C (at_work B) ≡ block_of w k s.0 s.1 = first_block C w k B s.0 s.1 s.2 in
      let v0 : is_valid_block C (at_work B) (block_at C (at_work B)) ≡ true =
      ap (is_valid_block C (at_work B)) first ∙ valid_block C w k (at_work B) s.0 s.1 wide (omega (arith, own)) (subst (λ n. Valid C w n (has_slot (first_slots k)) s.0 s.1) at_b (s.3 (has_slot (first_slots k)) (up_first k))) in
      let end = closed_at w (Return k) 0 E in
      let just : are_just k (block_at C (at_work B)).entry ≡ true = ap (λ (b : BlockView). are_just k b.entry) first ∙ just_first k in (
        (λ j le lt. ⊎_elim (λ l. s.4 j (omega (arith, l, at_b)) (omega (arith, lt, end))) (λ g. let f : at_work B ≡ j = omega (arith, le, g) in subst (λ n. is_valid_block C n (block_at C n) ≡ true) f v0) (cases_lt (at_work B) j)),
        both_true (nat_lt (at_work B) (block_count C)) (are_just k (block_at C (at_work B)).entry) (lt-ltb (at_work B) (block_count C) (within C w k B s.0 s.1 s.2)) just,
        has_opened C k B (has_ends C w O s.0 s.1 s.2),
      )

  joined : (l m n : ℕ) → Valids l m → Valids m n → Valids l n
  joined l m n a b j le lt = ⊎_elim (λ g. a j le g) (λ g. b j g lt) (cases_lt j m)

  texts_valid : (ts : List ProcedureView) (B : Builder) → All (IsProcedure known) ts → widest ts ≤ C.width → Has C (emit_texts ts B)
      → Valids (at_work B) (at_work (emit_texts ts B)) × (each (begins_well C) (text_entries ts B) ≡ true) × Has C B
  texts_valid [] B fit wide has = ((λ j le lt. absurd (omega (arith, le, lt))), refl, has)
  texts_valid (t ∷ ts) B fit wide has =
      let f = enough (width_of t) (widest ts) C.width wide in
      let rest = texts_valid ts (emit_text t B) (λ n d lt. fit (suc n) d (omega (arith, lt))) f.1 has in
      let one = text_valid t B (fit 0 t (omega arith)) f.0 rest.2 in (
        joined (at_work B) (at_work (emit_text t B)) (at_work (emit_texts ts (emit_text t B))) one.0 rest.0,
        both_true (begins_well C (record { block = at_work B; values = arity t })) (each (begins_well C) (text_entries ts (emit_text t B))) one.1 rest.1,
        one.2,
      )

  all_valid : (n : ℕ) (bs : List BlockView) → ((k : ℕ) → k < length bs → is_valid_block C (n + k) (get_or bs k no_block) ≡ true) → are_valid_blocks C n bs ≡ true
  all_valid n [] h = refl
  all_valid n (b ∷ bs) h =
      let e : n + 0 ≡ n = omega arith in
      both_true (is_valid_block C n b) (are_valid_blocks C (suc n) bs) (subst (λ m. is_valid_block C m b ≡ true) e (h 0 (omega arith)))
      (all_valid (suc n) bs (λ k lt. let f : n + suc k ≡ suc n + k = omega arith in subst (λ m. is_valid_block C m (get_or bs k no_block) ≡ true) f (h (suc k) (omega (arith, lt)))))

finished_count : (B : Builder) → length (blocks_finished B) ≡ at_work B
finished_count (building done below is) = refl

takes_entries : (ts : List ProcedureView) (B : Builder) (n k : ℕ) → Takes (map arity ts) n k → takes (text_entries ts B) n k ≡ true
takes_entries ts B n k h =
    let r = takes_entry ts B n k h in
    both_true (nat_lt n (length (text_entries ts B))) ((slice_index_or (text_entries ts B) n no_entry).values == k) (lt-ltb n (length (text_entries ts B)) r.0) (eq-eqb (slice_index_or (text_entries ts B) n no_entry).values k (sym r.1))

pub code_valid : (P : ProgramView) → IsProgram P → is_valid (code_of P) ≡ true
code_valid P fit =
    let C = code_of P in
    let known = known_in fit.plain P in
    let F = emit_texts P.functions nothing_built in
    let G = emit_texts P.bodies F in
    let M = emit_text (main_procedure P) G in
    let I = emit_text identity_text M in
    let there : (f k : ℕ) → Takes known.functions f k → (f < length C.functions) × (k ≡ (function_at C f).values) = takes_entry P.functions nothing_built in
    let bodies_there : (f k : ℕ) → Takes known.bodies f k → takes C.bodies f k ≡ true = takes_entries P.bodies F in
    let w0 = enough (width_of identity_text) (greater (width_of (main_procedure P)) (greater (widest P.functions) (widest P.bodies))) C.width (omega arith) in
    let w1 = enough (width_of (main_procedure P)) (greater (widest P.functions) (widest P.bodies)) C.width w0.1 in
    let w2 = enough (widest P.functions) (widest P.bodies) C.width w1.1 in
    let identity = text_valid C known there bodies_there identity_text M (identity_fits known) w0.0 ([], sym (append-nil C.blocks)) in
    let main = text_valid C known there bodies_there (main_procedure P) G fit.main_fits w1.0 identity.2 in
    let bodies = texts_valid C known there bodies_there P.bodies F fit.bodies_fit w2.1 main.2 in
    let functions = texts_valid C known there bodies_there P.functions nothing_built fit.functions_fit w2.0 bodies.2 in
    let all =
    joined C known there bodies_there 0 (at_work F) (at_work I) functions.0
    (joined C known there bodies_there (at_work F) (at_work G) (at_work I) bodies.0 (joined C known there bodies_there (at_work G) (at_work M) (at_work I) main.0 identity.0)) in
    let blocks : are_valid_blocks C 0 C.blocks ≡ true =
    all_valid C known there bodies_there 0 C.blocks (λ k lt. let e : 0 + k ≡ k = omega arith in let s = finished_count I in subst (λ m. is_valid_block C m (block_at C k) ≡ true) (sym e) (all k (omega arith) (omega (arith, lt, s)))) in
    let one = both_true (are_valid_blocks C 0 C.blocks) (begins_well C (main_entry C)) blocks main.1 in
    let two = both_true (are_valid_blocks C 0 C.blocks && begins_well C (main_entry C)) (begins_well C (identity_entry C)) one identity.1 in
    let three = both_true (are_valid_blocks C 0 C.blocks && begins_well C (main_entry C) && begins_well C (identity_entry C)) (each (begins_well C) C.bodies) two bodies.1 in
    both_true (are_valid_blocks C 0 C.blocks && begins_well C (main_entry C) && begins_well C (identity_entry C) && each (begins_well C) C.bodies) (each (begins_well C) C.functions) three functions.1
