-- Heads whose operands are values, sequences and loops go as the term does; and so does every term.
use Rattle.std.proofs.Common.{◌≡◌, ℕ, suc, ◌-◌, ◌<◌, ◌≤◌, List, [], ◌∷◌, length, Option, None, Some, ℤ, Bool, true, false, refl, sym, ap, ap₂, ◌∙◌, subst, arith, cond}
use Rattle.std.specs.Prelude.{nat_le, Result, Ok, Err}
use Rattle.ca_value.specs.declared.builtin.Builtin.{Builtin as BuiltinName}
use Rattle.ca_value.specs.declared.builtin.Builtin.TheVariants.{Conj, Assoc}
use Rattle.ca_value.specs.Tree.{Tree, int, trees_of}
use Rattle.ca_value.specs.Outcome.{Outcome}
use Rattle.ca_value.specs.Builtins.{builtin_result}
use Rattle.ca_term.specs.declared.place.Place.{Place}
use Rattle.ca_term.specs.declared.fault.Fault.{Fault}
use Rattle.ca_term.specs.declared.fault.Fault.TheVariants.{Spun, TooDeep}
use Rattle.ca_term.specs.declared.head.Head.{Head}
use Rattle.ca_term.specs.declared.head.Head.TheVariants.{Recur, Builtin, Take, Put, Alts, Make, Spawn, Close, Register, Print, Post}
use Rattle.ca_term.specs.declared.head.Head.TheVariants as head
use Rattle.ca_term.specs.Kernel.{Kernel, Kernels, Founds, const, frame, apply, none, item, puts}
use Rattle.ca_term.specs.Operation.{OpView}
use Rattle.ca_term.specs.Asking.{asked, task_fault}
use Rattle.ca_term.specs.Fits.{count_terms}
use Rattle.ca_term.specs.Program.{ProgramView}
use Rattle.ca_meaning.specs.Redex.{redex, values_of}
use Rattle.ca_meaning.specs.Body.{local, faulted, at_or, standing, turns_after, fault_of, outcome_fault as failed_at, value_in, step, fill}
use Rattle.ca_meaning.specs.Rest.{LocalSteps, here, after}
use Rattle.ca_meaning.specs.Started.{procedure_at, started as started_text}
use Rattle.ca_states.specs.declared.code.Exit.TheVariants.{Jump, Branch, Return, Cut}
use Rattle.ca_states.specs.declared.code.Exit.TheVariants as exit
use Rattle.ca_states.specs.Code.{Instruction, one, two, two_int, pushing, putting, many, CodeView, function_at}
use Rattle.ca_states.specs.Machine.{Frame, goes, faults, read, slot_written, reads, slot_taken, taken_all, slots_from, effect, slot_answered, builtin_applied, begun_at, waits_or_faults}
use Rattle.ca_lower.specs.Implements.{CodePosition, position, start_of, before, Scope, moves, operand_slot, next_slot, written_integer, paired_instruction, Operand, Second, LeadsByCut, Implements, ImplementsAll}
use Rattle.ca_lower.specs.Lowered.{After, AreAlike}
use Rattle.ca_lower.proofs.Puts.{puts_items, puts_one, puts_two, puts_three, puts-apply, puts-const, consts, values-consts, operands-consts}
use Rattle.ca_meaning.proofs.Contexts.{Context, inside, in_frame, in_apply, in_first, in_rest}
use Rattle.ca_lower.proofs.Slots.{Same, same_trans, same_less, same_then_write, same_taken, same_taken_all, Holds, holds_same, length-reads, read-write_same, move_slots, same_moves, reads_moved}
use Rattle.ca_lower.proofs.Alike.{body, state, AlikeAt, alike_back, alike_next, fire, stands, filled}
use Rattle.ca_lower.proofs.Goes.{went_by, run_moves, many_move, Calls, Then, Gen, GenAll, calls_less, at_back, gen_none, gen_item, gen_operand, slot_before, from_next}
use Rattle.ca_meaning.proofs.Asked.{IsOperation, at_asked}
use Rattle.ca_lower.proofs.Leaves.{not_ready, asks_at, apply_redex, apply_replace}

integer_is : (u : Kernel) (z : ℤ) → written_integer u ≡ Some z → u ≡ const (int z)
integer_is (const (int y)) z e = let g : y ≡ z = cc in ap (λ k. const (int k)) g
integer_is t z e = absurd (let g : None ≡ Some z = e in cc)

module _ (P : ProgramView) (C : CodeView) where
  -- BUILTINS
  -- a builtin's value, or its fault
  applied_at : (n h : ℕ) (q : CodePosition) (b : BuiltinName) (pl : Place) (ws s s' : List Tree) (K : List Frame) (E : Kernel → Kernel) (turns : ℕ) (o : Outcome) → builtin_applied b ws ≡ o → Context E → Same h s s' → Then P C n q h s K E
      → After P (AreAlike P C n) (many_move C q h s' K turns pl o) (body (E (apply (Builtin b) (consts ws) pl)) turns (length K))
  applied_at n h q b pl ws s s' K E turns (Ok v) e ctx same cont =
      let r = apply (Builtin b) (consts ws) pl in
      let o : builtin_result b (values_of (consts ws)) ≡ Ok v = ap (builtin_result b) (values-consts ws) ∙ e in
      let g = cont n (omega arith) (slot_written s' h v) turns (same_then_write h h v s s' (omega arith) same) in
      let g2 : AlikeAt P C n q (slot_written s' h v) K turns (E (const v)) = subst (λ w. AlikeAt P C n q (slot_written s' h v) K turns (E (const w))) (read-write_same s' h v) g in
      at_back P C n q (slot_written s' h v) K turns (E r) (E (const v))
      (fire P E r (const v) turns (length K) ctx refl refl (apply_redex (Builtin b) ws pl) (ap (λ x. const (value_in x)) o) (apply_replace (const v) (Builtin b) ws pl) (ap (failed_at pl) o) refl) g2
  applied_at n h q b pl ws s s' K E turns (Err f) e ctx same cont =
      let r = apply (Builtin b) (consts ws) pl in
      let o : builtin_result b (values_of (consts ws)) ≡ Err f = ap (builtin_result b) (values-consts ws) ∙ e in
      let c = step P (body (E r) turns (length K)) in
      let place : redex (E r) ≡ r = ctx.redex_in r refl refl ∙ apply_redex (Builtin b) ws pl in
      let fails : c.fault ≡ Some (record { fault = task_fault f; place = pl }) = ap fault_of place ∙ ap (failed_at pl) o in (
        c,
        after (stands P E r turns (length K) ctx refl refl (apply_redex (Builtin b) ws pl)) here,
        ap (λ g. at_or g (standing c.turns c.depth (redex c.term))) fails,
        ap (λ z. turns_after z turns) place,
      )

  -- by an instruction behind the operands
  built : (n h : ℕ) (r q : CodePosition) (b : BuiltinName) (pl : Place) (i : Instruction) (ws s s1 left : List Tree) (K : List Frame) (E : Kernel → Kernel) (turns : ℕ)
      → r ≡ before i q → effect i s1 ≡ slot_answered left h pl (builtin_applied b ws) → Context E → Same h s left → Then P C n q h s K E → AlikeAt P C n r s1 K turns (E (apply (Builtin b) (consts ws) pl))
  built n h r q b pl i ws s s1 left K E turns er ed ctx same cont =
      subst (λ z. AlikeAt P C n z s1 K turns (E (apply (Builtin b) (consts ws) pl))) (sym er)
      (subst (λ mv. After P (AreAlike P C n) mv (body (E (apply (Builtin b) (consts ws) pl)) turns (length K))) (sym (went_by C q h pl s1 left K turns i (builtin_applied b ws) ed))
      (applied_at n h q b pl ws s left K E turns (builtin_applied b ws) refl ctx same cont))

  then_less : (m n : ℕ) (q : CodePosition) (h : ℕ) (s : List Tree) (K : List Frame) (E : Kernel → Kernel) → m ≤ n → Then P C n q h s K E → Then P C m q h s K E
  then_less m n q h s K E le cont j le2 = cont j (omega (arith, le, le2))

  -- over a row of slots
  gen_row : (b : BuiltinName) (ts : Kernels) (pl : Place) → GenAll P C ts
      → (n : ℕ) (names : Scope) (fs : Founds) (h : ℕ) (p q : CodePosition) (s : List Tree) (K : List Frame) (E : Kernel → Kernel) (turns : ℕ)
      → Calls P C n → (r : CodePosition) × ImplementsAll C names h ts p r × (r ≡ before (many b h h (count_terms ts) pl) q) → Holds names fs s h → Context E → Then P C n q h s K E
      → AlikeAt P C n p s K turns (E (puts fs (apply (Builtin b) ts pl)))
  gen_row b ts pl gts n names fs h p q s K E turns calls (r, its, er) holds ctx cont =
      let k = count_terms ts in
      let g : AlikeAt P C n p s K turns (E (apply (Builtin b) (puts_items fs ts) pl)) =
      gts n names fs h p r s K E (λ us. apply (Builtin b) us pl) turns calls its holds ctx (in_apply (Builtin b) pl)
      (λ m le s1 turns1 same1.
      let left = taken_all s1 (slots_from h k) in
      built m h r q b pl (many b h h k pl) (reads s1 (slots_from h k)) s s1 left K E turns1 er refl ctx (same_trans h h s s1 left (omega arith) same1 (same_taken_all h h k s1 (omega arith)))
      (then_less m n q h s K E le cont)) in
      subst (λ t. AlikeAt P C n p s K turns (E t)) (sym (puts-apply fs (Builtin b) ts pl)) g

  -- over one operand
  gen_one : (b : BuiltinName) (t : Kernel) (pl : Place) → Gen P C t → Gen P C (apply (Builtin b) (item t none) pl)
  gen_one b t pl gt n lp names fs h p q s K E turns calls (r, it, er) holds under ctx again cont =
      let F : Kernels → Kernel = λ us. apply (Builtin b) us pl in
      let a = operand_slot names h t in
      let g : AlikeAt P C n p s K turns (E (F (item (puts fs t) none))) =
      gen_operand P C t gt n names fs h p r s K (λ u. E (F (item u none))) turns calls it holds (inside E (λ u. F (item u none)) ctx (in_first F none (in_apply (Builtin b) pl)))
      (λ m le s1 turns1 same1. built m h r q b pl (one b h a pl) (read s1 a ∷ []) s s1 s1 K E turns1 er refl ctx same1 (then_less m n q h s K E le cont)) in
      subst (λ u. AlikeAt P C n p s K turns (E u)) (sym (puts-apply fs (Builtin b) (item t none) pl ∙ ap F (puts_one fs t))) g

  -- over one and an integer of the text
  gen_integer : (b : BuiltinName) (t u : Kernel) (z : ℤ) (pl : Place) → u ≡ const (int z) → Gen P C t
      → (n : ℕ) (names : Scope) (fs : Founds) (h : ℕ) (p q : CodePosition) (s : List Tree) (K : List Frame) (E : Kernel → Kernel) (turns : ℕ) → Calls P C n
      → (r : CodePosition) → Operand names t (Implements C None names h t p r) p r → r ≡ before (two_int b h (operand_slot names h t) z pl) q
      → Holds names fs s h → Context E → Then P C n q h s K E → AlikeAt P C n p s K turns (E (puts fs (apply (Builtin b) (item t (item u none)) pl)))
  gen_integer b t u z pl eu gt n names fs h p q s K E turns calls r it er holds ctx cont =
      let F : Kernels → Kernel = λ us. apply (Builtin b) us pl in
      let a = operand_slot names h t in
      let rest : Kernels = item (const (int z)) none in
      let g : AlikeAt P C n p s K turns (E (F (item (puts fs t) rest))) =
      gen_operand P C t gt n names fs h p r s K (λ y. E (F (item y rest))) turns calls it holds (inside E (λ y. F (item y rest)) ctx (in_first F rest (in_apply (Builtin b) pl)))
      (λ m le s1 turns1 same1. built m h r q b pl (two_int b h a z pl) (read s1 a ∷ int z ∷ []) s s1 s1 K E turns1 er refl ctx same1 (then_less m n q h s K E le cont)) in
      let second_is : puts fs u ≡ const (int z) = ap (puts fs) eu ∙ puts-const fs (int z) in
      subst (λ y. AlikeAt P C n p s K turns (E y)) (sym (puts-apply fs (Builtin b) (item t (item u none)) pl ∙ ap F (puts_two fs t u) ∙ ap (λ y. F (item (puts fs t) (item y none))) second_is)) g

  -- over two, the first of which is read in its slot too
  gen_slots : (b : BuiltinName) (t u : Kernel) (pl : Place) → Gen P C t → Gen P C u
      → (n : ℕ) (names : Scope) (fs : Founds) (h : ℕ) (p q : CodePosition) (s : List Tree) (K : List Frame) (E : Kernel → Kernel) (turns : ℕ) → Calls P C n
      → (r r2 : CodePosition) × Operand names t (Implements C None names h t p r) p r × Operand names u (Implements C None names (next_slot h t) u r r2) r r2 × (r2 ≡ before (two b h (operand_slot names h t) (operand_slot names (next_slot h t) u) pl) q)
      → Holds names fs s h → Context E → Then P C n q h s K E → AlikeAt P C n p s K turns (E (puts fs (apply (Builtin b) (item t (item u none)) pl)))
  gen_slots b t u pl gt gu n names fs h p q s K E turns calls (r, r2, it, iu, er) holds ctx cont =
      let F : Kernels → Kernel = λ us. apply (Builtin b) us pl in
      let inn = in_apply (Builtin b) pl in
      let a = operand_slot names h t in
      let h2 = next_slot h t in
      let c = operand_slot names h2 u in
      let le1 = from_next h t in
      let u' = puts fs u in
      let before2 = slot_before P C names fs s h t (Implements C None names h t p r) p r holds it in
      let g : AlikeAt P C n p s K turns (E (F (item (puts fs t) (item u' none)))) =
      gen_operand P C t gt n names fs h p r s K (λ z. E (F (item z (item u' none)))) turns calls it holds (inside E (λ z. F (item z (item u' none))) ctx (in_first F (item u' none) inn))
      (λ m le s1 turns1 same1.
      let v = read s1 a in
      let F2 : Kernels → Kernel = λ us. F (item (const v) us) in
      gen_operand P C u gu m names fs h2 r r2 s1 K (λ z. E (F2 (item z none))) turns1 (calls_less P C m n le calls) iu (holds_same names fs s s1 h h2 le1 same1 holds)
      (inside E (λ z. F2 (item z none)) ctx (in_first F2 none (in_rest F v inn)))
      (λ k le2 s2 turns2 same2.
      subst (λ x. AlikeAt P C k r2 s2 K turns2 (E (F (item (const x) (item (const (read s2 c)) none))))) (same2 a before2)
      (built k h r2 q b pl (two b h a c pl) (read s2 a ∷ read s2 c ∷ []) s s2 s2 K E turns2 er refl ctx (same_trans h h2 s s1 s2 le1 same1 same2)
      (then_less k n q h s K E (omega (arith, le, le2)) cont)))) in
      subst (λ z. AlikeAt P C n p s K turns (E z)) (sym (puts-apply fs (Builtin b) (item t (item u none)) pl ∙ ap F (puts_two fs t u))) g

  gen_second : (o : Option ℤ) (b : BuiltinName) (t u : Kernel) (pl : Place) → written_integer u ≡ o → Gen P C t → Gen P C u
      → (n : ℕ) (names : Scope) (fs : Founds) (h : ℕ) (p q : CodePosition) (s : List Tree) (K : List Frame) (E : Kernel → Kernel) (turns : ℕ) → Calls P C n
      → (r r2 : CodePosition) × Operand names t (Implements C None names h t p r) p r × Second o (Operand names u (Implements C None names (next_slot h t) u r r2) r r2) r r2
      × (r2 ≡ before (paired_instruction b h (operand_slot names h t) o (operand_slot names (next_slot h t) u) pl) q)
      → Holds names fs s h → Context E → Then P C n q h s K E → AlikeAt P C n p s K turns (E (puts fs (apply (Builtin b) (item t (item u none)) pl)))
  gen_second (Some z) b t u pl e gt gu n names fs h p q s K E turns calls (r, r2, it, iu, er) holds ctx cont =
      gen_integer b t u z pl (integer_is u z e) gt n names fs h p q s K E turns calls r it (iu ∙ er) holds ctx cont
  gen_second None b t u pl e gt gu n names fs h p q s K E turns calls im holds ctx cont = gen_slots b t u pl gt gu n names fs h p q s K E turns calls im holds ctx cont

  gen_both : (b : BuiltinName) (t u : Kernel) (pl : Place) → Gen P C t → Gen P C u
      → (n : ℕ) (names : Scope) (fs : Founds) (h : ℕ) (p q : CodePosition) (s : List Tree) (K : List Frame) (E : Kernel → Kernel) (turns : ℕ) → Calls P C n
      → (r r2 : CodePosition) × Operand names t (Implements C None names h t p r) p r × Second (written_integer u) (Operand names u (Implements C None names (next_slot h t) u r r2) r r2) r r2
      × (r2 ≡ before (paired_instruction b h (operand_slot names h t) (written_integer u) (operand_slot names (next_slot h t) u) pl) q)
      → Holds names fs s h → Context E → Then P C n q h s K E → AlikeAt P C n p s K turns (E (puts fs (apply (Builtin b) (item t (item u none)) pl)))
  gen_both b t u pl gt gu n names fs h p q s K E turns calls im holds ctx cont = gen_second (written_integer u) b t u pl refl gt gu n names fs h p q s K E turns calls im holds ctx cont

  -- `conj` of an item: the collection is taken out of slot h
  gen_conj : (t u : Kernel) (pl : Place) → Gen P C t → Gen P C u
      → (n : ℕ) (names : Scope) (fs : Founds) (h : ℕ) (p q : CodePosition) (s : List Tree) (K : List Frame) (E : Kernel → Kernel) (turns : ℕ) → Calls P C n
      → (r r2 : CodePosition) × Implements C None names h t p r × Operand names u (Implements C None names (suc h) u r r2) r r2 × (r2 ≡ before (pushing h h (operand_slot names (suc h) u) pl) q) → Holds names fs s h → Context E → Then P C n q h s K E → AlikeAt P C n p s K turns (E (puts fs (apply (Builtin Conj) (item t (item u none)) pl)))
  gen_conj t u pl gt gu n names fs h p q s K E turns calls (r, r2, it, iu, er) holds ctx cont =
      let F : Kernels → Kernel = λ us. apply (Builtin Conj) us pl in
      let inn = in_apply (Builtin Conj) pl in
      let c = operand_slot names (suc h) u in
      let u' = puts fs u in
      let g : AlikeAt P C n p s K turns (E (F (item (puts fs t) (item u' none)))) =
      gt n None names fs h p r s K (λ z. E (F (item z (item u' none)))) turns calls it holds tt (inside E (λ z. F (item z (item u' none))) ctx (in_first F (item u' none) inn)) tt
      (λ m le s1 turns1 same1.
      let v = read s1 h in
      let F2 : Kernels → Kernel = λ us. F (item (const v) us) in
      gen_operand P C u gu m names fs (suc h) r r2 s1 K (λ z. E (F2 (item z none))) turns1 (calls_less P C m n le calls) iu (holds_same names fs s s1 h (suc h) (omega arith) same1 holds)
      (inside E (λ z. F2 (item z none)) ctx (in_first F2 none (in_rest F v inn)))
      (λ k le2 s2 turns2 same2.
      let same3 = same_trans h (suc h) s s1 s2 (omega arith) same1 same2 in
      subst (λ x. AlikeAt P C k r2 s2 K turns2 (E (F (item (const x) (item (const (read s2 c)) none))))) (same2 h (omega arith))
      (built k h r2 q Conj pl (pushing h h c pl) (read s2 h ∷ read s2 c ∷ []) s s2 (slot_taken s2 h) K E turns2 er refl ctx (same_trans h h s s2 (slot_taken s2 h) (omega arith) same3 (same_taken h h s2 (omega arith)))
      (then_less k n q h s K E (omega (arith, le, le2)) cont)))) in
      subst (λ z. AlikeAt P C n p s K turns (E z)) (sym (puts-apply fs (Builtin Conj) (item t (item u none)) pl ∙ ap F (puts_two fs t u))) g

  -- `assoc` of a pair
  gen_assoc : (t u w : Kernel) (pl : Place) → Gen P C t → Gen P C u → Gen P C w
      → (n : ℕ) (names : Scope) (fs : Founds) (h : ℕ) (p q : CodePosition) (s : List Tree) (K : List Frame) (E : Kernel → Kernel) (turns : ℕ) → Calls P C n
      → (r r2 r3 : CodePosition) × Implements C None names h t p r × Operand names u (Implements C None names (suc h) u r r2) r r2 × Operand names w (Implements C None names (next_slot (suc h) u) w r2 r3) r2 r3
      × (r3 ≡ before (putting h h (operand_slot names (suc h) u) (operand_slot names (next_slot (suc h) u) w) pl) q) → Holds names fs s h → Context E → Then P C n q h s K E
      → AlikeAt P C n p s K turns (E (puts fs (apply (Builtin Assoc) (item t (item u (item w none))) pl)))
  gen_assoc t u w pl gt gu gw n names fs h p q s K E turns calls (r, r2, r3, it, iu, iw, er) holds ctx cont =
      let F : Kernels → Kernel = λ us. apply (Builtin Assoc) us pl in
      let inn = in_apply (Builtin Assoc) pl in
      let h2 = suc h in
      let c = operand_slot names h2 u in
      let h3 = next_slot h2 u in
      let d = operand_slot names h3 w in
      let le3 = from_next h2 u in
      let u' = puts fs u in
      let w' = puts fs w in
      let g : AlikeAt P C n p s K turns (E (F (item (puts fs t) (item u' (item w' none))))) =
      gt n None names fs h p r s K (λ z. E (F (item z (item u' (item w' none))))) turns calls it holds tt (inside E (λ z. F (item z (item u' (item w' none)))) ctx (in_first F (item u' (item w' none)) inn)) tt
      (λ m le s1 turns1 same1.
      let v = read s1 h in
      let F2 : Kernels → Kernel = λ us. F (item (const v) us) in
      let inn2 = in_rest F v inn in
      let holds1 = holds_same names fs s s1 h h2 (omega arith) same1 holds in
      gen_operand P C u gu m names fs h2 r r2 s1 K (λ z. E (F2 (item z (item w' none)))) turns1 (calls_less P C m n le calls) iu holds1
      (inside E (λ z. F2 (item z (item w' none))) ctx (in_first F2 (item w' none) inn2))
      (λ j le2 s2 turns2 same2.
      let key = read s2 c in
      let F3 : Kernels → Kernel = λ us. F2 (item (const key) us) in
      gen_operand P C w gw j names fs h3 r2 r3 s2 K (λ z. E (F3 (item z none))) turns2 (calls_less P C j n (omega (arith, le, le2)) calls) iw (holds_same names fs s1 s2 h2 h3 le3 same2 holds1)
      (inside E (λ z. F3 (item z none)) ctx (in_first F3 none (in_rest F2 key inn2)))
      (λ k le4 s3 turns3 same3.
      let same12 = same_trans h h2 s s1 s2 (omega arith) same1 same2 in
      let same13 = same_trans h h3 s s2 s3 (omega (arith, le3)) same12 same3 in
      let eh : read s3 h ≡ v = same3 h (omega (arith, le3)) ∙ same2 h (omega arith) in
      let ek : read s3 c ≡ key = same3 c (slot_before P C names fs s1 h2 u (Implements C None names h2 u r r2) r r2 holds1 iu) in
      subst (λ x. AlikeAt P C k r3 s3 K turns3 (E (F (item (const x) (item (const key) (item (const (read s3 d)) none)))))) eh
      (subst (λ x. AlikeAt P C k r3 s3 K turns3 (E (F (item (const (read s3 h)) (item (const x) (item (const (read s3 d)) none)))))) ek
      (built k h r3 q Assoc pl (putting h h c d pl) (read s3 h ∷ read s3 c ∷ read s3 d ∷ []) s s3 (slot_taken s3 h) K E turns3 er refl ctx (same_trans h h s s3 (slot_taken s3 h) (omega arith) same13 (same_taken h h s3 (omega arith)))
      (then_less k n q h s K E (omega (arith, le, le2, le4)) cont)))))) in
      subst (λ z. AlikeAt P C n p s K turns (E z)) (sym (puts-apply fs (Builtin Assoc) (item t (item u (item w none))) pl ∙ ap F (puts_three fs t u w))) g

  abbrev pub GenEach : Kernels → Type 0
  GenEach none = Unit {0}
  GenEach (item t ts) = Gen P C t × GenEach ts

  gen_all : (ts : Kernels) → GenEach ts → GenAll P C ts
  gen_all none g = gen_none P C
  gen_all (item t ts) g = gen_item P C t ts g.0 (gen_all ts g.1)

  gen_builtin : (b : BuiltinName) (ts : Kernels) (pl : Place) → GenEach ts → Gen P C (apply (Builtin b) ts pl)
  gen_builtin b (item t none) pl g n lp names fs h p q s K E turns calls im holds under ctx again cont = gen_one b t pl g.0 n lp names fs h p q s K E turns calls im holds under ctx again cont
  gen_builtin Conj (item t (item u none)) pl g n lp names fs h p q s K E turns calls im holds under ctx again cont = gen_conj t u pl g.0 g.1.0 n names fs h p q s K E turns calls im holds ctx cont
  gen_builtin b (item t (item u none)) pl g n lp names fs h p q s K E turns calls im holds under ctx again cont = gen_both b t u pl g.0 g.1.0 n names fs h p q s K E turns calls im holds ctx cont
  gen_builtin Assoc (item t (item u (item w none))) pl g n lp names fs h p q s K E turns calls im holds under ctx again cont = gen_assoc t u w pl g.0 g.1.0 g.1.1.0 n names fs h p q s K E turns calls im holds ctx cont
  gen_builtin b ts pl g n lp names fs h p q s K E turns calls im holds under ctx again cont = gen_row b ts pl (gen_all ts g) n names fs h p q s K E turns calls im holds ctx cont

  -- OPERATIONS
  -- an operation, or the fault of one of its operands
  cut_at : (n h to : ℕ) (q : CodePosition) (f : Head) (pl : Place) (ws s s' : List Tree) (K : List Frame) (E : Kernel → Kernel) (turns : ℕ) (o : Result OpView Fault) → IsOperation f → asked f (trees_of ws) pl ≡ o → Context E → Same h s s' → q ≡ start_of C to → Then P C n q h s K E
      → After P (AreAlike P C n) (waits_or_faults pl h (state to s' K turns) o) (body (E (apply f (consts ws) pl)) turns (length K))
  cut_at n h to q f pl ws s s' K E turns (Err x) op e ctx same eq cont =
      let r = apply f (consts ws) pl in
      (body (E r) turns (length K), here, stands P E r turns (length K) ctx refl (not_ready f (consts ws) pl op) (apply_redex f ws pl) ∙ asks_at f ws pl turns (length K) op ∙ ap (at_asked pl) e, refl)
  cut_at n h to q f pl ws s s' K E turns (Ok x) op e ctx same eq cont =
      let r = apply f (consts ws) pl in
      let no = not_ready f (consts ws) pl op in
      let go_on : (v : Tree) → AreAlike P C n (state to (slot_written s' h v) K 0) (fill v (body (E r) turns (length K))) =
      λ v.
      let g : AreAlike P C n (state to (slot_written s' h v) K 0) (body (E (const v)) 0 (length K)) =
      alike_next P C n to (slot_written s' h v) K 0 (body (E (const v)) 0 (length K))
      (λ j le2. subst (λ x. AlikeAt P C j (start_of C to) (slot_written s' h v) K 0 (E (const x))) (read-write_same s' h v)
      (subst (λ z. AlikeAt P C j z (slot_written s' h v) K 0 (E (const (read (slot_written s' h v) h)))) eq (cont j (omega (arith, le2)) (slot_written s' h v) 0 (same_then_write h h v s s' (omega arith) same)))) in
      subst (λ t. AreAlike P C n (state to (slot_written s' h v) K 0) (body t 0 (length K))) (sym (filled P E r (const v) ctx refl no (apply_replace (const v) f ws pl))) g
      in
      (body (E r) turns (length K), here, stands P E r turns (length K) ctx refl no (apply_redex f ws pl) ∙ asks_at f ws pl turns (length K) op ∙ ap (at_asked pl) e, refl, go_on)

  gen_operation : (f : Head) (ts : Kernels) (pl : Place) → IsOperation f → GenAll P C ts
      → (n : ℕ) (names : Scope) (fs : Founds) (h : ℕ) (p q : CodePosition) (s : List Tree) (K : List Frame) (E : Kernel → Kernel) (turns : ℕ)
      → Calls P C n → (r : CodePosition) → ImplementsAll C names h ts p r → LeadsByCut f C h (count_terms ts) pl r q → Holds names fs s h → Context E → Then P C n q h s K E
      → AlikeAt P C n p s K turns (E (puts fs (apply f ts pl)))
  gen_operation f ts pl op gts n names fs h p q s K E turns calls r its (b, to, er, eq) holds ctx cont =
      let k = count_terms ts in
      let its2 : ImplementsAll C names h ts p (position b [] (Cut f h k h to pl)) = subst (ImplementsAll C names h ts p) er its in
      let g : AlikeAt P C n p s K turns (E (apply f (puts_items fs ts) pl)) =
      gts n names fs h p (position b [] (Cut f h k h to pl)) s K E (λ us. apply f us pl) turns calls its2 holds ctx (in_apply f pl)
      (λ m le s1 turns1 same1.
      let ws = reads s1 (slots_from h k) in
      let s2 = taken_all s1 (slots_from h k) in
      cut_at m h to q f pl ws s s2 K E turns1 (asked f (trees_of ws) pl) op refl ctx (same_trans h h s s1 s2 (omega arith) same1 (same_taken_all h h k s1 (omega arith))) eq (λ j le2. cont j (omega (arith, le, le2)))) in
      subst (λ t. AlikeAt P C n p s K turns (E t)) (sym (puts-apply fs f ts pl)) g

  -- CALLS
  -- a call, or its fault
  pub called_at : (n f h to : ℕ) (q : CodePosition) (pl : Place) (ws s s' : List Tree) (K : List Frame) (E : Kernel → Kernel) (turns : ℕ) (a b : Bool) → nat_le 999_999 turns ≡ a → nat_le 256 (length K) ≡ b → Context E → Same h s s' → Calls P C n → f < length C.functions → length ws ≡ (function_at C f).values → q ≡ start_of C to → Then P C n q h s K E
      → After P (AreAlike P C n) (cond a (faults Spun pl turns) (cond b (faults TooDeep pl turns) (goes (state (function_at C f).block (begun_at C (function_at C f) ws) (record { next = to; answer = h; slots = s' } ∷ K) (suc turns))))) (body (E (apply (head.Call f) (consts ws) pl)) turns (length K))
  called_at n f h to q pl ws s s' K E turns true b ea eb ctx same calls ltf len eq cont =
      let r = apply (head.Call f) (consts ws) pl in
      (body (E r) turns (length K), here, stands P E r turns (length K) ctx refl refl (apply_redex (head.Call f) ws pl) ∙ ap (λ o. cond o (faulted Spun pl) (cond (nat_le 256 (length K)) (faulted TooDeep pl) local)) ea, refl)
  called_at n f h to q pl ws s s' K E turns false true ea eb ctx same calls ltf len eq cont =
      let r = apply (head.Call f) (consts ws) pl in
      (body (E r) turns (length K), here, stands P E r turns (length K) ctx refl refl (apply_redex (head.Call f) ws pl) ∙ ap₂ (λ o u. cond o (faulted Spun pl) (cond u (faulted TooDeep pl) local)) ea eb, refl)
  called_at n f h to q pl ws s s' K E turns false false ea eb ctx same calls ltf len eq cont =
      let r = apply (head.Call f) (consts ws) pl in
      let waits_there : Frame = record { next = to; answer = h; slots = s' } in
      let K' = waits_there ∷ K in
      let t = started_text (procedure_at P.functions f) ws in
      let there = calls n (omega arith) f ws K' (λ u. E (frame u)) (suc turns) ltf len (inside E (λ u. frame u) ctx in_frame)
      (λ m le v turns'.
      let back : LocalSteps P (body (E (frame (const v))) turns' (suc (length K))) (body (E (const v)) turns' (suc (length K) - 1)) =
      fire P E (frame (const v)) (const v) turns' (suc (length K)) ctx refl refl refl refl refl refl refl in
      let e : suc (length K) - 1 ≡ length K = omega arith in
      alike_back P C m (state to (slot_written s' h v) K turns') (body (E (frame (const v))) turns' (suc (length K))) (body (E (const v)) turns' (length K))
      (subst (λ k. LocalSteps P (body (E (frame (const v))) turns' (suc (length K))) (body (E (const v)) turns' k)) e back)
      (alike_next P C m to (slot_written s' h v) K turns' (body (E (const v)) turns' (length K))
      (λ k le2. subst (λ x. AlikeAt P C k (start_of C to) (slot_written s' h v) K turns' (E (const x))) (read-write_same s' h v)
      (subst (λ z. AlikeAt P C k z (slot_written s' h v) K turns' (E (const (read (slot_written s' h v) h)))) eq (cont k (omega (arith, le, le2)) (slot_written s' h v) turns' (same_then_write h h v s s' (omega arith) same)))))) in
      alike_back P C n (state (function_at C f).block (begun_at C (function_at C f) ws) K' (suc turns)) (body (E r) turns (length K)) (body (E (frame t)) (suc turns) (suc (length K)))
      (fire P E r (frame t) turns (length K) ctx refl refl (apply_redex (head.Call f) ws pl) (ap (λ l. frame (started_text (procedure_at P.functions f) l)) (operands-consts ws)) (apply_replace (frame t) (head.Call f) ws pl) refl
      (ap₂ (λ o u. cond o (faulted Spun pl) (cond u (faulted TooDeep pl) local)) ea eb))
      there

  gen_call : (f : ℕ) (ts : Kernels) (pl : Place) → GenAll P C ts → Gen P C (apply (head.Call f) ts pl)
  gen_call f ts pl gts n lp names fs h p q s K E turns calls (r, its, (b, to, ltf, cnt, er, eq)) holds under ctx again cont =
      let k = count_terms ts in
      let its2 : ImplementsAll C names h ts p (position b [] (exit.Call f h k h to pl)) = subst (ImplementsAll C names h ts p) er its in
      let g : AlikeAt P C n p s K turns (E (apply (head.Call f) (puts_items fs ts) pl)) =
      gts n names fs h p (position b [] (exit.Call f h k h to pl)) s K E (λ us. apply (head.Call f) us pl) turns calls its2 holds ctx (in_apply (head.Call f) pl)
      (λ m le s1 turns1 same1.
      let ws = reads s1 (slots_from h k) in
      let s2 = taken_all s1 (slots_from h k) in
      called_at m f h to q pl ws s s2 K E turns1 (nat_le 999_999 turns1) (nat_le 256 (length K)) refl refl ctx (same_trans h h s s1 s2 (omega arith) same1 (same_taken_all h h k s1 (omega arith))) (calls_less P C m n le calls) ltf (length-reads s1 h k ∙ cnt) eq (λ j le2. cont j (omega (arith, le, le2)))) in
      subst (λ t. AlikeAt P C n p s K turns (E t)) (sym (puts-apply fs (head.Call f) ts pl)) g

  -- RECURS
  gen_recur : (ts : Kernels) (pl : Place) → GenAll P C ts → Gen P C (apply Recur ts pl)
  gen_recur ts pl gts n None names fs h p q s K E turns calls (r, its, leads) holds under ctx again cont = absurd leads
  gen_recur ts pl gts n (Some t) names fs h p q s K E turns calls (r, its, (b, ec, back, er)) holds under ctx again cont =
      let first = t.first in
      let count = t.count in
      let there = position b (moves first h count) (Jump t.head pl) in
      let its2 : ImplementsAll C names h ts p there = subst (ImplementsAll C names h ts p) er its in
      let g : AlikeAt P C n p s K turns (E (apply Recur (puts_items fs ts) pl)) =
      gts n names fs h p there s K E (λ us. apply Recur us pl) turns calls its2 holds ctx (in_apply Recur pl)
      (λ m le s1 turns1 same1.
      let s2 = move_slots s1 first h count in
      let le1 : first ≤ h = omega (arith, under) in
      let a : AlikeAt P C m (position b [] (Jump t.head pl)) s2 K turns1 (E (apply Recur (consts (reads s2 (slots_from first count))) pl)) =
      again m le s2 turns1 b pl (same_trans first first s s1 s2 (omega arith) (same_less first h s s1 le1 same1) (same_moves first s1 first h count (omega arith) le1)) back in
      let a2 : AlikeAt P C m (position b [] (Jump t.head pl)) s2 K turns1 (E (apply Recur (consts (reads s1 (slots_from h count))) pl)) =
      subst (λ ws. AlikeAt P C m (position b [] (Jump t.head pl)) s2 K turns1 (E (apply Recur (consts ws) pl))) (reads_moved s1 first h count under) a in
      let a3 : AlikeAt P C m there s1 K turns1 (E (apply Recur (consts (reads s1 (slots_from h count))) pl)) =
      subst (λ mv. After P (AreAlike P C m) mv (body (E (apply Recur (consts (reads s1 (slots_from h count))) pl)) turns1 (length K))) (sym (run_moves C b first h count (Jump t.head pl) s1 K turns1)) a2 in
      subst (λ k. AlikeAt P C m there s1 K turns1 (E (apply Recur (consts (reads s1 (slots_from h k))) pl))) (sym ec) a3) in
      subst (λ z. AlikeAt P C n p s K turns (E z)) (sym (puts-apply fs Recur ts pl)) g

  pub gen_apply : (f : Head) (ts : Kernels) (pl : Place) → GenEach ts → Gen P C (apply f ts pl)
  gen_apply Recur ts pl g = gen_recur ts pl (gen_all ts g)
  gen_apply (Builtin b) ts pl g = gen_builtin b ts pl g
  gen_apply (head.Call f) ts pl g = gen_call f ts pl (gen_all ts g)
  gen_apply Take ts pl g = λ n lp names fs h p q s K E turns calls im holds under ctx again cont. gen_operation Take ts pl tt (gen_all ts g) n names fs h p q s K E turns calls im.0 im.1 im.2 holds ctx cont
  gen_apply Put ts pl g = λ n lp names fs h p q s K E turns calls im holds under ctx again cont. gen_operation Put ts pl tt (gen_all ts g) n names fs h p q s K E turns calls im.0 im.1 im.2 holds ctx cont
  gen_apply (Alts options) ts pl g = λ n lp names fs h p q s K E turns calls im holds under ctx again cont. gen_operation (Alts options) ts pl tt (gen_all ts g) n names fs h p q s K E turns calls im.0 im.1 im.2 holds ctx cont
  gen_apply (Make kind) ts pl g = λ n lp names fs h p q s K E turns calls im holds under ctx again cont. gen_operation (Make kind) ts pl tt (gen_all ts g) n names fs h p q s K E turns calls im.0 im.1 im.2 holds ctx cont
  gen_apply (Spawn kind) ts pl g = λ n lp names fs h p q s K E turns calls im holds under ctx again cont. gen_operation (Spawn kind) ts pl tt (gen_all ts g) n names fs h p q s K E turns calls im.0 im.1 im.2 holds ctx cont
  gen_apply Close ts pl g = λ n lp names fs h p q s K E turns calls im holds under ctx again cont. gen_operation Close ts pl tt (gen_all ts g) n names fs h p q s K E turns calls im.0 im.1 im.2 holds ctx cont
  gen_apply (Register name) ts pl g = λ n lp names fs h p q s K E turns calls im holds under ctx again cont. gen_operation (Register name) ts pl tt (gen_all ts g) n names fs h p q s K E turns calls im.0 im.1 im.2 holds ctx cont
  gen_apply Print ts pl g = λ n lp names fs h p q s K E turns calls im holds under ctx again cont. gen_operation Print ts pl tt (gen_all ts g) n names fs h p q s K E turns calls im.0 im.1 im.2 holds ctx cont
  gen_apply Post ts pl g = λ n lp names fs h p q s K E turns calls im holds under ctx again cont. gen_operation Post ts pl tt (gen_all ts g) n names fs h p q s K E turns calls im.0 im.1 im.2 holds ctx cont
