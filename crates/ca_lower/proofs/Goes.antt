-- The code that implements a term goes as the term does.
use Rattle.std.proofs.Common.{◌≡◌, ℕ, zero, suc, ◌+◌, ◌<◌, ◌≤◌, List, [], ◌∷◌, ◌++◌, length, None, Some, Option, Bool, true, false, refl, sym, ap, ap₂, ◌∙◌, subst, arith, cond, append_assoc, append-nil, lt-ltb}
use Rattle.std.specs.Prelude.{nat_lt, Ok, Err}
use Rattle.ca_value.specs.Tree.{Tree}
use Rattle.ca_value.specs.Outcome.{Outcome}
use Rattle.ca_term.specs.declared.place.Place.{Place}
use Rattle.ca_term.specs.declared.head.Head.TheVariants.{Recur}
use Rattle.ca_term.specs.Kernel.{Kernel, Kernels, Bindings, Founds, const, var, branch, bind, apply, none, item, empty, binding, put, put_bindings, puts}
use Rattle.ca_term.specs.Operands.{truth}
use Rattle.ca_term.specs.Asking.{task_fault}
use Rattle.ca_term.specs.Fits.{count_terms, count_bindings}
use Rattle.ca_term.specs.Program.{ProgramView}
use Rattle.ca_meaning.specs.Rest.{LocalSteps}
use Rattle.ca_meaning.specs.Started.{procedure_at, started as started_text}
use Rattle.ca_states.specs.declared.code.Exit.{Exit}
use Rattle.ca_states.specs.declared.code.Exit.TheVariants.{Jump, Branch}
use Rattle.ca_states.specs.Code.{Instruction, constant, copying, moving, CodeView, function_at}
use Rattle.ca_states.specs.Machine.{Frame, Move, goes, faults, read, slot_written, reads, slot_taken, slots_from, effect, slot_answered, begun_at, turned, returned, went, runs_block}
use Rattle.ca_lower.specs.Implements.{CodePosition, position, start_of, before, Scope, slot_of, in_slots, names_bound, Target, moves, operand_slot, next_slot, Operand, Implements, ImplementsBindings, ImplementsAll}
use Rattle.ca_lower.specs.Lowered.{After, AreAlike}
use Rattle.ca_lower.proofs.Puts.{puts_items, puts_bindings, puts-const, puts-branch, puts-bind, puts_items-none, puts_items-item, puts_bindings-empty, puts_bindings-binding, puts-append, puts_bindings-append, consts}
use Rattle.ca_meaning.proofs.Contexts.{Context, InnerAll, inside, in_branch, in_bind, in_first, in_rest}
use Rattle.ca_lower.proofs.Slots.{Same, same_trans, same_write, same_then_write, same_taken, Holds, holds_same, holds_append, holds_one, holds_range, holds_below, puts_var, founds_at, length-bound, read-write_same, moved, move_slots}
use Rattle.ca_lower.proofs.Alike.{body, state, run_from, AlikeAt, alike_back, alike_next, after_back, fire}

pub run_constant : (C : CodeView) (q : CodePosition) (h : ℕ) (v : Tree) (s : List Tree) (K : List Frame) (turns : ℕ) → run_from C (before (constant h v) q) s K turns ≡ run_from C q (slot_written s h v) K turns
run_constant C (position n is x) h v s K turns = refl

pub run_copying : (C : CodeView) (q : CodePosition) (h a : ℕ) (s : List Tree) (K : List Frame) (turns : ℕ) → run_from C (before (copying h a) q) s K turns ≡ run_from C q (slot_written s h (read s a)) K turns
run_copying C (position n is x) h a s K turns = refl

pub run_moving : (C : CodeView) (q : CodePosition) (h a : ℕ) (s : List Tree) (K : List Frame) (turns : ℕ) → run_from C (before (moving h a) q) s K turns ≡ run_from C q (moved s h a) K turns
run_moving C (position n is x) h a s K turns = refl

pub run_moves : (C : CodeView) (n d a k : ℕ) (x : Exit) (s : List Tree) (K : List Frame) (turns : ℕ) → run_from C (position n (moves d a k) x) s K turns ≡ run_from C (position n [] x) (move_slots s d a k) K turns
run_moves C n d a zero x s K turns = refl
run_moves C n d a (suc k) x s K turns = run_moves C n (suc d) (suc a) k x (moved s d a) K turns

-- what a builtin over slots comes to
abbrev pub many_move : CodeView → CodePosition → ℕ → List Tree → List Frame → ℕ → Place → Outcome → Move
many_move C q h s K turns p (Ok v) = run_from C q (slot_written s h v) K turns
many_move C q h s K turns p (Err f) = faults (task_fault f) p turns

pub went_by : (C : CodeView) (q : CodePosition) (h : ℕ) (p : Place) (s s' : List Tree) (K : List Frame) (turns : ℕ) (i : Instruction) (o : Outcome)
    → effect i s ≡ slot_answered s' h p o → run_from C (before i q) s K turns ≡ many_move C q h s' K turns p o
went_by C (position n is x) h p s s' K turns i o e = ap (λ f. went f (state n s K turns) (runs_block C is x)) e ∙ by o
  where
    by : (o : Outcome) → went (slot_answered s' h p o) (state n s K turns) (runs_block C is x) ≡ many_move C (position n is x) h s' K turns p o
    by (Ok v) = refl
    by (Err f) = refl

-- the target of a recur has its slots below h
abbrev pub Under : Option Target → ℕ → Type 0
Under None h = Unit {0}
Under (Some t) h = t.first + t.count ≤ h

module _ (P : ProgramView) (C : CodeView) where
  -- what goes on after a call's value
  abbrev pub Returns : ℕ → List Frame → (Kernel → Kernel) → Type 0
  Returns n K E = (m : ℕ) → m ≤ n → (v : Tree) (turns : ℕ) → After P (AreAlike P C m) (returned v K turns) (body (E (const v)) turns (length K))

  -- a function's first block goes as a call of it does
  abbrev pub Calls : ℕ → Type 0
  Calls n =
      (m : ℕ) → m ≤ n → (f : ℕ) (vs : List Tree) (K : List Frame) (E : Kernel → Kernel) (turns : ℕ) → f < length C.functions → length vs ≡ (function_at C f).values → Context E → Returns m K E
      → AreAlike P C m (state (function_at C f).block (begun_at C (function_at C f) vs) K turns) (body (E (started_text (procedure_at P.functions f) vs)) turns (length K))

  -- what goes on after the value
  abbrev pub Then : ℕ → CodePosition → ℕ → List Tree → List Frame → (Kernel → Kernel) → Type 0
  Then n q h s K E = (m : ℕ) → m ≤ n → (s' : List Tree) (turns : ℕ) → Same h s s' → AlikeAt P C m q s' K turns (E (const (read s' h)))

  abbrev pub ThenAll : ℕ → CodePosition → ℕ → ℕ → List Tree → List Frame → (Kernels → Kernel) → Type 0
  ThenAll n q h count s K E = (m : ℕ) → m ≤ n → (s' : List Tree) (turns : ℕ) → Same h s s' → AlikeAt P C m q s' K turns (E (consts (reads s' (slots_from h count))))

  -- what goes on after a recur
  abbrev pub Again : ℕ → Option Target → List Tree → List Frame → (Kernel → Kernel) → Type 0
  Again n None s K E = Unit {0}
  Again n (Some t) s K E =
      (m : ℕ) → m ≤ n → (s' : List Tree) (turns at_block : ℕ) (pl : Place) → Same t.first s s' → t.head ≤ at_block
      → AlikeAt P C m (position at_block [] (Jump t.head pl)) s' K turns (E (apply Recur (consts (reads s' (slots_from t.first t.count))) pl))

  abbrev pub Gen : Kernel → Type 0
  Gen t =
      (n : ℕ) (lp : Option Target) (names : Scope) (fs : Founds) (h : ℕ) (p q : CodePosition) (s : List Tree) (K : List Frame) (E : Kernel → Kernel) (turns : ℕ)
      → Calls n → Implements C lp names h t p q → Holds names fs s h → Under lp h → Context E → Again n lp s K E → Then n q h s K E
      → AlikeAt P C n p s K turns (E (puts fs t))

  abbrev pub GenAll : Kernels → Type 0
  GenAll ts =
      (n : ℕ) (names : Scope) (fs : Founds) (h : ℕ) (p q : CodePosition) (s : List Tree) (K : List Frame) (E : Kernel → Kernel) (F : Kernels → Kernel) (turns : ℕ)
      → Calls n → ImplementsAll C names h ts p q → Holds names fs s h → Context E → InnerAll F → ThenAll n q h (count_terms ts) s K (λ us. E (F us))
      → AlikeAt P C n p s K turns (E (F (puts_items fs ts)))

  pub calls_less : (m n : ℕ) → m ≤ n → Calls n → Calls m
  calls_less m n le calls k lt = let lt' : k ≤ n = omega (arith, lt, le) in calls k lt'

  pub again_from : (m n : ℕ) (lp : Option Target) (h : ℕ) (s s' : List Tree) (K : List Frame) (E : Kernel → Kernel) → m ≤ n → Under lp h → Same h s s' → Again n lp s K E → Again m lp s' K E
  again_from m n None h s s' K E le u same a = tt
  again_from m n (Some t) h s s' K E le u same a = λ k le2 s2 turns b pl same2 back.
      let le3 : k ≤ n = omega (arith, le, le2) in
      let le4 : t.first ≤ h = omega (arith, u) in
      a k le3 s2 turns b pl (λ j lt. same2 j lt ∙ same j (omega (arith, lt, le4))) back

  pub under_more : (lp : Option Target) (h g : ℕ) → h ≤ g → Under lp h → Under lp g
  under_more None h g le u = tt
  under_more (Some t) h g le u = omega (arith, le, u)

  -- steps of the term alone
  pub at_back : (n : ℕ) (p : CodePosition) (s : List Tree) (K : List Frame) (turns : ℕ) (t u : Kernel) → LocalSteps P (body t turns (length K)) (body u turns (length K)) → AlikeAt P C n p s K turns u → AlikeAt P C n p s K turns t
  at_back n p s K turns t u steps g = after_back P (AreAlike P C n) (alike_back P C n) (run_from C p s K turns) (body t turns (length K)) (body u turns (length K)) steps g

  pub gen_const : (v : Tree) → Gen (const v)
  gen_const v n lp names fs h p q s K E turns calls im holds under ctx again cont =
      let g = cont n (omega arith) (slot_written s h v) turns (same_write h h v s (omega arith)) in
      let g2 : AlikeAt P C n q (slot_written s h v) K turns (E (const v)) = subst (λ w. AlikeAt P C n q (slot_written s h v) K turns (E (const w))) (read-write_same s h v) g in
      let g3 : After P (AreAlike P C n) (run_from C (before (constant h v) q) s K turns) (body (E (const v)) turns (length K)) =
      subst (λ m. After P (AreAlike P C n) m (body (E (const v)) turns (length K))) (sym (run_constant C q h v s K turns)) g2 in
      let g4 : AlikeAt P C n p s K turns (E (const v)) = subst (λ r. AlikeAt P C n r s K turns (E (const v))) (sym im) g3 in
      subst (λ t. AlikeAt P C n p s K turns (E t)) (sym (puts-const fs v)) g4

  pub gen_var : (x : ℕ) → Gen (var x)
  gen_var x n lp names fs h p q s K E turns calls im holds under ctx again cont =
      let a = slot_of names x in
      let v = read s a in
      let g = cont n (omega arith) (slot_written s h v) turns (same_write h h v s (omega arith)) in
      let g2 : AlikeAt P C n q (slot_written s h v) K turns (E (const v)) = subst (λ w. AlikeAt P C n q (slot_written s h v) K turns (E (const w))) (read-write_same s h v) g in
      let g3 : After P (AreAlike P C n) (run_from C (before (copying h a) q) s K turns) (body (E (const v)) turns (length K)) =
      subst (λ m. After P (AreAlike P C n) m (body (E (const v)) turns (length K))) (sym (run_copying C q h a s K turns)) g2 in
      let g4 : AlikeAt P C n p s K turns (E (const v)) = subst (λ r. AlikeAt P C n r s K turns (E (const v))) (sym im.1) g3 in
      subst (λ t. AlikeAt P C n p s K turns (E t)) (sym (puts_var names fs s h x holds im.0)) g4

  -- a value is moved down into slot h
  pub moved_down : (n : ℕ) (q : CodePosition) (h a : ℕ) (s s' : List Tree) (K : List Frame) (E : Kernel → Kernel) (turns : ℕ) → h ≤ a → Same h s s' → Then n q h s K E → AlikeAt P C n (before (moving h a) q) s' K turns (E (const (read s' a)))
  moved_down n q h a s s' K E turns le same cont =
      let v = read s' a in
      let same2 : Same h s (moved s' h a) = same_then_write h h v s (slot_taken s' a) (omega arith) (same_trans h h s s' (slot_taken s' a) (omega arith) same (same_taken h a s' le)) in
      let g = cont n (omega arith) (moved s' h a) turns same2 in
      let g2 : AlikeAt P C n q (moved s' h a) K turns (E (const v)) = subst (λ w. AlikeAt P C n q (moved s' h a) K turns (E (const w))) (read-write_same (slot_taken s' a) h v) g in
      subst (λ m. After P (AreAlike P C n) m (body (E (const v)) turns (length K))) (sym (run_moving C q h a s' K turns)) g2

  -- BINDINGS
  abbrev pub GenBindings : Bindings → Type 0
  GenBindings bs =
      (n : ℕ) (names : Scope) (fs : Founds) (h : ℕ) (p q : CodePosition) (s : List Tree) (K : List Frame) (E : Kernel → Kernel) (inner : Kernel) (turns : ℕ)
      → Calls n → ImplementsBindings C names h bs p q → Holds names fs s h → Context E
      → ((m : ℕ) → m ≤ n → (s' : List Tree) (turns' : ℕ) → Same h s s' → AlikeAt P C m q s' K turns' (E (puts (fs ++ founds_at s' (names_bound bs) h) inner)))
      → AlikeAt P C n p s K turns (E (bind (puts_bindings fs bs) (puts fs inner)))

  pub bindings_empty : GenBindings empty
  bindings_empty n names fs h p q s K E inner turns calls im holds ctx cont =
      let b = puts fs inner in
      let g = cont n (omega arith) s turns (λ k lt. refl) in
      let g2 : AlikeAt P C n q s K turns (E b) = subst (λ l. AlikeAt P C n q s K turns (E (puts l inner))) (append-nil fs) g in
      let g3 = at_back n q s K turns (E (bind empty b)) (E b) (fire P E (bind empty b) b turns (length K) ctx refl refl refl refl refl refl refl) g2 in
      let g4 : AlikeAt P C n p s K turns (E (bind empty b)) = subst (λ z. AlikeAt P C n z s K turns (E (bind empty b))) (sym im) g3 in
      subst (λ bs. AlikeAt P C n p s K turns (E (bind bs b))) (sym (puts_bindings-empty fs)) g4

  pub bindings_more : (x : ℕ) (t : Kernel) (bs : Bindings) → Gen t → GenBindings bs → GenBindings (binding x t bs)
  bindings_more x t bs gt gbs n names fs h p q s K E inner turns calls (r, it, its) holds ctx cont =
      let bs' = puts_bindings fs bs in
      let b = puts fs inner in
      let names2 = names ++ (x, h) ∷ [] in
      let g : AlikeAt P C n p s K turns (E (bind (binding x (puts fs t) bs') b)) =
      gt n None names fs h p r s K (λ u. E (bind (binding x u bs') b)) turns calls it holds tt (inside E (λ u. bind (binding x u bs') b) ctx (in_bind x bs' b)) tt
      (λ m le s1 turns1 same1.
      let v = read s1 h in
      let fs2 = fs ++ (x, v) ∷ [] in
      let tail : AlikeAt P C m r s1 K turns1 (E (bind (puts_bindings fs2 bs) (puts fs2 inner))) =
      gbs m names2 fs2 (suc h) r q s1 K E inner turns1 (calls_less m n le calls) its (holds_one x names fs s s1 h same1 holds) ctx
      (λ k le2 s2 turns2 same2.
      let e : fs ++ founds_at s2 (names_bound (binding x t bs)) h ≡ fs2 ++ founds_at s2 (names_bound bs) (suc h) =
      ap (λ u. fs ++ (x, u) ∷ founds_at s2 (names_bound bs) (suc h)) (same2 h (omega arith)) ∙ sym (append_assoc fs ((x, v) ∷ []) (founds_at s2 (names_bound bs) (suc h))) in
      subst (λ l. AlikeAt P C k q s2 K turns2 (E (puts l inner))) e (cont k (omega (arith, le, le2)) s2 turns2 (same_trans h (suc h) s s1 s2 (omega arith) same1 same2))) in
      let tail2 : AlikeAt P C m r s1 K turns1 (E (bind (put_bindings x v bs') (put x v b))) =
      subst (λ u. AlikeAt P C m r s1 K turns1 (E u)) (ap₂ (λ l w. bind l w) (puts_bindings-append fs ((x, v) ∷ []) bs) (puts-append fs ((x, v) ∷ []) inner)) tail in
      at_back m r s1 K turns1 (E (bind (binding x (const v) bs') b)) (E (bind (put_bindings x v bs') (put x v b)))
      (fire P E (bind (binding x (const v) bs') b) (bind (put_bindings x v bs') (put x v b)) turns1 (length K) ctx refl refl refl refl refl refl refl) tail2) in
      subst (λ l. AlikeAt P C n p s K turns (E (bind l b))) (sym (puts_bindings-binding fs x t bs)) g

  pub gen_bind : (bs : Bindings) (inner : Kernel) → GenBindings bs → Gen inner → Gen (bind bs inner)
  gen_bind bs inner gbs gb n lp names fs h p q s K E turns calls (r, its, ib) holds under ctx again cont =
      let c = count_bindings bs in
      let xs = names_bound bs in
      let len : length xs ≡ c = length-bound bs in
      let g = gbs n names fs h p r s K E inner turns calls its holds ctx
      (λ m le s1 turns1 same1.
      gb m lp (names ++ in_slots xs h) (fs ++ founds_at s1 xs h) (h + c) r (before (moving h (h + c)) q) s1 K E turns1 (calls_less m n le calls) ib
      (holds_append names fs (in_slots xs h) (founds_at s1 xs h) s1 (h + c) (holds_same names fs s s1 h (h + c) (omega arith) same1 holds) (holds_range xs h (h + c) s1 (omega (arith, len))))
      (under_more lp h (h + c) (omega arith) under) ctx (again_from m n lp h s s1 K E le under same1 again)
      (λ k le2 s2 turns2 same2. moved_down k q h (h + c) s s2 K E turns2 (omega arith) (same_trans h (h + c) s s1 s2 (omega arith) same1 same2) (λ j le4. cont j (omega (arith, le, le2, le4))))) in
      subst (λ t. AlikeAt P C n p s K turns (E t)) (sym (puts-bind fs bs inner)) g

  -- BRANCHES
  jumped : (n b to : ℕ) (pl : Place) (s : List Tree) (K : List Frame) (turns : ℕ) (t : Kernel) → b < to → ((m : ℕ) → m ≤ n → AlikeAt P C m (start_of C to) s K turns t) → AlikeAt P C n (position b [] (Jump to pl)) s K turns t
  jumped n b to pl s K turns t lt h =
      let e : nat_lt b to ≡ true = lt-ltb b to lt in
      subst (λ o. After P (AreAlike P C n) (cond o (goes (state to s K turns)) (turned turns pl (goes (state to s K (suc turns))))) (body t turns (length K))) (sym e)
      (alike_next P C n to s K turns (body t turns (length K)) (λ m le. h m (omega (arith, le))))

  branched : (n yes_to no_to : ℕ) (v : Tree) (s : List Tree) (K : List Frame) (E : Kernel → Kernel) (turns : ℕ) (a b : Kernel) (o : Bool) → truth v ≡ o → Context E
      → ((m : ℕ) → m ≤ n → AlikeAt P C m (start_of C yes_to) s K turns (E a)) → ((m : ℕ) → m ≤ n → AlikeAt P C m (start_of C no_to) s K turns (E b))
      → AreAlike P C n (state (cond o yes_to no_to) s K turns) (body (E (branch (const v) a b)) turns (length K))
  branched n yes_to no_to v s K E turns a b true e ctx ha hb =
      alike_back P C n (state yes_to s K turns) (body (E (branch (const v) a b)) turns (length K)) (body (E a) turns (length K))
      (fire P E (branch (const v) a b) a turns (length K) ctx refl refl refl (ap (λ o. cond o a b) e) refl refl refl)
      (alike_next P C n yes_to s K turns (body (E a) turns (length K)) (λ m le. ha m (omega (arith, le))))
  branched n yes_to no_to v s K E turns a b false e ctx ha hb =
      alike_back P C n (state no_to s K turns) (body (E (branch (const v) a b)) turns (length K)) (body (E b) turns (length K))
      (fire P E (branch (const v) a b) b turns (length K) ctx refl refl refl (ap (λ o. cond o a b) e) refl refl refl)
      (alike_next P C n no_to s K turns (body (E b) turns (length K)) (λ m le. hb m (omega (arith, le))))

  pub gen_branch : (c a b : Kernel) → Gen c → Gen a → Gen b → Gen (branch c a b)
  gen_branch c a b gc ga gb n lp names fs h p q s K E turns calls (nc, yes_to, no_to, na, nb, to, pa, pb, ic, ia, ib, la, lb, eq) holds under ctx again cont =
      let a' = puts fs a in
      let b' = puts fs b in
      let side : (t : Kernel) → Gen t → (at_block from : ℕ) (pl : Place) → at_block < to → Implements C lp names h t (start_of C from) (position at_block [] (Jump to pl)) → (m : ℕ) → m ≤ n → (s1 : List Tree) (turns1 : ℕ) → Same h s s1 → AlikeAt P C m (start_of C from) s1 K turns1 (E (puts fs t)) =
      λ t gt at_block from pl lt is m le s1 turns1 same1.
      gt m lp names fs h (start_of C from) (position at_block [] (Jump to pl)) s1 K E turns1 (calls_less m n le calls) is (holds_same names fs s s1 h h (omega arith) same1 holds) under ctx (again_from m n lp h s s1 K E le under same1 again)
      (λ k le2 s2 turns2 same2. jumped k at_block to pl s2 K turns2 (E (const (read s2 h))) lt
      (λ j le4. subst (λ z. AlikeAt P C j z s2 K turns2 (E (const (read s2 h)))) eq (cont j (omega (arith, le, le2, le4)) s2 turns2 (same_trans h h s s1 s2 (omega arith) same1 same2)))) in
      let g : AlikeAt P C n p s K turns (E (branch (puts fs c) a' b')) =
      gc n None names fs h p (position nc [] (Branch h yes_to no_to)) s K (λ t. E (branch t a' b')) turns calls ic holds tt (inside E (λ t. branch t a' b') ctx (in_branch a' b')) tt
      (λ m le s1 turns1 same1. branched m yes_to no_to (read s1 h) s1 K E turns1 a' b' (truth (read s1 h)) refl ctx
      (λ k le2. side a ga na yes_to pa la ia k (omega (arith, le, le2)) s1 turns1 same1)
      (λ k le2. side b gb nb no_to pb lb ib k (omega (arith, le, le2)) s1 turns1 same1)) in
      subst (λ t. AlikeAt P C n p s K turns (E t)) (sym (puts-branch fs c a b)) g

  -- OPERANDS
  pub gen_none : GenAll none
  gen_none n names fs h p q s K E F turns calls im holds ctx inn cont =
      let g : AlikeAt P C n p s K turns (E (F none)) = subst (λ z. AlikeAt P C n z s K turns (E (F none))) (sym im) (cont n (omega arith) s turns (λ k lt. refl)) in
      subst (λ ts. AlikeAt P C n p s K turns (E (F ts))) (sym (puts_items-none fs)) g

  pub gen_item : (t : Kernel) (ts : Kernels) → Gen t → GenAll ts → GenAll (item t ts)
  gen_item t ts gt gts n names fs h p q s K E F turns calls (r, it, its) holds ctx inn cont =
      let ts' = puts_items fs ts in
      let g : AlikeAt P C n p s K turns (E (F (item (puts fs t) ts'))) =
      gt n None names fs h p r s K (λ u. E (F (item u ts'))) turns calls it holds tt (inside E (λ u. F (item u ts')) ctx (in_first F ts' inn)) tt
      (λ m le s1 turns1 same1.
      let v = read s1 h in
      gts m names fs (suc h) r q s1 K E (λ us. F (item (const v) us)) turns1 (calls_less m n le calls) its (holds_same names fs s s1 h (suc h) (omega arith) same1 holds) ctx (in_rest F v inn)
      (λ k le2 s2 turns2 same2.
      subst (λ x. AlikeAt P C k q s2 K turns2 (E (F (item (const x) (consts (reads s2 (slots_from (suc h) (count_terms ts)))))))) (same2 h (omega arith))
      (cont k (omega (arith, le, le2)) s2 turns2 (same_trans h (suc h) s s1 s2 (omega arith) same1 same2)))) in
      subst (λ us. AlikeAt P C n p s K turns (E (F us))) (sym (puts_items-item fs t ts)) g

  -- one operand, which is read in its slot
  abbrev pub GenOperand : Kernel → Type 0
  GenOperand t =
      (n : ℕ) (names : Scope) (fs : Founds) (h : ℕ) (p q : CodePosition) (s : List Tree) (K : List Frame) (E : Kernel → Kernel) (turns : ℕ)
      → Calls n → Operand names t (Implements C None names h t p q) p q → Holds names fs s h → Context E
      → ((m : ℕ) → m ≤ n → (s' : List Tree) (turns' : ℕ) → Same h s s' → AlikeAt P C m q s' K turns' (E (const (read s' (operand_slot names h t)))))
      → AlikeAt P C n p s K turns (E (puts fs t))

  pub gen_operand : (t : Kernel) → Gen t → GenOperand t
  gen_operand (var x) gt n names fs h p q s K E turns calls im holds ctx cont =
      let v = read s (slot_of names x) in
      let g : AlikeAt P C n p s K turns (E (const v)) = subst (λ z. AlikeAt P C n z s K turns (E (const v))) (sym im.1) (cont n (omega arith) s turns (λ k lt. refl)) in
      subst (λ t. AlikeAt P C n p s K turns (E t)) (sym (puts_var names fs s h x holds im.0)) g
  gen_operand t gt n names fs h p q s K E turns calls im holds ctx cont = gt n None names fs h p q s K E turns calls im holds tt ctx tt cont

  pub slot_before : (names : Scope) (fs : Founds) (s : List Tree) (h : ℕ) (t : Kernel) (own : Type 0) (p q : CodePosition) → Holds names fs s h → Operand names t own p q → operand_slot names h t < next_slot h t
  slot_before names fs s h (var x) own p q holds im = holds_below names fs s h x holds im.0
  slot_before names fs s h t own p q holds im = omega arith

pub from_next : (h : ℕ) (t : Kernel) → h ≤ next_slot h t
from_next h (var x) = omega arith
from_next h t = omega arith
