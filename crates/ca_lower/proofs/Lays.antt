-- What is laid out for a term implements it.
use Rattle.std.proofs.Common.{◌≡◌, ℕ, suc, ◌+◌, ◌<◌, ◌≤◌, List, [], ◌∷◌, ◌++◌, length, get_or, Option, Some, None, ℤ, refl, sym, ap, ◌∙◌, subst, arith, append_assoc, append-nil, length-append, inl, inr, ⊎_elim}
use Rattle.std.proofs.lemmas.List.{get_or_at}
use Rattle.ca_value.specs.Tree.{nil, int}
use Rattle.ca_value.specs.declared.builtin.Builtin.TheVariants.{Conj, Assoc}
use Rattle.ca_term.specs.declared.place.Place.{Place}
use Rattle.ca_term.specs.declared.head.Head.{Head}
use Rattle.ca_term.specs.declared.head.Head.TheVariants.{Recur, Builtin, Take, Put, Alts, Make, Spawn, Close, Register, Print, Post}
use Rattle.ca_term.specs.declared.head.Head.TheVariants as head
use Rattle.ca_term.specs.Kernel.{Kernel, Kernels, Bindings, const, var, branch, bind, loop, seq, frame, turn, apply, none, item, empty, binding}
use Rattle.ca_term.specs.Closed.{IsIn, names_behind, behind_found, IsClosed, AreClosed, AreClosedBindings}
use Rattle.ca_term.specs.Fits.{Known, Takes, Suits, Fits, FitTerms, FitInOrder, FitBindings, count_terms, count_bindings}
use Rattle.ca_states.specs.declared.code.Exit.{Exit}
use Rattle.ca_states.specs.declared.code.Exit.TheVariants.{Jump, Branch, Return, Cut}
use Rattle.ca_states.specs.declared.code.Exit.TheVariants as exit
use Rattle.ca_states.specs.Code.{Instruction, constant, copying, moving, one, pushing, putting, many, BlockView, CodeView, no_block, block_at, function_at}
use Rattle.ca_term.specs.Source.{IsSource, AreSource, AreSourceBindings}
use Rattle.ca_lower.specs.Implements.{CodePosition, position, start_of, before, Scope, slot_of, IsInScope, in_slots, names_bound, Target, moves, LeadsByCut, operand_slot, next_slot, written_integer, paired_instruction, Operand, Second, LeadsBy, Implements, ImplementsInOrder, ImplementsBindings, ImplementsAll}
use Rattle.ca_lower.specs.Emit.{Builder, building, at_work, block_of, add, close, without_place, blocks_by, blocks, blocks_all, blocks_bound, recur_code, recur_exit, finish_by_cut, finish, no_side, both_ends, operand, second, emit, emit_in_order, emit_bindings, emit_all}

-- the code goes on from the builder, where the block at work goes on with these instructions and this exit
abbrev pub Ends : CodeView → ℕ → Builder → List Instruction → Exit → Type 0
Ends C w (building done below is) more x = (rest : List BlockView) × (C.blocks ≡ done ++ block_of w below (is ++ more) x ∷ rest)

pub ends_add : (C : CodeView) (w : ℕ) (B : Builder) (new more : List Instruction) (x : Exit) → Ends C w (add new B) more x → Ends C w B (new ++ more) x
ends_add C w (building done below is) new more x h =
    (h.0, h.1 ∙ ap (λ l. done ++ block_of w below l x ∷ h.0) (append_assoc is new more))

pub ends_close : (C : CodeView) (w : ℕ) (B : Builder) (x0 : Exit) (next : ℕ) (more : List Instruction) (x : Exit) → Ends C w (close w x0 next B) more x → Ends C w B [] x0
ends_close C w (building done below is) x0 next more x h =
    (block_of w next more x ∷ h.0, h.1 ∙ append_assoc done (block_of w below is x0 ∷ []) (block_of w next more x ∷ h.0) ∙ ap (λ l. done ++ block_of w below l x0 ∷ (block_of w next more x ∷ h.0)) (sym (append-nil is)))

pub closed_at : (w : ℕ) (x0 : Exit) (next : ℕ) (B : Builder) → at_work (close w x0 next B) ≡ at_work B + 1
closed_at w x0 next (building done below is) = length-append done (block_of w below is x0 ∷ [])

pub added_at : (new : List Instruction) (B : Builder) → at_work (add new B) ≡ at_work B
added_at new (building done below is) = refl

-- the block that a close opened
pub opened_at : (C : CodeView) (w : ℕ) (B : Builder) (x0 : Exit) (next : ℕ) (more : List Instruction) (x : Exit) (n : ℕ) → at_work B + 1 ≡ n → Ends C w (close w x0 next B) more x → block_at C n ≡ block_of w next more x
opened_at C w (building done below is) x0 next more x n e h =
    let len : length (done ++ block_of w below is x0 ∷ []) ≡ n = length-append done (block_of w below is x0 ∷ []) ∙ e in
    ap (λ l. get_or l n no_block) h.1 ∙ get_or_at (done ++ block_of w below is x0 ∷ []) (block_of w next more x) h.0 no_block n len

pub started_at : (C : CodeView) (w : ℕ) (B : Builder) (x0 : Exit) (next : ℕ) (more : List Instruction) (x : Exit) (n : ℕ) → at_work B + 1 ≡ n → Ends C w (close w x0 next B) more x → start_of C n ≡ position n more x
started_at C w B x0 next more x n e h = ap (λ (b : BlockView). position n b.instrs b.exit) (opened_at C w B x0 next more x n e h)

finished_at : (w : ℕ) (lp : Option Target) (f : Head) (h k : ℕ) (p : Place) (B : Builder) → at_work (finish w lp f h k p B) ≡ at_work B + blocks_by f
finished_at w lp Recur h k p B = closed_at w (recur_exit lp p) (suc h) (add (recur_code lp h) B) ∙ ap (λ n. n + 1) (added_at (recur_code lp h) B)
finished_at w lp (Builtin b) h k p B = added_at (many b h h k p ∷ []) B ∙ omega arith
finished_at w lp (head.Call f) h k p B = closed_at w (exit.Call f h k h (at_work B + 1) p) (suc h) B
finished_at w lp Take h k p B = closed_at w (Cut Take h k h (at_work B + 1) p) (suc h) B
finished_at w lp Put h k p B = closed_at w (Cut Put h k h (at_work B + 1) p) (suc h) B
finished_at w lp (Alts options) h k p B = closed_at w (Cut (Alts options) h k h (at_work B + 1) p) (suc h) B
finished_at w lp (Make kind) h k p B = closed_at w (Cut (Make kind) h k h (at_work B + 1) p) (suc h) B
finished_at w lp (Spawn kind) h k p B = closed_at w (Cut (Spawn kind) h k h (at_work B + 1) p) (suc h) B
finished_at w lp Close h k p B = closed_at w (Cut Close h k h (at_work B + 1) p) (suc h) B
finished_at w lp (Register name) h k p B = closed_at w (Cut (Register name) h k h (at_work B + 1) p) (suc h) B
finished_at w lp Print h k p B = closed_at w (Cut Print h k h (at_work B + 1) p) (suc h) B
finished_at w lp Post h k p B = closed_at w (Cut Post h k h (at_work B + 1) p) (suc h) B

pub operand_at : (t : Kernel) (own B : Builder) → at_work own ≡ at_work B + blocks t → at_work (operand t own B) ≡ at_work B + blocks t
operand_at (var x) own B e = omega arith
operand_at t own B e = e

pub second_at : (t : Kernel) (own B : Builder) → at_work own ≡ at_work B + blocks t → at_work (second (written_integer t) own B) ≡ at_work B + blocks t
second_at (const (int z)) own B e = omega arith
second_at t own B e = e

module _ (w : ℕ) where
  mutual
    pub emit_at : (lp : Option Target) (names : Scope) (h : ℕ) (t : Kernel) (B : Builder) → at_work (emit w lp names h t B) ≡ at_work B + blocks t
    emit_at lp names h (const v) B = added_at (constant h v ∷ []) B ∙ omega arith
    emit_at lp names h (var x) B = added_at (copying h (slot_of names x) ∷ []) B ∙ omega arith
    emit_at lp names h (branch c a b) B =
        let B1 = emit w None names h c B in
        let n = at_work B1 in
        let to = both_ends a b n in
        let B2 = close w (Branch h (n + 1) (no_side a n)) h B1 in
        let B3 = emit w lp names h a B2 in
        let B4 = close w (Jump to without_place) h B3 in
        let B5 = emit w lp names h b B4 in
        let e1 = emit_at None names h c B in
        let e2 = closed_at w (Branch h (n + 1) (no_side a n)) h B1 in
        let e3 = emit_at lp names h a B2 in
        let e4 = closed_at w (Jump to without_place) h B3 in
        let e5 = emit_at lp names h b B4 in
        closed_at w (Jump to without_place) (suc h) B5 ∙ omega (arith, e1, e2, e3, e4, e5)
    emit_at lp names h (bind bs body) B =
        let c = count_bindings bs in
        let B1 = emit_bindings w names h bs B in
        let names2 = names ++ in_slots (names_bound bs) h in
        added_at (moving h (h + c) ∷ []) (emit w lp names2 (h + c) body B1) ∙ emit_at lp names2 (h + c) body B1 ∙ omega (arith, emit_bindings_at names h bs B)
    emit_at lp names h (loop fs bs body) B =
        let B1 = emit_bindings w names h bs B in
        let c = count_bindings bs in
        let n = at_work B1 in
        let B2 = close w (Jump (n + 1) without_place) (h + c) B1 in
        let lp2 : Option Target = Some (record { first = h; count = c; head = n + 1 }) in
        let names2 = names ++ in_slots (names_bound bs) h in
        added_at (moving h (h + c) ∷ []) (emit w lp2 names2 (h + c) body B2) ∙ emit_at lp2 names2 (h + c) body B2
        ∙ omega (arith, closed_at w (Jump (n + 1) without_place) (h + c) B1, emit_bindings_at names h bs B)
    emit_at lp names h (seq ts) B = emit_order_at lp names h ts B
    emit_at lp names h (frame body) B = omega arith
    emit_at lp names h (turn ns text now) B = omega arith
    emit_at lp names h (apply (Builtin b) (item t none) p) B =
        added_at (one b h (operand_slot names h t) p ∷ []) (operand t (emit w None names h t B) B) ∙ omega (arith, operand_at t (emit w None names h t B) B (emit_at None names h t B))
    emit_at lp names h (apply (Builtin Conj) (item t (item u none)) p) B =
        let B1 = emit w None names h t B in
        let B2 = operand u (emit w None names (suc h) u B1) B1 in
        added_at (pushing h h (operand_slot names (suc h) u) p ∷ []) B2
        ∙ omega (arith, operand_at u (emit w None names (suc h) u B1) B1 (emit_at None names (suc h) u B1), emit_at None names h t B)
    emit_at lp names h (apply (Builtin b) (item t (item u none)) p) B =
        let B1 = operand t (emit w None names h t B) B in
        let m = next_slot h t in
        let own = operand u (emit w None names m u B1) B1 in
        let B2 = second (written_integer u) own B1 in
        added_at (paired_instruction b h (operand_slot names h t) (written_integer u) (operand_slot names m u) p ∷ []) B2
        ∙ omega (arith, second_at u own B1 (operand_at u (emit w None names m u B1) B1 (emit_at None names m u B1)), operand_at t (emit w None names h t B) B (emit_at None names h t B))
    emit_at lp names h (apply (Builtin Assoc) (item t (item u (item v none))) p) B =
        let m = next_slot (suc h) u in
        let B1 = emit w None names h t B in
        let B2 = operand u (emit w None names (suc h) u B1) B1 in
        let B3 = operand v (emit w None names m v B2) B2 in
        added_at (putting h h (operand_slot names (suc h) u) (operand_slot names m v) p ∷ []) B3
        ∙ omega (arith, operand_at v (emit w None names m v B2) B2 (emit_at None names m v B2), operand_at u (emit w None names (suc h) u B1) B1 (emit_at None names (suc h) u B1), emit_at None names h t B)
    emit_at lp names h (apply f ts p) B =
        finished_at w lp f h (count_terms ts) p (emit_all w names h ts B) ∙ omega (arith, emit_all_at names h ts B)

    pub emit_order_at : (lp : Option Target) (names : Scope) (h : ℕ) (ts : Kernels) (B : Builder) → at_work (emit_in_order w lp names h ts B) ≡ at_work B + blocks_all ts
    emit_order_at lp names h none B = added_at (constant h nil ∷ []) B ∙ omega arith
    emit_order_at lp names h (item t none) B = let e = emit_at lp names h t B in omega (arith, e)
    emit_order_at lp names h (item t (item u us)) B =
        emit_order_at lp names h (item u us) (emit w None names h t B) ∙ omega (arith, emit_at None names h t B)

    pub emit_bindings_at : (names : Scope) (h : ℕ) (bs : Bindings) (B : Builder) → at_work (emit_bindings w names h bs B) ≡ at_work B + blocks_bound bs
    emit_bindings_at names h empty B = omega arith
    emit_bindings_at names h (binding n t bs) B =
        emit_bindings_at (names ++ (n, h) ∷ []) (suc h) bs (emit w None names h t B) ∙ omega (arith, emit_at None names h t B)

    pub emit_all_at : (names : Scope) (h : ℕ) (ts : Kernels) (B : Builder) → at_work (emit_all w names h ts B) ≡ at_work B + blocks_all ts
    emit_all_at names h none B = omega arith
    emit_all_at names h (item t ts) B =
        emit_all_at names (suc h) ts (emit w None names h t B) ∙ omega (arith, emit_at None names h t B)

-- names that are bound stand in the scope
abbrev pub Covers : List ℕ → Scope → Type 0
Covers ns names = (x : ℕ) → IsIn x ns → IsInScope x names

scope_left : (x : ℕ) (a b : Scope) → IsInScope x a → IsInScope x (a ++ b)
scope_left x [] b i = absurd i
scope_left x (p ∷ a) b i = ⊎_elim (λ e. inl e) (λ j. inr (scope_left x a b j)) i

scope_right : (x : ℕ) (a b : Scope) → IsInScope x b → IsInScope x (a ++ b)
scope_right x [] b i = i
scope_right x (p ∷ a) b i = inr (scope_right x a b i)

pub covers_one : (ns : List ℕ) (names : Scope) (n h : ℕ) → Covers ns names → Covers (n ∷ ns) (names ++ (n, h) ∷ [])
covers_one ns names n h c x i = ⊎_elim (λ e. scope_right x names ((n, h) ∷ []) (inl e)) (λ j. scope_left x names ((n, h) ∷ []) (c x j)) i

pub covers_bound : (bs : Bindings) (ns : List ℕ) (names : Scope) (h : ℕ) → Covers ns names → Covers (names_behind bs ns) (names ++ in_slots (names_bound bs) h)
covers_bound empty ns names h c x i = scope_left x names [] (c x i)
covers_bound (binding n t bs) ns names h c x i =
    subst (IsInScope x) (append_assoc names ((n, h) ∷ []) (in_slots (names_bound bs) (suc h)))
    (covers_bound bs (n ∷ ns) (names ++ (n, h) ∷ []) (suc h) (covers_one ns names n h c) x i)

-- the loop that a recur stands in
abbrev pub Inside : Option Target → Option ℕ → ℕ → Type 0
Inside None None n = Unit {0}
Inside (Some t) (Some k) n = (k ≡ t.count) × (t.head ≤ n)
Inside None (Some k) n = ⊥
Inside (Some t) None n = ⊥

pub inside_more : (lp : Option Target) (target : Option ℕ) (m n : ℕ) → m ≤ n → Inside lp target m → Inside lp target n
inside_more None None m n le h = tt
inside_more (Some t) (Some k) m n le h = (h.0, omega (arith, le, h.1))
inside_more None (Some k) m n le h = absurd h
inside_more (Some t) None m n le h = absurd h

module _ (C : CodeView) (w : ℕ) where
  -- the block behind one that ends
  behind_close : (B : Builder) (x0 : Exit) (next : ℕ) (more : List Instruction) (x : Exit) → Ends C w (close w x0 next B) more x → position (at_work (close w x0 next B)) more x ≡ start_of C (at_work B + 1)
  behind_close B x0 next more x ends = ap (λ k. position k more x) (closed_at w x0 next B) ∙ sym (started_at C w B x0 next more x (at_work B + 1) refl ends)

  abbrev LaysBy : Head → Option Target → ℕ → ℕ → Place → Builder → CodePosition → Type 0
  LaysBy f lp h k p B q = (is : List Instruction) × (x : Exit) × Ends C w B is x × LeadsBy f C lp h k p (position (at_work B) is x) q

  cuts : (f : Head) (h k : ℕ) (p : Place) (B : Builder) (more : List Instruction) (x : Exit) → Ends C w (finish_by_cut w f h k p B) more x
      → (is : List Instruction) × (x0 : Exit) × Ends C w B is x0 × LeadsByCut f C h k p (position (at_work B) is x0) (position (at_work (finish_by_cut w f h k p B)) more x)
  cuts f h k p B more x ends =
      let n = at_work B in
      let x0 = Cut f h k h (n + 1) p in
      ([], x0, ends_close C w B x0 (suc h) more x ends, (n, n + 1, refl, behind_close B x0 (suc h) more x ends))

  module _ (known : Known) (there : (f k : ℕ) → Takes known.functions f k → (f < length C.functions) × (k ≡ (function_at C f).values)) where
    recurs : (lp : Option Target) (target : Option ℕ) (h k : ℕ) (p : Place) (B : Builder) (more : List Instruction) (x : Exit) → target ≡ Some k → Inside lp target (at_work B) → Ends C w (finish w lp Recur h k p B) more x
        → LaysBy Recur lp h k p B (position (at_work (finish w lp Recur h k p B)) more x)
    recurs lp None h k p B more x fit ins ends = absurd cc
    recurs None (Some j) h k p B more x fit ins ends = absurd ins
    recurs (Some t) (Some j) h k p B more x fit ins ends =
        let e : j ≡ k = cc in
        let ms = moves t.first h t.count in
        let x0 = Jump t.head p in
        let e1 = ends_close C w (add ms B) x0 (suc h) more x ends in
        (ms, x0, subst (λ l. Ends C w B l x0) (append-nil ms) (ends_add C w B ms [] x0 e1), (at_work B, sym e ∙ ins.0, ins.1, refl))

    leads : (f : Head) (lp : Option Target) (target : Option ℕ) (h k : ℕ) (p : Place) (B : Builder) (more : List Instruction) (x : Exit) → Suits known target f k → Inside lp target (at_work B) → Ends C w (finish w lp f h k p B) more x
        → LaysBy f lp h k p B (position (at_work (finish w lp f h k p B)) more x)
    leads Recur lp target h k p B more x fit ins ends = recurs lp target h k p B more x fit ins ends
    leads (Builtin b) lp target h k p (building done below is) more x fit ins ends =
        (many b h h k p ∷ more, x, ends_add C w (building done below is) (many b h h k p ∷ []) more x ends, refl)
    leads (head.Call f) lp target h k p B more x fit ins ends =
        let n = at_work B in
        let x0 = exit.Call f h k h (n + 1) p in
        let t = there f k fit in
        ([], x0, ends_close C w B x0 (suc h) more x ends, (n, n + 1, t.0, t.1, refl, behind_close B x0 (suc h) more x ends))
    leads Take lp target h k p B more x fit ins ends = cuts Take h k p B more x ends
    leads Put lp target h k p B more x fit ins ends = cuts Put h k p B more x ends
    leads (Alts options) lp target h k p B more x fit ins ends = cuts (Alts options) h k p B more x ends
    leads (Make kind) lp target h k p B more x fit ins ends = cuts (Make kind) h k p B more x ends
    leads (Spawn kind) lp target h k p B more x fit ins ends = cuts (Spawn kind) h k p B more x ends
    leads Close lp target h k p B more x fit ins ends = cuts Close h k p B more x ends
    leads (Register name) lp target h k p B more x fit ins ends = cuts (Register name) h k p B more x ends
    leads Print lp target h k p B more x fit ins ends = cuts Print h k p B more x ends
    leads Post lp target h k p B more x fit ins ends = cuts Post h k p B more x ends

    abbrev LaysInOrder : Option Target → Scope → ℕ → Kernels → Builder → CodePosition → Type 0
    LaysInOrder lp names h ts B q = (is : List Instruction) × (x : Exit) × Ends C w B is x × ImplementsInOrder C lp names h ts (position (at_work B) is x) q

    abbrev LaysBindings : Scope → ℕ → Bindings → Builder → CodePosition → Type 0
    LaysBindings names h bs B q = (is : List Instruction) × (x : Exit) × Ends C w B is x × ImplementsBindings C names h bs (position (at_work B) is x) q

    -- where the code begins that comes to the rest of a block
    abbrev Lays : Option Target → Scope → ℕ → Kernel → Builder → CodePosition → Type 0
    Lays lp names h t B q = (is : List Instruction) × (x : Exit) × Ends C w B is x × Implements C lp names h t (position (at_work B) is x) q

    -- an operand, by what is laid out for it where it is no name
    abbrev LaysOperand : Scope → ℕ → Kernel → Builder → List Instruction → Exit → Type 0
    LaysOperand names h t B more x =
        let own = emit w None names h t B in
        let q = position (at_work (operand t own B)) more x in
        (is : List Instruction) × (x0 : Exit) × Ends C w B is x0 × Operand names t (Implements C None names h t (position (at_work B) is x0) q) (position (at_work B) is x0) q

    lays_operand : (ns : List ℕ) (names : Scope) (h : ℕ) (t : Kernel) (B : Builder) (more : List Instruction) (x : Exit) → IsClosed ns t → Covers ns names
        → (Ends C w (emit w None names h t B) more x → Lays None names h t B (position (at_work (emit w None names h t B)) more x))
        → Ends C w (operand t (emit w None names h t B) B) more x → LaysOperand names h t B more x
    lays_operand ns names h (var y) B more x bound cov own ends = (more, x, ends, (cov y bound, refl))
    lays_operand ns names h t B more x bound cov own ends = own ends

    -- a second operand
    abbrev LaysSecond : Option ℤ → Scope → ℕ → Kernel → Builder → List Instruction → Exit → Type 0
    LaysSecond o names h t B more x =
        let own = operand t (emit w None names h t B) B in
        let q = position (at_work (second o own B)) more x in
        (is : List Instruction) × (x0 : Exit) × Ends C w B is x0 × Second o (Operand names t (Implements C None names h t (position (at_work B) is x0) q) (position (at_work B) is x0) q) (position (at_work B) is x0) q

    lays_second : (o : Option ℤ) (names : Scope) (h : ℕ) (t : Kernel) (B : Builder) (more : List Instruction) (x : Exit)
        → (Ends C w (operand t (emit w None names h t B) B) more x → LaysOperand names h t B more x)
        → Ends C w (second o (operand t (emit w None names h t B) B) B) more x → LaysSecond o names h t B more x
    lays_second (Some z) names h t B more x own ends = (more, x, ends, refl)
    lays_second None names h t B more x own ends = own ends

    -- one instruction behind
    behind_add : (B : Builder) (i : Instruction) (more : List Instruction) (x : Exit) → position (at_work B) (i ∷ more) x ≡ before i (position (at_work (add (i ∷ []) B)) more x)
    behind_add B i more x = ap (λ k. position k (i ∷ more) x) (sym (added_at (i ∷ []) B))

    abbrev LaysAll : Scope → ℕ → Kernels → Builder → CodePosition → Type 0
    LaysAll names h ts B q = (is : List Instruction) × (x : Exit) × Ends C w B is x × ImplementsAll C names h ts (position (at_work B) is x) q

    mutual
      pub lays : (lp : Option Target) (target : Option ℕ) (ns : List ℕ) (names : Scope) (h : ℕ) (t : Kernel) (B : Builder) (more : List Instruction) (x : Exit)
          → IsSource t → IsClosed ns t → Fits (Suits known) target t → Covers ns names → Inside lp target (at_work B) → Ends C w (emit w lp names h t B) more x
          → Lays lp names h t B (position (at_work (emit w lp names h t B)) more x)
      lays lp target ns names h (const v) (building done below is) more x src bound fit cov ins ends =
          (constant h v ∷ more, x, ends_add C w (building done below is) (constant h v ∷ []) more x ends, refl)
      lays lp target ns names h (var y) (building done below is) more x src bound fit cov ins ends =
          let i = copying h (slot_of names y) in
          (i ∷ more, x, ends_add C w (building done below is) (i ∷ []) more x ends, (cov y bound, refl))
      lays lp target ns names h (branch c a b) B more x src bound fit cov ins ends =
          let B1 = emit w None names h c B in
          let n = at_work B1 in
          let to = both_ends a b n in
          let X = Branch h (n + 1) (no_side a n) in
          let J = Jump to without_place in
          let B2 = close w X h B1 in
          let B3 = emit w lp names h a B2 in
          let B4 = close w J h B3 in
          let B5 = emit w lp names h b B4 in
          let e1 = emit_at w None names h c B in
          let e2 = closed_at w X h B1 in
          let e3 = emit_at w lp names h a B2 in
          let e4 = closed_at w J h B3 in
          let e5 = emit_at w lp names h b B4 in
          let no : at_work B3 + 1 ≡ no_side a n = omega (arith, e2, e3) in
          let end : at_work B5 + 1 ≡ to = omega (arith, e2, e3, e4, e5) in
          let ib = lays lp target ns names h b B4 [] J src.2 bound.2 fit.2 cov (inside_more lp target (at_work B) (at_work B4) (omega (arith, e1, e2, e3, e4)) ins) (ends_close C w B5 J (suc h) more x ends) in
          let ia = lays lp target ns names h a B2 [] J src.1 bound.1 fit.1 cov (inside_more lp target (at_work B) (at_work B2) (omega (arith, e1, e2)) ins) (ends_close C w B3 J h ib.0 ib.1 ib.2) in
          let ic = lays None None ns names h c B [] X src.0 bound.0 fit.0 cov tt (ends_close C w B1 X h ia.0 ia.1 ia.2) in
          let sa : position (at_work B2) ia.0 ia.1 ≡ start_of C (n + 1) = ap (λ k. position k ia.0 ia.1) e2 ∙ sym (started_at C w B1 X h ia.0 ia.1 (n + 1) refl ia.2) in
          let nb : at_work B4 ≡ no_side a n = omega (arith, e4, no) in
          let sb : position (at_work B4) ib.0 ib.1 ≡ start_of C (no_side a n) = ap (λ k. position k ib.0 ib.1) nb ∙ sym (started_at C w B3 J h ib.0 ib.1 (no_side a n) no ib.2) in
          let nt : at_work (close w J (suc h) B5) ≡ to = closed_at w J (suc h) B5 ∙ end in
          let st : position (at_work (close w J (suc h) B5)) more x ≡ start_of C to = ap (λ k. position k more x) nt ∙ sym (started_at C w B5 J (suc h) more x to end ends) in
          let ia2 = subst (λ z. Implements C lp names h a z (position (at_work B3) [] J)) sa ia.3 in
          let ib2 = subst (λ z. Implements C lp names h b z (position (at_work B5) [] J)) sb ib.3 in
          (ic.0, ic.1, ic.2, (n, n + 1, no_side a n, at_work B3, at_work B5, to, without_place, without_place, ic.3, ia2, ib2, omega (arith, e4, e5, end), omega (arith, end), st))
      lays lp target ns names h (bind bs body) B more x src bound fit cov ins ends =
          let B1 = emit_bindings w names h bs B in
          let c = count_bindings bs in
          let names2 = names ++ in_slots (names_bound bs) h in
          let B2 = emit w lp names2 (h + c) body B1 in
          let I = moving h (h + c) in
          let ib = lays lp target (names_behind bs ns) names2 (h + c) body B1 (I ∷ more) x src.1 bound.1 fit.1 (covers_bound bs ns names h cov) (inside_more lp target (at_work B) (at_work B1) (omega (arith, emit_bindings_at w names h bs B)) ins) (ends_add C w B2 (I ∷ []) more x ends) in
          let its = lays_bindings ns names h bs B ib.0 ib.1 src.0 bound.0 fit.0 cov ib.2 in
          let q : position (at_work B2) (I ∷ more) x ≡ before I (position (at_work (add (I ∷ []) B2)) more x) = ap (λ k. position k (I ∷ more) x) (sym (added_at (I ∷ []) B2)) in
          (its.0, its.1, its.2, (position (at_work B1) ib.0 ib.1, its.3, subst (Implements C lp names2 (h + c) body (position (at_work B1) ib.0 ib.1)) q ib.3))
      lays lp target ns names h (loop fs bs body) B more x src bound fit cov ins ends =
          let B1 = emit_bindings w names h bs B in
          let n = at_work B1 in
          let c = count_bindings bs in
          let t : Target = record { first = h; count = c; head = n + 1 } in
          let names2 = names ++ in_slots (names_bound bs) h in
          let X = Jump (n + 1) without_place in
          let B2 = close w X (h + c) B1 in
          let B3 = emit w (Some t) names2 (h + c) body B2 in
          let I = moving h (h + c) in
          let e2 = closed_at w X (h + c) B1 in
          let none_found : 0 + c ≡ c = omega arith in
          let fit2 : Fits (Suits known) (Some c) body = subst (λ k. Fits (Suits known) (Some k) body) none_found (subst (λ gs. Fits (Suits known) (Some (length gs + c)) body) src.0 fit.1) in
          let bound2 : IsClosed (names_behind bs ns) body = subst (λ gs. IsClosed (names_behind bs (behind_found gs ns)) body) src.0 bound.1 in
          let ib = lays (Some t) (Some c) (names_behind bs ns) names2 (h + c) body B2 (I ∷ more) x src.2 bound2 fit2 (covers_bound bs ns names h cov) (refl, omega (arith, e2)) (ends_add C w B3 (I ∷ []) more x ends) in
          let its = lays_bindings ns names h bs B [] X src.1 bound.0 fit.0 cov (ends_close C w B1 X (h + c) ib.0 ib.1 ib.2) in
          let sb : position (at_work B2) ib.0 ib.1 ≡ start_of C (n + 1) = ap (λ k. position k ib.0 ib.1) e2 ∙ sym (started_at C w B1 X (h + c) ib.0 ib.1 (n + 1) refl ib.2) in
          let q : position (at_work B3) (I ∷ more) x ≡ before I (position (at_work (add (I ∷ []) B3)) more x) = ap (λ k. position k (I ∷ more) x) (sym (added_at (I ∷ []) B3)) in
          let ib2 = subst (Implements C (Some t) names2 (h + c) body (position (at_work B2) ib.0 ib.1)) q ib.3 in
          (its.0, its.1, its.2, (n, n + 1, without_place, src.0, its.3, omega arith, subst (λ z. Implements C (Some t) names2 (h + c) body z (before I (position (at_work (add (I ∷ []) B3)) more x))) sb ib2))
      lays lp target ns names h (seq ts) B more x src bound fit cov ins ends = lays_order lp target ns names h ts B more x src bound fit cov ins ends
      lays lp target ns names h (frame body) B more x src bound fit cov ins ends = absurd src
      lays lp target ns names h (turn ms text now) B more x src bound fit cov ins ends = absurd src
      lays lp target ns names h (apply (Builtin b) (item t none) p) B more x src bound fit cov ins ends =
          let B1 = operand t (emit w None names h t B) B in
          let i = one b h (operand_slot names h t) p in
          let it = lays_operand ns names h t B (i ∷ more) x bound.0 cov (λ e. lays None None ns names h t B (i ∷ more) x src.1.0 bound.0 fit.1.0 cov tt e) (ends_add C w B1 (i ∷ []) more x ends) in
          (it.0, it.1, it.2, (position (at_work B1) (i ∷ more) x, it.3, behind_add B1 i more x))
      lays lp target ns names h (apply (Builtin Conj) (item t (item u none)) p) B more x src bound fit cov ins ends =
          let B1 = emit w None names h t B in
          let B2 = operand u (emit w None names (suc h) u B1) B1 in
          let i = pushing h h (operand_slot names (suc h) u) p in
          let iu = lays_operand ns names (suc h) u B1 (i ∷ more) x bound.1.0 cov (λ e. lays None None ns names (suc h) u B1 (i ∷ more) x src.1.1.0 bound.1.0 fit.1.1.0 cov tt e) (ends_add C w B2 (i ∷ []) more x ends) in
          let it = lays None None ns names h t B iu.0 iu.1 src.1.0 bound.0 fit.1.0 cov tt iu.2 in
          (it.0, it.1, it.2, (position (at_work B1) iu.0 iu.1, position (at_work B2) (i ∷ more) x, it.3, iu.3, behind_add B2 i more x))
      lays lp target ns names h (apply (Builtin b) (item t (item u none)) p) B more x src bound fit cov ins ends =
          let m = next_slot h t in
          let B1 = operand t (emit w None names h t B) B in
          let B2 = second (written_integer u) (operand u (emit w None names m u B1) B1) B1 in
          let i = paired_instruction b h (operand_slot names h t) (written_integer u) (operand_slot names m u) p in
          let iu = lays_second (written_integer u) names m u B1 (i ∷ more) x
          (λ d. lays_operand ns names m u B1 (i ∷ more) x bound.1.0 cov (λ e. lays None None ns names m u B1 (i ∷ more) x src.1.1.0 bound.1.0 fit.1.1.0 cov tt e) d) (ends_add C w B2 (i ∷ []) more x ends) in
          let it = lays_operand ns names h t B iu.0 iu.1 bound.0 cov (λ e. lays None None ns names h t B iu.0 iu.1 src.1.0 bound.0 fit.1.0 cov tt e) iu.2 in
          (it.0, it.1, it.2, (position (at_work B1) iu.0 iu.1, position (at_work B2) (i ∷ more) x, it.3, iu.3, behind_add B2 i more x))
      lays lp target ns names h (apply (Builtin Assoc) (item t (item u (item v none))) p) B more x src bound fit cov ins ends =
          let m = next_slot (suc h) u in
          let B1 = emit w None names h t B in
          let B2 = operand u (emit w None names (suc h) u B1) B1 in
          let B3 = operand v (emit w None names m v B2) B2 in
          let i = putting h h (operand_slot names (suc h) u) (operand_slot names m v) p in
          let iv = lays_operand ns names m v B2 (i ∷ more) x bound.1.1.0 cov (λ e. lays None None ns names m v B2 (i ∷ more) x src.1.1.1.0 bound.1.1.0 fit.1.1.1.0 cov tt e) (ends_add C w B3 (i ∷ []) more x ends) in
          let iu = lays_operand ns names (suc h) u B1 iv.0 iv.1 bound.1.0 cov (λ e. lays None None ns names (suc h) u B1 iv.0 iv.1 src.1.1.0 bound.1.0 fit.1.1.0 cov tt e) iv.2 in
          let it = lays None None ns names h t B iu.0 iu.1 src.1.0 bound.0 fit.1.0 cov tt iu.2 in
          (it.0, it.1, it.2, (position (at_work B1) iu.0 iu.1, position (at_work B2) iv.0 iv.1, position (at_work B3) (i ∷ more) x, it.3, iu.3, iv.3, behind_add B3 i more x))
      lays lp target ns names h (apply f ts p) B more x src bound fit cov ins ends =
          let B1 = emit_all w names h ts B in
          let l = leads f lp target h (count_terms ts) p B1 more x fit.0 (inside_more lp target (at_work B) (at_work B1) (omega (arith, emit_all_at w names h ts B)) ins) ends in
          let its = lays_all ns names h ts B l.0 l.1 src.1 bound fit.1 cov l.2 in
          (its.0, its.1, its.2, (position (at_work B1) l.0 l.1, its.3, l.3))

      pub lays_order : (lp : Option Target) (target : Option ℕ) (ns : List ℕ) (names : Scope) (h : ℕ) (ts : Kernels) (B : Builder) (more : List Instruction) (x : Exit)
          → AreSource ts → AreClosed ns ts → FitInOrder (Suits known) target ts → Covers ns names → Inside lp target (at_work B) → Ends C w (emit_in_order w lp names h ts B) more x
          → LaysInOrder lp names h ts B (position (at_work (emit_in_order w lp names h ts B)) more x)
      lays_order lp target ns names h none (building done below is) more x src bound fit cov ins ends =
          (constant h nil ∷ more, x, ends_add C w (building done below is) (constant h nil ∷ []) more x ends, refl)
      lays_order lp target ns names h (item t none) B more x src bound fit cov ins ends = lays lp target ns names h t B more x src.0 bound.0 fit cov ins ends
      lays_order lp target ns names h (item t (item u us)) B more x src bound fit cov ins ends =
          let B1 = emit w None names h t B in
          let its = lays_order lp target ns names h (item u us) B1 more x src.1 bound.1 fit.1 cov (inside_more lp target (at_work B) (at_work B1) (omega (arith, emit_at w None names h t B)) ins) ends in
          let it = lays None None ns names h t B its.0 its.1 src.0 bound.0 fit.0 cov tt its.2 in
          (it.0, it.1, it.2, (position (at_work B1) its.0 its.1, it.3, its.3))

      pub lays_bindings : (ns : List ℕ) (names : Scope) (h : ℕ) (bs : Bindings) (B : Builder) (more : List Instruction) (x : Exit)
          → AreSourceBindings bs → AreClosedBindings ns bs → FitBindings (Suits known) bs → Covers ns names → Ends C w (emit_bindings w names h bs B) more x
          → LaysBindings names h bs B (position (at_work (emit_bindings w names h bs B)) more x)
      lays_bindings ns names h empty B more x src bound fit cov ends = (more, x, ends, refl)
      lays_bindings ns names h (binding n t bs) B more x src bound fit cov ends =
          let B1 = emit w None names h t B in
          let its = lays_bindings (n ∷ ns) (names ++ (n, h) ∷ []) (suc h) bs B1 more x src.1 bound.1 fit.1 (covers_one ns names n h cov) ends in
          let it = lays None None ns names h t B its.0 its.1 src.0 bound.0 fit.0 cov tt its.2 in
          (it.0, it.1, it.2, (position (at_work B1) its.0 its.1, it.3, its.3))

      pub lays_all : (ns : List ℕ) (names : Scope) (h : ℕ) (ts : Kernels) (B : Builder) (more : List Instruction) (x : Exit)
          → AreSource ts → AreClosed ns ts → FitTerms (Suits known) ts → Covers ns names → Ends C w (emit_all w names h ts B) more x
          → LaysAll names h ts B (position (at_work (emit_all w names h ts B)) more x)
      lays_all ns names h none B more x src bound fit cov ends = (more, x, ends, refl)
      lays_all ns names h (item t ts) B more x src bound fit cov ends =
          let B1 = emit w None names h t B in
          let its = lays_all ns names (suc h) ts B1 more x src.1 bound.1 fit.1 cov ends in
          let it = lays None None ns names h t B its.0 its.1 src.0 bound.0 fit.0 cov tt its.2 in
          (it.0, it.1, it.2, (position (at_work B1) its.0 its.1, it.3, its.3))
