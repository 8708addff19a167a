-- What is laid out for a term is valid.
use Rattle.std.proofs.Common.{◌≡◌, ℕ, suc, ◌+◌, ◌<◌, ◌≤◌, List, [], ◌∷◌, ◌++◌, length, Option, Some, None, ℤ, Bool, true, false, refl, sym, ap, ◌∙◌, subst, arith, cond, append-nil, length-append, ◌⊎◌, ⊎_elim}
use Rattle.std.proofs.lemmas.Bool.{cases_lt, ltb-true, ltb-false, eq-eqb}
use Rattle.std.specs.Prelude.{◌==◌, nat_lt}
use Rattle.ca_value.specs.Tree.{nil}
use Rattle.ca_value.specs.declared.builtin.Builtin.{Builtin as BuiltinName}
use Rattle.ca_value.specs.declared.builtin.Builtin.TheVariants.{Conj, Assoc}
use Rattle.ca_value.specs.Builtins.{admits_arguments}
use Rattle.ca_term.specs.declared.place.Place.{Place}
use Rattle.ca_term.specs.declared.head.Head.{Head}
use Rattle.ca_term.specs.declared.head.Head.TheVariants.{Recur, Builtin, Take, Put, Alts, Make, Spawn, Close, Register, Print, Post}
use Rattle.ca_term.specs.declared.head.Head.TheVariants as head
use Rattle.ca_term.specs.Kernel.{Kernel, Kernels, Bindings, const, var, branch, bind, loop, seq, frame, turn, apply, none, item, empty, binding}
use Rattle.ca_term.specs.Closed.{names_behind, behind_found, IsClosed, AreClosed, AreClosedBindings}
use Rattle.ca_term.specs.Fits.{Known, Takes, Suits, Fits, FitTerms, FitInOrder, FitBindings, count_terms, count_bindings}
use Rattle.ca_states.specs.declared.code.Exit.{Exit}
use Rattle.ca_states.specs.declared.code.Exit.TheVariants.{Jump, Branch, Return, Cut}
use Rattle.ca_states.specs.declared.code.Exit.TheVariants as exit
use Rattle.ca_states.specs.Code.{has_slot, Instruction, constant, copying, moving, one, two, two_int, pushing, putting, many, BlockView, CodeView, block_count, block_at, function_at}
use Rattle.ca_states.specs.Valid.{KnownSlots as Tells, takes, is_operation, is_valid_block, slot_noted}
use Rattle.ca_term.specs.Source.{IsSource, AreSource, AreSourceBindings}
use Rattle.ca_lower.specs.Implements.{Scope, slot_of, operand_slot, next_slot, written_integer, paired_instruction, IsInScope, in_slots, names_bound, Target, moves}
use Rattle.ca_lower.specs.Emit.{Builder, building, at_work, block_of, add, close, without_place, finish_by_cut, finish, no_side, both_ends, operand, second, emit, emit_in_order, emit_bindings, emit_all, greater, slots_for, slots_in_order, slots_for_bound, slots_for_all}
use Rattle.ca_lower.proofs.Goes.{Under, from_next}
use Rattle.ca_lower.proofs.Slots.{length-bound}
use Rattle.ca_lower.proofs.Lays.{Ends, ends_add, ends_close, closed_at, added_at, opened_at, Covers, covers_one, covers_bound, Inside, inside_more, emit_at, emit_bindings_at, emit_all_at, lays}
use Rattle.ca_lower.proofs.Knows.{Up, up_less, up_written, first_slots, up_first, Begins, Valid, valid_block, valid_constant, valid_copying, valid_down, valid_many, valid_reading, valid_taking, valid_moves, valid_jump, valid_branch, valid_cut, valid_call}

-- the greater of two is enough for both
pub enough : (m n w : ℕ) → greater m n ≤ w → (m ≤ w) × (n ≤ w)
enough m n w h = by (nat_lt m n) refl h
  where
    by : (b : Bool) → nat_lt m n ≡ b → cond b n m ≤ w → (m ≤ w) × (n ≤ w)
    by true e h = let lt : m < n = ltb-true m n e in (omega (arith, lt, h), h)
    by false e h = let le : n ≤ m = ltb-false m n e in (h, omega (arith, le, h))

pub left_in : (m n a : ℕ) → a ≤ m → a ≤ greater m n
left_in m n a le = let e = enough m n (greater m n) (omega arith) in let f = e.0 in omega (arith, le, f)

right_in : (m n a : ℕ) → a ≤ n → a ≤ greater m n
right_in m n a le = let e = enough m n (greater m n) (omega arith) in let f = e.1 in omega (arith, le, f)

-- a term needs its own slot
mutual
  pub own_slot : (h : ℕ) (t : Kernel) → suc h ≤ slots_for h t
  own_slot h (const v) = omega arith
  own_slot h (var x) = omega arith
  own_slot h (branch c a b) = left_in (slots_for h c) (greater (slots_for h a) (slots_for h b)) (suc h) (own_slot h c)
  own_slot h (bind bs body) = right_in (slots_for_bound h bs) (slots_for (h + count_bindings bs) body) (suc h) (let e = own_slot (h + count_bindings bs) body in omega (arith, e))
  own_slot h (loop fs bs body) = right_in (slots_for_bound h bs) (slots_for (h + count_bindings bs) body) (suc h) (let e = own_slot (h + count_bindings bs) body in omega (arith, e))
  own_slot h (seq ts) = own_in_order h ts
  own_slot h (frame body) = omega arith
  own_slot h (turn ns text now) = omega arith
  own_slot h (apply f ts p) = left_in (suc h) (slots_for_all h ts) (suc h) (omega arith)

  own_in_order : (h : ℕ) (ts : Kernels) → suc h ≤ slots_in_order h ts
  own_in_order h none = omega arith
  own_in_order h (item t ts) = left_in (slots_for h t) (slots_in_order h ts) (suc h) (own_slot h t)

operands_slots : (h : ℕ) (ts : Kernels) → h + count_terms ts ≤ slots_for_all h ts
operands_slots h none = omega arith
operands_slots h (item t ts) = right_in (slots_for h t) (slots_for_all (suc h) ts) (h + suc (count_terms ts)) (let e = operands_slots (suc h) ts in omega (arith, e))

greater_more : (a b c d : ℕ) → a ≤ c → b ≤ d → greater a b ≤ greater c d
greater_more a b c d l m = by (nat_lt a b) refl
  where
    by : (o : Bool) → nat_lt a b ≡ o → cond o b a ≤ greater c d
    by true e = right_in c d b m
    by false e = left_in c d a l

-- a term with a later slot needs as many, or more
mutual
  slots_more : (g h : ℕ) (t : Kernel) → g ≤ h → slots_for g t ≤ slots_for h t
  slots_more g h (const v) le = omega (arith, le)
  slots_more g h (var x) le = omega (arith, le)
  slots_more g h (branch c a b) le =
      greater_more (slots_for g c) (greater (slots_for g a) (slots_for g b)) (slots_for h c) (greater (slots_for h a) (slots_for h b)) (slots_more g h c le)
      (greater_more (slots_for g a) (slots_for g b) (slots_for h a) (slots_for h b) (slots_more g h a le) (slots_more g h b le))
  slots_more g h (bind bs body) le =
      greater_more (slots_for_bound g bs) (slots_for (g + count_bindings bs) body) (slots_for_bound h bs) (slots_for (h + count_bindings bs) body) (bindings_more g h bs le)
      (slots_more (g + count_bindings bs) (h + count_bindings bs) body (omega (arith, le)))
  slots_more g h (loop fs bs body) le =
      greater_more (slots_for_bound g bs) (slots_for (g + count_bindings bs) body) (slots_for_bound h bs) (slots_for (h + count_bindings bs) body) (bindings_more g h bs le)
      (slots_more (g + count_bindings bs) (h + count_bindings bs) body (omega (arith, le)))
  slots_more g h (seq ts) le = order_more g h ts le
  slots_more g h (frame body) le = omega (arith, le)
  slots_more g h (turn ns text now) le = omega (arith, le)
  slots_more g h (apply f ts p) le = greater_more (suc g) (slots_for_all g ts) (suc h) (slots_for_all h ts) (omega (arith, le)) (all_more g h ts le)

  bindings_more : (g h : ℕ) (bs : Bindings) → g ≤ h → slots_for_bound g bs ≤ slots_for_bound h bs
  bindings_more g h empty le = le
  bindings_more g h (binding n t bs) le =
      greater_more (slots_for g t) (slots_for_bound (suc g) bs) (slots_for h t) (slots_for_bound (suc h) bs) (slots_more g h t le) (bindings_more (suc g) (suc h) bs (omega (arith, le)))

  order_more : (g h : ℕ) (ts : Kernels) → g ≤ h → slots_in_order g ts ≤ slots_in_order h ts
  order_more g h none le = omega (arith, le)
  order_more g h (item t ts) le = greater_more (slots_for g t) (slots_in_order g ts) (slots_for h t) (slots_in_order h ts) (slots_more g h t le) (order_more g h ts le)

  all_more : (g h : ℕ) (ts : Kernels) → g ≤ h → slots_for_all g ts ≤ slots_for_all h ts
  all_more g h none le = le
  all_more g h (item t ts) le =
      greater_more (slots_for g t) (slots_for_all (suc g) ts) (slots_for h t) (slots_for_all (suc h) ts) (slots_more g h t le) (all_more (suc g) (suc h) ts (omega (arith, le)))

up_to_next : (h : ℕ) (t : Kernel) → next_slot h t ≤ suc h
up_to_next h (var x) = omega arith
up_to_next h t = omega arith

-- the next free slot behind a second operand
abbrev second_next : Option ℤ → ℕ → ℕ → ℕ
second_next (Some z) h n = h
second_next None h n = n

-- a builtin of two
valid_pair : (o : Option ℤ) (C : CodeView) (w n h a h2 c g : ℕ) (b : BuiltinName) (p : Place) (K : Tells) (is : List Instruction) (x : Exit) → admits_arguments b 2 ≡ true
    → h < w → h ≤ h2 → h2 ≤ g → g ≤ w → a < h2 → c < g → Up (second_next o h2 g) K → ((L : Tells) → Up (suc h) L → Valid C w n L is x) → Valid C w n K (paired_instruction b h a o c p ∷ is) x
valid_pair (Some z) C w n h a h2 c g b p K is x counted lt le le2 lg la lc up go =
    valid_reading C w n h h2 (a ∷ []) (two_int b h a z p) K is x refl refl refl counted lt le (omega (arith, le2, lg)) (la, tt) up go
valid_pair None C w n h a h2 c g b p K is x counted lt le le2 lg la lc up go =
    valid_reading C w n h g (a ∷ c ∷ []) (two b h a c p) K is x refl refl refl counted lt (omega (arith, le, le2)) lg (omega (arith, la, le2), (lc, tt)) up go

-- an operand that isn't the first may stand one slot earlier
earlier : (h w : ℕ) (t u : Kernel) → slots_for (suc h) u ≤ w → slots_for (next_slot h t) u ≤ w
earlier h w t u le = let m = slots_more (next_slot h t) (suc h) u (up_to_next h t) in omega (arith, le, m)

-- each name's slot is below h
abbrev pub Below : Scope → ℕ → Type 0
Below [] h = Unit {0}
Below (b ∷ names) h = (b.1 < h) × Below names h

below_more : (names : Scope) (g h : ℕ) → g ≤ h → Below names g → Below names h
below_more [] g h le b = tt
below_more (a ∷ names) g h le b = let lt = b.0 in (omega (arith, le, lt), below_more names g h le b.1)

below_slot : (names : Scope) (h x : ℕ) → Below names h → IsInScope x names → slot_of names x < h
below_slot [] h x b i = absurd i
below_slot (p ∷ names) h x b i = by (x == p.0) refl (λ more. below_slot names h x b.1 more) i
  where
    by : (o : Bool) → (x == p.0) ≡ o → (IsInScope x names → slot_of names x < h) → (x ≡ p.0) ⊎ IsInScope x names → cond o p.1 (slot_of names x) < h
    by true e f i = b.0
    by false e f i = ⊎_elim (λ same. absurd (let g : (x == p.0) ≡ true = eq-eqb x p.0 same in cc)) f i

below_operand : (ns : List ℕ) (names : Scope) (h : ℕ) (t : Kernel) → Below names h → Covers ns names → IsClosed ns t → operand_slot names h t < next_slot h t
below_operand ns names h (var y) b c bound = below_slot names h y b (c y bound)
below_operand ns names h t b c bound = omega arith

below_append : (names more : Scope) (h : ℕ) → Below names h → Below more h → Below (names ++ more) h
below_append [] more h b c = c
below_append (a ∷ names) more h b c = (b.0, below_append names more h b.1 c)

pub below_range : (xs : List ℕ) (a h : ℕ) → a + length xs ≤ h → Below (in_slots xs a) h
below_range [] a h le = tt
below_range (x ∷ xs) a h le = (omega (arith, le), below_range xs (suc a) h (omega (arith, le)))

under_more : (lp : Option Target) (h g : ℕ) → h ≤ g → Under lp h → Under lp g
under_more None h g le u = tt
under_more (Some t) h g le u = omega (arith, le, u)

module _ (C : CodeView) where
  -- the blocks after m, up to n, are valid
  abbrev pub Between : ℕ → ℕ → Type 0
  Between m n = (j : ℕ) → m < j → j ≤ n → is_valid_block C j (block_at C j) ≡ true

  none_between : (m n : ℕ) → n ≤ m → Between m n
  none_between m n le j lt le2 = absurd (omega (arith, le, lt, le2))

  between : (l m n : ℕ) → Between l m → Between m n → Between l n
  between l m n a b j lt le = ⊎_elim (λ g. b j g le) (λ g. a j lt g) (cases_lt m j)

  one_more : (m n : ℕ) → n ≡ m + 1 → is_valid_block C n (block_at C n) ≡ true → Between m n
  one_more m n e h j lt le = let f : n ≡ j = omega (arith, e, lt, le) in subst (λ k. is_valid_block C k (block_at C k) ≡ true) f h

  module _ (w : ℕ) (wide : w ≤ C.width) where
    begins_close : (B : Builder) (x0 : Exit) (next : ℕ) (more : List Instruction) (x : Exit) (n : ℕ) → at_work B + 1 ≡ n → Ends C w (close w x0 next B) more x → Begins C w n next
    begins_close B x0 next more x n e ends =
        let o = opened_at C w B x0 next more x n e ends in
        record { there = within B ends e; wide = ap (λ (b : BlockView). b.width) o; entry = ap (λ (b : BlockView). b.entry) o }
      where
        within : (B : Builder) → Ends C w (close w x0 next B) more x → at_work B + 1 ≡ n → n < block_count C
        within (building done below is) h e =
            let len : length (done ++ block_of w below is x0 ∷ []) ≡ n = length-append done (block_of w below is x0 ∷ []) ∙ e in
            let all : length C.blocks ≡ length (done ++ block_of w below is x0 ∷ []) + suc (length h.0) = ap length h.1 ∙ length-append (done ++ block_of w below is x0 ∷ []) (block_of w next more x ∷ h.0) in
            omega (arith, len, all)

    valid_close : (B : Builder) (x0 : Exit) (next : ℕ) (more : List Instruction) (x : Exit) (n : ℕ) → at_work B + 1 ≡ n → Ends C w (close w x0 next B) more x → next ≤ w → Valid C w n (has_slot (first_slots next)) more x → is_valid_block C n (block_at C n) ≡ true
    valid_close B x0 next more x n e ends le v = ap (is_valid_block C n) (opened_at C w B x0 next more x n e ends) ∙ valid_block C w next n more x wide le v

    abbrev IsHead : Option Target → Type 0
    IsHead None = Unit {0}
    IsHead (Some t) = Begins C w t.head (t.first + t.count)

    -- from a rest that is valid where the slots below g are known, to one that is where those below h are
    abbrev Sound : ℕ → ℕ → Builder → Builder → List Instruction → Exit → Type 0
    Sound h g B B2 more x =
        ((K : Tells) → Up g K → Valid C w (at_work B2) K more x)
        → (is : List Instruction) × (x0 : Exit) × Ends C w B is x0 × ((K : Tells) → Up h K → Valid C w (at_work B) K is x0) × Between (at_work B) (at_work B2)

    -- one instruction more
    sound_add : (h g : ℕ) (i : Instruction) (B : Builder) (more : List Instruction) (x : Exit) → Ends C w (add (i ∷ []) B) more x
        → ((n : ℕ) → ((L : Tells) → Up g L → Valid C w n L more x) → (K : Tells) → Up h K → Valid C w n K (i ∷ more) x) → Sound h g B (add (i ∷ []) B) more x
    sound_add h g i B more x ends f go =
        let e = added_at (i ∷ []) B in (
          i ∷ more,
          x,
          ends_add C w B (i ∷ []) more x ends,
          f (at_work B) (λ L up. subst (λ n. Valid C w n L more x) e (go L up)),
          none_between (at_work B) (at_work (add (i ∷ []) B)) (omega (arith, e)),
        )

    -- an exit, behind which the next block begins with the slots below h
    sound_exit : (h next : ℕ) (x0 : Exit) (B : Builder) (more : List Instruction) (x : Exit) → next ≤ w → Ends C w (close w x0 next B) more x
        → (Begins C w (at_work B + 1) next → (K : Tells) → Up h K → Valid C w (at_work B) K [] x0) → Sound h next B (close w x0 next B) more x
    sound_exit h next x0 B more x le ends f go =
        let e = closed_at w x0 next B in (
          [],
          x0,
          ends_close C w B x0 next more x ends,
          f (begins_close B x0 next more x (at_work B + 1) refl ends),
          one_more (at_work B) (at_work (close w x0 next B)) e (valid_close B x0 next more x (at_work (close w x0 next B)) (sym e) ends le (go (has_slot (first_slots next)) (up_first next))),
        )

    module _ (known : Known) (there : (f k : ℕ) → Takes known.functions f k → (f < length C.functions) × (k ≡ (function_at C f).values))
        (called : (f k : ℕ) → Takes known.functions f k → takes C.functions f k ≡ true)
        (asks : (f : Head) (k : ℕ) (target : Option ℕ) → Suits known target f k → (f ≡ Recur → ⊥) → ((b : _) → f ≡ Builtin b → ⊥) → ((m : ℕ) → f ≡ head.Call m → ⊥) → is_operation C k f ≡ true) where
      sound_cut : (f : Head) (h k : ℕ) (p : Place) (B : Builder) (more : List Instruction) (x : Exit) → suc h ≤ w → h + k ≤ w → is_operation C k f ≡ true → Ends C w (finish_by_cut w f h k p B) more x → Sound (h + k) (suc h) B (finish_by_cut w f h k p B) more x
      sound_cut f h k p B more x lh lk op ends =
          sound_exit (h + k) (suc h) (Cut f h k h (at_work B + 1) p) B more x lh ends (λ t K up. valid_cut C w (at_work B) h k (at_work B + 1) f p K lh lk op t up)

      sound_recur : (lp : Option Target) (target : Option ℕ) (h k : ℕ) (p : Place) (B : Builder) (more : List Instruction) (x : Exit) → target ≡ Some k → Inside lp target (at_work B) → Under lp h → IsHead lp → suc h ≤ w → h + k ≤ w → Ends C w (finish w lp Recur h k p B) more x
          → Sound (h + k) (suc h) B (finish w lp Recur h k p B) more x
      sound_recur lp None h k p B more x fit ins und head lh lk ends = absurd cc
      sound_recur None (Some j) h k p B more x fit ins und head lh lk ends = absurd ins
      sound_recur (Some t) (Some j) h k p B more x fit ins und head lh lk ends = λ go.
          let e : j ≡ k = cc in
          let count : k ≡ t.count = sym e ∙ ins.0 in
          let ms = moves t.first h t.count in
          let x0 = Jump t.head p in
          let B1 = add ms B in
          let e1 = added_at ms B in
          let ends1 = ends_close C w B1 x0 (suc h) more x ends in
          let s = sound_exit h (suc h) x0 B1 more x lh ends (λ begins K up. valid_jump C w (at_work B1) t.head (t.first + t.count) p K head (up_less (t.first + t.count) h K (omega (arith, und)) up)) go in (
            ms,
            x0,
            subst (λ l. Ends C w B l x0) (append-nil ms) (ends_add C w B ms [] x0 ends1),
            (λ K up. valid_moves C w (at_work B) h t.first h t.count K x0 und (omega arith) (omega (arith, lk, count)) (up_less h (h + k) K (omega arith) up) (λ i le lt. up i (omega (arith, lt, count)))
                (λ L up2. valid_jump C w (at_work B) t.head (t.first + t.count) p L head (up_less (t.first + t.count) h L (omega (arith, und)) up2))),
            subst (λ n. Between n (at_work (close w x0 (suc h) B1))) e1 s.4,
          )

      sound_by : (f : Head) (lp : Option Target) (target : Option ℕ) (h k : ℕ) (p : Place) (B : Builder) (more : List Instruction) (x : Exit) → Suits known target f k → Inside lp target (at_work B) → Under lp h → IsHead lp → suc h ≤ w → h + k ≤ w → Ends C w (finish w lp f h k p B) more x
          → Sound (h + k) (suc h) B (finish w lp f h k p B) more x
      sound_by Recur lp target h k p B more x fit ins und head lh lk ends = sound_recur lp target h k p B more x fit ins und head lh lk ends
      sound_by (Builtin b) lp target h k p B more x fit ins und head lh lk ends =
          sound_add (h + k) (suc h) (many b h h k p) B more x ends (λ n go K up. valid_many C w n h k b p K more x lh lk fit up go)
      sound_by (head.Call f) lp target h k p B more x fit ins und head lh lk ends =
          sound_exit (h + k) (suc h) (exit.Call f h k h (at_work B + 1) p) B more x lh ends (λ t K up. valid_call C w (at_work B) h k (at_work B + 1) f p K lh lk (called f k fit) t up)
      sound_by Take lp target h k p B more x fit ins und head lh lk ends = sound_cut Take h k p B more x lh lk (asks Take k target fit (λ e. cc) (λ b e. cc) (λ m e. cc)) ends
      sound_by Put lp target h k p B more x fit ins und head lh lk ends = sound_cut Put h k p B more x lh lk (asks Put k target fit (λ e. cc) (λ b e. cc) (λ m e. cc)) ends
      sound_by (Alts options) lp target h k p B more x fit ins und head lh lk ends = sound_cut (Alts options) h k p B more x lh lk (asks (Alts options) k target fit (λ e. cc) (λ b e. cc) (λ m e. cc)) ends
      sound_by (Make kind) lp target h k p B more x fit ins und head lh lk ends = sound_cut (Make kind) h k p B more x lh lk (asks (Make kind) k target fit (λ e. cc) (λ b e. cc) (λ m e. cc)) ends
      sound_by (Spawn kind) lp target h k p B more x fit ins und head lh lk ends = sound_cut (Spawn kind) h k p B more x lh lk (asks (Spawn kind) k target fit (λ e. cc) (λ b e. cc) (λ m e. cc)) ends
      sound_by Close lp target h k p B more x fit ins und head lh lk ends = sound_cut Close h k p B more x lh lk (asks Close k target fit (λ e. cc) (λ b e. cc) (λ m e. cc)) ends
      sound_by (Register name) lp target h k p B more x fit ins und head lh lk ends = sound_cut (Register name) h k p B more x lh lk (asks (Register name) k target fit (λ e. cc) (λ b e. cc) (λ m e. cc)) ends
      sound_by Print lp target h k p B more x fit ins und head lh lk ends = sound_cut Print h k p B more x lh lk (asks Print k target fit (λ e. cc) (λ b e. cc) (λ m e. cc)) ends
      sound_by Post lp target h k p B more x fit ins und head lh lk ends = sound_cut Post h k p B more x lh lk (asks Post k target fit (λ e. cc) (λ b e. cc) (λ m e. cc)) ends

      -- an operand, by what is laid out for it where it is no name
      sound_operand : (names : Scope) (h : ℕ) (t : Kernel) (B : Builder) (more : List Instruction) (x : Exit) → (Ends C w (emit w None names h t B) more x → Sound h (suc h) B (emit w None names h t B) more x)
          → Ends C w (operand t (emit w None names h t B) B) more x → Sound h (next_slot h t) B (operand t (emit w None names h t B) B) more x
      sound_operand names h (var y) B more x own ends = λ go. (more, x, ends, go, none_between (at_work B) (at_work B) (omega arith))
      sound_operand names h t B more x own ends = own ends

      -- a second operand
      sound_second : (o : Option ℤ) (names : Scope) (h : ℕ) (t : Kernel) (B : Builder) (more : List Instruction) (x : Exit)
          → (Ends C w (operand t (emit w None names h t B) B) more x → Sound h (next_slot h t) B (operand t (emit w None names h t B) B) more x)
          → Ends C w (second o (operand t (emit w None names h t B) B) B) more x → Sound h (second_next o h (next_slot h t)) B (second o (operand t (emit w None names h t B) B) B) more x
      sound_second (Some z) names h t B more x own ends = λ go. (more, x, ends, go, none_between (at_work B) (at_work B) (omega arith))
      sound_second None names h t B more x own ends = own ends

      mutual
        pub sound : (lp : Option Target) (target : Option ℕ) (ns : List ℕ) (names : Scope) (h : ℕ) (t : Kernel) (B : Builder) (more : List Instruction) (x : Exit)
            → IsSource t → IsClosed ns t → Fits (Suits known) target t → Covers ns names → Inside lp target (at_work B) → Below names h → Under lp h → IsHead lp → slots_for h t ≤ w → Ends C w (emit w lp names h t B) more x
            → Sound h (suc h) B (emit w lp names h t B) more x
        sound lp target ns names h (const v) B more x src bound fit cov ins bel und head fits ends =
            sound_add h (suc h) (constant h v) B more x ends (λ n go K up. valid_constant C w n h v K more x fits (go (slot_noted true h K) (up_written h K up)))
        sound lp target ns names h (var y) B more x src bound fit cov ins bel und head fits ends =
            let lt = below_slot names h y bel (cov y bound) in
            sound_add h (suc h) (copying h (slot_of names y)) B more x ends (λ n go K up. valid_copying C w n h (slot_of names y) K more x fits (omega (arith, lt, fits)) (up (slot_of names y) lt) (go (slot_noted true h K) (up_written h K up)))
        sound lp target ns names h (branch c a b) B more x src bound fit cov ins bel und head fits ends = λ go.
            let B1 = emit w None names h c B in
            let n = at_work B1 in
            let to = both_ends a b n in
            let X = Branch h (n + 1) (no_side a n) in
            let J = Jump to without_place in
            let B2 = close w X h B1 in
            let B3 = emit w lp names h a B2 in
            let B4 = close w J h B3 in
            let B5 = emit w lp names h b B4 in
            let B6 = close w J (suc h) B5 in
            let e1 = emit_at w None names h c B in
            let e2 = closed_at w X h B1 in
            let e3 = emit_at w lp names h a B2 in
            let e4 = closed_at w J h B3 in
            let e5 = emit_at w lp names h b B4 in
            let e6 = closed_at w J (suc h) B5 in
            let no : at_work B3 + 1 ≡ no_side a n = omega (arith, e2, e3) in
            let end : at_work B5 + 1 ≡ to = omega (arith, e2, e3, e4, e5) in
            let f1 = enough (slots_for h c) (greater (slots_for h a) (slots_for h b)) w fits in
            let f2 = enough (slots_for h a) (slots_for h b) w f1.1 in
            let own = own_slot h c in
            let fc = f1.0 in
            let lh : suc h ≤ w = omega (arith, own, fc) in
            let ends5 = ends_close C w B5 J (suc h) more x ends in
            let bt = begins_close B5 J (suc h) more x to end ends in
            let jump : (m : ℕ) (K : Tells) → Up (suc h) K → Valid C w m K [] J = λ m K up. valid_jump C w m to (suc h) without_place K bt up in
            let sb = sound lp target ns names h b B4 [] J src.2 bound.2 fit.2 cov (inside_more lp target (at_work B) (at_work B4) (omega (arith, e1, e2, e3, e4)) ins) bel und head f2.1 ends5 (jump (at_work B5)) in
            let ends3 = ends_close C w B3 J h sb.0 sb.1 sb.2 in
            let sa = sound lp target ns names h a B2 [] J src.1 bound.1 fit.1 cov (inside_more lp target (at_work B) (at_work B2) (omega (arith, e1, e2)) ins) bel und head f2.0 ends3 (jump (at_work B3)) in
            let sc = sound None None ns names h c B [] X src.0 bound.0 fit.0 cov tt bel tt tt f1.0 (ends_close C w B1 X h sa.0 sa.1 sa.2)
            (λ K up. valid_branch C w n h (n + 1) (no_side a n) h K lh (up h (omega arith)) (omega arith) (omega arith) (begins_close B1 X h sa.0 sa.1 (n + 1) refl sa.2) (begins_close B3 J h sb.0 sb.1 (no_side a n) no sb.2) (up_less h (suc h) K (omega arith) up)) in
            let first = has_slot (first_slots h) in
            let b2 = one_more n (at_work B2) e2 (valid_close B1 X h sa.0 sa.1 (at_work B2) (sym e2) sa.2 (omega (arith, lh)) (sa.3 first (up_first h))) in
            let b4 = one_more (at_work B3) (at_work B4) e4 (valid_close B3 J h sb.0 sb.1 (at_work B4) (sym e4) sb.2 (omega (arith, lh)) (sb.3 first (up_first h))) in
            let b6 = one_more (at_work B5) (at_work B6) e6 (valid_close B5 J (suc h) more x (at_work B6) (sym e6) ends lh (go (has_slot (first_slots (suc h))) (up_first (suc h)))) in
            let all5 = between n (at_work B4) (at_work B5) (between n (at_work B3) (at_work B4) (between n (at_work B2) (at_work B3) b2 sa.4) b4) sb.4 in
            (sc.0, sc.1, sc.2, sc.3, between (at_work B) (at_work B5) (at_work B6) (between (at_work B) n (at_work B5) sc.4 all5) b6)
        sound lp target ns names h (bind bs body) B more x src bound fit cov ins bel und head fits ends = λ go.
            let B1 = emit_bindings w names h bs B in
            let c = count_bindings bs in
            let len : length (names_bound bs) ≡ c = length-bound bs in
            let names2 = names ++ in_slots (names_bound bs) h in
            let B2 = emit w lp names2 (h + c) body B1 in
            let I = moving h (h + c) in
            let f = enough (slots_for_bound h bs) (slots_for (h + c) body) w fits in
            let own = own_slot (h + c) body in
            let fb = f.1 in
            let bel2 = below_append names (in_slots (names_bound bs) h) (h + c) (below_more names h (h + c) (omega arith) bel) (below_range (names_bound bs) h (h + c) (omega (arith, len))) in
            let si = sound_add (suc (h + c)) (suc h) I B2 more x ends (λ n g K up. valid_down C w n h (h + c) K more x (omega arith) (omega (arith, own, fb)) up g) go in
            let sb = sound lp target (names_behind bs ns) names2 (h + c) body B1 si.0 si.1 src.1 bound.1 fit.1 (covers_bound bs ns names h cov) (inside_more lp target (at_work B) (at_work B1) (omega (arith, emit_bindings_at w names h bs B)) ins) bel2 (under_more lp h (h + c) (omega arith) und) head f.1 si.2 si.3 in
            let ss = sound_bindings ns names h bs B sb.0 sb.1 src.0 bound.0 fit.0 cov bel f.0 sb.2 sb.3 in
            (ss.0, ss.1, ss.2, ss.3, between (at_work B) (at_work B1) (at_work (add (I ∷ []) B2)) ss.4 (between (at_work B1) (at_work B2) (at_work (add (I ∷ []) B2)) sb.4 si.4))
        sound lp target ns names h (loop fs bs body) B more x src bound fit cov ins bel und head fits ends = λ go.
            let B1 = emit_bindings w names h bs B in
            let n = at_work B1 in
            let c = count_bindings bs in
            let len : length (names_bound bs) ≡ c = length-bound bs in
            let t : Target = record { first = h; count = c; head = n + 1 } in
            let names2 = names ++ in_slots (names_bound bs) h in
            let X = Jump (n + 1) without_place in
            let B2 = close w X (h + c) B1 in
            let B3 = emit w (Some t) names2 (h + c) body B2 in
            let I = moving h (h + c) in
            let e2 = closed_at w X (h + c) B1 in
            let f = enough (slots_for_bound h bs) (slots_for (h + c) body) w fits in
            let own = own_slot (h + c) body in
            let fb = f.1 in
            let none_found : 0 + c ≡ c = omega arith in
            let fit2 : Fits (Suits known) (Some c) body = subst (λ k. Fits (Suits known) (Some k) body) none_found (subst (λ gs. Fits (Suits known) (Some (length gs + c)) body) src.0 fit.1) in
            let bound2 : IsClosed (names_behind bs ns) body = subst (λ gs. IsClosed (names_behind bs (behind_found gs ns)) body) src.0 bound.1 in
            let cov2 = covers_bound bs ns names h cov in
            let ends3 = ends_add C w B3 (I ∷ []) more x ends in
            let lb = lays C w known there (Some t) (Some c) (names_behind bs ns) names2 (h + c) body B2 (I ∷ more) x src.2 bound2 fit2 cov2 (refl, omega (arith, e2)) ends3 in
            let begins = begins_close B1 X (h + c) lb.0 lb.1 (n + 1) refl lb.2 in
            let bel2 = below_append names (in_slots (names_bound bs) h) (h + c) (below_more names h (h + c) (omega arith) bel) (below_range (names_bound bs) h (h + c) (omega (arith, len))) in
            let si = sound_add (suc (h + c)) (suc h) I B3 more x ends (λ m g K up. valid_down C w m h (h + c) K more x (omega arith) (omega (arith, own, fb)) up g) go in
            let sb = sound (Some t) (Some c) (names_behind bs ns) names2 (h + c) body B2 si.0 si.1 src.2 bound2 fit2 cov2 (refl, omega (arith, e2)) bel2 (omega arith) begins f.1 si.2 si.3 in
            let sx = sound_exit (h + c) (h + c) X B1 sb.0 sb.1 (omega (arith, own, fb)) sb.2 (λ b K up. valid_jump C w n (n + 1) (h + c) without_place K b up) sb.3 in
            let ss = sound_bindings ns names h bs B sx.0 sx.1 src.1 bound.0 fit.0 cov bel f.0 sx.2 sx.3 in
            (ss.0, ss.1, ss.2, ss.3, between (at_work B) n (at_work (add (I ∷ []) B3)) ss.4 (between n (at_work B2) (at_work (add (I ∷ []) B3)) sx.4 (between (at_work B2) (at_work B3) (at_work (add (I ∷ []) B3)) sb.4 si.4)))
        sound lp target ns names h (seq ts) B more x src bound fit cov ins bel und head fits ends = sound_order lp target ns names h ts B more x src bound fit cov ins bel und head fits ends
        sound lp target ns names h (frame body) B more x src bound fit cov ins bel und head fits ends = absurd src
        sound lp target ns names h (turn ms text now) B more x src bound fit cov ins bel und head fits ends = absurd src
        sound lp target ns names h (apply (Builtin b) (item t none) p) B more x src bound fit cov ins bel und head fits ends = λ go.
            let B1 = operand t (emit w None names h t B) B in
            let a = operand_slot names h t in
            let g = next_slot h t in
            let i = one b h a p in
            let f0 = enough (suc h) (slots_for_all h (item t none)) w fits in
            let f = enough (slots_for h t) (suc h) w f0.1 in
            let lh = f0.0 in
            let up_to = up_to_next h t in
            let si = sound_add g (suc h) i B1 more x ends
            (λ n go2 K up. valid_reading C w n h g (a ∷ []) i K more x refl refl refl fit.0 lh (from_next h t) (omega (arith, up_to, lh)) (below_operand ns names h t bel cov bound.0, tt) up go2) go in
            let st = sound_operand names h t B si.0 si.1 (sound None None ns names h t B si.0 si.1 src.1.0 bound.0 fit.1.0 cov tt bel tt tt f.0) si.2 si.3 in
            (st.0, st.1, st.2, st.3, between (at_work B) (at_work B1) (at_work (add (i ∷ []) B1)) st.4 si.4)
        sound lp target ns names h (apply (Builtin Conj) (item t (item u none)) p) B more x src bound fit cov ins bel und head fits ends = λ go.
            let B1 = emit w None names h t B in
            let h2 = suc h in
            let B2 = operand u (emit w None names h2 u B1) B1 in
            let c = operand_slot names h2 u in
            let g = next_slot h2 u in
            let i = pushing h h c p in
            let f0 = enough (suc h) (slots_for_all h (item t (item u none))) w fits in
            let f = enough (slots_for h t) (slots_for_all h2 (item u none)) w f0.1 in
            let f2 = enough (slots_for h2 u) (suc h2) w f.1 in
            let wide2 = f2.1 in
            let up_to = up_to_next h2 u in
            let from = from_next h2 u in
            let bel2 = below_more names h h2 (omega arith) bel in
            let si = sound_add g (suc h) i B2 more x ends
            (λ n go2 K up. valid_taking C w n h g (h ∷ c ∷ []) i K more x refl refl refl refl f0.0 (omega (arith, from)) (omega (arith, up_to, wide2)) (omega (arith, from), (below_operand ns names h2 u bel2 cov bound.1.0, tt)) up go2) go in
            let su = sound_operand names h2 u B1 si.0 si.1 (sound None None ns names h2 u B1 si.0 si.1 src.1.1.0 bound.1.0 fit.1.1.0 cov tt bel2 tt tt f2.0) si.2 si.3 in
            let st = sound None None ns names h t B su.0 su.1 src.1.0 bound.0 fit.1.0 cov tt bel tt tt f.0 su.2 su.3 in
            (st.0, st.1, st.2, st.3, between (at_work B) (at_work B1) (at_work (add (i ∷ []) B2)) st.4 (between (at_work B1) (at_work B2) (at_work (add (i ∷ []) B2)) su.4 si.4))
        sound lp target ns names h (apply (Builtin b) (item t (item u none)) p) B more x src bound fit cov ins bel und head fits ends = λ go.
            let B1 = operand t (emit w None names h t B) B in
            let a = operand_slot names h t in
            let h2 = next_slot h t in
            let o = written_integer u in
            let B2 = second o (operand u (emit w None names h2 u B1) B1) B1 in
            let c = operand_slot names h2 u in
            let g = next_slot h2 u in
            let i = paired_instruction b h a o c p in
            let f0 = enough (suc h) (slots_for_all h (item t (item u none))) w fits in
            let f = enough (slots_for h t) (slots_for_all (suc h) (item u none)) w f0.1 in
            let f2 = enough (slots_for (suc h) u) (suc (suc h)) w f.1 in
            let wide2 = f2.1 in
            let up1 = up_to_next h t in
            let up2 = up_to_next h2 u in
            let from1 = from_next h t in
            let from2 = from_next h2 u in
            let bel2 = below_more names h h2 from1 bel in
            let first = below_operand ns names h t bel cov bound.0 in
            let si = sound_add (second_next o h2 g) (suc h) i B2 more x ends
            (λ n go2 K up. valid_pair o C w n h a h2 c g b p K more x fit.0 f0.0 from1 from2 (omega (arith, up1, up2, wide2)) first (below_operand ns names h2 u bel2 cov bound.1.0) up go2) go in
            let su = sound_second o names h2 u B1 si.0 si.1
            (λ e. sound_operand names h2 u B1 si.0 si.1 (sound None None ns names h2 u B1 si.0 si.1 src.1.1.0 bound.1.0 fit.1.1.0 cov tt bel2 tt tt (earlier h w t u f2.0)) e) si.2 si.3 in
            let st = sound_operand names h t B su.0 su.1 (sound None None ns names h t B su.0 su.1 src.1.0 bound.0 fit.1.0 cov tt bel tt tt f.0) su.2 su.3 in
            (st.0, st.1, st.2, st.3, between (at_work B) (at_work B1) (at_work (add (i ∷ []) B2)) st.4 (between (at_work B1) (at_work B2) (at_work (add (i ∷ []) B2)) su.4 si.4))
        sound lp target ns names h (apply (Builtin Assoc) (item t (item u (item v none))) p) B more x src bound fit cov ins bel und head fits ends = λ go.
            let h2 = suc h in
            let B1 = emit w None names h t B in
            let B2 = operand u (emit w None names h2 u B1) B1 in
            let c = operand_slot names h2 u in
            let h3 = next_slot h2 u in
            let B3 = operand v (emit w None names h3 v B2) B2 in
            let d = operand_slot names h3 v in
            let g = next_slot h3 v in
            let i = putting h h c d p in
            let f0 = enough (suc h) (slots_for_all h (item t (item u (item v none)))) w fits in
            let f = enough (slots_for h t) (slots_for_all h2 (item u (item v none))) w f0.1 in
            let f2 = enough (slots_for h2 u) (slots_for_all (suc h2) (item v none)) w f.1 in
            let f3 = enough (slots_for (suc h2) v) (suc (suc h2)) w f2.1 in
            let wide3 = f3.1 in
            let up2 = up_to_next h2 u in
            let up3 = up_to_next h3 v in
            let from2 = from_next h2 u in
            let from3 = from_next h3 v in
            let bel2 = below_more names h h2 (omega arith) bel in
            let bel3 = below_more names h2 h3 from2 bel2 in
            let key = below_operand ns names h2 u bel2 cov bound.1.0 in
            let si = sound_add g (suc h) i B3 more x ends
            (λ n go2 K up. valid_taking C w n h g (h ∷ c ∷ d ∷ []) i K more x refl refl refl refl f0.0 (omega (arith, from2, from3)) (omega (arith, up2, up3, wide3))
            (omega (arith, from2, from3), (omega (arith, key, from3), (below_operand ns names h3 v bel3 cov bound.1.1.0, tt))) up go2) go in
            let sv = sound_operand names h3 v B2 si.0 si.1 (sound None None ns names h3 v B2 si.0 si.1 src.1.1.1.0 bound.1.1.0 fit.1.1.1.0 cov tt bel3 tt tt (earlier h2 w u v f3.0)) si.2 si.3 in
            let su = sound_operand names h2 u B1 sv.0 sv.1 (sound None None ns names h2 u B1 sv.0 sv.1 src.1.1.0 bound.1.0 fit.1.1.0 cov tt bel2 tt tt f2.0) sv.2 sv.3 in
            let st = sound None None ns names h t B su.0 su.1 src.1.0 bound.0 fit.1.0 cov tt bel tt tt f.0 su.2 su.3 in
            let last = at_work (add (i ∷ []) B3) in
            (st.0, st.1, st.2, st.3, between (at_work B) (at_work B1) last st.4 (between (at_work B1) (at_work B2) last su.4 (between (at_work B2) (at_work B3) last sv.4 si.4)))
        sound lp target ns names h (apply f ts p) B more x src bound fit cov ins bel und head fits ends = λ go.
            let B1 = emit_all w names h ts B in
            let k = count_terms ts in
            let f1 = enough (suc h) (slots_for_all h ts) w fits in
            let few = operands_slots h ts in
            let fa = f1.1 in
            let sf = sound_by f lp target h k p B1 more x fit.0 (inside_more lp target (at_work B) (at_work B1) (omega (arith, emit_all_at w names h ts B)) ins) und head f1.0 (omega (arith, few, fa)) ends go in
            let ss = sound_all ns names h ts B sf.0 sf.1 src.1 bound fit.1 cov bel f1.1 sf.2 sf.3 in
            (ss.0, ss.1, ss.2, ss.3, between (at_work B) (at_work B1) (at_work (finish w lp f h k p B1)) ss.4 sf.4)

        pub sound_order : (lp : Option Target) (target : Option ℕ) (ns : List ℕ) (names : Scope) (h : ℕ) (ts : Kernels) (B : Builder) (more : List Instruction) (x : Exit)
            → AreSource ts → AreClosed ns ts → FitInOrder (Suits known) target ts → Covers ns names → Inside lp target (at_work B) → Below names h → Under lp h → IsHead lp → slots_in_order h ts ≤ w → Ends C w (emit_in_order w lp names h ts B) more x
            → Sound h (suc h) B (emit_in_order w lp names h ts B) more x
        sound_order lp target ns names h none B more x src bound fit cov ins bel und head fits ends =
            sound_add h (suc h) (constant h nil) B more x ends (λ n go K up. valid_constant C w n h nil K more x fits (go (slot_noted true h K) (up_written h K up)))
        sound_order lp target ns names h (item t none) B more x src bound fit cov ins bel und head fits ends =
            sound lp target ns names h t B more x src.0 bound.0 fit cov ins bel und head (enough (slots_for h t) (suc h) w fits).0 ends
        sound_order lp target ns names h (item t (item u us)) B more x src bound fit cov ins bel und head fits ends = λ go.
            let B1 = emit w None names h t B in
            let f = enough (slots_for h t) (slots_in_order h (item u us)) w fits in
            let ss = sound_order lp target ns names h (item u us) B1 more x src.1 bound.1 fit.1 cov (inside_more lp target (at_work B) (at_work B1) (omega (arith, emit_at w None names h t B)) ins) bel und head f.1 ends go in
            let st = sound None None ns names h t B ss.0 ss.1 src.0 bound.0 fit.0 cov tt bel tt tt f.0 ss.2 (λ K up. ss.3 K (up_less h (suc h) K (omega arith) up)) in
            (st.0, st.1, st.2, st.3, between (at_work B) (at_work B1) (at_work (emit_in_order w lp names h (item u us) B1)) st.4 ss.4)

        pub sound_bindings : (ns : List ℕ) (names : Scope) (h : ℕ) (bs : Bindings) (B : Builder) (more : List Instruction) (x : Exit)
            → AreSourceBindings bs → AreClosedBindings ns bs → FitBindings (Suits known) bs → Covers ns names → Below names h → slots_for_bound h bs ≤ w → Ends C w (emit_bindings w names h bs B) more x
            → Sound h (h + count_bindings bs) B (emit_bindings w names h bs B) more x
        sound_bindings ns names h empty B more x src bound fit cov bel fits ends = λ go.
            (more, x, ends, (λ K up. go K (λ k lt. up k (omega (arith, lt)))), none_between (at_work B) (at_work B) (omega arith))
        sound_bindings ns names h (binding n t bs) B more x src bound fit cov bel fits ends = λ go.
            let B1 = emit w None names h t B in
            let names2 = names ++ (n, h) ∷ [] in
            let f = enough (slots_for h t) (slots_for_bound (suc h) bs) w fits in
            let bel2 = below_append names ((n, h) ∷ []) (suc h) (below_more names h (suc h) (omega arith) bel) (omega arith, tt) in
            let ss = sound_bindings (n ∷ ns) names2 (suc h) bs B1 more x src.1 bound.1 fit.1 (covers_one ns names n h cov) bel2 f.1 ends (λ K up. go K (λ k lt. up k (omega (arith, lt)))) in
            let st = sound None None ns names h t B ss.0 ss.1 src.0 bound.0 fit.0 cov tt bel tt tt f.0 ss.2 ss.3 in
            (st.0, st.1, st.2, st.3, between (at_work B) (at_work B1) (at_work (emit_bindings w names2 (suc h) bs B1)) st.4 ss.4)

        pub sound_all : (ns : List ℕ) (names : Scope) (h : ℕ) (ts : Kernels) (B : Builder) (more : List Instruction) (x : Exit)
            → AreSource ts → AreClosed ns ts → FitTerms (Suits known) ts → Covers ns names → Below names h → slots_for_all h ts ≤ w → Ends C w (emit_all w names h ts B) more x
            → Sound h (h + count_terms ts) B (emit_all w names h ts B) more x
        sound_all ns names h none B more x src bound fit cov bel fits ends = λ go.
            (more, x, ends, (λ K up. go K (λ k lt. up k (omega (arith, lt)))), none_between (at_work B) (at_work B) (omega arith))
        sound_all ns names h (item t ts) B more x src bound fit cov bel fits ends = λ go.
            let B1 = emit w None names h t B in
            let f = enough (slots_for h t) (slots_for_all (suc h) ts) w fits in
            let ss = sound_all ns names (suc h) ts B1 more x src.1 bound.1 fit.1 cov (below_more names h (suc h) (omega arith) bel) f.1 ends (λ K up. go K (λ k lt. up k (omega (arith, lt)))) in
            let st = sound None None ns names h t B ss.0 ss.1 src.0 bound.0 fit.0 cov tt bel tt tt f.0 ss.2 ss.3 in
            (st.0, st.1, st.2, st.3, between (at_work B) (at_work B1) (at_work (emit_all w names (suc h) ts B1)) st.4 ss.4)
