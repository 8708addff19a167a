-- How a term's code is laid out: blocks are appended one after another, and none is changed afterwards.
use Rattle.std.specs.Prelude.{ℕ, suc, ◌+◌, List, [], ◌∷◌, ◌++◌, length, Option, Some, None, cond, nat_lt, ℤ}
use Rattle.ca_value.specs.Tree.{nil}
use Rattle.ca_value.specs.declared.builtin.Builtin.TheVariants.{Conj, Assoc}
use Rattle.ca_term.specs.declared.place.Place.{Place}
use Rattle.ca_term.specs.declared.head.Head.{Head}
use Rattle.ca_term.specs.declared.head.Head.TheVariants.{Recur, Builtin, Take, Put, Alts, Make, Spawn, Close, Register, Print, Post}
use Rattle.ca_term.specs.declared.head.Head.TheVariants as head
use Rattle.ca_term.specs.Kernel.{Kernel, Kernels, Bindings, const, var, branch, bind, loop, seq, frame, turn, apply, none, item, empty, binding}
use Rattle.ca_term.specs.Fits.{count_terms, count_bindings}
use Rattle.ca_term.specs.Program.{ProgramView, ProcedureView, arity}
use Rattle.ca_states.specs.declared.code.EntryPoint.{EntryPoint}
use Rattle.ca_states.specs.declared.code.Exit.{Exit}
use Rattle.ca_states.specs.declared.code.Exit.TheVariants.{Jump, Branch, Return, Cut}
use Rattle.ca_states.specs.declared.code.Exit.TheVariants as exit
use Rattle.ca_states.specs.Code.{Instruction, constant, copying, moving, one, pushing, putting, many, BlockView, CodeView}
use Rattle.ca_lower.specs.Implements.{Scope, slot_of, in_slots, names_bound, Target, moves, operand_slot, next_slot, written_integer, paired_instruction, identity_text}

-- the finished blocks, and the block at work: how many slots it begins with, and its instructions so far
pub data Builder : Type 0 where
  building : List BlockView → ℕ → List Instruction → Builder

abbrev pub at_work : Builder → ℕ
at_work (building done below is) = length done

abbrev pub blocks_finished : Builder → List BlockView
blocks_finished (building done below is) = done

abbrev pub block_of : ℕ → ℕ → List Instruction → Exit → BlockView
block_of w below is x = record { width = w; entry = record { below = below; holes = [] }; instrs = is; exit = x }

abbrev pub add : List Instruction → Builder → Builder
add more (building done below is) = building done below (is ++ more)

-- the block at work ends, and another begins
abbrev pub close : ℕ → Exit → ℕ → Builder → Builder
close w x next (building done below is) = building (done ++ block_of w below is x ∷ []) next []

-- a jump to a greater number is no turn, and has no place
abbrev pub without_place : Place
without_place = record { line = 0; column = 0 }

-- how many blocks a head finishes, and a term
abbrev pub blocks_by : Head → ℕ
blocks_by (Builtin b) = 0
blocks_by Recur = 1
blocks_by (head.Call f) = 1
blocks_by Take = 1
blocks_by Put = 1
blocks_by (Alts options) = 1
blocks_by (Make kind) = 1
blocks_by (Spawn kind) = 1
blocks_by Close = 1
blocks_by (Register name) = 1
blocks_by Print = 1
blocks_by Post = 1

abbrev mutual
  pub blocks : Kernel → ℕ
  blocks (const v) = 0
  blocks (var x) = 0
  blocks (branch c a b) = blocks c + 1 + (blocks a + 1) + (blocks b + 1)
  blocks (bind bs body) = blocks_bound bs + blocks body
  blocks (loop fs bs body) = blocks_bound bs + 1 + blocks body
  blocks (seq ts) = blocks_all ts
  blocks (frame body) = 0
  blocks (turn ns text now) = 0
  blocks (apply f ts p) = blocks_all ts + blocks_by f

  pub blocks_all : Kernels → ℕ
  blocks_all none = 0
  blocks_all (item t ts) = blocks t + blocks_all ts

  pub blocks_bound : Bindings → ℕ
  blocks_bound empty = 0
  blocks_bound (binding n t bs) = blocks t + blocks_bound bs

-- where a recur goes
abbrev pub recur_code : Option Target → ℕ → List Instruction
recur_code None h = []
recur_code (Some t) h = moves t.first h t.count

abbrev pub recur_exit : Option Target → Place → Exit
recur_exit None p = Jump 0 p
recur_exit (Some t) p = Jump t.head p

-- the head's value comes into slot h, where its operands' values are in so many slots from h on
abbrev pub finish_by_cut : ℕ → Head → ℕ → ℕ → Place → Builder → Builder
finish_by_cut w f h k p B = close w (Cut f h k h (at_work B + 1) p) (suc h) B

abbrev pub finish : ℕ → Option Target → Head → ℕ → ℕ → Place → Builder → Builder
finish w lp Recur h k p B = close w (recur_exit lp p) (suc h) (add (recur_code lp h) B)
finish w lp (Builtin b) h k p B = add (many b h h k p ∷ []) B
finish w lp (head.Call f) h k p B = close w (exit.Call f h k h (at_work B + 1) p) (suc h) B
finish w lp Take h k p B = finish_by_cut w Take h k p B
finish w lp Put h k p B = finish_by_cut w Put h k p B
finish w lp (Alts options) h k p B = finish_by_cut w (Alts options) h k p B
finish w lp (Make kind) h k p B = finish_by_cut w (Make kind) h k p B
finish w lp (Spawn kind) h k p B = finish_by_cut w (Spawn kind) h k p B
finish w lp Close h k p B = finish_by_cut w Close h k p B
finish w lp (Register name) h k p B = finish_by_cut w (Register name) h k p B
finish w lp Print h k p B = finish_by_cut w Print h k p B
finish w lp Post h k p B = finish_by_cut w Post h k p B

-- the blocks that a branch leads to, from the number of its own: where it is false, and behind both
abbrev pub no_side : Kernel → ℕ → ℕ
no_side a n = n + 1 + blocks a + 1

abbrev pub both_ends : Kernel → Kernel → ℕ → ℕ
both_ends a b n = no_side a n + blocks b + 1

-- nothing is laid out for an operand that is a name: its value is in its slot already
abbrev pub operand : Kernel → Builder → Builder → Builder
operand (var x) own B = B
operand t own B = own

-- nor for a second one that is an integer of the text
abbrev pub second : Option ℤ → Builder → Builder → Builder
second (Some z) own B = B
second None own B = own

abbrev mutual
  -- the term's value comes into slot h
  pub emit : ℕ → Option Target → Scope → ℕ → Kernel → Builder → Builder
  emit w lp names h (const v) B = add (constant h v ∷ []) B
  emit w lp names h (var x) B = add (copying h (slot_of names x) ∷ []) B
  emit w lp names h (branch c a b) B =
      let B1 = emit w None names h c B in
      let n = at_work B1 in
      let to = both_ends a b n in
      close w (Jump to without_place) (suc h) (emit w lp names h b (close w (Jump to without_place) h (emit w lp names h a (close w (Branch h (n + 1) (no_side a n)) h B1))))
  emit w lp names h (bind bs body) B =
      let c = count_bindings bs in
      add (moving h (h + c) ∷ []) (emit w lp (names ++ in_slots (names_bound bs) h) (h + c) body (emit_bindings w names h bs B))
  emit w lp names h (loop fs bs body) B =
      let B1 = emit_bindings w names h bs B in
      let c = count_bindings bs in
      let n = at_work B1 in
      add (moving h (h + c) ∷ [])
      (emit w (Some (record { first = h; count = c; head = n + 1 })) (names ++ in_slots (names_bound bs) h) (h + c) body (close w (Jump (n + 1) without_place) (h + c) B1))
  emit w lp names h (seq ts) B = emit_in_order w lp names h ts B
  emit w lp names h (frame body) B = B
  emit w lp names h (turn ns text now) B = B
  emit w lp names h (apply (Builtin b) (item t none) p) B =
      add (one b h (operand_slot names h t) p ∷ []) (operand t (emit w None names h t B) B)
  emit w lp names h (apply (Builtin Conj) (item t (item u none)) p) B =
      let B1 = emit w None names h t B in
      add (pushing h h (operand_slot names (suc h) u) p ∷ []) (operand u (emit w None names (suc h) u B1) B1)
  emit w lp names h (apply (Builtin b) (item t (item u none)) p) B =
      let B1 = operand t (emit w None names h t B) B in
      add (paired_instruction b h (operand_slot names h t) (written_integer u) (operand_slot names (next_slot h t) u) p ∷ []) (second (written_integer u) (operand u (emit w None names (next_slot h t) u B1) B1) B1)
  emit w lp names h (apply (Builtin Assoc) (item t (item u (item v none))) p) B =
      let B1 = emit w None names h t B in
      let B2 = operand u (emit w None names (suc h) u B1) B1 in
      let m = next_slot (suc h) u in
      add (putting h h (operand_slot names (suc h) u) (operand_slot names m v) p ∷ []) (operand v (emit w None names m v B2) B2)
  emit w lp names h (apply f ts p) B = finish w lp f h (count_terms ts) p (emit_all w names h ts B)

  pub emit_in_order : ℕ → Option Target → Scope → ℕ → Kernels → Builder → Builder
  emit_in_order w lp names h none B = add (constant h nil ∷ []) B
  emit_in_order w lp names h (item t none) B = emit w lp names h t B
  emit_in_order w lp names h (item t (item u us)) B = emit_in_order w lp names h (item u us) (emit w None names h t B)

  pub emit_bindings : ℕ → Scope → ℕ → Bindings → Builder → Builder
  emit_bindings w names h empty B = B
  emit_bindings w names h (binding n t bs) B = emit_bindings w (names ++ (n, h) ∷ []) (suc h) bs (emit w None names h t B)

  pub emit_all : ℕ → Scope → ℕ → Kernels → Builder → Builder
  emit_all w names h none B = B
  emit_all w names h (item t ts) B = emit_all w names (suc h) ts (emit w None names h t B)

-- how many slots a term needs whose value comes into slot h
abbrev pub greater : ℕ → ℕ → ℕ
greater m n = cond (nat_lt m n) n m

abbrev mutual
  pub slots_for : ℕ → Kernel → ℕ
  slots_for h (const v) = suc h
  slots_for h (var x) = suc h
  slots_for h (branch c a b) = greater (slots_for h c) (greater (slots_for h a) (slots_for h b))
  slots_for h (bind bs body) = greater (slots_for_bound h bs) (slots_for (h + count_bindings bs) body)
  slots_for h (loop fs bs body) = greater (slots_for_bound h bs) (slots_for (h + count_bindings bs) body)
  slots_for h (seq ts) = slots_in_order h ts
  slots_for h (frame body) = suc h
  slots_for h (turn ns text now) = suc h
  slots_for h (apply f ts p) = greater (suc h) (slots_for_all h ts)

  pub slots_in_order : ℕ → Kernels → ℕ
  slots_in_order h none = suc h
  slots_in_order h (item t ts) = greater (slots_for h t) (slots_in_order h ts)

  pub slots_for_bound : ℕ → Bindings → ℕ
  slots_for_bound h empty = h
  slots_for_bound h (binding n t bs) = greater (slots_for h t) (slots_for_bound (suc h) bs)

  pub slots_for_all : ℕ → Kernels → ℕ
  slots_for_all h none = h
  slots_for_all h (item t ts) = greater (slots_for h t) (slots_for_all (suc h) ts)

-- a text, from a new block on that begins with its values
abbrev pub text_opened : ℕ → Builder → Builder
text_opened k (building done below is) = building done k []

abbrev pub width_of : ProcedureView → ℕ
width_of t = slots_for (arity t) t.body

abbrev pub emit_text : ProcedureView → Builder → Builder
emit_text t B = close (width_of t) (Return (arity t)) 0 (emit (width_of t) None (in_slots t.parameters 0) (arity t) t.body (text_opened (arity t) B))

abbrev pub emit_texts : List ProcedureView → Builder → Builder
emit_texts [] B = B
emit_texts (t ∷ ts) B = emit_texts ts (emit_text t B)

-- where the texts begin
abbrev pub text_entries : List ProcedureView → Builder → List EntryPoint
text_entries [] B = []
text_entries (t ∷ ts) B = record { block = at_work B; values = arity t } ∷ text_entries ts (emit_text t B)

-- how many slots the widest of them needs
abbrev pub widest : List ProcedureView → ℕ
widest [] = 0
widest (t ∷ ts) = greater (width_of t) (widest ts)

abbrev pub main_procedure : ProgramView → ProcedureView
main_procedure P = record { parameters = []; body = P.main }

abbrev pub nothing_built : Builder
nothing_built = building [] 0 []

-- The code of a program: the functions, then the go bodies, then the main text, and last the text that has the value
-- which it takes.
abbrev pub code_of : ProgramView → CodeView
code_of P =
    let F = emit_texts P.functions nothing_built in
    let G = emit_texts P.bodies F in
    let M = emit_text (main_procedure P) G in
    record {
      blocks = blocks_finished (emit_text identity_text M);
      main = at_work G;
      identity = at_work M;
      bodies = text_entries P.bodies F;
      functions = text_entries P.functions nothing_built;
      width = greater (width_of identity_text) (greater (width_of (main_procedure P)) (greater (widest P.functions) (widest P.bodies)));
    }
