-- The code that implements a term: from a place in the code it leads to another, with the term's value in a slot.
use Rattle.std.specs.Prelude.{◌≡◌, ℕ, zero, suc, ◌+◌, ◌<◌, ◌≤◌, List, [], ◌∷◌, ◌++◌, length, Option, Some, None, cond, ◌==◌, ◌⊎◌, ℤ}
use Rattle.ca_value.specs.Tree.{nil, int}
use Rattle.ca_value.specs.declared.builtin.Builtin.{Builtin as BuiltinName}
use Rattle.ca_value.specs.declared.builtin.Builtin.TheVariants.{Conj, Assoc}
use Rattle.ca_term.specs.declared.place.Place.{Place}
use Rattle.ca_term.specs.declared.head.Head.{Head}
use Rattle.ca_term.specs.declared.head.Head.TheVariants.{Recur, Builtin, Take, Put, Alts, Make, Spawn, Close, Register, Print, Post}
use Rattle.ca_term.specs.declared.head.Head.TheVariants as head
use Rattle.ca_term.specs.Kernel.{Kernel, Kernels, Bindings, const, var, branch, bind, loop, seq, frame, turn, apply, none, item, empty, binding}
use Rattle.ca_term.specs.Fits.{count_terms, count_bindings}
use Rattle.ca_term.specs.Program.{ProgramView, ProcedureView, arity}
use Rattle.ca_meaning.specs.Started.{procedure_at}
use Rattle.ca_states.specs.declared.code.EntryPoint.{EntryPoint}
use Rattle.ca_states.specs.declared.code.Exit.{Exit}
use Rattle.ca_states.specs.declared.code.Exit.TheVariants.{Jump, Branch, Return, Cut}
use Rattle.ca_states.specs.declared.code.Exit.TheVariants as exit
use Rattle.ca_states.specs.Code.{Instruction, constant, copying, moving, one, two, two_int, pushing, putting, many, CodeView, block_at, function_at, body_entry}
use Rattle.ca_states.specs.Valid.{main_entry, identity_entry}

-- a place in the code: the block's number, and what is left of it
pub data CodePosition : Type 0 where
  position : ℕ → List Instruction → Exit → CodePosition

abbrev pub start_of : CodeView → ℕ → CodePosition
start_of C n = position n (block_at C n).instrs (block_at C n).exit

abbrev pub before : Instruction → CodePosition → CodePosition
before i (position n is x) = position n (i ∷ is) x

-- the names in scope, each with its slot
abbrev pub Scope : Type 0
Scope = List (ℕ × ℕ)

abbrev pub slot_of : Scope → ℕ → ℕ
slot_of [] x = 0
slot_of (b ∷ names) x = cond (x == b.0) b.1 (slot_of names x)

abbrev pub IsInScope : ℕ → Scope → Type 0
IsInScope x [] = ⊥
IsInScope x (b ∷ names) = (x ≡ b.0) ⊎ IsInScope x names

-- names in the slots from one on
abbrev pub in_slots : List ℕ → ℕ → Scope
in_slots [] a = []
in_slots (x ∷ xs) a = (x, a) ∷ in_slots xs (suc a)

abbrev pub names_bound : Bindings → List ℕ
names_bound empty = []
names_bound (binding n t bs) = n ∷ names_bound bs

-- where a recur goes back to: the loop's first slot, how many values it takes, and its first block
pub record Target : Type 0 where
  pub first : ℕ
  pub count : ℕ
  pub head : ℕ

-- so many values are moved, from slots to slots
abbrev pub moves : ℕ → ℕ → ℕ → List Instruction
moves d a zero = []
moves d a (suc n) = moving d a ∷ moves (suc d) (suc a) n

-- Where an operand's value is read: a name's in its own slot, any other's in slot h; and the next free slot.
abbrev pub operand_slot : Scope → ℕ → Kernel → ℕ
operand_slot names h (var x) = slot_of names x
operand_slot names h t = h

abbrev pub next_slot : ℕ → Kernel → ℕ
next_slot h (var x) = h
next_slot h t = suc h

-- for a name no code stands, since its value is in its slot already; for any other operand its own does
abbrev pub Operand : Scope → Kernel → Type 0 → CodePosition → CodePosition → Type 0
Operand names (var x) own p q = IsInScope x names × (p ≡ q)
Operand names t own p q = own

-- the integer that a term is, where it is one of the text
abbrev pub written_integer : Kernel → Option ℤ
written_integer (const (int z)) = Some z
written_integer t = None

-- a builtin of a slot and an integer of the text, or of two slots
abbrev pub paired_instruction : BuiltinName → ℕ → ℕ → Option ℤ → ℕ → Place → Instruction
paired_instruction b h a (Some z) c p = two_int b h a z p
paired_instruction b h a None c p = two b h a c p

-- for a second operand that is an integer of the text no code stands
abbrev pub Second : Option ℤ → Type 0 → CodePosition → CodePosition → Type 0
Second (Some z) own p q = p ≡ q
Second None own p q = own

-- by a Cut over so many operands from slot h on
abbrev pub LeadsByCut : Head → CodeView → ℕ → ℕ → Place → CodePosition → CodePosition → Type 0
LeadsByCut f C h k pl r q = (n to : ℕ) × (r ≡ position n [] (Cut f h k h to pl)) × (q ≡ start_of C to)

-- where the operands' values are in so many slots from h on, the head's value comes into slot h; a recur goes back
abbrev pub LeadsBy : Head → CodeView → Option Target → ℕ → ℕ → Place → CodePosition → CodePosition → Type 0
LeadsBy Recur C None h k pl r q = ⊥
LeadsBy Recur C (Some t) h k pl r q = (n : ℕ) × (k ≡ t.count) × (t.head ≤ n) × (r ≡ position n (moves t.first h t.count) (Jump t.head pl))
LeadsBy (Builtin b) C target h k pl r q = r ≡ before (many b h h k pl) q
LeadsBy (head.Call f) C target h k pl r q =
    (n to : ℕ) × (f < length C.functions) × (k ≡ (function_at C f).values) × (r ≡ position n [] (exit.Call f h k h to pl)) × (q ≡ start_of C to)
LeadsBy Take C target h k pl r q = LeadsByCut Take C h k pl r q
LeadsBy Put C target h k pl r q = LeadsByCut Put C h k pl r q
LeadsBy (Alts options) C target h k pl r q = LeadsByCut (Alts options) C h k pl r q
LeadsBy (Make kind) C target h k pl r q = LeadsByCut (Make kind) C h k pl r q
LeadsBy (Spawn kind) C target h k pl r q = LeadsByCut (Spawn kind) C h k pl r q
LeadsBy Close C target h k pl r q = LeadsByCut Close C h k pl r q
LeadsBy (Register name) C target h k pl r q = LeadsByCut (Register name) C h k pl r q
LeadsBy Print C target h k pl r q = LeadsByCut Print C h k pl r q
LeadsBy Post C target h k pl r q = LeadsByCut Post C h k pl r q

abbrev mutual
  -- from p the code leads to q with the term's value in slot h; the names stand in slots below h
  pub Implements : CodeView → Option Target → Scope → ℕ → Kernel → CodePosition → CodePosition → Type 0
  Implements C target names h (const v) p q = p ≡ before (constant h v) q
  Implements C target names h (var x) p q = IsInScope x names × (p ≡ before (copying h (slot_of names x)) q)
  Implements C target names h (branch c a b) p q =
      (n yes_to no_to na nb to : ℕ) × (pa pb : Place) × Implements C None names h c p (position n [] (Branch h yes_to no_to))
      × Implements C target names h a (start_of C yes_to) (position na [] (Jump to pa)) × Implements C target names h b (start_of C no_to) (position nb [] (Jump to pb))
      × (na < to) × (nb < to) × (q ≡ start_of C to)
  Implements C target names h (bind bs body) p q =
      (r : CodePosition) × ImplementsBindings C names h bs p r
      × Implements C target (names ++ in_slots (names_bound bs) h) (h + count_bindings bs) body r (before (moving h (h + count_bindings bs)) q)
  Implements C target names h (loop fs bs body) p q =
      (n to : ℕ) × (pl : Place) × (fs ≡ []) × ImplementsBindings C names h bs p (position n [] (Jump to pl)) × (n < to)
      × Implements C (Some (record { first = h; count = count_bindings bs; head = to })) (names ++ in_slots (names_bound bs) h) (h + count_bindings bs) body (start_of C to)
      (before (moving h (h + count_bindings bs)) q)
  Implements C target names h (seq ts) p q = ImplementsInOrder C target names h ts p q
  Implements C target names h (frame body) p q = ⊥
  Implements C target names h (turn ns text now) p q = ⊥
  -- one operand or two of a builtin are read where they are, the second in the instruction if it is an integer of the text
  Implements C target names h (apply (Builtin b) (item t none) pl) p q =
      (r : CodePosition) × Operand names t (Implements C None names h t p r) p r × (r ≡ before (one b h (operand_slot names h t) pl) q)
  -- a collection that grows is taken out of slot h
  Implements C target names h (apply (Builtin Conj) (item t (item u none)) pl) p q =
      (r r2 : CodePosition) × Implements C None names h t p r × Operand names u (Implements C None names (suc h) u r r2) r r2
      × (r2 ≡ before (pushing h h (operand_slot names (suc h) u) pl) q)
  Implements C target names h (apply (Builtin b) (item t (item u none)) pl) p q =
      (r r2 : CodePosition) × Operand names t (Implements C None names h t p r) p r × Second (written_integer u) (Operand names u (Implements C None names (next_slot h t) u r r2) r r2) r r2
      × (r2 ≡ before (paired_instruction b h (operand_slot names h t) (written_integer u) (operand_slot names (next_slot h t) u) pl) q)
  Implements C target names h (apply (Builtin Assoc) (item t (item u (item v none))) pl) p q =
      (r r2 r3 : CodePosition) × Implements C None names h t p r × Operand names u (Implements C None names (suc h) u r r2) r r2
      × Operand names v (Implements C None names (next_slot (suc h) u) v r2 r3) r2 r3
      × (r3 ≡ before (putting h h (operand_slot names (suc h) u) (operand_slot names (next_slot (suc h) u) v) pl) q)
  -- all else takes its operands out of a row of slots
  Implements C target names h (apply f ts pl) p q = (r : CodePosition) × ImplementsAll C names h ts p r × LeadsBy f C target h (count_terms ts) pl r q

  -- one after another, for the last one's value
  pub ImplementsInOrder : CodeView → Option Target → Scope → ℕ → Kernels → CodePosition → CodePosition → Type 0
  ImplementsInOrder C target names h none p q = p ≡ before (constant h nil) q
  ImplementsInOrder C target names h (item t none) p q = Implements C target names h t p q
  ImplementsInOrder C target names h (item t (item u us)) p q =
      (r : CodePosition) × Implements C None names h t p r × ImplementsInOrder C target names h (item u us) r q

  -- one after another, each in scope of those before it
  pub ImplementsBindings : CodeView → Scope → ℕ → Bindings → CodePosition → CodePosition → Type 0
  ImplementsBindings C names h empty p q = p ≡ q
  ImplementsBindings C names h (binding n t bs) p q =
      (r : CodePosition) × Implements C None names h t p r × ImplementsBindings C (names ++ (n, h) ∷ []) (suc h) bs r q

  -- one after another, with their values in the slots from h on
  pub ImplementsAll : CodeView → Scope → ℕ → Kernels → CodePosition → CodePosition → Type 0
  ImplementsAll C names h none p q = p ≡ q
  ImplementsAll C names h (item t ts) p q = (r : CodePosition) × Implements C None names h t p r × ImplementsAll C names (suc h) ts r q

-- from the entry point the code leads to the text's value, which it returns
abbrev pub ImplementsText : CodeView → ProcedureView → EntryPoint → Type 0
ImplementsText C t e =
    (n : ℕ) × (arity t ≡ e.values) × Implements C None (in_slots t.parameters 0) e.values t.body (start_of C e.block) (position n [] (Return e.values))

-- the text that has the one value which it takes
abbrev pub identity_text : ProcedureView
identity_text = record { parameters = 0 ∷ []; body = var 0 }

-- the code implements each text of the program, and that of a value that is given back
pub record ImplementsProgram (C : CodeView) (P : ProgramView) : Type 0 where
  pub main : ImplementsText C (record { parameters = []; body = P.main }) (main_entry C)
  pub identity : ImplementsText C identity_text (identity_entry C)
  pub bodies : (n : ℕ) → n < length P.bodies → ImplementsText C (procedure_at P.bodies n) (body_entry C n)
  pub as_many : length P.functions ≡ length C.functions
  pub functions : (n : ℕ) → n < length P.functions → ImplementsText C (procedure_at P.functions n) (function_at C n)
