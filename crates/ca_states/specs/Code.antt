-- Code as plain data: numbered blocks of instructions over slots.
use Rattle.std.specs.Prelude.{ℕ, ℤ, List, [], ◌∷◌, length, Bool, false, map, ◌==◌, ◌&&◌, ◌||◌, not, nat_lt, slice_index_or}
use Rattle.ca_value.specs.Seq.{list}
use Rattle.ca_value.specs.Tree.{Tree}
use Rattle.ca_value.specs.View.{view}
use Rattle.ca_value.specs.declared.builtin.Builtin.{Builtin}
use Rattle.ca_term.specs.declared.place.Place.{Place}
use Rattle.ca_states.specs.declared.code.EntryPoint.{EntryPoint}
use Rattle.ca_states.specs.declared.code.SlotSet.{SlotSet}
use Rattle.ca_states.specs.declared.code.Exit.{Exit}
use Rattle.ca_states.specs.declared.code.Exit.TheVariants.{Return}
use Rattle.ca_states.specs.declared.code.Instr.{Instr}
use Rattle.ca_states.specs.declared.code.Instr.TheVariants as instr
use Rattle.ca_states.specs.declared.code.Block.{Block}
use Rattle.ca_states.specs.declared.code.Code.{Code}

-- the slots below a number, but for the holes
pub record Slots : Type 0 where
  pub below : ℕ
  pub holes : List ℕ

abbrev pub is_slot_among : ℕ → List ℕ → Bool
is_slot_among k [] = false
is_slot_among k (n ∷ ns) = k == n || is_slot_among k ns

abbrev pub has_slot : Slots → ℕ → Bool
has_slot s k = nat_lt k s.below && not (is_slot_among k s.holes)

-- An instruction. The first number is the slot that its value comes into.
pub data Instruction : Type 0 where
  -- a value of the text
  constant : ℕ → Tree → Instruction
  copying : ℕ → ℕ → Instruction
  -- the value is taken out of its slot
  moving : ℕ → ℕ → Instruction
  -- a slot's value is let go
  clearing : ℕ → Instruction
  -- a builtin of one slot, of two, and of a slot and an integer of the text
  one : Builtin → ℕ → ℕ → Place → Instruction
  two : Builtin → ℕ → ℕ → ℕ → Place → Instruction
  two_int : Builtin → ℕ → ℕ → ℤ → Place → Instruction
  -- `conj` of an item to a collection that is taken out of its slot: the collection, then the item
  pushing : ℕ → ℕ → ℕ → Place → Instruction
  -- `assoc` of one key: the collection, the key, the value
  putting : ℕ → ℕ → ℕ → ℕ → Place → Instruction
  -- a builtin of values that are taken out of slots: the first one, and how many
  many : Builtin → ℕ → ℕ → ℕ → Place → Instruction

-- All blocks of a text have its width, the number of slots. The entry slots hold a value that the block may use.
pub record BlockView : Type 0 where
  pub width : ℕ
  pub entry : Slots
  pub instrs : List Instruction
  pub exit : Exit

-- the blocks, the main text's first one, that of a text which has the one value that it takes, where go bodies and
-- functions begin, and how many slots a block may have
pub record CodeView : Type 0 where
  pub blocks : List BlockView
  pub main : ℕ
  pub identity : ℕ
  pub bodies : List EntryPoint
  pub functions : List EntryPoint
  pub width : ℕ

abbrev pub block_count : CodeView → ℕ
block_count c = length c.blocks

-- past the last block there is none
abbrev pub no_block : BlockView
no_block = record { width = 0; entry = record { below = 0; holes = [] }; instrs = []; exit = Return 0 }

abbrev pub block_at : CodeView → ℕ → BlockView
block_at c n = slice_index_or c.blocks n no_block

abbrev pub no_entry : EntryPoint
no_entry = record { block = 0; values = 0 }

abbrev pub function_at : CodeView → ℕ → EntryPoint
function_at c n = slice_index_or c.functions n no_entry

abbrev pub body_entry : CodeView → ℕ → EntryPoint
body_entry c n = slice_index_or c.bodies n no_entry

-- What the code's types stand for. Spare room and marks are no part of it.
abbrev pub slots_view : SlotSet → Slots
slots_view s = record { below = s.below; holes = list s.holes }

abbrev pub instruction : Instr → Instruction
instruction (instr.Const to value) = constant to (view value)
instruction (instr.Copy to from) = copying to from
instruction (instr.Move to from) = moving to from
instruction (instr.Clear slot) = clearing slot
instruction (instr.One b to operand p) = one b to operand p
instruction (instr.Two b to left right p) = two b to left right p
instruction (instr.TwoInt b to left right p) = two_int b to left right p
instruction (instr.Push to collection item p) = pushing to collection item p
instruction (instr.Put to collection key value p) = putting to collection key value p
instruction (instr.Many b to from count p) = many b to from count p

abbrev pub block_view : Block → BlockView
block_view b = record { width = b.width; entry = slots_view b.entry; instrs = map instruction (list b.instrs); exit = b.exit }

abbrev pub code_view : Code → CodeView
code_view c = record {
  blocks = map block_view (list c.blocks);
  main = c.main;
  identity = c.identity;
  bodies = list c.bodies;
  functions = list c.functions;
  width = length (list c.marks);
}
