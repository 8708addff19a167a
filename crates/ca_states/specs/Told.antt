-- What the marks of slots say.
use Rattle.std.specs.Prelude.{ℕ, ◌<◌, Bool, cond, ◌==◌, Option, Some, None, IfSome, slice_get}
use Rattle.ca_value.specs.Seq.{list}
use Rattle.ca_states.specs.declared.code.Mark.{Mark}
use Rattle.ca_states.specs.declared.notes.Notes.{Notes}
use Rattle.ca_states.specs.Code.{Slots, has_slot}

-- what a mark says in the block of that number, or else the other
abbrev pub said : Option Mark → ℕ → Bool → Bool
said None block other = other
said (Some m) block other = cond (m.block == block) m.known other

-- the slot is known, where these are the block's entry slots
abbrev pub slot_told : Notes → Slots → ℕ → Bool
slot_told n s k = said (slice_get (list n.marks) k) n.block (has_slot s k)

-- each mark was made in a block of a lower number
abbrev pub IsBefore : Notes → ℕ → Type 0
IsBefore n block = (k : ℕ) → IfSome (slice_get (list n.marks) k) (λ m. m.block < block)
