-- The five rules of valid code.
use Rattle.std.specs.Prelude.{ℕ, suc, List, [], ◌∷◌, length, Bool, true, false, cond, not, ◌==◌, ◌&&◌, nat_lt, nat_le, slice_index_or}
use Rattle.ca_value.specs.Builtins.{admits_arguments}
use Rattle.ca_term.specs.declared.head.Head.{Head}
use Rattle.ca_term.specs.declared.head.Head.TheVariants as head
use Rattle.ca_term.specs.declared.head.SeedKind.{SeedKind}
use Rattle.ca_term.specs.declared.head.SystemTask.{SystemTask}
use Rattle.ca_term.specs.declared.head.SystemTask.TheVariants as task
use Rattle.ca_term.specs.declared.head.PlainFunction.{PlainFunction}
use Rattle.ca_states.specs.declared.code.EntryPoint.{EntryPoint}
use Rattle.ca_states.specs.declared.code.Exit.{Exit}
use Rattle.ca_states.specs.declared.code.Exit.TheVariants.{Jump, Branch, Test, TestInt, Call, Return, Cut}
use Rattle.ca_states.specs.Code.{Slots, has_slot, Instruction, constant, copying, moving, clearing, one, two, two_int, pushing, putting, many, BlockView, CodeView, block_count, block_at, no_entry}
use Rattle.ca_states.specs.Machine.{slots_from}
use Rattle.ca_states.specs.Touched.{read_by, emptied_by, written_by, read_at, emptied_at, answered_at, targets}

abbrev pub each : {A : Type 0} → (A → Bool) → List A → Bool
each f [] = true
each f (x ∷ xs) = f x && each f xs

-- Rule 1: every target, slot and argument count is in range.
abbrev pub are_below : ℕ → List ℕ → Bool
are_below width ks = each (λ k. nat_lt k width) ks

-- the one of that number is there and takes so many values
abbrev pub takes : List EntryPoint → ℕ → ℕ → Bool
takes es n count = nat_lt n (length es) && (slice_index_or es n no_entry).values == count

abbrev pub is_counted : Instruction → Bool
is_counted (constant to v) = true
is_counted (copying to a) = true
is_counted (moving to a) = true
is_counted (clearing a) = true
is_counted (one b to a p) = admits_arguments b 1
is_counted (two b to a c p) = admits_arguments b 2
is_counted (two_int b to a z p) = admits_arguments b 2
is_counted (pushing to a c p) = true
is_counted (putting to a k v p) = true
is_counted (many b to a n p) = admits_arguments b n

-- a function that a system task applies takes one value
abbrev pub is_applied : CodeView → PlainFunction → Bool
is_applied C (PlainFunction.Defined n) = takes C.functions n 1
is_applied C (PlainFunction.Builtin b) = admits_arguments b 1
is_applied C PlainFunction.Keyword = true

abbrev pub is_task : CodeView → SystemTask → Bool
is_task C (task.Pub f) = is_applied C f
is_task C (task.Job xf f) = is_applied C f
is_task C other = true

-- an operation, and what its new task begins with is there
abbrev pub is_operation : CodeView → ℕ → Head → Bool
is_operation C count head.Recur = false
is_operation C count (head.Builtin b) = false
is_operation C count (head.Call n) = false
is_operation C count (head.Spawn (SeedKind.Go n)) = takes C.bodies n count
is_operation C count (head.Spawn (SeedKind.System t)) = is_task C t
is_operation C count other = true

abbrev pub is_counted_exit : CodeView → Exit → Bool
is_counted_exit C (Jump next p) = true
is_counted_exit C (Branch a yes_to no_to) = true
is_counted_exit C (Test b to left right yes_to no_to p) = admits_arguments b 2
is_counted_exit C (TestInt b to left z yes_to no_to p) = admits_arguments b 2
is_counted_exit C (Call f a n answer next p) = takes C.functions f n
is_counted_exit C (Return a) = true
is_counted_exit C (Cut h a n answer next p) = is_operation C n h

-- a block of the same text
abbrev pub is_target : CodeView → ℕ → ℕ → Bool
is_target C width n = nat_lt n (block_count C) && (block_at C n).width == width

abbrev pub is_instruction_in_range : ℕ → Instruction → Bool
is_instruction_in_range width i = are_below width (read_by i) && are_below width (emptied_by i) && are_below width (written_by i) && is_counted i

abbrev pub is_exit_in_range : CodeView → ℕ → Exit → Bool
is_exit_in_range C width x = are_below width (read_at x) && are_below width (emptied_at x) && are_below width (answered_at x) && is_counted_exit C x && each (is_target C width) (targets x)

abbrev pub is_in_range : CodeView → BlockView → Bool
is_in_range C b = nat_le b.width C.width && nat_le b.entry.below b.width && each (is_instruction_in_range b.width) b.instrs && is_exit_in_range C b.width b.exit

-- Rule 2: each target of a branch has a greater number than its block.
abbrev pub leads_forward : ℕ → Exit → Bool
leads_forward n (Jump next p) = true
leads_forward n (Branch a yes_to no_to) = nat_lt n yes_to && nat_lt n no_to
leads_forward n (Test b to left right yes_to no_to p) = nat_lt n yes_to && nat_lt n no_to
leads_forward n (TestInt b to left z yes_to no_to p) = nat_lt n yes_to && nat_lt n no_to
leads_forward n (Call f a k answer next p) = true
leads_forward n (Return a) = true
leads_forward n (Cut h a k answer next p) = true

-- Which slots are known at a place of a block: those that the last instruction before it that touches them
-- writes, and the entry slots that none touches. A value that is taken out of a slot leaves it unknown.
abbrev pub KnownSlots : Type 0
KnownSlots = ℕ → Bool

abbrev pub slot_noted : Bool → ℕ → KnownSlots → KnownSlots
slot_noted known a K k = cond (k == a) known (K k)

abbrev pub noted_all : Bool → List ℕ → KnownSlots → KnownSlots
noted_all known [] K = K
noted_all known (a ∷ ks) K = noted_all known ks (slot_noted known a K)

-- what it takes values out of is known no more, and what it writes is
abbrev pub after_instruction : Instruction → KnownSlots → KnownSlots
after_instruction i K = noted_all true (written_by i) (noted_all false (emptied_by i) K)

abbrev pub known_after : KnownSlots → List Instruction → KnownSlots
known_after K [] = K
known_after K (i ∷ is) = known_after (after_instruction i K) is

-- Rule 3: each slot that a block reads is known there.
abbrev pub reads_known : KnownSlots → List Instruction → Bool
reads_known K [] = true
reads_known K (i ∷ is) = each K (read_by i) && reads_known (after_instruction i K) is

-- Rule 4: the entry slots of each target are known at the exit, where the values that a call or an operation
-- takes out of its slots have left them, the answer's slot counts as known, and a test's slot as unknown.
abbrev pub known_past : Exit → KnownSlots → KnownSlots
known_past x K = noted_all true (answered_at x) (noted_all false (emptied_at x) K)

abbrev pub implies : Bool → Bool → Bool
implies a b = cond a b true

abbrev pub are_entry_slots_known : KnownSlots → Slots → Bool
are_entry_slots_known K s = each (λ k. implies (has_slot s k) (K k)) (slots_from 0 s.below)

abbrev pub targets_known : CodeView → KnownSlots → Exit → Bool
targets_known C K x = each (λ n. are_entry_slots_known (known_past x K) (block_at C n).entry) (targets x)

-- Rule 5: the first block of a text has just its values as entry slots.
abbrev pub are_just : ℕ → Slots → Bool
are_just count s = nat_le count s.below && each (λ k. cond (nat_lt k count) (has_slot s k) (not (has_slot s k))) (slots_from 0 s.below)

abbrev pub begins_well : CodeView → EntryPoint → Bool
begins_well C e = nat_lt e.block (block_count C) && are_just e.values (block_at C e.block).entry

-- a block by the rules 3 and 4
abbrev pub knows_slots : CodeView → BlockView → Bool
knows_slots C b =
    reads_known (has_slot b.entry) b.instrs && each (known_after (has_slot b.entry) b.instrs) (read_at b.exit)
    && targets_known C (known_after (has_slot b.entry) b.instrs) b.exit

-- a block by the rules 1 to 4
abbrev pub is_valid_block : CodeView → ℕ → BlockView → Bool
is_valid_block C n b = is_in_range C b && leads_forward n b.exit && knows_slots C b

-- the blocks from that number on
abbrev pub are_valid_blocks : CodeView → ℕ → List BlockView → Bool
are_valid_blocks C n [] = true
are_valid_blocks C n (b ∷ bs) = is_valid_block C n b && are_valid_blocks C (suc n) bs

abbrev pub main_entry : CodeView → EntryPoint
main_entry C = record { block = C.main; values = 0 }

abbrev pub identity_entry : CodeView → EntryPoint
identity_entry C = record { block = C.identity; values = 1 }

-- code by all five rules
abbrev pub is_valid : CodeView → Bool
is_valid C = are_valid_blocks C 0 C.blocks && begins_well C (main_entry C) && begins_well C (identity_entry C) && each (begins_well C) C.bodies && each (begins_well C) C.functions
