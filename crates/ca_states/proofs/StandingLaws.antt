-- A runner in valid code: what it stands on, and that each block leaves it standing, with less to go.
use Rattle.std.proofs.Common.{◌≡◌, ℕ, zero, suc, ◌+◌, ◌-◌, ◌*◌, ◌<◌, ◌≤◌, List, [], ◌∷◌, ◌++◌, length, map, reverse, get_or, drop, Bool, true, false, Some, None, refl, sym, ap, ap₂, ◌∙◌, subst, arith, suc-mul, mul-le-mul_right, append_assoc, append-nil}
use Rattle.std.proofs.lemmas.Bool.{eqb-true, ltb-true, leb-true, leb-false}
use Rattle.std.proofs.lemmas.List.{length-map, length-reverse, reverse-append}
use Rattle.std.specs.Prelude.{cond, ◌&&◌, ◌==◌, nat_lt, nat_le, not, replicate, slice_get, slice_index_or, OnOk, IsTrue, Result, Ok, Err}
use Rattle.ca_value.specs.Tree.{Tree}
use Rattle.ca_value.specs.View.{view, views}
use Rattle.ca_value.specs.declared.memory.OutOfMemory.{OutOfMemory}
use Rattle.ca_value.specs.Outcome.{Outcome}
use Rattle.ca_term.specs.declared.place.Place.{Place}
use Rattle.ca_term.specs.declared.fault.Fault.{Fault}
use Rattle.ca_term.specs.declared.fault.Fault.TheVariants.{Spun, TooDeep}
use Rattle.ca_term.specs.Operands.{truth}
use Rattle.ca_term.specs.Operation.{OpView}
use Rattle.ca_term.specs.Asking.{asked}
use Rattle.ca_value.specs.Tree.{trees_of}
use Rattle.ca_states.specs.declared.code.Block.{Block}
use Rattle.ca_states.specs.declared.code.EntryPoint.{EntryPoint}
use Rattle.ca_states.specs.declared.code.Instr.{Instr}
use Rattle.ca_states.specs.declared.code.Exit.{Exit}
use Rattle.ca_states.specs.declared.code.Exit.TheVariants.{Jump, Branch, Test, TestInt, Call, Return, Cut}
use Rattle.ca_states.specs.declared.calls.Frame.{Frame as FrameCode}
use Rattle.ca_states.specs.declared.runner.Halt.{Halt}
use Rattle.ca_states.specs.declared.stop.Stop.{Stop}
use Rattle.ca_states.specs.declared.runner.Runner.{Runner}
use Rattle.ca_states.specs.declared.runner.Start.{Start}
use Rattle.ca_states.specs.declared.runner.Start.TheVariants as begin
use Rattle.ca_value.specs.declared.builtin.Builtin.TheVariants.{Conj, Assoc}
use Rattle.ca_states.specs.Code.{has_slot, Instruction, constant, copying, moving, clearing, one, two, two_int, pushing, putting, many, BlockView, CodeView, block_count, block_at, no_block, block_view, instruction, no_entry, function_at}
use Rattle.ca_states.specs.Machine.{read, slot_written, reads, slot_taken, taken_all, left_in_slot, slots_from, Effect, done, failed, effect, slot_answered, builtin_applied, Frame, RunnerState, Move, goes, ends, faults, waits, begun, turned, at_block, test_answered, returned, waits_or_faults, entered, leaves, went, runs_block, move, runner_started, resumed, IsHalt, ComesTo, halts}
use Rattle.ca_states.specs.Touched.{read_by, emptied_by, written_by, read_at, emptied_at, answered_at, targets}
use Rattle.ca_states.specs.Valid.{each, are_below, takes, is_counted_exit, is_target, is_instruction_in_range, is_exit_in_range, is_in_range, leads_forward, knows_slots, is_valid_block, are_valid_blocks, are_just, begins_well, main_entry, identity_entry, is_valid}
use Rattle.ca_states.specs.Runs.{StopsAt, effects_follow, effects}
use Rattle.ca_states.specs.Standing.{frame_view, frames_view, state_view, HasSlots, AreFrames, RunnerStands, TakesValue, HasRoom, FitsAnyway, FitsExit, FitsHalt, HaltedAs, HaltsAs, HoldsStop, Passed, RunnerWaitsAt, IsStart, entry_at}
use Rattle.ca_states.proofs.RowLaws.{both, drop_item, RangeParts, range_parts, in_range_parts}
use Rattle.ca_states.proofs.SlotLaws.{length_reads}

-- the code's lists
pub block_view_at : (xs : List Block) (n : ℕ) (b : Block) → n < length xs → b ≡ get_or xs n b → block_view b ≡ slice_index_or (map block_view xs) n no_block
block_view_at [] n b lt e = absurd (omega (arith, lt))
block_view_at (x ∷ xs) zero b lt e = ap block_view e
block_view_at (x ∷ xs) (suc n) b lt e = block_view_at xs n b (omega (arith, lt)) e

map_last : (fs : List FrameCode) (f : FrameCode) → map frame_view (fs ++ f ∷ []) ≡ map frame_view fs ++ frame_view f ∷ []
map_last [] f = refl
map_last (g ∷ fs) f = ap (λ r. frame_view g ∷ r) (map_last fs f)

pub frames_pushed : (fs : List FrameCode) (f : FrameCode) → frames_view (fs ++ f ∷ []) ≡ frame_view f ∷ frames_view fs
frames_pushed fs f = ap reverse (map_last fs f) ∙ reverse-append (map frame_view fs) (frame_view f ∷ [])

pub frame_count : (fs : List FrameCode) → length (frames_view fs) ≡ length fs
frame_count fs = length-reverse (map frame_view fs) ∙ length-map fs frame_view

-- what holds of valid code
each_at : {A : Type 0} → (f : A → Bool) (xs : List A) (n : ℕ) (d : A) → IsTrue (each f xs) → n < length xs → IsTrue (f (get_or xs n d))
each_at f [] n d h lt = absurd (omega (arith, lt))
each_at f (x ∷ xs) zero d h lt = (both (f x) (each f xs) h).0
each_at f (x ∷ xs) (suc n) d h lt = each_at f xs n d (both (f x) (each f xs) h).1 (omega (arith, lt))

valid_from : (C : CodeView) (n : ℕ) (bs : List BlockView) (k : ℕ) → IsTrue (are_valid_blocks C n bs) → k < length bs → IsTrue (is_valid_block C (n + k) (get_or bs k no_block))
valid_from C n [] k h lt = absurd (omega (arith, lt))
valid_from C n (b ∷ bs) zero h lt =
    let e : n ≡ n + 0 = omega arith in
    subst (λ m. IsTrue (is_valid_block C m b)) e (both (is_valid_block C n b) (are_valid_blocks C (suc n) bs) h).0
valid_from C n (b ∷ bs) (suc k) h lt =
    let e : suc n + k ≡ n + suc k = omega arith in
    subst (λ m. IsTrue (is_valid_block C m (get_or bs k no_block))) e (valid_from C (suc n) bs k (both (is_valid_block C n b) (are_valid_blocks C (suc n) bs) h).1 (omega (arith, lt)))

pub record ValidParts (C : CodeView) : Type 0 where
  pub blocks : (n : ℕ) → n < block_count C → IsTrue (is_valid_block C n (block_at C n))
  pub main : IsTrue (begins_well C (main_entry C))
  pub identity : IsTrue (begins_well C (identity_entry C))
  pub bodies : IsTrue (each (begins_well C) C.bodies)
  pub functions : IsTrue (each (begins_well C) C.functions)

pub valid_parts : (C : CodeView) → is_valid C ≡ true → ValidParts C
valid_parts C h =
    let three = both (are_valid_blocks C 0 C.blocks && begins_well C (main_entry C) && begins_well C (identity_entry C) && each (begins_well C) C.bodies) (each (begins_well C) C.functions) h in
    let two = both (are_valid_blocks C 0 C.blocks && begins_well C (main_entry C) && begins_well C (identity_entry C)) (each (begins_well C) C.bodies) three.0 in
    let one = both (are_valid_blocks C 0 C.blocks && begins_well C (main_entry C)) (begins_well C (identity_entry C)) two.0 in
    let first = both (are_valid_blocks C 0 C.blocks) (begins_well C (main_entry C)) one.0 in
    record {
      blocks = λ n lt. let e : 0 + n ≡ n = omega arith in subst (λ m. IsTrue (is_valid_block C m (block_at C n))) e (valid_from C 0 C.blocks n first.0 lt);
      main = first.1;
      identity = one.1;
      bodies = two.1;
      functions = three.1;
    }

pub record BlockParts (C : CodeView) (n : ℕ) (b : BlockView) : Type 0 where
  pub range : RangeParts C b
  pub forward : IsTrue (leads_forward n b.exit)
  pub counted : IsTrue (is_counted_exit C b.exit)
  pub leads : IsTrue (each (is_target C b.width) (targets b.exit))
  pub entry : b.entry.below ≤ b.width

pub block_parts : (C : CodeView) (n : ℕ) (b : BlockView) → IsTrue (is_valid_block C n b) → BlockParts C n b
block_parts C n b h =
    let x = b.exit in
    let knows = both (is_in_range C b && leads_forward n x) (knows_slots C b) h in
    let forward = both (is_in_range C b) (leads_forward n x) knows.0 in
    let four = both (nat_le b.width C.width && nat_le b.entry.below b.width && each (is_instruction_in_range b.width) b.instrs) (is_exit_in_range C b.width x) forward.0 in
    let three = both (nat_le b.width C.width && nat_le b.entry.below b.width) (each (is_instruction_in_range b.width) b.instrs) four.0 in
    let two = both (nat_le b.width C.width) (nat_le b.entry.below b.width) three.0 in
    let slots = are_below b.width (read_at x) && are_below b.width (emptied_at x) && are_below b.width (answered_at x) in
    let led = both (slots && is_counted_exit C x) (each (is_target C b.width) (targets x)) four.1 in
    let count = both slots (is_counted_exit C x) led.0 in
    record {
      range = range_parts C b forward.0;
      forward = forward.1;
      counted = count.1;
      leads = led.1;
      entry = leb-true b.entry.below b.width two.1;
    }

-- an entry point of valid code has slots for its values
pub has_room : (C : CodeView) → ValidParts C → (e : EntryPoint) → IsTrue (begins_well C e) → HasRoom C e e.values
has_room C v e h =
    let parts = both (nat_lt e.block (block_count C)) (are_just e.values (block_at C e.block).entry) h in
    let lt : e.block < block_count C = ltb-true e.block (block_count C) parts.0 in
    let b = block_at C e.block in
    let just = both (nat_le e.values b.entry.below) (each (λ k. cond (nat_lt k e.values) (has_slot b.entry k) (not (has_slot b.entry k))) (slots_from 0 b.entry.below)) parts.1 in
    let le : e.values ≤ b.entry.below = leb-true e.values b.entry.below just.0 in
    let bp = block_parts C e.block b (v.blocks e.block lt) in
    (lt, omega (arith, le, bp.entry))

pub takes_room : (C : CodeView) → ValidParts C → (es : List EntryPoint) → IsTrue (each (begins_well C) es) → (n count : ℕ) → IsTrue (takes es n count) → HasRoom C (slice_index_or es n no_entry) count
takes_room C v es h n count t =
    let parts = both (nat_lt n (length es)) ((slice_index_or es n no_entry).values == count) t in
    let lt : n < length es = ltb-true n (length es) parts.0 in
    let e : (slice_index_or es n no_entry).values ≡ count = eqb-true (slice_index_or es n no_entry).values count parts.1 in
    subst (λ k. HasRoom C (slice_index_or es n no_entry) k) e (has_room C v (slice_index_or es n no_entry) (each_at (begins_well C) es n no_entry h lt))

pub main_room : (C : CodeView) → ValidParts C → HasRoom C (main_entry C) 0
main_room C v = has_room C v (main_entry C) v.main

-- lengths of slots
pub write_length : (s : List Tree) (a : ℕ) (v : Tree) → a < length s → length (slot_written s a v) ≡ length s
write_length [] a v lt = absurd (omega (arith, lt))
write_length (t ∷ s) zero v lt = refl
write_length (t ∷ s) (suc a) v lt = ap suc (write_length s a v (omega (arith, lt)))

pub taken_length : (s : List Tree) (ks : List ℕ) → IsTrue (are_below (length s) ks) → length (taken_all s ks) ≡ length s
taken_length s [] h = refl
taken_length s (a ∷ ks) h =
    let parts = both (nat_lt a (length s)) (are_below (length s) ks) h in
    let e : length (slot_taken s a) ≡ length s = write_length s a (left_in_slot (read s a)) (ltb-true a (length s) parts.0) in
    taken_length (slot_taken s a) ks (subst (λ n. IsTrue (are_below n ks)) (sym e) parts.1) ∙ e

pub first_below : (width a : ℕ) (ks : List ℕ) → IsTrue (are_below width (a ∷ ks)) → a < width
first_below width a ks h = ltb-true a width (both (nat_lt a width) (are_below width ks) h).0

pub others_below : (width a : ℕ) (ks : List ℕ) → IsTrue (are_below width (a ∷ ks)) → IsTrue (are_below width ks)
others_below width a ks h = (both (nat_lt a width) (are_below width ks) h).1

length_replicate : (n : ℕ) (t : Tree) → length (replicate n t) ≡ n
length_replicate zero t = refl
length_replicate (suc n) t = ap suc (length_replicate n t)

length_both : (s t : List Tree) → length (s ++ t) ≡ length s + length t
length_both [] t = omega arith
length_both (x ∷ s) t = let e = length_both s t in omega (arith, e)

pub begun_length : (width : ℕ) (vs : List Tree) → length vs ≤ width → length (begun width vs) ≡ width
begun_length width vs le =
    let a : length (begun width vs) ≡ length vs + length (replicate (width - length vs) Tree.nil) = length_both vs (replicate (width - length vs) Tree.nil) in
    let b : length (replicate (width - length vs) Tree.nil) ≡ width - length vs = length_replicate (width - length vs) Tree.nil in
    omega (arith, a, b, le)

pub none_here : {A : Type 0} → (xs : List A) (n : ℕ) (d : A) → slice_get xs n ≡ None → slice_index_or xs n d ≡ d
none_here [] n d e = refl
none_here (x ∷ xs) zero d e = absurd (let g : Some x ≡ None = e in cc)
none_here (x ∷ xs) (suc n) d e = none_here xs n d e

pub filled_next : (vs : List Tree) (n i : ℕ) (v : Tree) → i < n → (vs ++ v ∷ []) ++ replicate (n - (i + 1)) v ≡ vs ++ replicate (n - i) v
filled_next vs n i v lt =
    let e : n - i ≡ suc (n - (i + 1)) = omega (arith, lt) in
    append_assoc vs (v ∷ []) (replicate (n - (i + 1)) v) ∙ ap (λ m. vs ++ replicate m v) (sym e)

-- a new text's slots, one more of which is there, and all of which are
pub begun_next : (width : ℕ) (vs : List Tree) → length vs < width → begun width (vs ++ Tree.nil ∷ []) ≡ begun width vs
begun_next width vs lt =
    let n : length (vs ++ Tree.nil ∷ []) ≡ length vs + 1 = length_both vs (Tree.nil ∷ []) in
    ap (λ m. (vs ++ Tree.nil ∷ []) ++ replicate (width - m) Tree.nil) n ∙ filled_next vs width (length vs) Tree.nil lt

pub begun_full : (width : ℕ) (vs : List Tree) → width ≤ length vs → begun width vs ≡ vs
begun_full width vs le = let e : width - length vs ≡ 0 = omega (arith, le) in ap (λ m. vs ++ replicate m Tree.nil) e ∙ append-nil vs

-- the instructions of a block, one after another
pub instruction_at : (width : ℕ) (xs : List Instr) (i : ℕ) (x : Instr) → IsTrue (each (is_instruction_in_range width) (map instruction xs)) → i < length xs → x ≡ get_or xs i x → IsTrue (is_instruction_in_range width (instruction x))
instruction_at width [] i x h lt e = absurd (omega (arith, lt))
instruction_at width (y ∷ xs) zero x h lt e =
    subst (λ z. IsTrue (is_instruction_in_range width (instruction z))) (sym e) (both (is_instruction_in_range width (instruction y)) (each (is_instruction_in_range width) (map instruction xs)) h).0
instruction_at width (y ∷ xs) (suc i) x h lt e = instruction_at width xs i x (both (is_instruction_in_range width (instruction y)) (each (is_instruction_in_range width) (map instruction xs)) h).1 (omega (arith, lt)) e

pub effects_first : (xs : List Instr) (i : ℕ) (x : Instr) (s : List Tree) → i < length xs → x ≡ get_or xs i x → effects (map instruction (drop i xs)) s ≡ effects_follow (effect (instruction x) s) (effects (map instruction (drop (i + 1) xs)))
effects_first xs i x s lt e = ap (λ ys. effects (map instruction ys) s) (drop_item xs i x lt e)

-- a block is its instructions and then its exit
pub runs_effects : (C : CodeView) (is : List Instruction) (x : Exit) (c : RunnerState) → runs_block C is x c ≡ went (effects is c.slots) c (leaves C x)
runs_effects C [] x c = refl
runs_effects C (i ∷ is) x c = by (effect i c.slots) (λ s. runs_effects C is x (record c { slots = s }))
  where
    again : (s : List Tree) (f : Effect) → went f (record c { slots = s }) (leaves C x) ≡ went f c (leaves C x)
    again s (done t) = refl
    again s (failed f p) = refl

    by : (e : Effect) → ((s : List Tree) → runs_block C is x (record c { slots = s }) ≡ went (effects is s) (record c { slots = s }) (leaves C x)) → went e c (runs_block C is x) ≡ went (effects_follow e (effects is)) c (leaves C x)
    by (done s) more = more s ∙ again s (effects is s)
    by (failed f p) more = refl

-- what is left of a run: turns, then frames, then blocks
abbrev pub left : ℕ → RunnerState → ℕ
left n c = (1_000_000 - c.turns) * (257 * suc n) + length c.frames * suc n + (n - c.block)

-- a block leaves the runner standing, with less left than m, or waiting
abbrev pub LeavesStanding : CodeView → ℕ → Move → Type 0
LeavesStanding C m (goes d) = RunnerStands C d × (left (block_count C) d < m)
LeavesStanding C m (ends v turns) = Unit {0}
LeavesStanding C m (faults f p turns) = Unit {0}
LeavesStanding C m (waits want answer d) = RunnerStands C d × (answer < length d.slots)

turn_less : (n t k b k2 b2 : ℕ) → t < 999_999 → k2 ≤ 256 → (1_000_000 - suc t) * (257 * suc n) + k2 * suc n + (n - b2) < (1_000_000 - t) * (257 * suc n) + k * suc n + (n - b)
turn_less n t k b k2 b2 lt le =
    let u = 1_000_000 - suc t in
    let e : 1_000_000 - t ≡ suc u = omega (arith, lt) in
    let f = 257 * suc n in
    let a : suc u * f ≡ u * f + f = suc-mul u f in
    let m : k2 * suc n ≤ 256 * suc n = mul-le-mul_right (suc n) le in
    let c : (1_000_000 - t) * f ≡ u * f + f = ap (λ z. z * f) e ∙ a in
    let d : f ≡ 256 * suc n + suc n = suc-mul 256 (suc n) in
    omega (arith, m, c, d)

frame_less : (n t k b b2 : ℕ) → t + k * suc n + (n - b2) < t + suc k * suc n + (n - b)
frame_less n t k b b2 = let e : suc k * suc n ≡ k * suc n + suc n = suc-mul k (suc n) in omega (arith, e)

-- what is asked of an exit of a block that is that wide
pub record ExitParts (C : CodeView) (n width : ℕ) (x : Exit) : Type 0 where
  pub reads : IsTrue (are_below width (read_at x))
  pub answers : IsTrue (are_below width (answered_at x))
  pub counted : IsTrue (is_counted_exit C x)
  pub leads : IsTrue (each (is_target C width) (targets x))
  pub forward : IsTrue (leads_forward n x)

pub exit_parts : (C : CodeView) → ValidParts C → (n : ℕ) → n < block_count C → ExitParts C n (block_at C n).width (block_at C n).exit
exit_parts C v n lt =
    let p = block_parts C n (block_at C n) (v.blocks n lt) in
    record { reads = p.range.reads; answers = p.range.answers; counted = p.counted; leads = p.leads; forward = p.forward }

target_has : (C : CodeView) (width n : ℕ) (s : List Tree) → IsTrue (is_target C width n) → length s ≡ width → HasSlots C n s
target_has C width n s h e =
    let parts = both (nat_lt n (block_count C)) ((block_at C n).width == width) h in
    (ltb-true n (block_count C) parts.0, e ∙ sym (eqb-true (block_at C n).width width parts.1))

first_target : (C : CodeView) (width n : ℕ) (ns : List ℕ) → IsTrue (each (is_target C width) (n ∷ ns)) → IsTrue (is_target C width n)
first_target C width n ns h = (both (is_target C width n) (each (is_target C width) ns) h).0

second_target : (C : CodeView) (width n m : ℕ) (ns : List ℕ) → IsTrue (each (is_target C width) (n ∷ m ∷ ns)) → IsTrue (is_target C width m)
second_target C width n m ns h = first_target C width m ns (both (is_target C width n) (each (is_target C width) (m ∷ ns)) h).1

pub takes_value : (C : CodeView) (fs : List Frame) → AreFrames C fs → TakesValue fs
takes_value C [] h = tt
takes_value C (f ∷ fs) h = h.1

pub fits_exit : (C : CodeView) (n width : ℕ) (x : Exit) (c : RunnerState) → ValidParts C → ExitParts C n width x → length c.slots ≡ width → AreFrames C c.frames → FitsExit C x c
fits_exit C n width (Jump next p) c v e l fs = tt
fits_exit C n width (Branch a yes_to no_to) c v e l fs = let lt = first_below width a [] e.reads in omega (arith, lt, l)
fits_exit C n width (Test b to left_at right_at yes_to no_to p) c v e l fs =
    let lt = first_below width left_at (right_at ∷ []) e.reads in
    let rt = first_below width right_at [] (others_below width left_at (right_at ∷ []) e.reads) in
    (e.counted, omega (arith, lt, l), omega (arith, rt, l))
fits_exit C n width (TestInt b to left_at z yes_to no_to p) c v e l fs = let lt = first_below width left_at [] e.reads in (e.counted, omega (arith, lt, l))
fits_exit C n width (Call f a k answer next p) c v e l fs =
    (subst (λ w. IsTrue (are_below w (slots_from a k))) (sym l) e.reads, takes_room C v C.functions v.functions f k e.counted)
fits_exit C n width (Return a) c v e l fs = let lt = first_below width a [] e.reads in (omega (arith, lt, l), takes_value C c.frames fs)
fits_exit C n width (Cut h a k answer next p) c v e l fs = subst (λ w. IsTrue (are_below w (slots_from a k))) (sym l) e.reads

cond_case : (P : Move → Type 0) (b : Bool) (x y : Move) → (b ≡ true → P x) → (b ≡ false → P y) → P (cond b x y)
cond_case P true x y h k = h refl
cond_case P false x y h k = k refl

module _ (C : CodeView) where
  branches_to : (c : RunnerState) (width yes_to no_to : ℕ) → RunnerStands C c → length c.slots ≡ width → IsTrue (each (is_target C width) (yes_to ∷ no_to ∷ [])) → IsTrue (nat_lt c.block yes_to && nat_lt c.block no_to)
      → (b : Bool) → LeavesStanding C (left (block_count C) c) (goes (at_block (cond b yes_to no_to) c))
  branches_to c width yes_to no_to s l leads f true =
      let t = target_has C width yes_to c.slots (first_target C width yes_to (no_to ∷ []) leads) l in
      let lt = ltb-true c.block yes_to (both (nat_lt c.block yes_to) (nat_lt c.block no_to) f).0 in
      (record { slots = t; frames = s.frames; turns = s.turns; depth = s.depth }, let here = s.slots.0 in omega (arith, lt, here))
  branches_to c width yes_to no_to s l leads f false =
      let t = target_has C width no_to c.slots (second_target C width yes_to no_to [] leads) l in
      let lt = ltb-true c.block no_to (both (nat_lt c.block yes_to) (nat_lt c.block no_to) f).1 in
      (record { slots = t; frames = s.frames; turns = s.turns; depth = s.depth }, let here = s.slots.0 in omega (arith, lt, here))

  tests_to : (c : RunnerState) (width yes_to no_to : ℕ) (p : Place) → RunnerStands C c → length c.slots ≡ width → IsTrue (each (is_target C width) (yes_to ∷ no_to ∷ [])) → IsTrue (nat_lt c.block yes_to && nat_lt c.block no_to)
      → (o : Outcome) → LeavesStanding C (left (block_count C) c) (test_answered p c yes_to no_to o)
  tests_to c width yes_to no_to p s l leads f (Ok w) = branches_to c width yes_to no_to s l leads f (truth w)
  tests_to c width yes_to no_to p s l leads f (Err g) = tt

  leaves_standing : (x : Exit) (c : RunnerState) (width : ℕ) → ValidParts C → ExitParts C c.block width x → length c.slots ≡ width → RunnerStands C c → LeavesStanding C (left (block_count C) c) (leaves C x c)
  leaves_standing (Jump next p) c width v e l s =
      let t = target_has C width next c.slots (first_target C width next [] e.leads) l in
      let here = s.slots.0 in
      let P = LeavesStanding C (left (block_count C) c) in
      let turn = goes (record c { block = next; turns = suc c.turns }) in
      cond_case P (nat_lt c.block next) (goes (at_block next c)) (turned c.turns p turn)
      (λ f. let lt = ltb-true c.block next f in (record { slots = t; frames = s.frames; turns = s.turns; depth = s.depth }, omega (arith, lt, here)))
      (λ f. cond_case P (nat_le 999_999 c.turns) (faults Spun p c.turns) turn (λ g. tt)
      (λ g. let lt = leb-false 999_999 c.turns g in (
        record { slots = t; frames = s.frames; turns = omega (arith, lt); depth = s.depth },
        turn_less (block_count C) c.turns (length c.frames) c.block (length c.frames) next (omega (arith, lt)) s.depth,
      )))
  leaves_standing (Branch a yes_to no_to) c width v e l s = branches_to c width yes_to no_to s l e.leads e.forward (truth (read c.slots a))
  leaves_standing (Test b to left_at right_at yes_to no_to p) c width v e l s = tests_to c width yes_to no_to p s l e.leads e.forward (builtin_applied b (read c.slots left_at ∷ read c.slots right_at ∷ []))
  leaves_standing (TestInt b to left_at z yes_to no_to p) c width v e l s = tests_to c width yes_to no_to p s l e.leads e.forward (builtin_applied b (read c.slots left_at ∷ Tree.int z ∷ []))
  leaves_standing (Call f a k answer next p) c width v e l s =
      let P = LeavesStanding C (left (block_count C) c) in
      let vs = reads c.slots (slots_from a k) in
      let kept = taken_all c.slots (slots_from a k) in
      let frame : Frame = record { next = next; answer = answer; slots = kept } in
      let d = entered C (function_at C f) vs frame c in
      let room = takes_room C v C.functions v.functions f k e.counted in
      let below : IsTrue (are_below (length c.slots) (slots_from a k)) = subst (λ w. IsTrue (are_below w (slots_from a k))) (sym l) e.reads in
      let same : length kept ≡ length c.slots = taken_length c.slots (slots_from a k) below in
      let few : length vs ≤ (block_at C (function_at C f).block).width = let n = length_reads c.slots a k in let r = room.1 in omega (arith, n, r) in
      let wide = begun_length (block_at C (function_at C f).block).width vs few in
      let t = target_has C width next kept (first_target C width next [] e.leads) (same ∙ l) in
      let ans : answer < length kept = let lt = first_below width answer [] e.answers in omega (arith, lt, same, l) in
      cond_case P (nat_le 999_999 c.turns) (faults Spun p c.turns) (cond (nat_le 256 (length c.frames)) (faults TooDeep p c.turns) (goes d)) (λ g. tt)
      (λ g. cond_case P (nat_le 256 (length c.frames)) (faults TooDeep p c.turns) (goes d) (λ h. tt)
      (λ h.
      let lt = leb-false 999_999 c.turns g in
      let deep = leb-false 256 (length c.frames) h in
      let more : suc (length c.frames) ≤ 256 = omega (arith, deep) in (
        record { slots = (room.0, wide); frames = (t, ans, s.frames); turns = omega (arith, lt); depth = more },
        turn_less (block_count C) c.turns (length c.frames) c.block (suc (length c.frames)) (function_at C f).block (omega (arith, lt)) more,
      )))
  leaves_standing (Return a) c width v e l s = by c.frames refl
    where
      by : (fs : List Frame) → c.frames ≡ fs → LeavesStanding C (left (block_count C) c) (returned (read c.slots a) fs c.turns)
      by [] e2 = tt
      by (f ∷ fs) e2 =
          let frames : AreFrames C (f ∷ fs) = subst (AreFrames C) e2 s.frames in
          let deep : suc (length fs) ≤ 256 = subst (λ gs. length gs ≤ 256) e2 s.depth in
          let wide = write_length f.slots f.answer (read c.slots a) frames.1 in (
            record { slots = (frames.0.0, wide ∙ frames.0.1); frames = frames.2; turns = s.turns; depth = omega (arith, deep) },
            subst (λ gs. left (block_count C) (record { block = f.next; slots = slot_written f.slots f.answer (read c.slots a); frames = fs; turns = c.turns }) < (1_000_000 - c.turns) * (257 * suc (block_count C)) + length gs * suc (block_count C) + (block_count C - c.block)) (sym e2)
                (frame_less (block_count C) ((1_000_000 - c.turns) * (257 * suc (block_count C))) (length fs) c.block f.next),
          )
  leaves_standing (Cut h a k answer next p) c width v e l s =
      let kept = taken_all c.slots (slots_from a k) in
      let below : IsTrue (are_below (length c.slots) (slots_from a k)) = subst (λ w. IsTrue (are_below w (slots_from a k))) (sym l) e.reads in
      let same : length kept ≡ length c.slots = taken_length c.slots (slots_from a k) below in
      let t = target_has C width next kept (first_target C width next [] e.leads) (same ∙ l) in
      let ans : answer < length kept = let lt = first_below width answer [] e.answers in omega (arith, lt, same, l) in
      by (record { slots = t; frames = s.frames; turns = s.turns; depth = s.depth }) ans (asked h (trees_of (reads c.slots (slots_from a k))) p)
    where
      by : RunnerStands C (record c { block = next; slots = taken_all c.slots (slots_from a k) }) → answer < length (taken_all c.slots (slots_from a k)) → (o : Result OpView Fault)
          → LeavesStanding C (left (block_count C) c) (waits_or_faults p answer (record c { block = next; slots = taken_all c.slots (slots_from a k) }) o)
      by d ans (Ok op) = (d, ans)
      by d ans (Err f) = tt

-- what a block does, from what its instructions do
pub block_move : (C : CodeView) (c : RunnerState) (is : List Instruction) (x : Exit) (s : List Tree) → (block_at C c.block).instrs ≡ is → (block_at C c.block).exit ≡ x
    → effects is c.slots ≡ done s → move C c ≡ leaves C x (record c { slots = s })
block_move C c is x s ei ex e = runs_effects C (block_at C c.block).instrs (block_at C c.block).exit c ∙ ap₂ (λ js y. went (effects js c.slots) c (leaves C y)) ei ex ∙ ap (λ f. went f c (leaves C x)) e

pub block_fault : (C : CodeView) (c : RunnerState) (is : List Instruction) (f : Fault) (p : Place) → (block_at C c.block).instrs ≡ is → effects is c.slots ≡ failed f p → move C c ≡ faults f p c.turns
block_fault C c is f p ei e = runs_effects C (block_at C c.block).instrs (block_at C c.block).exit c ∙ ap (λ js. went (effects js c.slots) c (leaves C (block_at C c.block).exit)) ei ∙ ap (λ g. went g c (leaves C (block_at C c.block).exit)) e

pub block_stop : (C : CodeView) (c : RunnerState) (is : List Instruction) (e : Stop) (r : Runner) → (block_at C c.block).instrs ≡ is → StopsAt e (effects is c.slots) → r.turns ≡ c.turns → Passed (move C c) false e r
block_stop C c is (Stop.Fault f p) r ei e t = block_fault C c is f p ei e ∙ ap (faults f p) (sym t)
block_stop C c is Stop.OutOfMemory r ei e t = tt

-- an instruction keeps the number of slots
abbrev Keeps : ℕ → Effect → Type 0
Keeps n (done s) = length s ≡ n
Keeps n (failed f p) = Unit {0}

keeps_answered : (s : List Tree) (to : ℕ) (p : Place) (o : Outcome) (n : ℕ) → to < length s → length s ≡ n → Keeps n (slot_answered s to p o)
keeps_answered s to p (Ok v) n lt e = write_length s to v lt ∙ e
keeps_answered s to p (Err f) n lt e = tt

keeps_effect : (i : Instruction) (s : List Tree) → IsTrue (is_instruction_in_range (length s) i) → Keeps (length s) (effect i s)
keeps_effect i s h = by i (in_range_parts (length s) (length s) i (omega arith) h)
  where
    by : (i : Instruction) → IsTrue (are_below (length s) (read_by i)) × IsTrue (are_below (length s) (emptied_by i)) × IsTrue (are_below (length s) (written_by i)) → Keeps (length s) (effect i s)
    by (constant to v) q = write_length s to v (first_below (length s) to [] q.2)
    by (copying to a) q = write_length s to (read s a) (first_below (length s) to [] q.2)
    by (moving to a) q =
        let e = taken_length s (a ∷ []) q.1 in
        let lt = first_below (length s) to [] q.2 in
        write_length (slot_taken s a) to (read s a) (omega (arith, e, lt)) ∙ e
    by (clearing a) q = taken_length s (a ∷ []) q.1
    by (one b to a p) q = keeps_answered s to p (builtin_applied b (read s a ∷ [])) (length s) (first_below (length s) to [] q.2) refl
    by (two b to a c p) q = keeps_answered s to p (builtin_applied b (read s a ∷ read s c ∷ [])) (length s) (first_below (length s) to [] q.2) refl
    by (two_int b to a z p) q = keeps_answered s to p (builtin_applied b (read s a ∷ Tree.int z ∷ [])) (length s) (first_below (length s) to [] q.2) refl
    by (pushing to a c p) q =
        let e = taken_length s (a ∷ []) q.1 in
        let lt = first_below (length s) to [] q.2 in
        keeps_answered (slot_taken s a) to p (builtin_applied Conj (read s a ∷ read s c ∷ [])) (length s) (omega (arith, e, lt)) e
    by (putting to a k v p) q =
        let e = taken_length s (a ∷ []) q.1 in
        let lt = first_below (length s) to [] q.2 in
        keeps_answered (slot_taken s a) to p (builtin_applied Assoc (read s a ∷ read s k ∷ read s v ∷ [])) (length s) (omega (arith, e, lt)) e
    by (many b to a n p) q =
        let e = taken_length s (slots_from a n) q.1 in
        let lt = first_below (length s) to [] q.2 in
        keeps_answered (taken_all s (slots_from a n)) to p (builtin_applied b (reads s (slots_from a n))) (length s) (omega (arith, e, lt)) e

keeps_effects : (is : List Instruction) (s : List Tree) → IsTrue (each (is_instruction_in_range (length s)) is) → Keeps (length s) (effects is s)
keeps_effects [] s h = refl
keeps_effects (i ∷ is) s h = by (effect i s) (keeps_effect i s parts.0) (λ t h. keeps_effects is t h)
  where
    parts : IsTrue (is_instruction_in_range (length s) i) × IsTrue (each (is_instruction_in_range (length s)) is)
    parts = both (is_instruction_in_range (length s) i) (each (is_instruction_in_range (length s)) is) h

    by : (e : Effect) → Keeps (length s) e → ((t : List Tree) → IsTrue (each (is_instruction_in_range (length t)) is) → Keeps (length t) (effects is t)) → Keeps (length s) (effects_follow e (effects is))
    by (done t) k more = subst (λ n. Keeps n (effects is t)) k (more t (subst (λ n. IsTrue (each (is_instruction_in_range n) is)) (sym k) parts.1))
    by (failed f p) k more = tt

-- a runner that stands in valid code goes on standing
pub step_standing : (C : CodeView) → ValidParts C → (c : RunnerState) → RunnerStands C c → LeavesStanding C (left (block_count C) c) (move C c)
step_standing C v c s =
    subst (LeavesStanding C (left (block_count C) c)) (sym (runs_effects C b.instrs b.exit c)) (by (effects b.instrs c.slots) (keeps_effects b.instrs c.slots range))
  where
    b : BlockView
    b = block_at C c.block

    parts : BlockParts C c.block b
    parts = block_parts C c.block b (v.blocks c.block s.slots.0)

    range : IsTrue (each (is_instruction_in_range (length c.slots)) b.instrs)
    range = subst (λ n. IsTrue (each (is_instruction_in_range n) b.instrs)) (sym s.slots.1) parts.range.instrs

    by : (e : Effect) → Keeps (length c.slots) e → LeavesStanding C (left (block_count C) c) (went e c (leaves C b.exit))
    by (done t) k =
        leaves_standing C b.exit (record c { slots = t }) b.width v (exit_parts C v c.block s.slots.0) (k ∙ s.slots.1)
        (record { slots = (s.slots.0, k ∙ s.slots.1); frames = s.frames; turns = s.turns; depth = s.depth })
    by (failed f p) k = tt

pub goes_standing : (C : CodeView) → ValidParts C → (c d : RunnerState) → RunnerStands C c → move C c ≡ goes d → RunnerStands C d × (left (block_count C) d < left (block_count C) c)
goes_standing C v c d s e = subst (LeavesStanding C (left (block_count C) c)) e (step_standing C v c s)

pub halt_waits : (C : CodeView) → ValidParts C → (c : RunnerState) → RunnerStands C c → (h : Halt) (r : Runner) → HaltedAs (move C c) h r → RunnerWaitsAt C h r
halt_waits C v c s (Halt.Cut w) r e =
    let k = subst (LeavesStanding C (left (block_count C) c)) e (step_standing C v c s) in record { stands = k.0; answer = k.1 }
halt_waits C v c s (Halt.Ended w) r e = tt
halt_waits C v c s (Halt.Faulted f p) r e = tt

is_halt : (m : Move) (h : Halt) (r : Runner) → HaltedAs m h r → IsHalt m
is_halt m (Halt.Cut w) r e = subst IsHalt (sym e) tt
is_halt m (Halt.Ended w) r e = subst IsHalt (sym e) tt
is_halt m (Halt.Faulted f p) r e = subst IsHalt (sym e) tt

pub halt_reached : (C : CodeView) (c0 c : RunnerState) (h : Halt) (r : Runner) → ((m : Move) → ComesTo C c m → ComesTo C c0 m) → HaltedAs (move C c) h r → HaltsAs C c0 h r
halt_reached C c0 c h r k e = (move C c, k (move C c) (halts (is_halt (move C c) h r e)), e)

-- a new runner, and one with its answer
pub start_standing : (C : CodeView) (e : EntryPoint) (vs : List Tree) → HasRoom C e (length vs) → RunnerStands C (runner_started C e vs)
start_standing C e vs room = record { slots = (room.0, begun_length (block_at C e.block).width vs room.1); frames = tt; turns = omega arith; depth = omega arith }

pub answer_standing : (C : CodeView) (c : RunnerState) (a : ℕ) (v : Tree) → a < length c.slots → RunnerStands C c → RunnerStands C (resumed v a c)
answer_standing C c a v lt s = record { slots = (s.slots.0, write_length c.slots a v lt ∙ s.slots.1); frames = s.frames; turns = omega arith; depth = s.depth }

pub start_room : (C : CodeView) → ValidParts C → (start : Start) (count : ℕ) → IsStart C start count → HasRoom C (entry_at C start) count
start_room C v begin.Main count h = subst (HasRoom C (main_entry C)) (sym (eqb-true count 0 h)) (main_room C v)
start_room C v (begin.Go n) count h = takes_room C v C.bodies v.bodies n count h
start_room C v (begin.Function n) count h = takes_room C v C.functions v.functions n count h

-- a block of valid code at which a runner stands
pub instrs_fit : (C : CodeView) → is_valid C ≡ true → (r : Runner) (b : BlockView) → RunnerStands C (state_view r) → b ≡ block_at C r.block → IsTrue (each (is_instruction_in_range (length r.slots.items)) b.instrs)
instrs_fit C valid r b s e =
    let parts = block_parts C r.block (block_at C r.block) ((valid_parts C valid).blocks r.block s.slots.0) in
    let w : (block_at C r.block).width ≡ length r.slots.items = sym s.slots.1 ∙ length-map r.slots.items view in
    subst (λ n. IsTrue (each (is_instruction_in_range n) b.instrs)) w
    (subst (λ (d : BlockView). IsTrue (each (is_instruction_in_range (block_at C r.block).width) d.instrs)) (sym e) parts.range.instrs)

pub exit_fits : (C : CodeView) → is_valid C ≡ true → (c : RunnerState) (b : BlockView) → RunnerStands C c → b ≡ block_at C c.block → FitsAnyway C b.exit c
exit_fits C valid c b s e t l =
    let v = valid_parts C valid in
    let d = record c { slots = t } in
    subst (λ (f : BlockView). FitsExit C f.exit d) (sym e) (fits_exit C c.block (block_at C c.block).width (block_at C c.block).exit d v (exit_parts C v c.block s.slots.0) (l ∙ s.slots.1) s.frames)

-- what a block did whose instructions ran
pub ran : (C : CodeView) (q r : Runner) (b : BlockView) → b ≡ block_at C q.block → r ≡ record q { slots = r.slots } → effects b.instrs (views q.slots.items) ≡ done (views r.slots.items) → move C (state_view q) ≡ leaves C b.exit (state_view r)
ran C q r b e same d =
    block_move C (state_view q) b.instrs b.exit (views r.slots.items) (sym (ap (λ (f : BlockView). f.instrs) e)) (sym (ap (λ (f : BlockView). f.exit) e)) d
    ∙ ap (λ (z : Runner). leaves C b.exit (state_view z)) (sym same)

-- its exit still fits
pub fits_after : (C : CodeView) → is_valid C ≡ true → (q r : Runner) (b : BlockView) → RunnerStands C (state_view q) → b ≡ block_at C q.block → r ≡ record q { slots = r.slots } → length r.slots.items ≡ length q.slots.items → FitsExit C b.exit (state_view r)
fits_after C valid q r b s e same n =
    subst (λ (z : Runner). FitsExit C b.exit (state_view z)) (sym same)
    (exit_fits C valid (state_view q) b s e (views r.slots.items) (length-map r.slots.items view ∙ n ∙ sym (length-map q.slots.items view)))

-- a runner that a block or its exit stopped, and one that halted at the exit, after it came to the block
pub stop_halts : {A : Type 0} → (C : CodeView) (c0 c : RunnerState) (e : Stop) (o : Result A OutOfMemory) (h : Halt) (r : Runner) → ((m : Move) → ComesTo C c m → ComesTo C c0 m) → Passed (move C c) false e r → OnOk o (HoldsStop e h) → OnOk o (HaltsAs C c0 h r)
stop_halts C c0 c (Stop.Fault f p) (Ok x) h r k a s = subst (λ g. HaltsAs C c0 g r) (sym s) (halt_reached C c0 c (Halt.Faulted f p) r k a)
stop_halts C c0 c Stop.OutOfMemory (Ok x) h r k a s = absurd s
stop_halts C c0 c e (Err x) h r k a s = tt

pub exit_halts : {A : Type 0} → (C : CodeView) (c0 c d : RunnerState) (x : Exit) (o : Result A OutOfMemory) (h : Halt) (r : Runner) → ((m : Move) → ComesTo C c m → ComesTo C c0 m) → move C c ≡ leaves C x d
    → OnOk o ((D : CodeView) → HaltedAs (leaves D x d) h r) → OnOk o (HaltsAs C c0 h r)
exit_halts C c0 c d x (Ok y) h r k e a = halt_reached C c0 c h r k (subst (λ m. HaltedAs m h r) (sym e) (a C))
exit_halts C c0 c d x (Err y) h r k e a = tt

pub exit_waits : {A : Type 0} → (C : CodeView) → is_valid C ≡ true → (c d : RunnerState) (x : Exit) (o : Result A OutOfMemory) (h : Halt) (r : Runner) → RunnerStands C c → move C c ≡ leaves C x d
    → OnOk o ((D : CodeView) → HaltedAs (leaves D x d) h r) → OnOk o (RunnerWaitsAt C h r)
exit_waits C valid c d x (Ok y) h r s e a = halt_waits C (valid_parts C valid) c s h r (subst (λ m. HaltedAs m h r) (sym e) (a C))
exit_waits C valid c d x (Err y) h r s e a = tt

-- what an exit asks it asks where it halts the runner
pub fits_halt : (C : CodeView) (x : Exit) (c : RunnerState) → FitsExit C x c → FitsHalt x c
fits_halt C (Jump next p) c h = tt
fits_halt C (Branch a yes_to no_to) c h = tt
fits_halt C (Test b to left_at right_at yes_to no_to p) c h = tt
fits_halt C (TestInt b to left_at z yes_to no_to p) c h = tt
fits_halt C (Call f a n answer next p) c h = tt
fits_halt C (Return a) c h = h.0
fits_halt C (Cut hd a n answer next p) c h = h
