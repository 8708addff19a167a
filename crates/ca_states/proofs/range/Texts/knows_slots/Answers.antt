use Rattle.std.proofs.Common.{length, map, ◌∙◌, sym, ap, subst, arith}
use Rattle.std.specs.Prelude.{IsTrue}
use Rattle.ca_value.specs.Seq.{list}
use Rattle.ca_states.specs.Code.{block_view, has_slot, instruction}
use Rattle.ca_states.specs.Touched.{read_at, targets}
use Rattle.ca_states.specs.Valid.{each, are_below, is_instruction_in_range, reads_known, known_after, known_past, targets_known}
use Rattle.ca_states.specs.Views.{texts_view}
use Rattle.ca_states.specs.Told.{slot_told}
use Rattle.ca_states.proofs.RowLaws.{range_parts, below_more, each_same, targets_same, first_fails, second_fails, third_decides, block_reads, known_at_exit, known_at_targets}
use Rattle.ca_states.proofs.range.Texts.knows_slots.Goals as goal

pub pass_all-requires-clause-wide : goal.pass_all-requires-clause-wide
pass_all-requires-clause-wide c = let parts = range_parts (texts_view c.args.self.now) (block_view c.args.block.now) c.requires.range in omega (arith, parts.wide, c.requires.wide)

pub pass_all-requires-clause-range : goal.pass_all-requires-clause-range
pass_all-requires-clause-range c =
    let b = block_view c.args.block.now in
    let parts = range_parts (texts_view c.args.self.now) b c.requires.range in
    subst (λ is. IsTrue (each (is_instruction_in_range b.width) (map instruction is))) (sym c.as_slice.ensures) parts.instrs

pub returns-then-not-pass_all-clause-knows : goal.returns-then-not-pass_all-clause-knows
returns-then-not-pass_all-clause-knows c =
    let b = block_view c.args.block.now in
    let K = known_after (has_slot b.entry) b.instrs in
    first_fails (reads_known (has_slot b.entry) b.instrs) (each K (read_at b.exit)) (targets_known (texts_view c.args.self.now) K b.exit)
    (block_reads (slot_told c.args.notes.now b.entry) b.entry (map instruction c.as_slice.result.now) b.instrs c.pass_all.result c.requires.told (ap (map instruction) c.as_slice.ensures) c.pass_all.ensures.reads
    ∙ c.if-not-pass_all.true)

pub are_known-requires : goal.are_known-requires
are_known-requires c =
    let b = block_view c.args.block.now in
    let parts = range_parts (texts_view c.args.self.now) b c.requires.range in
    let width = length (list c.pass_all.new.self.marks) in
    subst (λ ks. IsTrue (are_below width ks)) (sym c.reads.ensures) (below_more b.width width (read_at b.exit) (omega (arith, parts.wide, c.requires.wide, c.pass_all.ensures.same)) parts.reads)

pub returns-then-not-are_known-clause-knows : goal.returns-then-not-are_known-clause-knows
returns-then-not-are_known-clause-knows c =
    let b = block_view c.args.block.now in
    let K = known_after (has_slot b.entry) b.instrs in
    let U = slot_told c.pass_all.new.self b.entry in
    let known = known_at_exit (slot_told c.args.notes.now b.entry) U b.entry (map instruction c.as_slice.result.now) b.instrs c.requires.told (ap (map instruction) c.as_slice.ensures) c.if-not-pass_all.ensures.told in
    second_fails (reads_known (has_slot b.entry) b.instrs) (each K (read_at b.exit)) (targets_known (texts_view c.args.self.now) K b.exit)
    (sym (each_same U K (read_at b.exit) known) ∙ ap (each U) (sym c.reads.ensures) ∙ sym c.are_known.ensures ∙ c.if-not-are_known.true)

pub pass_exit-requires-clause-wide : goal.pass_exit-requires-clause-wide
pass_exit-requires-clause-wide c =
    let parts = range_parts (texts_view c.args.self.now) (block_view c.args.block.now) c.requires.range in omega (arith, parts.wide, c.requires.wide, c.pass_all.ensures.same)

pub pass_exit-requires-clause-empties : goal.pass_exit-requires-clause-empties
pass_exit-requires-clause-empties c = let parts = range_parts (texts_view c.args.self.now) (block_view c.args.block.now) c.requires.range in parts.empties

pub pass_exit-requires-clause-answers : goal.pass_exit-requires-clause-answers
pass_exit-requires-clause-answers c = let parts = range_parts (texts_view c.args.self.now) (block_view c.args.block.now) c.requires.range in parts.answers

pub returns-clause-knows : goal.returns-clause-knows
returns-clause-knows c =
    let C = texts_view c.args.self.now in
    let b = block_view c.args.block.now in
    let K = known_after (has_slot b.entry) b.instrs in
    let T = slot_told c.args.notes.now b.entry in
    let U = slot_told c.pass_all.new.self b.entry in
    let V = slot_told c.pass_exit.new.self b.entry in
    let same = ap (map instruction) c.as_slice.ensures in
    let known = known_at_exit T U b.entry (map instruction c.as_slice.result.now) b.instrs c.requires.told same c.if-not-pass_all.ensures.told in
    c.are_targets_known.ensures ∙ targets_same C (targets b.exit) V (known_past b.exit K) (known_at_targets b.exit U V K known (c.pass_exit.ensures.told b.entry))
    ∙ third_decides (reads_known (has_slot b.entry) b.instrs) (each K (read_at b.exit)) (targets_known C K b.exit)
    (block_reads T b.entry (map instruction c.as_slice.result.now) b.instrs c.pass_all.result c.requires.told same c.pass_all.ensures.reads ∙ c.if-not-pass_all.false)
    (sym (each_same U K (read_at b.exit) known) ∙ ap (each U) (sym c.reads.ensures) ∙ sym c.are_known.ensures ∙ c.if-not-are_known.false)
