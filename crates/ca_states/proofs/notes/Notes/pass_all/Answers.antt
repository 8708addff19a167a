use Rattle.std.proofs.Common.{◌+◌, ◌<◌, map, drop, ◌∙◌, sym, ap, subst, arith}
use Rattle.std.specs.Prelude.{IsTrue, ◌&&◌}
use Rattle.ca_states.specs.Code.{instruction, slots_view}
use Rattle.ca_states.specs.Valid.{each, is_instruction_in_range, after_instruction, reads_known, known_after}
use Rattle.ca_states.specs.Told.{slot_told}
use Rattle.ca_states.proofs.RowLaws.{both, drop_item, reads_known_same, known_after_same}
use Rattle.ca_states.proofs.notes.Notes.pass_all.Goals as goal

pub pass-requires-clause-wide : goal.pass-requires-clause-wide
pass-requires-clause-wide c = omega (arith, c.requires.wide, c.loop-instr.invariant.0)

pub pass-requires-clause-range : goal.pass-requires-clause-range
pass-requires-clause-range c =
    let i = c.loop-instr.instr-index in
    let x = c.instr-item.result in
    let rest = drop_item c.args.instrs.now i x c.loop-instr-test.true c.instr-item.is in
    (both (is_instruction_in_range c.args.width (instruction x)) (each (is_instruction_in_range c.args.width) (map instruction (drop (i + 1) c.args.instrs.now)))
    (subst (λ is. IsTrue (each (is_instruction_in_range c.args.width) (map instruction is))) rest c.loop-instr.invariant.3)).0

pub loop-instr-preserved : goal.loop-instr-preserved
loop-instr-preserved c =
    let i = c.loop-instr.instr-index in
    let x = c.instr-item.result in
    let rest = drop_item c.args.instrs.now i x c.loop-instr-test.true c.instr-item.is in
    let more = map instruction (drop (i + 1) c.args.instrs.now) in
    let entry = slots_view c.args.entry.now in
    let here = slot_told c.loop-instr.self entry in
    let there = slot_told c.pass.new.self entry in (
      c.pass.ensures.same ∙ c.loop-instr.invariant.0,
      c.pass.ensures.block ∙ c.loop-instr.invariant.1,
      λ n lt b. c.pass.ensures.before n (subst (λ y. y < n) (sym c.loop-instr.invariant.1) lt) (c.loop-instr.invariant.2 n lt b),
      (both (is_instruction_in_range c.args.width (instruction x)) (each (is_instruction_in_range c.args.width) more)
          (subst (λ is. IsTrue (each (is_instruction_in_range c.args.width) (map instruction is))) rest c.loop-instr.invariant.3)).1,
      c.loop-instr.invariant.4
          ∙ ap (λ is. reads_known here (map instruction is)) rest
          ∙ ap (λ b. b && reads_known (after_instruction (instruction x) here) more) (sym c.pass.ensures.reads ∙ c.if-not-pass.false)
          ∙ sym (reads_known_same more there (after_instruction (instruction x) here) (c.pass.ensures.told entry)),
      λ k.
          c.loop-instr.invariant.5 k ∙ ap (λ is. known_after here (map instruction is) k) rest
          ∙ sym (known_after_same more there (after_instruction (instruction x) here) (c.pass.ensures.told entry) k),
    )
