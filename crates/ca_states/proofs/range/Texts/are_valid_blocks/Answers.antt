use Rattle.std.proofs.Common.{◌+◌, map, drop, ◌∙◌, sym, ap}
use Rattle.std.specs.Prelude.{◌&&◌}
use Rattle.ca_value.specs.Seq.{list}
use Rattle.ca_states.specs.Code.{block_view}
use Rattle.ca_states.specs.Valid.{are_valid_blocks}
use Rattle.ca_states.specs.Views.{texts_view}
use Rattle.ca_states.proofs.RowLaws.{blocks_from, no_blocks_from}
use Rattle.ca_states.proofs.range.Texts.are_valid_blocks.Goals as goal

pub returns-then-not-is_valid_block-clause-valid : goal.returns-then-not-is_valid_block-clause-valid
returns-then-not-is_valid_block-clause-valid c =
    let C = texts_view c.args.self.now in
    let n = c.loop-number.number in
    let xs = list c.args.self.now.blocks in
    sym (c.loop-number.invariant.2 ∙ blocks_from C xs n c.in-Some.block.now (sym c.in-Some.ensures)
    ∙ ap (λ v. v && are_valid_blocks C (n + 1) (drop (n + 1) (map block_view xs))) (sym c.is_valid_block.ensures.valid ∙ c.if-not-is_valid_block.true))

pub returns-in-None-clause-valid : goal.returns-in-None-clause-valid
returns-in-None-clause-valid c =
    let n = c.loop-number.number in
    sym (c.loop-number.invariant.2 ∙ no_blocks_from (texts_view c.args.self.now) (list c.args.self.now.blocks) n n (sym c.in-None.ensures))

pub loop-number-preserved : goal.loop-number-preserved
loop-number-preserved c =
    let C = texts_view c.args.self.now in
    let n = c.loop-number.number in
    let xs = list c.args.self.now.blocks in (
      c.is_valid_block.ensures.same ∙ c.loop-number.invariant.0,
      c.is_valid_block.ensures.before,
      c.loop-number.invariant.2 ∙ blocks_from C xs n c.in-Some.block.now (sym c.in-Some.ensures)
          ∙ ap (λ v. v && are_valid_blocks C (n + 1) (drop (n + 1) (map block_view xs))) (sym c.is_valid_block.ensures.valid ∙ c.if-not-is_valid_block.false),
    )
