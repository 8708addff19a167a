use Rattle.std.proofs.Common.{◌≡◌, ◌++◌, map}
use Rattle.ca_value.specs.Seq.{list}
use Rattle.ca_states.specs.Code.{block_view}
use Rattle.ca_moves.specs.Plain.{plain_block}
use Rattle.ca_moves.proofs.letting_go.blocks_letting_go.Given as goal

abbrev pub invariant-loop-block : goal.invariant-loop-block
invariant-loop-block l = map plain_block (map block_view (list l.let_go)) ++ map plain_block (map block_view l.block-iterator.rest.items) ≡ map plain_block (map block_view (list l.fn.blocks))
