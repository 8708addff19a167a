use Rattle.std.proofs.Common.{List, map, subst}
use Rattle.ca_journal.specs.declared.entry.Entry.{Entry}
use Rattle.ca_journal.specs.Merge.{entry_view}
use Rattle.ca_journal.proofs.Numbering.{AllNumbered, PieceNumbered, each_on}
use Rattle.ca_journal.proofs.numbered.pieces_numbered.Goals as goal

pub loop-piece-preserved : goal.loop-piece-preserved
loop-piece-preserved c =
    let numbered : PieceNumbered c.piece-item.result = subst (λ (es : List Entry). AllNumbered (map entry_view es)) c.as_slice.ensures.value c.entries_numbered.ensures in
    λ rest. c.loop-piece.invariant (each_on PieceNumbered c.args.pieces.now c.loop-piece.piece-index c.piece-item.result c.loop-piece-test.true c.piece-item.is numbered rest)
