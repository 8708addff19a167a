use Rattle.std.proofs.Common.{drop}
use Rattle.ca_meaning.specs.Sound.{Each}
use Rattle.ca_journal.proofs.Numbering.{PieceNumbered}
use Rattle.ca_journal.proofs.numbered.pieces_numbered.Given as goal

abbrev pub invariant-loop-piece : goal.invariant-loop-piece
invariant-loop-piece l = Each PieceNumbered (drop l.piece-index l.pieces) → Each PieceNumbered l.pieces
