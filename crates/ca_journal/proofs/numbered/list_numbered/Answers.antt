use Rattle.std.proofs.Common.{List, map, subst}
use Rattle.ca_meaning.specs.Sound.{Each}
use Rattle.ca_journal.specs.declared.entry.Entry.{Entry}
use Rattle.ca_journal.specs.Merge.{entry_view}
use Rattle.ca_journal.proofs.Numbering.{AllNumbered, PieceNumbered, laid_numbered}
use Rattle.ca_journal.proofs.numbered.list_numbered.Goals as goal

pub returns : goal.returns
returns c =
    laid_numbered c.args.list.now.full.items c.args.list.now.last
    (subst (λ ps. Each PieceNumbered ps) c.as_slice.ensures.value c.pieces_numbered.ensures)
    (subst (λ (es : List Entry). AllNumbered (map entry_view es)) c.as_slice-2.ensures.value c.entries_numbered.ensures)
