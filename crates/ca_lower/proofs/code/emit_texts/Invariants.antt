use Rattle.std.proofs.Common.{◌-◌, length}
use Rattle.ca_value.specs.Seq.{list}
use Rattle.ca_term.specs.Program.{program_view}
use Rattle.ca_lower.specs.Views.{builder_view, texts_of}
use Rattle.ca_lower.proofs.LaidLaws.{AreLaid}
use Rattle.ca_lower.proofs.code.emit_texts.Given as goal

abbrev pub invariant-loop-text : goal.invariant-loop-text
invariant-loop-text l = AreLaid (texts_of (program_view l.program) l.texts) l.number (builder_view l.builder) (list l.laid.entries) l.laid.widest (builder_view l.fn.builder)

abbrev pub decreases-loop-text : goal.decreases-loop-text
decreases-loop-text l = length (texts_of (program_view l.program) l.texts) - l.number
