use Rattle.ca_reader.proofs.WrittenLaws.{reads_written, forms_have}
use Rattle.ca_reader.proofs.read.read_forms_are_written.Goals as goal

pub returns : goal.returns
returns c = record { written = reads_written; scalars = forms_have }
