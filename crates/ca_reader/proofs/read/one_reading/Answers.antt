use Rattle.ca_reader.proofs.Nesting.{some_reading, one_reading, one_fault, not_both}
use Rattle.ca_reader.proofs.read.one_reading.Goals as goal

pub returns : goal.returns
returns c = record { some = some_reading; forms = one_reading; fault = one_fault; not_both = not_both }
