use Rattle.ca_reader.proofs.Table.{table_at}
use Rattle.ca_reader.proofs.bytes.is_token_byte.Goals as goal

pub returns : goal.returns
returns c = table_at c.args.byte c.ranges.byte.fits
