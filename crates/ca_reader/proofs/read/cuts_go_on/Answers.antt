use Rattle.ca_reader.proofs.Cuts.{text_cut_step}
use Rattle.ca_reader.proofs.Readings.{pieces_from_step}
use Rattle.ca_reader.proofs.read.cuts_go_on.Goals as goal

pub returns : goal.returns
returns c = record { text = text_cut_step; pieces = pieces_from_step }
