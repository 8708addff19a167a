use Rattle.ca_meaning.proofs.ChannelLaws.{channels_told}
use Rattle.ca_meaning.proofs.laws.channels.channels_are_told.Goals as goal

pub returns : goal.returns
returns c = channels_told
