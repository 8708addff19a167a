use Rattle.ca_meaning.proofs.ChannelLaws.{channel_law}
use Rattle.ca_meaning.proofs.laws.channels.channels_keep_order.Goals as goal

pub returns : goal.returns
returns c = channel_law
