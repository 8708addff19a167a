use Rattle.ca_solo.proofs.Settling.{reached_settles_later}
use Rattle.ca_solo.proofs.stirring.events_stir_their_channels.Goals as goal

pub returns : goal.returns
returns c = reached_settles_later
