use Rattle.ca_meaning.proofs.Soundness.{reached_sound}
use Rattle.ca_meaning.proofs.laws.channels.every_state_is_sound.Goals as goal

pub returns : goal.returns
returns c = reached_sound
