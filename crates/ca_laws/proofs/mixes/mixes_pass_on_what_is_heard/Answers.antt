use Rattle.ca_laws.proofs.Mixing.{mix_law}
use Rattle.ca_laws.proofs.Heard.{mix_takes, mix_puts}
use Rattle.ca_laws.proofs.mixes.mixes_pass_on_what_is_heard.Goals as goal

pub returns : goal.returns
returns c = record { keeps = mix_law; takes = mix_takes; puts = mix_puts }
