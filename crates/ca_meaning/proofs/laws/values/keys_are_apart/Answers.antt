use Rattle.ca_meaning.proofs.ValuesEqual.{equals_self, apart}
use Rattle.ca_meaning.proofs.ValuesApart.{brings_apart}
use Rattle.ca_meaning.proofs.laws.values.keys_are_apart.Goals as goal

pub returns : goal.returns
returns c = record { itself = equals_self; apart = apart; brings = brings_apart }
