use Rattle.ca_meaning.proofs.LineMakes.{run_told}
use Rattle.ca_meaning.proofs.laws.texts.events_are_told.Goals as goal

pub returns : goal.returns
returns c = run_told
