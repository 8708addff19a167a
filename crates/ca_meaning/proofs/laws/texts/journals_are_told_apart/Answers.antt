use Rattle.ca_meaning.proofs.LinesTold.{journal_told}
use Rattle.ca_meaning.proofs.LinesNumbered.{run_shown, runs_told}
use Rattle.ca_meaning.proofs.laws.texts.journals_are_told_apart.Goals as goal

pub returns : goal.returns
returns c = record { texts = journal_told; shown = run_shown; runs = runs_told }
