-- What a go block's seed stands for.
use Rattle.ca_value.specs.Seq.{list}
use Rattle.ca_value.specs.View.{trees}
use Rattle.ca_term.specs.Operation.{SeedView, go}
use Rattle.ca_term.specs.declared.operation.GoSeed.{GoSeed}

abbrev pub go_seed : GoSeed → SeedView
go_seed s = go s.body (trees (list s.values)) s.result.n s.place
