use Rattle.std.proofs.Common.{drop}
use Rattle.ca_meaning.specs.Sound.{Each}
use Rattle.ca_meaning.specs.Shown.{IsNumber}
use Rattle.ca_journal.proofs.numbered.numbers_fit.Given as goal

abbrev pub invariant-loop-number : goal.invariant-loop-number
invariant-loop-number l = Each IsNumber (drop l.number-index l.numbers) → Each IsNumber l.numbers
