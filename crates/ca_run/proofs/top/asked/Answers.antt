use Rattle.std.proofs.Common.{◌∙◌, map}
use Rattle.std.specs.Prelude.{string_bytes}
use Rattle.ca_run.proofs.Fitting.{asked_fits}
use Rattle.ca_run.proofs.top.asked.Goals as goal

pub returns-in-Ok-clause-fit : goal.returns-in-Ok-clause-fit
returns-in-Ok-clause-fit c = λ command is. asked_fits (map string_bytes c.args.words.now) command (c.in-Ok.ensures.command ∙ is)
