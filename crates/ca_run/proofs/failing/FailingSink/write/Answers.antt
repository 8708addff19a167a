use Rattle.std.proofs.Common.{ap, rules}
use Rattle.ca_run.proofs.Faults.{rose_beside}
use Rattle.ca_run.proofs.failing.FailingSink.write.Goals as goal

pub returns-then-fails-clause-cause : goal.returns-then-fails-clause-cause
returns-then-fails-clause-cause g c =
    rose_beside _ _ _ _ _ (ap g.K.Sink.faults c.fails.ensures.device) c.fails.ensures.later (c.fails.ensures.fault (search rules))
