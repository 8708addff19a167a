use Rattle.std.proofs.Common.{subst}
use Rattle.ca_term.specs.Program.{program_view}
use Rattle.ca_meaning.specs.Task.{TaskBody}
use Rattle.ca_replay.specs.Goings.{IsRested}
use Rattle.ca_replay.proofs.going.answered.Goals as goal

pub returns : goal.returns
returns c = record {
  rested = subst (λ (b : TaskBody). IsRested (program_view c.args.program.now) b c.in_ok-next.next) c.in_ok-body.ensures.filled c.in_ok-next.ensures.rested;
  result = c.in_ok-next.ensures.port;
}

pub rested-requires : goal.rested-requires
rested-requires c = c.in_ok-body.ensures.known (program_view c.args.program.now) c.requires.known
