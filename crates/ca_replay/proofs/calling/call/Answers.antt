use Rattle.ca_term.specs.Program.{program_view}
use Rattle.ca_replay.proofs.calling.call.Goals as goal

pub rest-requires : goal.rest-requires
rest-requires c = c.in_ok-body.ensures.known (program_view c.args.program.now) c.checked.ensures c.requires
