use Rattle.std.proofs.Common.{subst}
use Rattle.ca_term.specs.Program.{program_view}
use Rattle.ca_journal.specs.Events.{events}
use Rattle.ca_replay.specs.World.{world_state}
use Rattle.ca_replay.specs.Judged.{IsJudged, IsRun}
use Rattle.ca_replay.proofs.replaying.replay.Goals as goal

pub returns-in-Legal : goal.returns-in-Legal
returns-in-Legal c =
    let run : IsRun (program_view c.args.program.now) (events c.args.journal.now) c.in-Legal.world c.in-Legal.end =
    subst (IsJudged (program_view c.args.program.now) (events c.args.journal.now)) c.in-Legal.is c.in_ok-world.ensures.judged in
    (record { state = world_state c.in-Legal.world; reaches = run.run.reaches; goes_on = run.run.goes_on }, c.stands_as.ensures (program_view c.args.program.now) (events c.args.journal.now) run)
