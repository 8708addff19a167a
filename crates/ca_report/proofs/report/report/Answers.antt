use Rattle.std.proofs.Common.{◌≡◌, ◌∙◌, subst}
use Rattle.ca_value.specs.Seq.{list}
use Rattle.ca_term.specs.Program.{program_view}
use Rattle.ca_journal.specs.Events.{events}
use Rattle.ca_replay.specs.Judged.{IsJudged, IsRun, WhereLegal}
use Rattle.ca_replay.specs.World.{world_state}
use Rattle.ca_report.specs.Tallied.{IsTally, tally_text}
use Rattle.ca_report.proofs.Reporting.{reported}
use Rattle.ca_report.proofs.report.report.Goals as goal

pub returns-in-Legal : goal.returns-in-Legal
returns-in-Legal c =
    let program = program_view c.args.program.now in let journal = events c.args.journal.now in
    let w = c.in-Legal.world in let tally = c.judge.new.observer in
    let run : IsRun program journal w c.in-Legal.field-1 = subst (IsJudged program journal) c.in-Legal.is c.in_ok-world.ensures.judged in
    let saw : IsTally tally journal = subst (WhereLegal (IsTally tally journal)) c.in-Legal.is c.in_ok-world.ensures.saw in
    let text : list c.in_ok-text_of-in-Legal.field-0 ≡ tally_text (world_state w) tally = c.in_ok-text_of-in-Legal.ensures in
    (record { state = world_state w; reaches = run.run.reaches; goes_on = run.run.goes_on }, text ∙ reported program journal (world_state w) tally run.run.reaches saw)
