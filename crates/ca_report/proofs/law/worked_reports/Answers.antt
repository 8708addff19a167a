use Rattle.ca_report.proofs.Worked.{put_twice_read, both_sides_read, put_and_take_read}
use Rattle.ca_report.proofs.law.worked_reports.Goals as goal

pub returns : goal.returns
returns c = record { put_twice = put_twice_read; both_sides = both_sides_read; put_and_take = put_and_take_read }
