use Rattle.std.proofs.Common.{◌≤◌, length, arith, inr, rules}
use Rattle.ca_run.specs.Answers.{refusal_line}
use Rattle.ca_run.specs.Inputs.{greatest_length}
use Rattle.ca_run.specs.Marker.{IsParted}
use Rattle.ca_run.specs.Top.{RefusedFor}
use Rattle.ca_run.proofs.finding.find.Goals as goal

pub returns-in-Refused : goal.returns-in-Refused
returns-in-Refused c =
    let parted : IsParted c.args.input.now c.in-Some.script.now c.in-Some.text.now = search rules in
    let short : length c.in-Some.script.now ≤ greatest_length = omega arith in
    let refused : RefusedFor c.in-Some.script.now (refusal_line c.in-Refused.refusal) = rw c.in-Refused.is at c.in_ok-refusal.ensures in
    (c.in-Some.script.now, c.in-Some.text.now, parted, inr (short, refused))
