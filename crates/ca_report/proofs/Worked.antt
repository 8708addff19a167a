-- The worked reports, read line by line.
use Rattle.std.proofs.Common.{◌≡◌, [], ◌∷◌, refl}
use Rattle.std.specs.Fmt.{digits}
use Rattle.ca_meaning.specs.Worked.{lines, put_and_take}
use Rattle.ca_report.specs.Report.{report_text}
use Rattle.ca_report.specs.Worked.{told_by, put_twice, put_twice_lines, both_sides, both_sides_wait, both_sides_lines, put_and_take_report}

pub put_twice_read : report_text put_twice (told_by put_twice []) ≡ lines put_twice_lines
unfolding digits
put_twice_read = refl

pub both_sides_read : report_text both_sides (told_by both_sides (both_sides_wait ∷ [])) ≡ lines both_sides_lines
unfolding digits
both_sides_read = refl

pub put_and_take_read : report_text put_and_take (told_by put_and_take []) ≡ lines put_and_take_report
unfolding digits
put_and_take_read = refl
