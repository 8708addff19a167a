-- The worked journals, read line by line.
use Rattle.std.proofs.Common.{◌≡◌, [], ◌∷◌, refl, codes}
use Rattle.std.specs.Fmt.{digits}
use Rattle.ca_meaning.specs.Texts.{output}
use Rattle.ca_meaning.specs.Journal.{journal_text}
use Rattle.ca_meaning.specs.Worked.{lines, put_and_take, put_and_take_lines, timed_out, timed_out_lines, go_faulted, go_faulted_lines, put_late, put_late_lines, first_taker, first_taker_lines}

pub put_and_take_read : journal_text put_and_take ≡ lines put_and_take_lines
unfolding digits
put_and_take_read = refl

pub timed_out_read : journal_text timed_out ≡ lines timed_out_lines
unfolding digits
timed_out_read = refl

pub go_faulted_read : journal_text go_faulted ≡ lines go_faulted_lines
unfolding digits
go_faulted_read = refl

pub put_late_read : journal_text put_late ≡ lines put_late_lines
unfolding digits
put_late_read = refl

pub first_taker_read : journal_text first_taker ≡ lines first_taker_lines
unfolding digits
first_taker_read = refl

pub go_faulted_written : output go_faulted ≡ lines (codes "fault ZeroDivisor at 1:12" ∷ codes "nil" ∷ [])
unfolding digits
go_faulted_written = refl
