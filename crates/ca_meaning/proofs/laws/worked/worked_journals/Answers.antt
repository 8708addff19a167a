use Rattle.ca_meaning.proofs.Journals.{put_and_take_read, timed_out_read, go_faulted_read, put_late_read, first_taker_read, go_faulted_written}
use Rattle.ca_meaning.proofs.laws.worked.worked_journals.Goals as goal

pub returns-clause-put_and_take : goal.returns-clause-put_and_take
returns-clause-put_and_take c = put_and_take_read

pub returns-clause-timed_out : goal.returns-clause-timed_out
returns-clause-timed_out c = timed_out_read

pub returns-clause-go_faulted : goal.returns-clause-go_faulted
returns-clause-go_faulted c = go_faulted_read

pub returns-clause-written : goal.returns-clause-written
returns-clause-written c = go_faulted_written

pub returns-clause-put_late : goal.returns-clause-put_late
returns-clause-put_late c = put_late_read

pub returns-clause-first_taker : goal.returns-clause-first_taker
returns-clause-first_taker c = first_taker_read
