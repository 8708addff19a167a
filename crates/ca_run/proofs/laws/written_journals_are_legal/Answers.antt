use Rattle.ca_journal.specs.Events.{events}
use Rattle.ca_run.proofs.Written.{asks_of, has_script, none_illegal, none_rejected}
use Rattle.ca_run.proofs.laws.written_journals_are_legal.Goals as goal

pub returns : goal.returns
returns c =
    let run = events c.args.journal.now in
    record {
      asked = λ script program input w. asks_of script program run input w (c.written_journals_are_read.ensures script program w.is_program w.legal);
      legal = λ script program input w k. none_illegal script program run input w k;
      accepted = λ script program input w. has_script script program run input w;
      not_rejected = λ script program input line w. none_rejected script program run input w (c.written_journals_are_read.ensures script program w.is_program w.legal) c.one_journal.ensures.journals c.one_journal.ensures.not_both line;
    }
