use Rattle.std.proofs.Common.{◌≡◌, ◌∙◌, ⊎_elim, rules, map, refl, sym, ap, subst, arith, IsSome, Some}
use Rattle.std.specs.Prelude.{string_bytes}
use Rattle.ca_words.specs.Words.{command_in}
use Rattle.ca_journal.specs.declared.journal.Journal.{Journal}
use Rattle.ca_run.specs.Answers.{answer_text, AnswersTo}
use Rattle.ca_run.specs.Top.{Completed, CompletedFor, Partly, ToldNothing, span_between, span_of}
use Rattle.ca_meaning.specs.Ends.{ended, faulted, limit, stuck}
use Rattle.ca_run.proofs.Causes.{not_eight, read_nothing, silent_of, without_run}
use Rattle.ca_run.proofs.Complete.{close_complete, unfinished}
use Rattle.ca_run.proofs.Lawful.{lawful_of}
use Rattle.ca_run.proofs.Finishes.{differ, whole_text, part_text, ended_of, ends_of, accepted_of, refused_of, usage_of, partly_of, followed_of, close_journal, close_asked, runs_nothing, replayed_of, reported_of, rejected_of}
use Rattle.ca_run.proofs.top.main_call.Goals as goal

pub returns-clause-ended : goal.returns-clause-ended
returns-clause-ended g c = λ command is runs e.
    let a = c.in-Ok-judge.judged.0 in
    let span = span_between g.C.Clock.least g.C.Clock.readings c.args.clock c.in-Ok-judge.judged.1 in
    let left = g.S.Source.left c.args.source.now in
    let after = g.S.Source.left c.judge.new.source in
    let held = g.K.Sink.held c.args.sink.now in
    let taken = g.K.Sink.held c.write_all.new.sink in
    let asked = command_in (map string_bytes c.args.words.now) in
    let answers : AnswersTo asked span left after a = subst (λ q. AnswersTo q span left after a) c.in-Ok.ensures.command (c.in-Ok-judge.ensures.answers c.in-Ok-judge.judged refl) in
    let words : c.as_slice.result.now ≡ answer_text a = search rules in
    let text = whole_text c.write_all.result c.is_ok-written.result c.close.result.status 0 a held (g.K.Sink.held c.reserve.new.self) taken c.as_slice.result.now c.is_ok-written.ensures.value c.close.ensures.lost c.close.ensures.done c.write_all.ensures.ok words c.reserve.ensures.held e (differ 0 7 (omega arith)) in
    subst (λ o. Completed command left after held taken (span_of g.C.Clock.least g.C.Clock.readings c.args.clock o) c.close.result.journal ended) (sym c.close.ensures.clock)
    (subst (λ j. Completed command left after held taken (Some span) j ended) (sym c.close.ensures.journal) (ended_of asked span left after held taken a command is runs text.0 answers text.1))

pub returns-clause-faulted : goal.returns-clause-faulted
returns-clause-faulted g c = λ e.
    let a = c.in-Ok-judge.judged.0 in
    let span = span_between g.C.Clock.least g.C.Clock.readings c.args.clock c.in-Ok-judge.judged.1 in
    let left = g.S.Source.left c.args.source.now in
    let after = g.S.Source.left c.judge.new.source in
    let held = g.K.Sink.held c.args.sink.now in
    let taken = g.K.Sink.held c.write_all.new.sink in
    let asked = command_in (map string_bytes c.args.words.now) in
    let answers : AnswersTo asked span left after a = subst (λ q. AnswersTo q span left after a) c.in-Ok.ensures.command (c.in-Ok-judge.ensures.answers c.in-Ok-judge.judged refl) in
    let words : c.as_slice.result.now ≡ answer_text a = search rules in
    let text = whole_text c.write_all.result c.is_ok-written.result c.close.result.status 3 a held (g.K.Sink.held c.reserve.new.self) taken c.as_slice.result.now c.is_ok-written.ensures.value c.close.ensures.lost c.close.ensures.done c.write_all.ensures.ok words c.reserve.ensures.held e (differ 3 7 (omega arith)) in
    subst (λ o. CompletedFor asked left after held taken (span_of g.C.Clock.least g.C.Clock.readings c.args.clock o) c.close.result.journal faulted) (sym c.close.ensures.clock)
    (subst (λ j. CompletedFor asked left after held taken (Some span) j faulted) (sym c.close.ensures.journal) (ends_of asked span left after held taken a faulted (omega arith) text.0 answers text.1))

pub returns-clause-stuck : goal.returns-clause-stuck
returns-clause-stuck g c = λ e.
    let a = c.in-Ok-judge.judged.0 in
    let span = span_between g.C.Clock.least g.C.Clock.readings c.args.clock c.in-Ok-judge.judged.1 in
    let left = g.S.Source.left c.args.source.now in
    let after = g.S.Source.left c.judge.new.source in
    let held = g.K.Sink.held c.args.sink.now in
    let taken = g.K.Sink.held c.write_all.new.sink in
    let asked = command_in (map string_bytes c.args.words.now) in
    let answers : AnswersTo asked span left after a = subst (λ q. AnswersTo q span left after a) c.in-Ok.ensures.command (c.in-Ok-judge.ensures.answers c.in-Ok-judge.judged refl) in
    let words : c.as_slice.result.now ≡ answer_text a = search rules in
    let text = whole_text c.write_all.result c.is_ok-written.result c.close.result.status 4 a held (g.K.Sink.held c.reserve.new.self) taken c.as_slice.result.now c.is_ok-written.ensures.value c.close.ensures.lost c.close.ensures.done c.write_all.ensures.ok words c.reserve.ensures.held e (differ 4 7 (omega arith)) in
    subst (λ o. CompletedFor asked left after held taken (span_of g.C.Clock.least g.C.Clock.readings c.args.clock o) c.close.result.journal stuck) (sym c.close.ensures.clock)
    (subst (λ j. CompletedFor asked left after held taken (Some span) j stuck) (sym c.close.ensures.journal) (ends_of asked span left after held taken a stuck (omega arith) text.0 answers text.1))

pub returns-clause-limit : goal.returns-clause-limit
returns-clause-limit g c = λ e.
    let a = c.in-Ok-judge.judged.0 in
    let span = span_between g.C.Clock.least g.C.Clock.readings c.args.clock c.in-Ok-judge.judged.1 in
    let left = g.S.Source.left c.args.source.now in
    let after = g.S.Source.left c.judge.new.source in
    let held = g.K.Sink.held c.args.sink.now in
    let taken = g.K.Sink.held c.write_all.new.sink in
    let asked = command_in (map string_bytes c.args.words.now) in
    let answers : AnswersTo asked span left after a = subst (λ q. AnswersTo q span left after a) c.in-Ok.ensures.command (c.in-Ok-judge.ensures.answers c.in-Ok-judge.judged refl) in
    let words : c.as_slice.result.now ≡ answer_text a = search rules in
    let text = whole_text c.write_all.result c.is_ok-written.result c.close.result.status 5 a held (g.K.Sink.held c.reserve.new.self) taken c.as_slice.result.now c.is_ok-written.ensures.value c.close.ensures.lost c.close.ensures.done c.write_all.ensures.ok words c.reserve.ensures.held e (differ 5 7 (omega arith)) in
    subst (λ o. CompletedFor asked left after held taken (span_of g.C.Clock.least g.C.Clock.readings c.args.clock o) c.close.result.journal limit) (sym c.close.ensures.clock)
    (subst (λ j. CompletedFor asked left after held taken (Some span) j limit) (sym c.close.ensures.journal) (ends_of asked span left after held taken a limit (omega arith) text.0 answers text.1))

pub returns-clause-accepted : goal.returns-clause-accepted
returns-clause-accepted g c = λ is e.
    let a = c.in-Ok-judge.judged.0 in
    let span = span_between g.C.Clock.least g.C.Clock.readings c.args.clock c.in-Ok-judge.judged.1 in
    let left = g.S.Source.left c.args.source.now in
    let after = g.S.Source.left c.judge.new.source in
    let held = g.K.Sink.held c.args.sink.now in
    let taken = g.K.Sink.held c.write_all.new.sink in
    let asked = command_in (map string_bytes c.args.words.now) in
    let answers : AnswersTo asked span left after a = subst (λ q. AnswersTo q span left after a) c.in-Ok.ensures.command (c.in-Ok-judge.ensures.answers c.in-Ok-judge.judged refl) in
    let words : c.as_slice.result.now ≡ answer_text a = search rules in
    let text = whole_text c.write_all.result c.is_ok-written.result c.close.result.status 0 a held (g.K.Sink.held c.reserve.new.self) taken c.as_slice.result.now c.is_ok-written.ensures.value c.close.ensures.lost c.close.ensures.done c.write_all.ensures.ok words c.reserve.ensures.held e (differ 0 7 (omega arith)) in
    accepted_of asked span left after held taken a is text.0 answers text.1

pub returns-clause-usage : goal.returns-clause-usage
returns-clause-usage g c = λ e.
    let a = c.in-Ok-judge.judged.0 in
    let span = span_between g.C.Clock.least g.C.Clock.readings c.args.clock c.in-Ok-judge.judged.1 in
    let left = g.S.Source.left c.args.source.now in
    let after = g.S.Source.left c.judge.new.source in
    let held = g.K.Sink.held c.args.sink.now in
    let taken = g.K.Sink.held c.write_all.new.sink in
    let asked = command_in (map string_bytes c.args.words.now) in
    let answers : AnswersTo asked span left after a = subst (λ q. AnswersTo q span left after a) c.in-Ok.ensures.command (c.in-Ok-judge.ensures.answers c.in-Ok-judge.judged refl) in
    let words : c.as_slice.result.now ≡ answer_text a = search rules in
    let text = whole_text c.write_all.result c.is_ok-written.result c.close.result.status 1 a held (g.K.Sink.held c.reserve.new.self) taken c.as_slice.result.now c.is_ok-written.ensures.value c.close.ensures.lost c.close.ensures.done c.write_all.ensures.ok words c.reserve.ensures.held e (differ 1 7 (omega arith)) in
    usage_of asked span left after held taken a text.0 answers text.1

pub returns-clause-refused : goal.returns-clause-refused
returns-clause-refused g c = λ e.
    let a = c.in-Ok-judge.judged.0 in
    let span = span_between g.C.Clock.least g.C.Clock.readings c.args.clock c.in-Ok-judge.judged.1 in
    let left = g.S.Source.left c.args.source.now in
    let after = g.S.Source.left c.judge.new.source in
    let held = g.K.Sink.held c.args.sink.now in
    let taken = g.K.Sink.held c.write_all.new.sink in
    let asked = command_in (map string_bytes c.args.words.now) in
    let answers : AnswersTo asked span left after a = subst (λ q. AnswersTo q span left after a) c.in-Ok.ensures.command (c.in-Ok-judge.ensures.answers c.in-Ok-judge.judged refl) in
    let words : c.as_slice.result.now ≡ answer_text a = search rules in
    let text = whole_text c.write_all.result c.is_ok-written.result c.close.result.status 2 a held (g.K.Sink.held c.reserve.new.self) taken c.as_slice.result.now c.is_ok-written.ensures.value c.close.ensures.lost c.close.ensures.done c.write_all.ensures.ok words c.reserve.ensures.held e (differ 2 7 (omega arith)) in
    refused_of asked span left after held taken a text.0 answers text.1

pub returns-clause-partial : goal.returns-clause-partial
returns-clause-partial g c = λ e.
    let a = c.in-Ok-judge.judged.0 in
    let span = span_between g.C.Clock.least g.C.Clock.readings c.args.clock c.in-Ok-judge.judged.1 in
    let left = g.S.Source.left c.args.source.now in
    let after = g.S.Source.left c.judge.new.source in
    let held = g.K.Sink.held c.args.sink.now in
    let taken = g.K.Sink.held c.write_all.new.sink in
    let asked = command_in (map string_bytes c.args.words.now) in
    let answers : AnswersTo asked span left after a = subst (λ q. AnswersTo q span left after a) c.in-Ok.ensures.command (c.in-Ok-judge.ensures.answers c.in-Ok-judge.judged refl) in
    let words : c.as_slice.result.now ≡ answer_text a = search rules in
    let part = part_text c.write_all.result c.is_ok-written.result c.close.result.status a held (g.K.Sink.held c.reserve.new.self) taken c.as_slice.result.now c.is_ok-written.ensures.value c.close.ensures.done c.write_all.ensures.err words c.reserve.ensures.held e in
    subst (λ o. Partly asked left after held taken (span_of g.C.Clock.least g.C.Clock.readings c.args.clock o) c.close.result.journal) (sym c.close.ensures.clock)
    (subst (Partly asked left after held taken (Some span)) (sym c.close.ensures.journal) (partly_of asked span left after held taken a part.0 answers part.1))

pub returns-clause-done : goal.returns-clause-done
returns-clause-done g c =
    let a = c.in-Ok-judge.judged.0 in
    let span = span_between g.C.Clock.least g.C.Clock.readings c.args.clock c.in-Ok-judge.judged.1 in
    let left = g.S.Source.left c.args.source.now in
    let after = g.S.Source.left c.judge.new.source in
    let held = g.K.Sink.held c.args.sink.now in
    let taken = g.K.Sink.held c.write_all.new.sink in
    let asked = command_in (map string_bytes c.args.words.now) in
    let answers : AnswersTo asked span left after a = subst (λ q. AnswersTo q span left after a) c.in-Ok.ensures.command (c.in-Ok-judge.ensures.answers c.in-Ok-judge.judged refl) in
    close_asked asked span left after a c.is_ok-written.result c.close.result.status c.close.ensures.lost c.close.ensures.done answers

pub returns-clause-journal : goal.returns-clause-journal
returns-clause-journal g c = λ j.
    let a = c.in-Ok-judge.judged.0 in
    let span = span_between g.C.Clock.least g.C.Clock.readings c.args.clock c.in-Ok-judge.judged.1 in
    let left = g.S.Source.left c.args.source.now in
    let after = g.S.Source.left c.judge.new.source in
    let held = g.K.Sink.held c.args.sink.now in
    let taken = g.K.Sink.held c.write_all.new.sink in
    let asked = command_in (map string_bytes c.args.words.now) in
    let answers : AnswersTo asked span left after a = subst (λ q. AnswersTo q span left after a) c.in-Ok.ensures.command (c.in-Ok-judge.ensures.answers c.in-Ok-judge.judged refl) in
    close_journal asked span left after a c.is_ok-written.result c.close.result.status c.close.ensures.lost c.close.ensures.done answers (subst (IsSome {T = Journal}) c.close.ensures.journal j)

pub returns-clause-unasked : goal.returns-clause-unasked
returns-clause-unasked g c =
    ⊎_elim (λ e. c.close.ensures.clock ∙ ap Some (c.in-Ok-judge.ensures.unasked c.in-Ok-judge.judged refl (runs_nothing c.in-Ok-judge.judged.0 c.is_ok-written.result c.close.result.status c.close.ensures.lost c.close.ensures.done e)))
    (λ k. c.close.ensures.clock ∙ c.in-Ok-judge.ensures.idle (λ x is. k x (sym c.in-Ok.ensures.command ∙ is)))

pub returns-clause-laws : goal.returns-clause-laws
returns-clause-laws g c = λ j e.
    let a = c.in-Ok-judge.judged.0 in
    let span = span_between g.C.Clock.least g.C.Clock.readings c.args.clock c.in-Ok-judge.judged.1 in
    let left = g.S.Source.left c.args.source.now in
    let after = g.S.Source.left c.judge.new.source in
    let asked = command_in (map string_bytes c.args.words.now) in
    let answers : AnswersTo asked span left after a = subst (λ q. AnswersTo q span left after a) c.in-Ok.ensures.command (c.in-Ok-judge.ensures.answers c.in-Ok-judge.judged refl) in
    lawful_of c.journals_of_a_text_keep_the_laws.ensures asked span left after a j answers (sym c.close.ensures.journal ∙ e)

pub returns-clause-unrun : goal.returns-clause-unrun
returns-clause-unrun g c = λ e none. c.close.ensures.clock ∙ ap Some (c.in-Ok-judge.ensures.unasked c.in-Ok-judge.judged refl (without_run c.in-Ok-judge.judged.0 (sym c.close.ensures.journal ∙ none)))

pub returns-clause-untimed : goal.returns-clause-untimed
returns-clause-untimed g c = λ j e none.
    let a = c.in-Ok-judge.judged.0 in
    let span = span_between g.C.Clock.least g.C.Clock.readings c.args.clock c.in-Ok-judge.judged.1 in
    let left = g.S.Source.left c.args.source.now in
    let after = g.S.Source.left c.judge.new.source in
    let asked = command_in (map string_bytes c.args.words.now) in
    let answers : AnswersTo asked span left after a = subst (λ q. AnswersTo q span left after a) c.in-Ok.ensures.command (c.in-Ok-judge.ensures.answers c.in-Ok-judge.judged refl) in
    subst (λ o. ToldNothing asked (span_of g.C.Clock.least g.C.Clock.readings c.args.clock o)) (sym c.close.ensures.clock) (silent_of asked span left after a j answers (sym c.close.ensures.journal ∙ e) none)

pub returns-clause-complete : goal.returns-clause-complete
returns-clause-complete g c = λ steady.
    let a = c.in-Ok-judge.judged.0 in
    let span = span_between g.C.Clock.least g.C.Clock.readings c.args.clock c.in-Ok-judge.judged.1 in
    let left = g.S.Source.left c.args.source.now in
    let after = g.S.Source.left c.judge.new.source in
    let asked = command_in (map string_bytes c.args.words.now) in
    let faults = g.K.Sink.faults in
    let answers : AnswersTo asked span left after a = subst (λ q. AnswersTo q span left after a) c.in-Ok.ensures.command (c.in-Ok-judge.ensures.answers c.in-Ok-judge.judged refl) in
    close_complete asked span left after a c.write_all.result c.is_ok-written.result c.close.result.status (faults c.args.sink.now) (faults c.reserve.new.self) (faults c.write_all.new.sink) c.is_ok-written.ensures.value c.close.ensures.done c.reserve.ensures.faults c.write_all.ensures.cause steady.sink_steady answers

pub returns-in_default-clause-complete : goal.returns-in_default-clause-complete
returns-in_default-clause-complete g c = λ steady. unfinished (command_in (map string_bytes c.args.words.now)) (g.S.Source.left c.args.source.now) c.without_journal.result.status c.without_journal.ensures.status

pub returns-in-Err-OutOfMemory-clause-unread : goal.returns-in-Err-OutOfMemory-clause-unread
returns-in-Err-OutOfMemory-clause-unread g c = λ command. read_nothing (command_in (map string_bytes c.args.words.now)) c.in-Ok.asked command c.in-Ok.ensures.command c.judge.ensures.unread

pub returns-in-Err-ClockFailed-clause-unread : goal.returns-in-Err-ClockFailed-clause-unread
returns-in-Err-ClockFailed-clause-unread g c = λ command. read_nothing (command_in (map string_bytes c.args.words.now)) c.in-Ok.asked command c.in-Ok.ensures.command c.judge.ensures.unread

pub returns-in_default-text_of-clause-unread : goal.returns-in_default-text_of-clause-unread
returns-in_default-text_of-clause-unread g c = λ command. read_nothing (command_in (map string_bytes c.args.words.now)) c.in-Ok.asked command c.in-Ok.ensures.command c.judge.ensures.unread

pub returns-then-is_err-clause-unread : goal.returns-then-is_err-clause-unread
returns-then-is_err-clause-unread g c = λ command. read_nothing (command_in (map string_bytes c.args.words.now)) c.in-Ok.asked command c.in-Ok.ensures.command c.judge.ensures.unread

pub returns-clause-unread : goal.returns-clause-unread
returns-clause-unread g c = λ command. read_nothing (command_in (map string_bytes c.args.words.now)) c.in-Ok.asked command c.in-Ok.ensures.command c.judge.ensures.unread

pub returns-in_default-text_of-clause-unasked : goal.returns-in_default-text_of-clause-unasked
returns-in_default-text_of-clause-unasked g c =
    ⊎_elim (not_eight c.without_journal-in_default-text_of.result.status c.without_journal-in_default-text_of.ensures.status)
    (λ k. c.without_journal-in_default-text_of.ensures.clock ∙ c.in-Ok-judge.ensures.idle (λ x is. k x (sym c.in-Ok.ensures.command ∙ is)))

pub returns-then-is_err-clause-unasked : goal.returns-then-is_err-clause-unasked
returns-then-is_err-clause-unasked g c =
    ⊎_elim (not_eight c.without_journal-then-is_err.result.status c.without_journal-then-is_err.ensures.status)
    (λ k. c.without_journal-then-is_err.ensures.clock ∙ c.in-Ok-judge.ensures.idle (λ x is. k x (sym c.in-Ok.ensures.command ∙ is)))

pub returns-clause-replayed : goal.returns-clause-replayed
returns-clause-replayed g c = λ is e.
    let a = c.in-Ok-judge.judged.0 in
    let span = span_between g.C.Clock.least g.C.Clock.readings c.args.clock c.in-Ok-judge.judged.1 in
    let left = g.S.Source.left c.args.source.now in
    let after = g.S.Source.left c.judge.new.source in
    let held = g.K.Sink.held c.args.sink.now in
    let taken = g.K.Sink.held c.write_all.new.sink in
    let asked = command_in (map string_bytes c.args.words.now) in
    let answers : AnswersTo asked span left after a = subst (λ q. AnswersTo q span left after a) c.in-Ok.ensures.command (c.in-Ok-judge.ensures.answers c.in-Ok-judge.judged refl) in
    let words : c.as_slice.result.now ≡ answer_text a = search rules in
    let text = whole_text c.write_all.result c.is_ok-written.result c.close.result.status 0 a held (g.K.Sink.held c.reserve.new.self) taken c.as_slice.result.now c.is_ok-written.ensures.value c.close.ensures.lost c.close.ensures.done c.write_all.ensures.ok words c.reserve.ensures.held e (differ 0 7 (omega arith)) in
    replayed_of asked span left after held taken a is text.0 answers text.1

pub returns-clause-followed : goal.returns-clause-followed
returns-clause-followed g c = λ is e.
    let a = c.in-Ok-judge.judged.0 in
    let span = span_between g.C.Clock.least g.C.Clock.readings c.args.clock c.in-Ok-judge.judged.1 in
    let left = g.S.Source.left c.args.source.now in
    let after = g.S.Source.left c.judge.new.source in
    let held = g.K.Sink.held c.args.sink.now in
    let taken = g.K.Sink.held c.write_all.new.sink in
    let asked = command_in (map string_bytes c.args.words.now) in
    let answers : AnswersTo asked span left after a = subst (λ q. AnswersTo q span left after a) c.in-Ok.ensures.command (c.in-Ok-judge.ensures.answers c.in-Ok-judge.judged refl) in
    let words : c.as_slice.result.now ≡ answer_text a = search rules in
    let text = whole_text c.write_all.result c.is_ok-written.result c.close.result.status 0 a held (g.K.Sink.held c.reserve.new.self) taken c.as_slice.result.now c.is_ok-written.ensures.value c.close.ensures.lost c.close.ensures.done c.write_all.ensures.ok words c.reserve.ensures.held e (differ 0 7 (omega arith)) in
    followed_of asked span left after held taken a is text.0 answers text.1

pub returns-clause-reported : goal.returns-clause-reported
returns-clause-reported g c = λ is e.
    let a = c.in-Ok-judge.judged.0 in
    let span = span_between g.C.Clock.least g.C.Clock.readings c.args.clock c.in-Ok-judge.judged.1 in
    let left = g.S.Source.left c.args.source.now in
    let after = g.S.Source.left c.judge.new.source in
    let held = g.K.Sink.held c.args.sink.now in
    let taken = g.K.Sink.held c.write_all.new.sink in
    let asked = command_in (map string_bytes c.args.words.now) in
    let answers : AnswersTo asked span left after a = subst (λ q. AnswersTo q span left after a) c.in-Ok.ensures.command (c.in-Ok-judge.ensures.answers c.in-Ok-judge.judged refl) in
    let words : c.as_slice.result.now ≡ answer_text a = search rules in
    let text = whole_text c.write_all.result c.is_ok-written.result c.close.result.status 0 a held (g.K.Sink.held c.reserve.new.self) taken c.as_slice.result.now c.is_ok-written.ensures.value c.close.ensures.lost c.close.ensures.done c.write_all.ensures.ok words c.reserve.ensures.held e (differ 0 7 (omega arith)) in
    reported_of asked span left after held taken a is text.0 answers text.1

pub returns-clause-rejected : goal.returns-clause-rejected
returns-clause-rejected g c = λ e.
    let a = c.in-Ok-judge.judged.0 in
    let span = span_between g.C.Clock.least g.C.Clock.readings c.args.clock c.in-Ok-judge.judged.1 in
    let left = g.S.Source.left c.args.source.now in
    let after = g.S.Source.left c.judge.new.source in
    let held = g.K.Sink.held c.args.sink.now in
    let taken = g.K.Sink.held c.write_all.new.sink in
    let asked = command_in (map string_bytes c.args.words.now) in
    let answers : AnswersTo asked span left after a = subst (λ q. AnswersTo q span left after a) c.in-Ok.ensures.command (c.in-Ok-judge.ensures.answers c.in-Ok-judge.judged refl) in
    let words : c.as_slice.result.now ≡ answer_text a = search rules in
    let text = whole_text c.write_all.result c.is_ok-written.result c.close.result.status 10 a held (g.K.Sink.held c.reserve.new.self) taken c.as_slice.result.now c.is_ok-written.ensures.value c.close.ensures.lost c.close.ensures.done c.write_all.ensures.ok words c.reserve.ensures.held e (λ z. differ 7 10 (omega arith) (sym z)) in
    rejected_of asked span left after held taken a text.0 answers text.1
