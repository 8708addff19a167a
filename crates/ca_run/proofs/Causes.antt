-- What a run's clock and a script have to do with how a call ends.
use Rattle.std.proofs.Common.{◌≡◌, ℕ, ◌⊎◌, List, [], Option, Some, None, Bool, false, sym, subst, ◌∙◌, arith, inl, inr}
use Rattle.ca_journal.specs.declared.journal.Journal.{Journal}
use Rattle.ca_meaning.specs.Solo.{NoTimeouts}
use Rattle.ca_meaning.proofs.Unasked.{unasked}
use Rattle.ca_journal.specs.Events.{events}
use Rattle.ca_table.specs.Moments.{ToldWentOn}
use Rattle.ca_pool.specs.PoolEnds.{IsSolo}
use Rattle.ca_term.specs.Program.{ProgramView}
use Rattle.ca_term.specs.Event.{EventView}
use Rattle.ca_words.specs.declared.command.Command.{Command}
use Rattle.ca_run.specs.declared.run.ScriptRun.{ScriptRun}
use Rattle.ca_run.specs.declared.answer.Answer.{Answer}
use Rattle.ca_run.specs.declared.answer.Answer.TheVariants.{Usage, Refused, Accepted, Ran, Found}
use Rattle.ca_run.specs.Top.{ClockSpan, ToldNothing, reads_source, workers_of}
use Rattle.ca_run.specs.Answers.{AnswersTo, RunsNothing, journal_of}
use Rattle.ca_run.proofs.Finishes.{same_command}
use Rattle.ca_run.proofs.Lawful.{no_journal, same_journal}

told_none : (program : ProgramView) (journal : List EventView) (least : ℕ) (before after : Option (List ℕ)) → IsSolo program journal least before after → NoTimeouts journal → ToldWentOn [] before after
told_none program journal least before after solo none = subst (λ answers. ToldWentOn answers before after) (unasked program solo.answers journal solo.solo none) solo.told

silent_run : (c : Command) (span : ClockSpan) (before after : Option (List ℕ)) (m : ScriptRun) (shown : Bool) → AnswersTo (Some c) span before after (Ran m shown) → NoTimeouts (events m.journal) → ToldNothing (Some c) (Some span)
silent_run c span before after m shown h none d e one =
    let run = h.2.2 in
    told_none run.program (events m.journal) span.least span.before span.after (run.solo (subst (λ (x : Command). workers_of x ≡ 1) (sym (same_command c d e)) one)) none

silent_for : (asked : Option Command) (span : ClockSpan) (before after : Option (List ℕ)) (m : ScriptRun) (shown : Bool) → AnswersTo asked span before after (Ran m shown) → NoTimeouts (events m.journal) → ToldNothing asked (Some span)
silent_for None span before after m shown h none = absurd h
silent_for (Some c) span before after m shown h none = silent_run c span before after m shown h none

-- a run of one worker that makes no timeout is told nothing by the clock
pub silent_of : (asked : Option Command) (span : ClockSpan) (before after : Option (List ℕ)) (a : Answer) (j : Journal) → AnswersTo asked span before after a → journal_of a ≡ Some j → NoTimeouts (events j) → ToldNothing asked (Some span)
silent_of asked span before after Usage j h e none = no_journal j e
silent_of asked span before after (Refused r) j h e none = no_journal j e
silent_of asked span before after Accepted j h e none = no_journal j e
silent_of asked span before after (Found f) j h e none = no_journal j e
silent_of asked span before after (Ran m shown) j h e none = silent_for asked span before after m shown h (subst (λ x. NoTimeouts (events x)) (sym (same_journal m.journal j e)) none)

-- an answer without a journal is none of a run
pub without_run : (a : Answer) → journal_of a ≡ None → RunsNothing a
without_run Usage e = tt
without_run (Refused r) e = tt
without_run Accepted e = tt
without_run (Found f) e = tt
without_run (Ran m shown) e = absurd (let z : Some m.journal ≡ None = e in cc)

-- where the source stays as it is unless a script is to be read, it does for a command that reads none
pub read_nothing : {P : Type 0} (asked o : Option Command) (c : Command) → o ≡ asked → (((d : Command) → o ≡ Some d → reads_source d ≡ false) → P) → asked ≡ Some c → reads_source c ≡ false → P
read_nothing asked o c same unread is silent = unread (λ d e. subst (λ (x : Command). reads_source x ≡ false) (same_command c d (sym is ∙ sym same ∙ e)) silent)

-- status 8 is none of these
pub not_eight : {G : Type 0} (s : ℕ) → s ≡ 8 → (s ≡ 1) ⊎ ((s ≡ 2) ⊎ (s ≡ 6)) → G
not_eight s e (inl k) = absurd (omega (arith, e, k))
not_eight s e (inr (inl k)) = absurd (omega (arith, e, k))
not_eight s e (inr (inr k)) = absurd (omega (arith, e, k))
