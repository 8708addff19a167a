-- A journal that is handed back is a run of an accepted script, and keeps its laws.
use Rattle.std.proofs.Common.{◌≡◌, ℕ, List, Bool, Option, Some, None, Ok, refl, subst}
use Rattle.ca_term.specs.Event.{EventView}
use Rattle.ca_term.specs.Program.{ProgramView}
use Rattle.ca_meaning.specs.Ends.{RunEnd}
use Rattle.ca_meaning.specs.Legal.{Legal}
use Rattle.ca_journal.specs.declared.journal.Journal.{Journal}
use Rattle.ca_journal.specs.Events.{events}
use Rattle.ca_sealed.specs.KeepsLaws.{KeepsLaws}
use Rattle.ca_words.specs.declared.command.Command.{Command}
use Rattle.ca_run.specs.declared.run.ScriptRun.{ScriptRun}
use Rattle.ca_run.specs.declared.answer.Answer.{Answer}
use Rattle.ca_run.specs.declared.answer.Answer.TheVariants.{Usage, Refused, Accepted, Ran, Found}
use Rattle.ca_run.specs.Answers.{AnswersTo, journal_of}
use Rattle.ca_run.specs.Inputs.{ProgramOf}
use Rattle.ca_run.specs.Top.{ClockSpan, IsLawful, Ran as RanFrom}

-- the law of each program that a script has
abbrev KeepAll : Type 0
KeepAll = (input : List ℕ) (program : ProgramView) → ProgramOf input program → (journal : List EventView) → Legal program journal → KeepsLaws program journal

ran : KeepAll → (c : Command) (span : ClockSpan) (before after : Option (List ℕ)) (journal : List EventView) (end : RunEnd) → RanFrom c span before after journal end → IsLawful (Some c) before after journal
ran keep c span before after journal end r =
    let run = r.2 in
    (c, r.0, run.program, refl, r.1, run.is_program, run.legal, keep r.0 run.program run.is_program journal run.legal)

ran_for : KeepAll → (asked : Option Command) (span : ClockSpan) (before after : Option (List ℕ)) (m : ScriptRun) (shown : Bool) → AnswersTo asked span before after (Ran m shown) → IsLawful asked before after (events m.journal)
ran_for keep None span before after m shown h = absurd h
ran_for keep (Some c) span before after m shown h = ran keep c span before after (events m.journal) _ h.2

pub no_journal : {G : Type 0} (j : Journal) → None ≡ Some j → G
no_journal j e = cc

pub same_journal : (i j : Journal) → Some i ≡ Some j → i ≡ j
same_journal i j e = cc

pub lawful_of : KeepAll → (asked : Option Command) (span : ClockSpan) (before after : Option (List ℕ)) (a : Answer) (j : Journal) → AnswersTo asked span before after a → journal_of a ≡ Some j → IsLawful asked before after (events j)
lawful_of keep asked span before after Usage j h e = no_journal j e
lawful_of keep asked span before after (Refused r) j h e = no_journal j e
lawful_of keep asked span before after Accepted j h e = no_journal j e
lawful_of keep asked span before after (Ran m shown) j h e = subst (λ x. IsLawful asked before after (events x)) (same_journal m.journal j e) (ran_for keep asked span before after m shown h)
lawful_of keep asked span before after (Found f) j h e = no_journal j e
