-- The text, the status and the journal of an answer, and when the answer is right.
use Rattle.std.specs.Prelude.{◌≡◌, ◌<◌, ◌≤◌, ◌⊎◌, ℕ, zero, suc, List, [], ◌++◌, length, codes, cond, true, Option, Some, None}
use Rattle.ca_term.specs.declared.event.Ending.{Ending}
use Rattle.ca_term.specs.declared.event.Ending.TheVariants.{Ended as EndedEnding, Faulted as FaultedEnding}
use Rattle.ca_term.specs.declared.fault.Fault.{Fault}
use Rattle.ca_term.specs.declared.place.Place.{Place}
use Rattle.ca_term.specs.Event.{EventView, over}
use Rattle.ca_term.specs.Program.{ProgramView, program_view}
use Rattle.ca_meaning.specs.Journal.{journal_text}
use Rattle.ca_meaning.specs.Texts.{output, fault_line}
use Rattle.ca_meaning.specs.Legal.{Legal}
use Rattle.ca_meaning.specs.Ends.{RunEnd, ended, faulted, limit, stuck, HasEnd}
use Rattle.ca_reader.specs.Kind.{kind_name}
use Rattle.ca_derived.specs.Kind.{forms_error_name as forms_kind_name}
use Rattle.ca_forms.specs.Kind.{check_error_name as check_kind_name}
use Rattle.ca_words.specs.declared.command.Command.{Command}
use Rattle.ca_words.specs.declared.command.Command.TheVariants.{Check, Follow, Load, Run, Replay, Report}
use Rattle.ca_table.specs.Moments.{KeepsTime}
use Rattle.ca_pool.specs.PoolEnds.{IsSolo}
use Rattle.ca_run.specs.declared.run.ScriptRun.{ScriptRun}
use Rattle.ca_run.specs.declared.run.ScriptEnd.{ScriptEnd}
use Rattle.ca_run.specs.declared.run.ScriptEnd.TheVariants.{Ended, Faulted, Limit, Stuck}
use Rattle.ca_run.specs.declared.answer.Answer.{Answer}
use Rattle.ca_run.specs.declared.answer.Answer.TheVariants.{Usage, Refused, Accepted, Ran, Found}
use Rattle.ca_run.specs.declared.answer.Refusal.{Refusal}
use Rattle.ca_run.specs.declared.answer.Scripted.{Scripted}
use Rattle.ca_run.specs.declared.answer.Refusal.TheVariants.{TooLong, Unreadable, Underived, Unchecked}
use Rattle.ca_journal.specs.declared.journal.Journal.{Journal}
use Rattle.ca_journal.specs.Events.{events}
use Rattle.ca_run.specs.Findings.{finding_status, finding_text, IsFinding}
use Rattle.ca_run.specs.Inputs.{greatest_input, greatest_length, HasProgram, ProgramOf, ReadWhole}
use Rattle.ca_run.specs.Marker.{IsParted}
use Rattle.ca_run.specs.Top.{ClockSpan, budget_of, judges, runs_script, shows_journal, usage, error_line, first_place, RefusedFor, RunOf, EndLine, workers_of, Refused as RefusedFrom, Accepted as AcceptedFrom, Ran as RanFrom}

abbrev pub refusal_line : Refusal → List ℕ
refusal_line TooLong = error_line (codes "TooLong") first_place
refusal_line (Unreadable k p) = error_line (kind_name k) p
refusal_line (Underived k p) = error_line (forms_kind_name k) p
refusal_line (Unchecked k p) = error_line (check_kind_name k) p

-- the end that a run has come to, and the line that tells it
abbrev pub end_shown : ScriptEnd → RunEnd
end_shown Ended = ended
end_shown (Faulted fault place) = faulted
end_shown Limit = limit
end_shown Stuck = stuck

abbrev pub line_of_end : ScriptEnd → List ℕ
line_of_end Ended = []
line_of_end (Faulted fault place) = fault_line fault place
line_of_end Limit = codes "budget\n"
line_of_end Stuck = codes "stuck\n"

-- the fault of the main text that an event tells
abbrev pub main_fault_by : ℕ → Ending → Option (Fault × Place)
main_fault_by zero EndedEnding = None
main_fault_by zero (FaultedEnding fault place result) = Some (fault, place)
main_fault_by (suc t) how = None

abbrev pub main_fault : EventView → Option (Fault × Place)
main_fault (over t how) = main_fault_by t how
main_fault e = None

abbrev pub answer_text : Answer → List ℕ
answer_text Usage = usage
answer_text (Refused r) = refusal_line r
answer_text Accepted = codes "ok\n"
answer_text (Ran m shown) = output (events m.journal) ++ (cond shown (journal_text (events m.journal)) [] ++ line_of_end m.end)
answer_text (Found f) = finding_text f

abbrev pub status_of_end : ScriptEnd → ℕ
status_of_end Ended = 0
status_of_end (Faulted fault place) = 3
status_of_end Limit = 5
status_of_end Stuck = 4

abbrev pub status_of : Answer → ℕ
status_of Usage = 1
status_of (Refused r) = 2
status_of Accepted = 0
status_of (Ran m shown) = status_of_end m.end
status_of (Found f) = finding_status f

abbrev pub journal_of : Answer → Option Journal
journal_of Usage = None
journal_of (Refused r) = None
journal_of Accepted = None
journal_of (Ran m shown) = Some m.journal
journal_of (Found f) = None

-- an answer without a run
abbrev pub RunsNothing : Answer → Type 0
RunsNothing Usage = Unit {0}
RunsNothing (Refused r) = Unit {0}
RunsNothing Accepted = Unit {0}
RunsNothing (Ran m shown) = ⊥
RunsNothing (Found f) = Unit {0}

-- The run of the program has come to that end for the budget, which its line tells. Its moments are answers of the clock
-- in that span; with one worker it is the schedule's over them.
pub record IsScriptRun (workers budget : ℕ) (span : ClockSpan) (program : ProgramView) (m : ScriptRun) : Type 0 where
  pub legal : Legal program (events m.journal)
  pub has_end : HasEnd program budget (events m.journal) (end_shown m.end)
  pub told : EndLine (events m.journal) (end_shown m.end) (line_of_end m.end)
  pub moments : KeepsTime (events m.journal) span.least span.before span.after
  pub solo : workers ≡ 1 → IsSolo program (events m.journal) span.least span.before span.after

-- its workers and its budget are such as words can ask for
abbrev pub IsFit : Command → Type 0
IsFit (Run workers budget journal) = ((0 < workers) × (workers ≤ 16)) × (0 < budget)
IsFit Check = Unit {0}
IsFit (Load n workers) = (0 < workers) × (workers ≤ 16)
IsFit Replay = Unit {0}
IsFit Follow = Unit {0}
IsFit Report = Unit {0}

-- what a program comes to under a command, with the clock in that span where it runs
abbrev pub JudgedProgram : Command → ClockSpan → ProgramView → Answer → Type 0
JudgedProgram command span program Usage = ⊥
JudgedProgram command span program (Refused r) = ⊥
JudgedProgram command span program Accepted = command ≡ Check
JudgedProgram command span program (Found f) = ⊥
JudgedProgram command span program (Ran m shown) = (runs_script command ≡ true) × (shown ≡ shows_journal command) × IsScriptRun (workers_of command) (budget_of command) span program m

-- a text's program, or the line with which it is refused
abbrev pub IsScripted : List ℕ → Scripted → Type 0
IsScripted input (Scripted.Program program) = ProgramOf input (program_view program)
IsScripted input (Scripted.Refused r) = RefusedFor input (refusal_line r)

-- what an input of a script and a journal is refused for
abbrev pub RefusedPart : List ℕ → List ℕ → Type 0
RefusedPart input line = (script : List ℕ) × (journal : List ℕ) × IsParted input script journal
    × (((greatest_length < length script) × (line ≡ error_line (codes "TooLong") first_place)) ⊎ ((length script ≤ greatest_length) × RefusedFor script line))

-- what it comes to
abbrev pub JudgedInput : Command → List ℕ → Answer → Type 0
JudgedInput command input Usage = ⊥
JudgedInput command input (Refused r) = RefusedPart input (refusal_line r)
JudgedInput command input Accepted = ⊥
JudgedInput command input (Ran m shown) = ⊥
JudgedInput command input (Found f) = IsFinding command input f

-- what a text comes to under a command
abbrev pub Judged : Command → ClockSpan → List ℕ → Answer → Type 0
Judged command span input Usage = ⊥
Judged command span input (Refused r) = RefusedFor input (refusal_line r)
Judged command span input Accepted = (command ≡ Check) × HasProgram input
Judged command span input (Found f) = ⊥
Judged command span input (Ran m shown) = (runs_script command ≡ true) × (shown ≡ shows_journal command) × RunOf (workers_of command) (budget_of command) span input (events m.journal) (end_shown m.end) × EndLine (events m.journal) (end_shown m.end) (line_of_end m.end)

-- what the words and the source come to
abbrev pub AnswersTo : Option Command → ClockSpan → Option (List ℕ) → Option (List ℕ) → Answer → Type 0
AnswersTo None span before after Usage = Unit {0}
AnswersTo None span before after (Refused r) = ⊥
AnswersTo None span before after Accepted = ⊥
AnswersTo None span before after (Ran m shown) = ⊥
AnswersTo None span before after (Found f) = ⊥
AnswersTo (Some c) span before after Usage = ⊥
AnswersTo (Some c) span before after (Refused r) = RefusedFrom c before after (refusal_line r)
AnswersTo (Some c) span before after Accepted = (c ≡ Check) × AcceptedFrom before after
AnswersTo (Some c) span before after (Ran m shown) = (runs_script c ≡ true) × (shown ≡ shows_journal c) × RanFrom c span before after (events m.journal) (end_shown m.end)
    × EndLine (events m.journal) (end_shown m.end) (line_of_end m.end)
AnswersTo (Some c) span before after (Found f) = (judges c ≡ true) × ((input : List ℕ) × ReadWhole greatest_input before after input × IsFinding c input f)
