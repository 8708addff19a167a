-- What the top call answers.
use Rattle.std.specs.Prelude.{◌≡◌, ℕ, suc, ◌<◌, ◌≤◌, ◌⊎◌, List, [], ◌∷◌, ◌++◌, length, take, codes, decimal, cond, Bool, true, false, Option, Some, None, Ok, Err, MatchOption, option_map}
use Rattle.std.specs.Io.KnownBytes.{Consumes, Appends, IsAtEnd}
use Rattle.ca_value.specs.declared.value.PortId.{PortId}
use Rattle.ca_term.specs.declared.place.Place.{Place}
use Rattle.ca_term.specs.declared.fault.Fault.{Fault as FaultKind}
use Rattle.ca_term.specs.declared.event.Ending.TheVariants.{Faulted}
use Rattle.ca_term.specs.Program.{ProgramView}
use Rattle.ca_term.specs.Event.{EventView, over}
use Rattle.ca_meaning.specs.Legal.{Legal}
use Rattle.ca_meaning.specs.Ends.{RunEnd, ended, faulted, limit, stuck, HasEnd, EndsWith}
use Rattle.ca_meaning.specs.Journal.{journal_text}
use Rattle.ca_meaning.specs.Texts.{output, fault_line}
use Rattle.ca_timers.specs.Causes.{Rose}
use Rattle.ca_reader.specs.declared.error.ReadErrorKind.{ReadErrorKind}
use Rattle.ca_reader.specs.Form.{FormTrees}
use Rattle.ca_reader.specs.Kind.{kind_name}
use Rattle.ca_reader.specs.Reads.{Reads, ReadFault}
use Rattle.ca_derived.specs.declared.error.FormsErrorKind.{FormsErrorKind}
use Rattle.ca_derived.specs.Kind.{forms_error_name as forms_kind_name}
use Rattle.ca_derived.specs.Outcome.{made, refused}
use Rattle.ca_derived.specs.Expand.{expand}
use Rattle.ca_forms.specs.declared.error.CheckErrorKind.{CheckErrorKind}
use Rattle.ca_forms.specs.Kind.{check_error_name as check_kind_name}
use Rattle.ca_check.specs.Expansion.{expansion_of}
use Rattle.ca_words.specs.declared.command.Command.{Command}
use Rattle.ca_words.specs.declared.command.Command.TheVariants.{Check, Follow, Load, Run, Replay, Report}
use Rattle.ca_journal.specs.declared.journal.Journal.{Journal}
use Rattle.ca_journal.specs.Events.{events}
use Rattle.ca_sealed.specs.KeepsLaws.{KeepsLaws}
use Rattle.ca_table.specs.Moments.{KeepsTime, ToldWentOn}
use Rattle.ca_pool.specs.PoolEnds.{IsSolo}
use Rattle.ca_run.specs.Findings.{CommandFinds}
use Rattle.ca_run.specs.Generator.{load_text}
use Rattle.ca_run.specs.Inputs.{greatest_input, greatest_length, Derives, HasProgram, ProgramOf, ReadWhole}
use Rattle.ca_run.specs.Marker.{IsParted}

-- what the events of a run may cost together; a run of the generator's script may cost the most that can be asked for
abbrev pub budget_of : Command → ℕ
budget_of (Run workers budget journal) = budget
budget_of Check = 0
budget_of (Load n workers) = 4_000_000
budget_of Replay = 0
budget_of Follow = 0
budget_of Report = 0

-- how many workers run it
abbrev pub workers_of : Command → ℕ
workers_of (Run workers budget journal) = workers
workers_of Check = 0
workers_of (Load n workers) = workers
workers_of Replay = 0
workers_of Follow = 0
workers_of Report = 0

-- a script is run, and not only checked
abbrev pub runs_script : Command → Bool
runs_script (Run workers budget journal) = true
runs_script Check = false
runs_script (Load n workers) = true
runs_script Replay = false
runs_script Follow = false
runs_script Report = false

-- its script is read from the source
abbrev pub reads_source : Command → Bool
reads_source (Run workers budget journal) = true
reads_source Check = true
reads_source (Load n workers) = false
reads_source Replay = true
reads_source Follow = true
reads_source Report = true

-- a journal is read behind the script, to be judged
abbrev pub judges : Command → Bool
judges (Run workers budget journal) = false
judges Check = false
judges (Load n workers) = false
judges Replay = true
judges Follow = true
judges Report = true

-- the journal follows what the run prints
abbrev pub shows_journal : Command → Bool
shows_journal (Run workers budget journal) = journal
shows_journal Check = false
shows_journal (Load n workers) = false
shows_journal Replay = false
shows_journal Follow = false
shows_journal Report = false

-- A clock that a call was given and hands back: the moment that no answer of it lies below, and what it had told of its
-- answers before and has told after.
pub record ClockSpan : Type 0 where
  pub least : ℕ
  pub before : Option (List ℕ)
  pub after : Option (List ℕ)

-- of a clock as it was first and as it was last
abbrev pub span_between : {C : Type 0} → (C → ℕ) → (C → Option (List ℕ)) → C → C → ClockSpan
span_between least readings first last = record { least = least first; before = readings first; after = readings last }

-- over a call that hands it back
abbrev pub span_of : {C : Type 0} → (C → ℕ) → (C → Option (List ℕ)) → C → Option C → Option ClockSpan
span_of least readings first last = option_map (span_between least readings first) last

-- The events are a run of the text's program, which came to that end for the budget. Their moments are answers of the
-- clock in that span, and never fall. With one worker they are the run of the stated schedule over these answers.
pub record RunOf (workers budget : ℕ) (span : ClockSpan) (input : List ℕ) (journal : List EventView) (end : RunEnd) : Type 0 where
  pub program : ProgramView
  pub is_program : ProgramOf input program
  pub legal : Legal program journal
  pub has_end : HasEnd program budget journal end
  pub moments : KeepsTime journal span.least span.before span.after
  pub solo : workers ≡ 1 → IsSolo program journal span.least span.before span.after

-- the line that tells of an end
abbrev pub EndLine : List EventView → RunEnd → List ℕ → Type 0
EndLine journal ended line = line ≡ []
EndLine journal faulted line = (fault : FaultKind) × (place : Place) × (result : Option PortId)
    × EndsWith journal (over 0 (Faulted fault place result)) × (line ≡ fault_line fault place)
EndLine journal limit line = line ≡ codes "budget\n"
EndLine journal stuck line = line ≡ codes "stuck\n"

-- what was read is parted at its first marker line
abbrev pub ReadParts : Option (List ℕ) → Option (List ℕ) → List ℕ → List ℕ → Type 0
ReadParts before after script journal = (input : List ℕ) × ReadWhole greatest_input before after input × IsParted input script journal

-- the part before the marker line, which is no longer than a script may be
abbrev pub ReadPart : Option (List ℕ) → Option (List ℕ) → List ℕ → Type 0
ReadPart before after script = (journal : List ℕ) × ReadParts before after script journal × (length script ≤ greatest_length)

-- the script of a command: what was read, or its part before the marker line, or the generator's, for which nothing is read
abbrev pub GivenScript : Command → Option (List ℕ) → Option (List ℕ) → List ℕ → Type 0
GivenScript (Run workers budget journal) before after script = ReadWhole greatest_length before after script
GivenScript Check before after script = ReadWhole greatest_length before after script
GivenScript (Load n workers) before after script = (after ≡ before) × (script ≡ load_text n)
GivenScript Replay before after script = ReadPart before after script
GivenScript Follow before after script = ReadPart before after script
GivenScript Report before after script = ReadPart before after script

-- the events are a run of the command's script, with the clock in that span
abbrev pub Ran : Command → ClockSpan → Option (List ℕ) → Option (List ℕ) → List EventView → RunEnd → Type 0
Ran command span before after journal end = (input : List ℕ) × GivenScript command before after input × RunOf (workers_of command) (budget_of command) span input journal end

-- the events are a run of the command's script, and keep the laws that each run of its program keeps
abbrev pub IsLawful : Option Command → Option (List ℕ) → Option (List ℕ) → List EventView → Type 0
IsLawful asked before after journal =
    (command : Command) × (input : List ℕ) × (program : ProgramView) × (asked ≡ Some command) × GivenScript command before after input × ProgramOf input program × Legal program journal × KeepsLaws program journal

-- what was read is a script that has a program
abbrev pub Accepted : Option (List ℕ) → Option (List ℕ) → Type 0
Accepted before after = (input : List ℕ) × ReadWhole greatest_length before after input × HasProgram input

-- a command that reads its script was asked for
abbrev pub ReadsScript : Option Command → Type 0
ReadsScript asked = (command : Command) × (asked ≡ Some command) × (reads_source command ≡ true)

-- a command that judges a journal was asked for
abbrev pub JudgesJournal : Option Command → Type 0
JudgesJournal asked = (command : Command) × (asked ≡ Some command) × (judges command ≡ true)

-- a command that runs its script was asked for, and this has a program
abbrev pub RunsScript : Option Command → Option (List ℕ) → Option (List ℕ) → Type 0
RunsScript asked before after = (command : Command) × (input : List ℕ) × (asked ≡ Some command) × (runs_script command ≡ true) × GivenScript command before after input × HasProgram input

-- a line that names an error and its place
abbrev pub error_line : List ℕ → Place → List ℕ
error_line name p = codes "error " ++ (name ++ (codes " at " ++ (decimal p.line ++ (58 ∷ (decimal p.column ++ 10 ∷ [])))))

abbrev pub first_place : Place
first_place = record { line = 1; column = 1 }

-- the line names the first fault of the text
abbrev pub IsUnreadable : List ℕ → List ℕ → Type 0
IsUnreadable input line = (k : ReadErrorKind) × (p : Place) × ReadFault input k p × (line ≡ error_line (kind_name k) p)

-- the line names the first error of the words that are expanded
abbrev pub IsUnderived : List ℕ → List ℕ → Type 0
IsUnderived input line = (forms : FormTrees) × (k : FormsErrorKind) × (p : Place) × Reads input forms × (expand forms ≡ refused k p)
    × (line ≡ error_line (forms_kind_name k) p)

-- the line names the first error of its derived forms
abbrev pub IsMistaken : List ℕ → List ℕ → Type 0
IsMistaken input line = (derived : FormTrees) × (k : CheckErrorKind) × (p : Place) × Derives input derived × (expansion_of derived ≡ Err (k, p))
    × (line ≡ error_line (check_kind_name k) p)

-- the text is refused with this line
abbrev pub RefusedFor : List ℕ → List ℕ → Type 0
RefusedFor input line = IsUnreadable input line ⊎ (IsUnderived input line ⊎ IsMistaken input line)

-- the source was longer than so many bytes, and was read to one byte past them
abbrev pub IsTooLong : ℕ → Option (List ℕ) → Option (List ℕ) → List ℕ → Type 0
IsTooLong most before after line = (input : List ℕ) × Consumes before after input × (length input ≡ suc most) × (line ≡ error_line (codes "TooLong") first_place)

-- the part before the marker line is longer than a script may be
abbrev pub IsLongPart : Option (List ℕ) → Option (List ℕ) → List ℕ → Type 0
IsLongPart before after line = (script : List ℕ) × (journal : List ℕ) × ReadParts before after script journal × (greatest_length < length script) × (line ≡ error_line (codes "TooLong") first_place)

-- the command's script is refused with this line
abbrev pub IsScriptRefused : Command → Option (List ℕ) → Option (List ℕ) → List ℕ → Type 0
IsScriptRefused command before after line = (input : List ℕ) × GivenScript command before after input × RefusedFor input line

-- what was read is refused with this line: it or its script is too long, or it is the whole source and its script is refused
abbrev pub Refused : Command → Option (List ℕ) → Option (List ℕ) → List ℕ → Type 0
Refused (Run workers budget journal) before after line = IsTooLong greatest_length before after line ⊎ IsScriptRefused (Run workers budget journal) before after line
Refused Check before after line = IsTooLong greatest_length before after line ⊎ IsScriptRefused Check before after line
Refused (Load n workers) before after line = IsScriptRefused (Load n workers) before after line
Refused Replay before after line = IsTooLong greatest_input before after line ⊎ (IsLongPart before after line ⊎ IsScriptRefused Replay before after line)
Refused Follow before after line = IsTooLong greatest_input before after line ⊎ (IsLongPart before after line ⊎ IsScriptRefused Follow before after line)
Refused Report before after line = IsTooLong greatest_input before after line ⊎ (IsLongPart before after line ⊎ IsScriptRefused Report before after line)

-- the line that says which words are admitted
abbrev pub usage : List ℕ
usage = codes "usage: run [--workers N] [--budget N] [--journal] / check / load N [--workers N] / replay / follow / report\n"

-- What a run writes: what it prints, its journal where that is asked for, and the line of its end.
abbrev pub RunText : Bool → List EventView → RunEnd → List ℕ → Type 0
RunText shown journal end text = (line : List ℕ) × EndLine journal end line × (text ≡ output journal ++ (cond shown (journal_text journal) [] ++ line))

-- A run of the command's script came to that end; its journal and the clock are handed back, and its whole text was taken.
abbrev pub Completed : Command → Option (List ℕ) → Option (List ℕ) → Option (List ℕ) → Option (List ℕ) → Option ClockSpan → Option Journal → RunEnd → Type 0
Completed command before after held taken clock journal end = MatchOption clock ⊥ (λ span. MatchOption journal ⊥ (λ j.
    Ran command span before after (events j) end × ((text : List ℕ) × RunText (shows_journal command) (events j) end text × Appends held taken text)))

-- the same of the command that was asked for, which runs a script
abbrev pub CompletedFor : Option Command → Option (List ℕ) → Option (List ℕ) → Option (List ℕ) → Option (List ℕ) → Option ClockSpan → Option Journal → RunEnd → Type 0
CompletedFor asked before after held taken clock journal end = (command : Command) × (asked ≡ Some command) × (runs_script command ≡ true) × Completed command before after held taken clock journal end

-- what was read whole is told this of
abbrev pub FindsWhole : Command → Option (List ℕ) → Option (List ℕ) → List ℕ → Type 0
FindsWhole command before after text = (input : List ℕ) × ReadWhole greatest_input before after input × CommandFinds command input text

-- the text of an answer without a run: the usage line, a refusal's, that of a script that is accepted, or what is found of a journal
abbrev pub ToldText : Option Command → Option (List ℕ) → Option (List ℕ) → List ℕ → Type 0
ToldText None before after text = text ≡ usage
ToldText (Some command) before after text = Refused command before after text ⊎ (((command ≡ Check) × Accepted before after × (text ≡ codes "ok\n")) ⊎ FindsWhole command before after text)

-- What was read whole is such that this line is right, which was taken.
abbrev pub Writes : (List ℕ → List ℕ → Type 0) → Option (List ℕ) → Option (List ℕ) → Option (List ℕ) → Option (List ℕ) → Type 0
Writes IsRight before after held taken = (input : List ℕ) × (line : List ℕ) × ReadWhole greatest_input before after input × IsRight input line × Appends held taken line

-- a prefix of a text was taken: that of a run, whose journal and clock are handed back, or another with no journal
pub record Partly (command : Option Command) (before after held taken : Option (List ℕ)) (clock : Option ClockSpan) (journal : Option Journal) : Type 0 where
  pub text : List ℕ
  pub count : ℕ
  pub prefix : Appends held taken (take count text)
  pub source : MatchOption journal (ToldText command before after text)
      (λ j. (c : Command) × (command ≡ Some c) × ((span : ClockSpan) × (clock ≡ Some span) × ((end : RunEnd) × Ran c span before after (events j) end × RunText (shows_journal c) (events j) end text)))

-- with one worker, the clock told no answer in its span
abbrev pub ToldNothing : Option Command → Option ClockSpan → Type 0
ToldNothing asked clock = (command : Command) → asked ≡ Some command → workers_of command ≡ 1 → MatchOption clock ⊥ (λ span. ToldWentOn [] span.before span.after)

-- the count of a device's faults did not rise
abbrev pub IsSteady : ℕ → ℕ → Type 0
IsSteady before after = Rose before after → ⊥

-- neither the source's did, nor the sink's, nor that of a clock that is handed back
pub record NoneRose (source source2 sink sink2 clock : ℕ) (clock2 : Option ℕ) : Type 0 where
  pub source_steady : IsSteady source source2
  pub sink_steady : IsSteady sink sink2
  pub clock_steady : MatchOption clock2 (Unit {0}) (λ now. IsSteady clock now)

-- all that the source has to give is told, and is a script: it is no longer than one may be, and has a program
abbrev pub IsScript : Option (List ℕ) → Type 0
IsScript left = (input : List ℕ) × (left ≡ Some input) × (length input ≤ greatest_length) × HasProgram input

-- it is a script and a journal, with a marker line between them; neither it nor the script is longer than one may be, and this has a program
abbrev pub IsParts : Option (List ℕ) → Type 0
IsParts left = (input : List ℕ) × (script : List ℕ) × (journal : List ℕ) × (left ≡ Some input) × (length input ≤ greatest_input) × IsParted input script journal
    × (length script ≤ greatest_length) × HasProgram script

-- the text that a command is to be done on is told, and is a script: what the source has to give, or the generator's
abbrev pub HasScript : Command → Option (List ℕ) → Type 0
HasScript (Run workers budget journal) left = IsScript left
HasScript Check left = IsScript left
HasScript (Load n workers) left = HasProgram (load_text n)
HasScript Replay left = IsParts left
HasScript Follow left = IsParts left
HasScript Report left = IsParts left

-- the statuses of an accepted script: those of a run's ends, that of a check, or those of what is found of a journal
abbrev pub IsAcceptedStatus : Command → ℕ → Type 0
IsAcceptedStatus (Run workers budget journal) status = (status ≡ 0) ⊎ (3 ≤ status × status ≤ 5)
IsAcceptedStatus Check status = status ≡ 0
IsAcceptedStatus (Load n workers) status = (status ≡ 0) ⊎ (3 ≤ status × status ≤ 5)
IsAcceptedStatus Replay status = (status ≡ 0) ⊎ (status ≡ 10)
IsAcceptedStatus Follow status = (status ≡ 0) ⊎ (status ≡ 10)
IsAcceptedStatus Report status = (status ≡ 0) ⊎ (status ≡ 10)

-- The status where no device failed: with other words than a command's it is 1, with a command's that of an accepted
-- script, or 2, but not where it is told that there is such a script; or there was not the memory, and it is 8.
abbrev pub IsComplete : Option Command → Option (List ℕ) → ℕ → Type 0
IsComplete None left status = (status ≡ 1) ⊎ (status ≡ 8)
IsComplete (Some command) left status = IsAcceptedStatus command status ⊎ (((status ≡ 2) × (HasScript command left → ⊥)) ⊎ (status ≡ 8))
