-- What replay, follow and report find of an input, which is a script, a marker line and a journal.
use Rattle.std.specs.Prelude.{◌≡◌, ℕ, ◌≤◌, ◌⊎◌, List, [], ◌∷◌, ◌++◌, length, codes, decimal}
use Rattle.ca_value.specs.Seq.{list}
use Rattle.ca_term.specs.Event.{EventView}
use Rattle.ca_term.specs.Program.{ProgramView}
use Rattle.ca_meaning.specs.Legal.{Legal}
use Rattle.ca_meaning.specs.Texts.{output}
use Rattle.ca_journal_reader.specs.Input.{JournalReads, IsBadLine}
use Rattle.ca_replay.specs.declared.replaying.Standing.{Standing}
use Rattle.ca_replay.specs.declared.replaying.Replayed.TheVariants.{Legal as IsLegal}
use Rattle.ca_replay.specs.Verdict.{IsFirstIllegal, IsVerdict}
use Rattle.ca_report.specs.Report.{report_text}
use Rattle.ca_words.specs.declared.command.Command.{Command}
use Rattle.ca_words.specs.declared.command.Command.TheVariants.{Check, Follow, Load, Run, Replay, Report}
use Rattle.ca_run.specs.declared.finding.Finding.{Finding}
use Rattle.ca_run.specs.declared.finding.Finding.TheVariants.{NoJournal, BadLine, IllegalAt, Stands, Written, Lines}
use Rattle.ca_run.specs.Inputs.{greatest_length, ProgramOf}
use Rattle.ca_run.specs.Marker.{IsParted, IsUnparted}

-- the input is parted into a script that is no longer than one may be and has this program, and the text of a journal
pub record IsJournalInput (input : List ℕ) (program : ProgramView) (text : List ℕ) : Type 0 where
  pub script : List ℕ
  pub parted : IsParted input script text
  pub short : length script ≤ greatest_length
  pub is_program : ProgramOf script program

-- and the journal has these events
pub record AsksOf (input : List ℕ) (program : ProgramView) (journal : List EventView) : Type 0 where
  pub text : List ℕ
  pub asks : IsJournalInput input program text
  pub reads : JournalReads text journal

-- a line that ends with a number
abbrev pub numbered_line : List ℕ → ℕ → List ℕ
numbered_line word n = word ++ (decimal n ++ 10 ∷ [])

-- ---- status 10

-- there is no marker line
abbrev pub HasNoJournal : List ℕ → List ℕ → Type 0
HasNoJournal input line = IsUnparted input × (line ≡ codes "no journal\n")

-- that line of the journal is none
abbrev pub HasBadLine : List ℕ → List ℕ → Type 0
HasBadLine input line = (program : ProgramView) × (text : List ℕ) × (k : ℕ) × IsJournalInput input program text × IsBadLine k text × (line ≡ numbered_line (codes "bad line ") k)

-- that event of the journal is the first that no legal run has there
abbrev pub HasIllegal : List ℕ → List ℕ → Type 0
HasIllegal input line =
    (program : ProgramView) × (journal : List EventView) × (k : ℕ) × AsksOf input program journal × IsFirstIllegal program journal k × (line ≡ numbered_line (codes "illegal ") k)

-- the line says what is wrong with the journal
abbrev pub IsRejected : List ℕ → List ℕ → Type 0
IsRejected input line = HasNoJournal input line ⊎ (HasBadLine input line ⊎ HasIllegal input line)

-- ---- status 0

abbrev pub standing_line : Standing → List ℕ
standing_line Standing.Ended = codes "legal ended\n"
standing_line Standing.Faulted = codes "legal faulted\n"
standing_line Standing.Stuck = codes "legal stuck\n"
standing_line Standing.StillOpen = codes "legal open\n"

-- the journal is legal, and the line says how it stands
abbrev pub IsReplayed : List ℕ → List ℕ → Type 0
IsReplayed input line = (program : ProgramView) × (journal : List EventView) × (s : Standing) × AsksOf input program journal × IsVerdict program journal (IsLegal s) × (line ≡ standing_line s)

-- the journal is legal, and the text is what that run writes
abbrev pub IsFollowedText : List ℕ → List ℕ → Type 0
IsFollowedText input text = (program : ProgramView) × (journal : List EventView) × AsksOf input program journal × Legal program journal × (text ≡ output journal)

-- the journal is legal, and the text is the report on it
abbrev pub IsReported : List ℕ → List ℕ → Type 0
IsReported input text = (program : ProgramView) × (journal : List EventView) × AsksOf input program journal × ((legal : Legal program journal) × (text ≡ report_text journal legal.state))

-- what a command that reads a journal tells of an input
abbrev pub CommandFinds : Command → List ℕ → List ℕ → Type 0
CommandFinds (Run workers budget journal) input text = ⊥
CommandFinds Check input text = ⊥
CommandFinds (Load n workers) input text = ⊥
CommandFinds Replay input text = IsRejected input text ⊎ IsReplayed input text
CommandFinds Follow input text = IsRejected input text ⊎ IsFollowedText input text
CommandFinds Report input text = IsRejected input text ⊎ IsReported input text

-- ---- a finding: its text, its status, and when it is right

abbrev pub finding_text : Finding → List ℕ
finding_text NoJournal = codes "no journal\n"
finding_text (BadLine k) = numbered_line (codes "bad line ") k
finding_text (IllegalAt k) = numbered_line (codes "illegal ") k
finding_text (Stands s) = standing_line s
finding_text (Written t) = list t
finding_text (Lines t) = list t

abbrev pub finding_status : Finding → ℕ
finding_status NoJournal = 10
finding_status (BadLine k) = 10
finding_status (IllegalAt k) = 10
finding_status (Stands s) = 0
finding_status (Written t) = 0
finding_status (Lines t) = 0

abbrev pub IsFinding : Command → List ℕ → Finding → Type 0
IsFinding c input NoJournal = IsRejected input (finding_text NoJournal)
IsFinding c input (BadLine k) = IsRejected input (finding_text (BadLine k))
IsFinding c input (IllegalAt k) = IsRejected input (finding_text (IllegalAt k))
IsFinding c input (Stands s) = (c ≡ Replay) × IsReplayed input (finding_text (Stands s))
IsFinding c input (Written t) = (c ≡ Follow) × IsFollowedText input (finding_text (Written t))
IsFinding c input (Lines t) = (c ≡ Report) × IsReported input (finding_text (Lines t))

-- what replay, follow and report find of a program and a journal's events
abbrev pub IsVerdictOf : ProgramView → List EventView → Finding → Type 0
IsVerdictOf program journal NoJournal = ⊥
IsVerdictOf program journal (BadLine k) = ⊥
IsVerdictOf program journal (IllegalAt k) = IsFirstIllegal program journal k
IsVerdictOf program journal (Stands s) = IsVerdict program journal (IsLegal s)
IsVerdictOf program journal (Written t) = ⊥
IsVerdictOf program journal (Lines t) = ⊥

abbrev pub IsOutputOf : ProgramView → List EventView → Finding → Type 0
IsOutputOf program journal NoJournal = ⊥
IsOutputOf program journal (BadLine k) = ⊥
IsOutputOf program journal (IllegalAt k) = IsFirstIllegal program journal k
IsOutputOf program journal (Stands s) = ⊥
IsOutputOf program journal (Written t) = Legal program journal × (list t ≡ output journal)
IsOutputOf program journal (Lines t) = ⊥

abbrev pub IsReportOf : ProgramView → List EventView → Finding → Type 0
IsReportOf program journal NoJournal = ⊥
IsReportOf program journal (BadLine k) = ⊥
IsReportOf program journal (IllegalAt k) = IsFirstIllegal program journal k
IsReportOf program journal (Stands s) = ⊥
IsReportOf program journal (Written t) = ⊥
IsReportOf program journal (Lines t) = (legal : Legal program journal) × (list t ≡ report_text journal legal.state)

-- what a journal's text comes to, beside the program of its script
abbrev pub IsFindingOf : Command → ProgramView → List ℕ → Finding → Type 0
IsFindingOf c program text NoJournal = ⊥
IsFindingOf c program text (BadLine k) = IsBadLine k text
IsFindingOf c program text (IllegalAt k) = (journal : List EventView) × JournalReads text journal × IsFirstIllegal program journal k
IsFindingOf c program text (Stands s) = (c ≡ Replay) × ((journal : List EventView) × JournalReads text journal × IsVerdict program journal (IsLegal s))
IsFindingOf c program text (Written t) = (c ≡ Follow) × ((journal : List EventView) × JournalReads text journal × Legal program journal × (list t ≡ output journal))
IsFindingOf c program text (Lines t) = (c ≡ Report) × ((journal : List EventView) × JournalReads text journal × ((legal : Legal program journal) × (list t ≡ report_text journal legal.state)))
