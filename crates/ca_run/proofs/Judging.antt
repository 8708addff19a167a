-- What an input of a script and a journal comes to, by its parts.
use Rattle.std.proofs.Common.{ℕ, ◌≤◌, List, length, inl, inr, refl}
use Rattle.ca_term.specs.Program.{ProgramView}
use Rattle.ca_words.specs.declared.command.Command.{Command}
use Rattle.ca_run.specs.declared.finding.Finding.{Finding}
use Rattle.ca_run.specs.declared.finding.Finding.TheVariants.{NoJournal, BadLine, IllegalAt, Stands, Written, Lines}
use Rattle.ca_run.specs.Findings.{IsJournalInput, IsFinding, IsFindingOf}
use Rattle.ca_run.specs.Inputs.{ProgramOf, greatest_length}
use Rattle.ca_run.specs.Marker.{IsParted}

finding_in : (c : Command) (input text : List ℕ) (program : ProgramView) (f : Finding) → IsJournalInput input program text → IsFindingOf c program text f → IsFinding c input f
finding_in c input text program NoJournal a h = absurd h
finding_in c input text program (BadLine k) a h = inr (inl (program, text, k, a, h, refl))
finding_in c input text program (IllegalAt k) a h = inr (inr (program, h.0, k, record { text = text; asks = a; reads = h.1 }, h.2, refl))
finding_in c input text program (Stands s) a h = (h.0, (program, h.1.0, s, record { text = text; asks = a; reads = h.1.1 }, h.1.2, refl))
finding_in c input text program (Written t) a h = (h.0, (program, h.1.0, record { text = text; asks = a; reads = h.1.1 }, h.1.2, h.1.3))
finding_in c input text program (Lines t) a h = (h.0, (program, h.1.0, record { text = text; asks = a; reads = h.1.1 }, h.1.2))

pub judged_by_finding : (c : Command) (input script text : List ℕ) (program : ProgramView) (f : Finding) → IsParted input script text → length script ≤ greatest_length → ProgramOf script program → IsFindingOf c program text f → IsFinding c input f
judged_by_finding c input script text program f parted short is h = finding_in c input text program f (record { script = script; parted = parted; short = short; is_program = is }) h
