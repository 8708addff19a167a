-- What comes of a report on a journal: the report, where the journal is a legal run, else the first event that no legal run has there.
use Rattle.std.specs.Prelude.{◌≡◌, List}
use Rattle.ca_value.specs.Seq.{list}
use Rattle.ca_term.specs.Event.{EventView}
use Rattle.ca_term.specs.Program.{ProgramView}
use Rattle.ca_meaning.specs.Legal.{Legal}
use Rattle.ca_replay.specs.Verdict.{IsFirstIllegal}
use Rattle.ca_report.specs.declared.report.Reported.{Reported}
use Rattle.ca_report.specs.Report.{report_text}

abbrev pub IsReport : ProgramView → List EventView → Reported → Type 0
IsReport program journal (Reported.Lines text) = (legal : Legal program journal) × (list text ≡ report_text journal legal.state)
IsReport program journal (Reported.IllegalAt k) = IsFirstIllegal program journal k
