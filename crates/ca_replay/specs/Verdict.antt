-- What a journal comes to: a legal run of the program, and how it stands then, or the first event that no legal run has there.
use Rattle.std.specs.Prelude.{ℕ, suc, ◌<◌, ◌≤◌, List, length, take}
use Rattle.ca_term.specs.Event.{EventView}
use Rattle.ca_term.specs.Program.{ProgramView}
use Rattle.ca_meaning.specs.Ends.{IsEnded, IsFaulted, IsOpen, IsStuck}
use Rattle.ca_meaning.specs.Legal.{Legal}
use Rattle.ca_replay.specs.declared.replaying.Replayed.{Replayed}
use Rattle.ca_replay.specs.declared.replaying.Standing.{Standing}

-- the main text ended or faulted with the last event; or it did neither, and then an event is possible or none is
abbrev pub VerdictStands : ProgramView → List EventView → Standing → Type 0
VerdictStands program journal Standing.Ended = IsEnded journal
VerdictStands program journal Standing.Faulted = IsFaulted journal
VerdictStands program journal Standing.Stuck = IsOpen journal × IsStuck program journal
VerdictStands program journal Standing.StillOpen = IsOpen journal × (IsStuck program journal → ⊥)

-- k is the least number such that the first k + 1 events aren't a legal run
pub record IsFirstIllegal (program : ProgramView) (journal : List EventView) (k : ℕ) : Type 0 where
  pub within : k < length journal
  pub illegal : Legal program (take (suc k) journal) → ⊥
  pub least : (i : ℕ) → i ≤ k → Legal program (take i journal)

abbrev pub IsVerdict : ProgramView → List EventView → Replayed → Type 0
IsVerdict program journal (Replayed.Legal standing) = Legal program journal × VerdictStands program journal standing
IsVerdict program journal (Replayed.IllegalAt k) = IsFirstIllegal program journal k
