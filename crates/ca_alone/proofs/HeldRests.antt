-- What is held outside the hand shows a channel at rest: it can't settle in the state.
use Rattle.std.proofs.Common.{◌≡◌, ℕ, Option, Some}
use Rattle.ca_term.specs.Program.{ProgramView}
use Rattle.ca_meaning.specs.Body.{At}
use Rattle.ca_meaning.specs.Solo.{CanSettle}
use Rattle.ca_meaning.specs.State.{State}
use Rattle.ca_meaning.specs.Task.{TaskBody}
use Rattle.ca_commit.specs.Agents.{TaskAgent}
use Rattle.ca_commit.specs.Contents.{Kept, Parts, home}
use Rattle.ca_commit.specs.Finding.{rests}
use Rattle.ca_commit.specs.Settling.{served_in}
use Rattle.ca_commit.specs.Showing.{channels_held}
use Rattle.ca_commit.specs.declared.held.Held.{Held}
use Rattle.ca_commit.proofs.Steps.{StandsFor}
use Rattle.ca_alone.proofs.HeldWithin.{LiesIn, lies_part, shown_parts}
use Rattle.ca_alone.proofs.Resting.{rests_settle_not}

module _ {A : Type 0} (place : TaskAgent A → At) (stands : ProgramView → TaskAgent A → Option ℕ → TaskBody → Type 0) (program : ProgramView) (n : ℕ) where
  -- the bank of the channel is held
  pub held_rests_settle_not : (held : Held A) (now : Parts (TaskAgent A)) (s : State) (p : ℕ) (f : ℕ → Option Kept) → StandsFor place stands program n now s → LiesIn held now → channels_held held.banks (home p) ≡ Some f → served_in held p ≡ rests → CanSettle s p → ⊥
  held_rests_settle_not held now s p f st l bank e = rests_settle_not place stands program n now (shown_parts held) s p f st (lies_part held now l) bank e
