-- A drawn event of a lone worker, over all parts.
use Rattle.std.proofs.Common.{◌≡◌, ℕ, List, [], ◌∷◌, sym, subst, Option}
use Rattle.ca_value.specs.Tree.{Tree}
use Rattle.ca_term.specs.Program.{ProgramView}
use Rattle.ca_term.specs.Operation.{SeedView}
use Rattle.ca_term.specs.Event.{EventView}
use Rattle.ca_meaning.specs.Body.{At}
use Rattle.ca_meaning.specs.State.{State}
use Rattle.ca_meaning.specs.Steps.{Step, Steps}
use Rattle.ca_meaning.specs.Task.{TaskBody}
use Rattle.ca_meaning.specs.Solo.{Desk}
use Rattle.ca_agent.specs.Agents.{Advanced, Answered, Started}
use Rattle.ca_commit.specs.Agents.{TaskAgent}
use Rattle.ca_commit.specs.Contents.{Content, Parts}
use Rattle.ca_commit.specs.Gathered.{parts_of}
use Rattle.ca_commit.specs.Moving.{Moves, MovesTurn, visible}
use Rattle.ca_commit.specs.Running.{AreAt, RunStands, contents_written}
use Rattle.ca_commit.specs.Touched.{Drawn, touches}
use Rattle.ca_commit.proofs.Laid.{IsPart, laid_parts}
use Rattle.ca_commit.proofs.Locality.{locality}
use Rattle.ca_alone.specs.Reading.{DeskReads}
use Rattle.ca_alone.proofs.Laying.{held_before, laid_over}

module _ {A : Type 0} (place : A → At) (stands : ProgramView → A → TaskBody → Type 0) (advances : ProgramView → A → A → Type 0) (gives : A → Tree → A → Type 0) (starts : ProgramView → SeedView → A → Type 0)
    (d : Drawn) (now : ℕ → Option (Content (TaskAgent A))) (before after : List (Content (TaskAgent A))) (one : d.workers ≡ 1) (at : AreAt now (touches d) before) (m : Moves place advances gives starts d before after) where
  pub lone_moves : MovesTurn place advances gives starts 0 1 d.what (held_before d before) (held_before d after)
  lone_moves = (laid_over place advances gives starts d now before after at m one).turn

  pub lone_part : IsPart (held_before d before) (parts_of 1 now)
  lone_part = (laid_over place advances gives starts d now before after at m one).part

  -- the desk read off all parts after the event
  pub lone_reads : (desk : Desk) → DeskReads (laid_parts (parts_of 1 now) (held_before d after)) desk → DeskReads (parts_of 1 (contents_written now (touches d) after)) desk
  lone_reads desk r = subst (λ (h : Parts (TaskAgent A)). DeskReads h desk) (sym (laid_over place advances gives starts d now before after at m one).over) r

  module _ (advance_law : Advanced stands place advances) (answer_law : Answered stands place gives) (start_law : Started stands place starts) (program : ProgramView) (s : State) (run : RunStands place stands program 1 now s) where
    -- a silent event leaves the state
    pub lone_silent : visible d.what ≡ [] → RunStands place stands program 1 (contents_written now (touches d) after) s
    lone_silent hidden =
        let k = locality place stands advances gives starts advance_law answer_law start_law program 1 d now before after s run at m in
        let same : k.0 ≡ s = subst (λ es. Steps program s es k.0) hidden k.1 in
        subst (λ z. RunStands place stands program 1 (contents_written now (touches d) after) z) same k.2

    -- a shown one is its step
    pub lone_shown : (e : EventView) → visible d.what ≡ e ∷ [] → (s2 : State) × Step program s e s2 × RunStands place stands program 1 (contents_written now (touches d) after) s2
    lone_shown e seen =
        let k = locality place stands advances gives starts advance_law answer_law start_law program 1 d now before after s run at m in
        let st : Steps program s (e ∷ []) k.0 = subst (λ es. Steps program s es k.0) seen k.1 in
        (st.0, st.1, subst (λ z. RunStands place stands program 1 (contents_written now (touches d) after) z) st.2 k.2)
