-- What a hand of a table of a run knows.
use Rattle.std.proofs.Common.{◌≡◌, ◌∙◌, ℕ, List, refl, sym, subst, Option}
use mathlib.Core.Option.{some}
use lib.ListN.{get_elem?}
use Rattle.ca_value.specs.Tree.{Tree}
use Rattle.ca_term.specs.Program.{ProgramView}
use Rattle.ca_term.specs.Operation.{SeedView}
use Rattle.ca_meaning.specs.Body.{At}
use Rattle.ca_meaning.specs.Task.{TaskBody}
use Rattle.ca_states.specs.Code.{CodeView}
use Rattle.ca_meaning.specs.State.{State, opening_state}
use Rattle.ca_meaning.specs.Legal.{Reaches}
use Rattle.ca_meaning.specs.Steps.{Steps}
use Rattle.ca_agent.specs.Agents.{Advanced, Answered, Started}
use Rattle.ca_turns.specs.declared.rule.Turn.{Turn}
use Rattle.ca_turns.specs.declared.rule.View.{View}
use Rattle.ca_turns.specs.Steps.{Sees}
use Rattle.ca_commit.specs.Agents.{TaskAgent}
use Rattle.ca_commit.specs.Contents.{Content}
use Rattle.ca_commit.specs.Opening.{unasked}
use Rattle.ca_commit.specs.Running.{RunStands}
use Rattle.ca_commit.proofs.Opens.{opens as opening_stands}
use Rattle.ca_table.specs.Draws.{drawn_code, drawn_moves, drawn_touches}
use Rattle.ca_table.specs.OneCode.{HaveCode, stands_over}
use Rattle.ca_table.specs.Running.{Knows, TableStands, shown_by}
use Rattle.ca_table.specs.Seen.{PartSeen}
use Rattle.ca_table.specs.declared.drawn.Drawn.{Drawn}
use Rattle.ca_table.proofs.Codes.{opening_has, run_drawn, run_has}
use Rattle.ca_table.proofs.Openings.{opens}
use Rattle.ca_table.proofs.Running.{runs_on}

-- a hand of the same table knows the same
pub knows_same : {A : Type 0} (over : CodeView → A → Type 0) (stands : ProgramView → A → TaskBody → Type 0) (program : ProgramView) (code : CodeView) (n : ℕ) (v u : View (PartSeen A) Drawn) → u.opening ≡ v.opening → Knows over stands program code n v → Knows over stands program code n u
knows_same over stands program code n v u e k = record { texts = k.texts; is_program = k.is_program; main = k.main; body = k.body; opens = k.opens; stands_for = k.stands_for; is_over = k.is_over; least = k.least; faults = k.faults; readings = k.readings; opening = e ∙ k.opening; some = k.some }

module _ {A : Type 0} (over : CodeView → A → Type 0) (place : A → At) (stands : ProgramView → A → TaskBody → Type 0) (advances : ProgramView → A → A → Type 0) (gives : A → Tree → A → Type 0) (starts : ProgramView → SeedView → A → Type 0)
    (advance_law : Advanced stands place advances) (answer_law : Answered stands place gives) (start_law : Started stands place starts) (program : ProgramView) (code : CodeView) (n : ℕ) (v : View (PartSeen A) Drawn) (k : Knows over stands program code n v) where
  abbrev moves : Drawn → List (PartSeen A) → List (PartSeen A) → Type 0
  moves = drawn_moves over place advances gives starts

  -- an agent stands for its body, and is over the code
  abbrev both : ProgramView → A → TaskBody → Type 0
  both = stands_over over code stands

  pub opening_is : TableStands place both program n v.opening (opening_state k.body)
  opening_is = subst (λ (cs : List (PartSeen A)). TableStands place both program n cs (opening_state k.body)) (sym k.opening)
      (subst (λ (f : ℕ → Option (Content (TaskAgent A))). RunStands place both program n f (opening_state k.body)) (sym (opens n code k.texts k.main (unasked k.least k.faults k.readings) k.some))
      (subst (λ (p : ProgramView). RunStands place both program n (Rattle.ca_commit.specs.Opening.opening_parts n p k.main (unasked k.least k.faults k.readings)) (opening_state k.body)) (sym k.is_program)
      (opening_stands place both n program k.main k.body (unasked k.least k.faults k.readings) k.some (k.stands_for, k.is_over) refl refl)))

  pub opening_codes : HaveCode code v.opening
  opening_codes = subst (HaveCode code) (sym k.opening) (opening_has code n k.texts k.main (unasked k.least k.faults k.readings))

  -- all parts that it sees have the code
  pub sees_codes : (log : List (Turn (PartSeen A) Drawn)) (now : List (PartSeen A)) → Sees drawn_touches moves v log now → HaveCode code now
  sees_codes log now sees = run_has over place advances gives starts code log v.opening now opening_codes sees.run

  -- and so have the events that were drawn
  pub sees_drawn : (log : List (Turn (PartSeen A) Drawn)) (now : List (PartSeen A)) (i : ℕ) (t : Turn (PartSeen A) Drawn) → Sees drawn_touches moves v log now → get_elem? log i ≡ some t → drawn_code t.event ≡ code
  sees_drawn log now i t sees e = run_drawn over place advances gives starts code log v.opening now i t opening_codes sees.run e

  -- the history that it sees is a run of the program, and the parts stand for its state
  pub sees_run : (log : List (Turn (PartSeen A) Drawn)) (now : List (PartSeen A)) → Sees drawn_touches moves v log now → (s : State) × Steps program (opening_state k.body) (shown_by log) s × TableStands place both program n now s
  sees_run log now sees = runs_on over place stands advances gives starts advance_law answer_law start_law program code n log v.opening now (opening_state k.body) opening_codes opening_is sees.run

  -- so what the history shows leads from the program's opening to the state that its parts stand for
  pub reaches : (log : List (Turn (PartSeen A) Drawn)) (now : List (PartSeen A)) → Sees drawn_touches moves v log now → (s : State) × Reaches program (shown_by log) s × TableStands place both program n now s
  reaches log now sees = let r = sees_run log now sees in (r.0, record { opening = opening_state k.body; opens = (k.body, k.opens, refl); steps = r.1 }, r.2)
