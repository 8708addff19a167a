-- The parts of a table as those of a run, and the journal of what was drawn on it.
use Rattle.std.specs.Prelude.{◌≡◌, ℕ, ◌<◌, List, [], ◌∷◌, ◌++◌, Option, Some, None, option_map}
use mathlib.Core.Option as core
use lib.ListN.{get_elem?}
use Rattle.ca_term.specs.Event.{EventView}
use Rattle.ca_term.specs.Program.{ProgramParts, ProgramView, program_view}
use Rattle.ca_meaning.specs.Body.{At, new_body}
use Rattle.ca_meaning.specs.State.{State}
use Rattle.ca_meaning.specs.Task.{BodyRest, TaskBody, script}
use Rattle.ca_states.specs.Code.{CodeView}
use Rattle.ca_turns.specs.declared.rule.Turn.{Turn}
use Rattle.ca_turns.specs.declared.rule.View.{View}
use Rattle.ca_commit.specs.Agents.{TaskAgent}
use Rattle.ca_commit.specs.Contents.{Content}
use Rattle.ca_commit.specs.Moving.{visible}
use Rattle.ca_commit.specs.Opening.{unasked}
use Rattle.ca_commit.specs.Running.{RunStands}
use Rattle.ca_table.specs.Draws.{turn_view}
use Rattle.ca_table.specs.Opening.{opening_list}
use Rattle.ca_table.specs.Seen.{PartSeen, content_of}
use Rattle.ca_table.specs.declared.drawn.Drawn.{Drawn}

abbrev pub as_option : {X : Type 0} → core.Option X → Option X
as_option core.none = None
as_option (core.some x) = Some x

-- what lies at a place
abbrev pub lying_at : {X : Type 0} → List X → ℕ → Option X
lying_at xs i = as_option (get_elem? xs i)

-- all parts of a table, by their numbers, as the definitions of a run have them
abbrev pub contents_at : {A : Type 0} → List (PartSeen A) → ℕ → Option (Content (TaskAgent A))
contents_at now i = option_map content_of (lying_at now i)

-- the events that the journal shows, of these turns in their order
abbrev pub shown_by : {C : Type 0} → List (Turn C Drawn) → List EventView
shown_by [] = []
shown_by (t ∷ ts) = visible (turn_view t.event.what) ++ shown_by ts

module _ {A : Type 0} (place : A → At) (stands : ProgramView → A → TaskBody → Type 0) (program : ProgramView) (n : ℕ) where
  -- the table's parts are those of a run of n workers, and stand for the state
  abbrev pub TableStands : List (PartSeen A) → State → Type 0
  TableStands now s = RunStands place stands program n (contents_at now) s

-- a hand of a table that was opened for a run of the program over the code, by n workers
pub record Knows {A : Type 0} (over : CodeView → A → Type 0) (stands : ProgramView → A → TaskBody → Type 0) (program : ProgramView) (code : CodeView) (n : ℕ) (v : View (PartSeen A) Drawn) : Type 0 where
  pub texts : ProgramParts
  pub is_program : program_view texts ≡ program
  pub main : A
  pub body : TaskBody
  pub opens : BodyRest program (script (new_body program.main)) body
  pub stands_for : stands program main body
  pub is_over : over code main
  pub least : ℕ
  pub faults : ℕ
  pub readings : Option (List ℕ)
  pub opening : v.opening ≡ opening_list n code texts main (unasked least faults readings)
  pub some : 0 < n
