-- What a worker that holds a part knows of it.
use Rattle.std.proofs.Common.{◌≡◌, ◌∙◌, ℕ, ap, Some}
use mathlib.Core.Option as core
use lib.ListN.{get_elem?}
use Rattle.ca_value.specs.Tree.{Tree}
use Rattle.ca_term.specs.Program.{ProgramView, program_view}
use Rattle.ca_term.specs.Operation.{SeedView}
use Rattle.ca_meaning.specs.Body.{At}
use Rattle.ca_meaning.specs.Task.{TaskBody}
use Rattle.ca_states.specs.Code.{CodeView}
use Rattle.ca_agent.specs.Agents.{Advanced, Answered, Started}
use Rattle.ca_turns.specs.declared.rule.View.{View}
use Rattle.ca_turns.specs.Steps.{SeesOne}
use Rattle.ca_commit.specs.Gathered.{kind_at, kind_of_part, lane_of, sorted}
use Rattle.ca_table.specs.Draws.{drawn_moves, drawn_touches}
use Rattle.ca_table.specs.Running.{Knows, as_option, contents_at}
use Rattle.ca_table.specs.Seen.{HeldSeen, LaneSeen, PartSeen, content_of, held_of, lane_of_seen, seen_lane}
use Rattle.ca_table.specs.declared.drawn.Drawn.{Drawn}
use Rattle.ca_table.proofs.Codes.{code_at}
use Rattle.ca_table.proofs.Knowing.{sees_codes, sees_run}

some_same : {X : Type 0} (x y : X) → Some x ≡ Some y → x ≡ y
some_same x y e = cc

module _ {A : Type 0} (over : CodeView → A → Type 0) (place : A → At) (stands : ProgramView → A → TaskBody → Type 0) (advances : ProgramView → A → A → Type 0) (gives : A → Tree → A → Type 0) (starts : ProgramView → SeedView → A → Type 0)
    (advance_law : Advanced stands place advances) (answer_law : Answered stands place gives) (start_law : Started stands place starts) (program : ProgramView) (code : CodeView) (n : ℕ) (v : View (PartSeen A) Drawn) (k : Knows over stands program code n v)
    (sees : SeesOne drawn_touches (drawn_moves over place advances gives starts) v) (i : ℕ) (c : PartSeen A) (holds : get_elem? v.held i ≡ core.some (Some c)) where
  there : contents_at sees.1 i ≡ Some (content_of c)
  there = ap (λ o. Rattle.std.specs.Prelude.option_map content_of (as_option o)) (sees.2.held i c holds)

  -- a held part is of the kind that its number tells, and of n workers
  pub kind_is : (c.workers ≡ n) × (kind_of_part (held_of c.held) ≡ kind_at n i)
  kind_is = let run = (sees_run over place stands advances gives starts advance_law answer_law start_law program code n v k sees.0 sees.1 sees.2).2 in run.kinds i (content_of c) there

  -- and has the code
  pub code_is : c.code ≡ code
  code_is = code_at code sees.1 i c (sees_codes over place stands advances gives starts advance_law answer_law start_law program code n v k sees.0 sees.1 sees.2) (sees.2.held i c holds)

  -- a lane is of the program
  pub program_is : (l : LaneSeen A) → c.held ≡ seen_lane l → program_view l.program ≡ program
  program_is l e = let run = (sees_run over place stands advances gives starts advance_law answer_law start_law program code n v k sees.0 sees.1 sees.2).2 in
      (run.stand.lanes i (lane_of_seen l) (ap (sorted lane_of) there ∙ ap (λ (h : HeldSeen A). lane_of (held_of h)) e)).0
