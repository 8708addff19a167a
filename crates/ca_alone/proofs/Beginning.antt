-- A lone worker that drew nothing stands where the schedule begins.
use Rattle.std.proofs.Common.{◌≡◌, ◌∙◌, ℕ, List, [], ◌∷◌, refl, sym, ap, subst, Option, Some, None}
use Rattle.ca_value.specs.Tree.{Tree}
use Rattle.ca_term.specs.Program.{ProgramView, program_view}
use Rattle.ca_term.specs.Operation.{SeedView}
use Rattle.ca_meaning.specs.Body.{At}
use Rattle.ca_meaning.specs.Solo.{opening_desk}
use Rattle.ca_meaning.specs.State.{opening_state}
use Rattle.ca_meaning.specs.Task.{TaskBody}
use Rattle.ca_meaning.proofs.Soundness.{opening_sound}
use Rattle.ca_states.specs.Code.{CodeView}
use Rattle.ca_agent.specs.Agents.{Advanced, Answered, Started}
use Rattle.ca_turns.specs.declared.rule.View.{View}
use Rattle.ca_commit.specs.Agents.{TaskAgent}
use Rattle.ca_commit.specs.Contents.{Content, TimersPart}
use Rattle.ca_commit.specs.Gathered.{parts_of}
use Rattle.ca_commit.specs.Opening.{main_agent, opening_parts, unasked}
use Rattle.ca_commit.specs.Running.{RunStands}
use Rattle.ca_table.specs.Draws.{drawn_touches}
use Rattle.ca_table.specs.OneCode.{HaveCode, stands_over}
use Rattle.ca_table.specs.Running.{Knows, TableStands, contents_at, shown_by}
use Rattle.ca_table.specs.Seen.{PartSeen}
use Rattle.ca_table.specs.declared.drawn.Drawn.{Drawn}
use Rattle.ca_table.proofs.Knowing.{opening_codes, opening_is}
use Rattle.ca_table.proofs.Openings.{opens}
use Rattle.ca_solo.specs.Alone.{Alone}
use Rattle.ca_solo.specs.Positions.{first_position}
use Rattle.ca_solo.proofs.Keeping.{starts_alone}
use Rattle.ca_table.specs.LoneHands.{contents_left, left_now}
use Rattle.ca_alone.specs.Lone.{StandsAlone}
use Rattle.ca_alone.specs.Reading.{DeskReads}
use Rattle.ca_alone.specs.Standing.{IsPosition}

module _ {A : Type 0} (place : A → At) (stands : ProgramView → A → TaskBody → Type 0) (program texts : ProgramView) (main : A) (b : TaskBody) (clock : TimersPart) where
  -- the schedule's desk is read off the opening parts
  opening_reads : RunStands place stands program 1 (opening_parts 1 texts main clock) (opening_state b) → DeskReads (parts_of 1 (opening_parts 1 texts main clock)) (opening_desk [])
  opening_reads run = record {
    lane = record { program = texts; task = None; since = 0; counts = record { tasks = 0; ports = 0; waits = 0 } };
    in_lane = refl;
    queue = (0, main_agent main) ∷ [];
    in_ready = refl;
    reads = record {
      lane_is = refl;
      ready_is = refl;
      tasks = refl;
      ports = refl;
      waits = refl;
      lane_counts = λ t a e. absurd (let k : None ≡ Some (t, a) = e in cc);
      ready_counts = (refl, tt);
      parked_counts = λ w u a e. absurd (let k : None ≡ Some u = (run.stand.seated.owners w u a e).0 in cc);
    };
  }

module _ {A : Type 0} (over : CodeView → A → Type 0) (place : A → At) (stands : ProgramView → A → TaskBody → Type 0) (advances : ProgramView → A → A → Type 0) (gives : A → Tree → A → Type 0) (starts : ProgramView → SeedView → A → Type 0)
    (advance_law : Advanced stands place advances) (answer_law : Answered stands place gives) (start_law : Started stands place starts) (program : ProgramView) (code : CodeView) (v : View (PartSeen A) Drawn) (k : Knows over stands program code 1 v) where
  abbrev clock : TimersPart
  clock = unasked k.least k.faults k.readings

  here : contents_at v.opening ≡ opening_parts 1 (program_view k.texts) k.main clock
  here = ap contents_at k.opening ∙ opens 1 code k.texts k.main clock k.some

  run : TableStands place (stands_over over code stands) program 1 v.opening (opening_state k.body)
  run = opening_is over place stands advances gives starts advance_law answer_law start_law program code 1 v k

  pub lone_starts : v.turns ≡ [] → StandsAlone over place stands program code v [] (first_position [] (opening_state k.body))
  lone_starts none = let same : left_now drawn_touches v ≡ v.opening = ap (contents_left drawn_touches v.opening) none in record {
    position = subst (λ (cs : List (PartSeen A)). IsPosition place (stands_over over code stands) program (contents_at cs) (first_position [] (opening_state k.body))) (sym same) (record {
      run = run;
      sound = opening_sound program (opening_state k.body) (k.body, k.opens, refl);
      reads = subst (λ (f : ℕ → Option (Content (TaskAgent A))). DeskReads (parts_of 1 f) (opening_desk [])) (sym here)
          (opening_reads place (stands_over over code stands) program (program_view k.texts) k.main k.body clock (subst (λ (f : ℕ → Option (Content (TaskAgent A))). RunStands place (stands_over over code stands) program 1 f (opening_state k.body)) here run));
      uncounted = λ u n. refl;
      used = refl;
    });
    coded = subst (HaveCode code) (sym same) (opening_codes over place stands advances gives starts advance_law answer_law start_law program code 1 v k);
    alone = subst (λ es. Alone program [] es (first_position [] (opening_state k.body))) (sym (ap shown_by none)) (starts_alone program [] (opening_state k.body) (k.body, k.opens, refl));
  }
