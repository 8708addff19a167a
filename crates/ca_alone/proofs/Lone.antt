-- A lone worker's turn that is a move leads from one position to the next.
use Rattle.std.proofs.Common.{◌≡◌, ◌∙◌, ℕ, List, [], ◌∷◌, ◌++◌, map, sym, ap, subst, append-nil, append_assoc, true, Option}
use Rattle.ca_value.specs.Tree.{Tree}
use Rattle.ca_term.specs.Event.{EventView}
use Rattle.ca_term.specs.Program.{ProgramView}
use Rattle.ca_term.specs.Operation.{SeedView}
use Rattle.ca_meaning.specs.Body.{At}
use Rattle.ca_meaning.specs.EndsLaw.{is_of}
use Rattle.ca_meaning.specs.Legal.{Reaches}
use Rattle.ca_meaning.specs.Solo.{Solo}
use Rattle.ca_meaning.specs.Task.{TaskBody}
use Rattle.ca_states.specs.Code.{CodeView}
use Rattle.ca_agent.specs.Agents.{Advanced, Answered, Started}
use Rattle.ca_turns.specs.declared.rule.Turn.{Turn}
use Rattle.ca_turns.specs.declared.rule.View.{View}
use Rattle.ca_turns.specs.History.{TurnGoes}
use Rattle.ca_turns.specs.Places.{write}
use Rattle.ca_commit.specs.Agents.{TaskAgent}
use Rattle.ca_commit.specs.Contents.{Content}
use Rattle.ca_commit.specs.Moving.{Moves, visible}
use Rattle.ca_commit.specs.Running.{AreAt, contents_written}
use Rattle.ca_commit.specs.Touched.{shown}
use Rattle.ca_commit.proofs.Laid.{same_map}
use Rattle.ca_table.specs.Draws.{drawn_apart, drawn_moves, drawn_touches, drawn_view, turn_view}
use Rattle.ca_table.specs.OneCode.{HaveCode, advances_over, gives_over, stands_over, starts_over}
use Rattle.ca_table.specs.Running.{contents_at, shown_by}
use Rattle.ca_table.specs.Seen.{PartSeen, content_of}
use Rattle.ca_table.specs.declared.drawn.Drawn.{Drawn}
use Rattle.ca_table.proofs.Codes.{advanced_over, answered_over, drawn_has, leaves_code, started_over}
use Rattle.ca_table.proofs.Running.{in_places, reads_at, written_at}
use Rattle.ca_solo.specs.Alone.{Alone}
use Rattle.ca_solo.specs.Moves.{MayMake, SoloMove}
use Rattle.ca_solo.specs.Positions.{HasUsed, Position, also_later, settling}
use Rattle.ca_solo.specs.Stirs.{stirred}
use Rattle.ca_solo.proofs.Answers.{alone_later}
use Rattle.ca_solo.proofs.Following.{alone_reaches}
use Rattle.ca_solo.proofs.Keeping.{ends_solo, move_kept}
use Rattle.ca_table.specs.LoneHands.{IsAfter, contents_left, left_now}
use Rattle.ca_alone.specs.Lone.{StandsAlone}
use Rattle.ca_alone.specs.Standing.{ChoosesWell, IsOn, IsPosition, clock_answers}
use Rattle.ca_alone.proofs.Making.{turn_moves}
use Rattle.ca_table.proofs.OwnTurns.{left_more}

pub shown_more : {C : Type 0} (ts : List (Turn C Drawn)) (t : Turn C Drawn) → shown_by (ts ++ t ∷ []) ≡ shown_by ts ++ visible (turn_view t.event.what)
shown_more [] t = append-nil (visible (turn_view t.event.what))
shown_more (u ∷ ts) t = ap (λ es. visible (turn_view u.event.what) ++ es) (shown_more ts t) ∙ sym (append_assoc (visible (turn_view u.event.what)) (shown_by ts) (visible (turn_view t.event.what)))

module _ {A : Type 0} (over : CodeView → A → Type 0) (place : A → At) (stands : ProgramView → A → TaskBody → Type 0) (advances : ProgramView → A → A → Type 0) (gives : A → Tree → A → Type 0) (starts : ProgramView → SeedView → A → Type 0) (program : ProgramView) (code : CodeView)
    (v v2 : View (PartSeen A) Drawn) (t : Turn (PartSeen A) Drawn) (g : TurnGoes drawn_touches (drawn_moves over place advances gives starts) (left_now drawn_touches v) t) (more : IsAfter v v2 t) where
  abbrev now : List (PartSeen A)
  now = left_now drawn_touches v

  -- what is left now
  pub left_after : left_now drawn_touches v2 ≡ write (left_now drawn_touches v) (drawn_touches t.event) t.after
  left_after = ap (λ cs. contents_left drawn_touches cs v2.turns) more.opening ∙ ap (contents_left drawn_touches v.opening) more.turns ∙ left_more drawn_touches v.opening v.turns t

  pub contents_after : contents_at (left_now drawn_touches v2) ≡ contents_written (contents_at (left_now drawn_touches v)) (drawn_touches t.event) (map content_of t.after)
  contents_after = ap contents_at left_after ∙ same_map _ _ (written_at now (drawn_touches t.event) t.after (in_places now (drawn_touches t.event) t.before g.0) (drawn_apart t.event))

  -- what the turn found, and how it moved it
  pub found_at : AreAt (contents_at (left_now drawn_touches v)) (drawn_touches t.event) (map content_of t.before)
  found_at = reads_at now (drawn_touches t.event) t.before g.0

  pub moved_by : HaveCode code (left_now drawn_touches v) → Moves place (advances_over over code advances) (gives_over over code gives) (starts_over over code starts) (drawn_view t.event) (map content_of t.before) (map content_of t.after)
  moved_by coded = subst (λ K. Moves place (advances_over over K advances) (gives_over over K gives) (starts_over over K starts) (drawn_view t.event) (map content_of t.before) (map content_of t.after)) (drawn_has over place advances gives starts code now t coded g) g.1.1

  pub coded_after : HaveCode code (left_now drawn_touches v) → HaveCode code (left_now drawn_touches v2)
  coded_after coded = subst (HaveCode code) (sym left_after) (leaves_code over place advances gives starts code now t coded g)

  module _ (answers : List ℕ) (w : Position) (a : StandsAlone over place stands program code v answers w) where
    -- the worker goes on to where a move leads whose events are those that the turn shows
    pub lone_turn : (rs : List ℕ) (w2 : Position) → SoloMove program (also_later rs w) w2 (visible (turn_view t.event.what)) → IsPosition place (stands_over over code stands) program (contents_written (contents_at (left_now drawn_touches v)) (drawn_touches t.event) (map content_of t.after)) w2
        → StandsAlone over place stands program code v2 (answers ++ rs) w2
    lone_turn rs w2 move is = record {
      position = subst (λ (f : ℕ → Option (Content (TaskAgent A))). IsPosition place (stands_over over code stands) program f w2) (sym contents_after) is;
      coded = coded_after a.coded;
      alone = subst (λ es. Alone program (answers ++ rs) es w2) (sym (ap shown_by more.turns ∙ shown_more v.turns t)) (move_kept program (answers ++ rs) (shown_by v.turns) (also_later rs w) w2 (visible (turn_view t.event.what)) (alone_later rs program answers (shown_by v.turns) w a.alone) move);
    }

    -- .. without an answer of the clock
    pub lone_shows : (w2 : Position) → SoloMove program w w2 (visible (turn_view t.event.what)) → IsPosition place (stands_over over code stands) program (contents_written (contents_at (left_now drawn_touches v)) (drawn_touches t.event) (map content_of t.after)) w2 → StandsAlone over place stands program code v2 answers w2
    lone_shows w2 move is = record {
      position = subst (λ (f : ℕ → Option (Content (TaskAgent A))). IsPosition place (stands_over over code stands) program f w2) (sym contents_after) is;
      coded = coded_after a.coded;
      alone = subst (λ es. Alone program answers es w2) (sym (ap shown_by more.turns ∙ shown_more v.turns t)) (move_kept program answers (shown_by v.turns) w w2 (visible (turn_view t.event.what)) a.alone move);
    }

    -- it stays where it is where the turn is silent and no move
    pub lone_stays : visible (turn_view t.event.what) ≡ [] → IsPosition place (stands_over over code stands) program (contents_written (contents_at (left_now drawn_touches v)) (drawn_touches t.event) (map content_of t.after)) w → StandsAlone over place stands program code v2 answers w
    lone_stays hidden is = record {
      position = subst (λ (f : ℕ → Option (Content (TaskAgent A))). IsPosition place (stands_over over code stands) program f w) (sym contents_after) is;
      coded = coded_after a.coded;
      alone = subst (λ es. Alone program answers es w) (sym (ap shown_by more.turns ∙ shown_more v.turns t ∙ ap (λ es. shown_by v.turns ++ es) hidden ∙ append-nil (shown_by v.turns))) a.alone;
    }

    module _ (advance_law : Advanced stands place advances) (answer_law : Answered stands place gives) (start_law : Started stands place starts) where
      -- an event of the lane's task
      pub lone_makes : (u : ℕ) (e : EventView) → turn_view t.event.what ≡ shown e → is_of u e ≡ true → MayMake w.phase → IsOn w.desk.lane → ChoosesWell w.state w.desk e
          → (w2 : Position) × StandsAlone over place stands program code v2 (answers ++ clock_answers e) w2 × (w2.phase ≡ settling (stirred w.state e))
      lone_makes u e what is may on well =
          let k = turn_moves place (stands_over over code stands) (advances_over over code advances) (gives_over over code gives) (starts_over over code starts) (advanced_over over code place stands advances advance_law) (answered_over over code place stands gives answer_law) (started_over over code place stands starts start_law)
          program (drawn_view t.event) (contents_at now) (map content_of t.before) (map content_of t.after) w u e what is found_at (moved_by a.coded) a.position may on well in
          (k.0, lone_turn (clock_answers e) k.0 (subst (λ es. SoloMove program (also_later (clock_answers e) w) k.0 es) (sym (ap visible what)) k.1) k.2, k.3)

module _ {A : Type 0} (over : CodeView → A → Type 0) (place : A → At) (stands : ProgramView → A → TaskBody → Type 0) (program : ProgramView) (code : CodeView) (v : View (PartSeen A) Drawn) (answers : List ℕ) (w : Position) (a : StandsAlone over place stands program code v answers w) where
  -- a move that shows nothing, and is no turn
  pub lone_between : (w2 : Position) → SoloMove program w w2 [] → IsPosition place (stands_over over code stands) program (contents_at (left_now drawn_touches v)) w2 → StandsAlone over place stands program code v answers w2
  lone_between w2 move is = record { position = is; coded = a.coded; alone = subst (λ es. Alone program answers es w2) (append-nil (shown_by v.turns)) (move_kept program answers (shown_by v.turns) w w2 [] a.alone move) }

  -- what it showed is the run of the schedule
  pub lone_solo : HasUsed w.phase → Solo program answers (shown_by v.turns)
  lone_solo used = ends_solo program answers (shown_by v.turns) w a.alone used a.position.used

  -- and leads to the state of the position
  pub lone_reaches : Reaches program (shown_by v.turns) w.state
  lone_reaches = alone_reaches program answers (shown_by v.turns) w a.alone
