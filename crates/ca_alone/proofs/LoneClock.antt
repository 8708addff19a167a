-- The answers that a lone worker's turns took are those that the clock gave.
use Rattle.std.proofs.Common.{◌≡◌, ◌∙◌, ℕ, ◌<◌, ◌≤◌, List, [], ◌∷◌, ◌++◌, refl, sym, ap, subst, arith, map, Option, Some}
use Rattle.ca_value.specs.Tree.{Tree}
use Rattle.ca_term.specs.Program.{ProgramView}
use Rattle.ca_term.specs.Operation.{SeedView}
use Rattle.ca_meaning.specs.Body.{At}
use Rattle.ca_meaning.specs.State.{Deadline, State}
use Rattle.ca_meaning.specs.Task.{TaskBody}
use Rattle.ca_states.specs.Code.{CodeView}
use Rattle.ca_agent.specs.Agents.{Advanced, Answered, Started}
use Rattle.ca_turns.specs.declared.rule.Turn.{Turn}
use Rattle.ca_turns.specs.declared.rule.View.{View}
use Rattle.ca_turns.specs.History.{TurnGoes}
use Rattle.ca_commit.specs.Agents.{TaskAgent}
use Rattle.ca_commit.specs.Contents.{Content, TimersPart}
use Rattle.ca_commit.specs.Gathered.{parts_of}
use Rattle.ca_commit.specs.Opening.{unasked}
use Rattle.ca_commit.specs.Running.{contents_written}
use Rattle.ca_commit.specs.Touched as said
use Rattle.ca_table.specs.Draws.{drawn_moves, drawn_touches, drawn_view, turn_view}
use Rattle.ca_table.specs.OneCode.{HaveCode, advances_over, gives_over, stands_over, starts_over}
use Rattle.ca_table.specs.Running.{Knows, TableStands, contents_at}
use Rattle.ca_table.specs.Seen.{PartSeen, content_of}
use Rattle.ca_table.specs.declared.drawn.Drawn.{Drawn}
use Rattle.ca_table.proofs.Openings.{opens}
use Rattle.ca_solo.specs.Positions.{Position, in_time, picked}
use Rattle.ca_table.specs.Moments.{NeverFall, turn_asked}
use Rattle.ca_alone.specs.Answers.{HasGiven}
use Rattle.ca_table.specs.LoneHands.{IsAfter, contents_left, left_now}
use Rattle.ca_alone.specs.Lone.{AloneAt, StandsAlone}
use Rattle.ca_alone.specs.OwnTurn.{IsEarly}
use Rattle.ca_alone.proofs.Answering.{answers_go_on, gave_none}
use Rattle.ca_alone.proofs.Lone.{contents_after, found_at, moved_by}
use Rattle.ca_alone.proofs.LoneMoves.{lone_reads, one_works}

last_answer : (first : ℕ) (ms : List ℕ) (m last : ℕ) → NeverFall first (ms ++ m ∷ []) last → m ≤ last
last_answer first [] m last f = f.1
last_answer first (x ∷ ms) m last f = last_answer x ms m last f.1

earlier : (ds : List Deadline) (m n : ℕ) → m ≤ n → IsEarly ds n → IsEarly ds m
earlier [] m n le e = e
earlier (d ∷ ds) m n le e = let lt : n < d.moment = e in omega (arith, le, lt)

-- before it drew anything the clock gave nothing
pub begins_given : {A : Type 0} (over : CodeView → A → Type 0) (stands : ProgramView → A → TaskBody → Type 0) (program : ProgramView) (code : CodeView) (v : View (PartSeen A) Drawn) → (k : Knows over stands program code 1 v) → v.turns ≡ [] → HasGiven (unasked k.least k.faults k.readings) [] (contents_at (left_now drawn_touches v))
begins_given {A} over stands program code v k none = subst (λ (f : ℕ → Option (Content (TaskAgent A))). HasGiven (unasked k.least k.faults k.readings) [] f)
    (sym (ap (λ ts. contents_at (contents_left drawn_touches v.opening ts)) none ∙ ap contents_at k.opening ∙ opens 1 code k.texts k.main (unasked k.least k.faults k.readings) k.some))
    (record { clock = unasked k.least k.faults k.readings; in_timers = refl; gave = gave_none (unasked k.least k.faults k.readings) })

module _ {A : Type 0} (over : CodeView → A → Type 0) (place : A → At) (stands : ProgramView → A → TaskBody → Type 0) (advances : ProgramView → A → A → Type 0) (gives : A → Tree → A → Type 0) (starts : ProgramView → SeedView → A → Type 0)
    (advance_law : Advanced stands place advances) (answer_law : Answered stands place gives) (start_law : Started stands place starts) (program : ProgramView) (code : CodeView)
    (v v2 : View (PartSeen A) Drawn) (t : Turn (PartSeen A) Drawn) (g : TurnGoes drawn_touches (drawn_moves over place advances gives starts) (left_now drawn_touches v) t) (more : IsAfter v v2 t) (first : TimersPart) (answers : List ℕ) (given : HasGiven first answers (contents_at (left_now drawn_touches v))) where
  -- the answers that the turn took are what the clock gave more
  pub lone_given : HaveCode code (left_now drawn_touches v) → (s : State) → TableStands place (stands_over over code stands) program 1 (left_now drawn_touches v) s → (what : said.Turn) → turn_view t.event.what ≡ what → (least : ℕ) × HasGiven first (answers ++ turn_asked what least) (contents_at (left_now drawn_touches v2))
  lone_given coded s run what is =
      let k = answers_go_on place (advances_over over code advances) (gives_over over code gives) (starts_over over code starts) (drawn_view t.event) (contents_at (left_now drawn_touches v)) (map content_of t.before) (map content_of t.after)
      (one_works over place stands advances gives starts advance_law answer_law start_law program code v v2 t g more coded s run)
      (found_at over place stands advances gives starts program code v v2 t g more) (moved_by over place stands advances gives starts program code v v2 t g more coded)
      first answers given in (
        k.0,
        subst (λ (f : ℕ → Option (Content (TaskAgent A))). HasGiven first (answers ++ turn_asked what k.0) f) (sym (contents_after over place stands advances gives starts program code v v2 t g more))
            (subst (λ z. HasGiven first (answers ++ turn_asked z k.0) (contents_written (contents_at (left_now drawn_touches v)) (drawn_touches t.event) (map content_of t.after))) is k.1),
      )

  -- at a pick the clock answers in time: with what the timers say, or less
  pub lone_reads_given : (w : Position) (a : StandsAlone over place stands program code v answers w) → turn_view t.event.what ≡ said.asks_clock → w.phase ≡ picked → ((c : TimersPart) → (parts_of 1 (contents_at (left_now drawn_touches v2))).timers ≡ Some c → IsEarly w.state.deadlines c.least)
      → (m : ℕ) × AloneAt over place stands program code v2 (answers ++ m ∷ []) in_time × HasGiven first (answers ++ m ∷ []) (contents_at (left_now drawn_touches v2))
  lone_reads_given w a is phase early =
      let k = lone_given a.coded w.state a.position.run said.asks_clock is in
      let m = k.0 in
      (m, lone_reads over place stands advances gives starts advance_law answer_law start_law program code v v2 t g more answers w a m is phase (earlier w.state.deadlines m k.1.clock.least (last_answer first.least answers m k.1.clock.least k.1.gave.rise) (early k.1.clock k.1.in_timers)), k.1)
