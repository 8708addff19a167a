-- Each kind of turn of a lone worker, as a move of the schedule, and the moves that are no turns.
use Rattle.std.proofs.Common.{◌≡◌, ◌≢◌, ◌∙◌, ℕ, ◌≤◌, List, [], ◌∷◌, ◌++◌, refl, sym, ap, subst, map, Option, Some, None}
use Rattle.ca_value.specs.Tree.{Tree}
use Rattle.ca_term.specs.declared.event.Side.{Side}
use Rattle.ca_term.specs.Event.{EventView, settled, ticked}
use Rattle.ca_term.specs.Program.{ProgramView}
use Rattle.ca_term.specs.Operation.{SeedView}
use Rattle.ca_meaning.specs.Body.{At}
use Rattle.ca_meaning.specs.Row.{settles, unsettled}
use Rattle.ca_meaning.specs.Solo.{Desk, Lane, CanSettle, joined_by, patience}
use Rattle.ca_meaning.specs.State.{State}
use Rattle.ca_meaning.specs.Task.{TaskBody}
use Rattle.ca_meaning.specs.Wait.{owner_of}
use Rattle.ca_states.specs.Code.{CodeView}
use Rattle.ca_agent.specs.Agents.{Advanced, Answered, Started}
use Rattle.ca_turns.specs.declared.rule.Turn.{Turn}
use Rattle.ca_turns.specs.declared.rule.View.{View}
use Rattle.ca_turns.specs.History.{TurnGoes}
use Rattle.ca_commit.specs.Contents.{Content}
use Rattle.ca_commit.specs.Gathered.{AllAlike, kind_at, kind_of_part}
use Rattle.ca_commit.specs.Moving.{Moves, visible}
use Rattle.ca_commit.specs.Running.{AreAt}
use Rattle.ca_commit.specs.Touched as said
use Rattle.ca_table.specs.Draws.{drawn_moves, drawn_touches, drawn_view, turn_view}
use Rattle.ca_table.specs.OneCode.{HaveCode, advances_over, gives_over, stands_over, starts_over}
use Rattle.ca_table.specs.Running.{TableStands, contents_at, shown_by}
use Rattle.ca_table.specs.Seen.{PartSeen, content_of}
use Rattle.ca_table.specs.declared.drawn.Drawn.{Drawn}
use Rattle.ca_table.proofs.Codes.{advanced_over, answered_over, started_over, touches_some}
use Rattle.ca_solo.specs.Moves.{SoloMove, PassesOne, SettlesOne, WaitsIdle, is_in_time, is_late, passes_one, picks, rests, settles_one, waits_idle, yields}
use Rattle.ca_solo.specs.Positions.{Phase, Position, also_later, free, in_time, picked, settling}
use Rattle.ca_solo.specs.Stirs.{Ordered}
use Rattle.ca_solo.proofs.Following.{follows_in}
use Rattle.ca_table.specs.LoneHands.{IsAfter, left_now}
use Rattle.ca_alone.specs.Lone.{StandsAlone}
use Rattle.ca_alone.specs.OwnTurn.{IsDue, IsEarly}
use Rattle.ca_alone.proofs.Idling.{empty_is_move, halt_stays, idle_is_move, late_is_move, pick_is_move, prune_stays, read_is_move, rested_is_move, stall_stays, untimed_is_move, yield_is_move}
use Rattle.ca_alone.proofs.Lone.{found_at, lone_between, lone_shows, lone_stays, lone_turn, moved_by}
use Rattle.ca_alone.proofs.LoneTurns.{lone_shown}
use Rattle.ca_alone.proofs.Waking.{settle_is_move}

-- what is touched tells how many workers there are
tied_by : {A : Type 0} (k : ℕ) (now : ℕ → Option (Content A)) (is : List ℕ) (before after : List (Content A)) → is ≢ [] → AreAt now is before → AllAlike k before after → ((i : ℕ) (c : Content A) → now i ≡ Some c → (c.workers ≡ 1) × (kind_of_part c.held ≡ kind_at 1 i)) → k ≡ 1
tied_by {A} k now [] before after ne at alike kinds = absurd (ne refl)
tied_by {A} k now (i ∷ is) [] after ne at alike kinds = absurd at
tied_by {A} k now (i ∷ is) (b ∷ before) [] ne at alike kinds = absurd alike
tied_by {A} k now (i ∷ is) (b ∷ before) (c ∷ after) ne at alike kinds = sym alike.0.0 ∙ (kinds i b at.0).0

-- what a move that keeps the task on leaves of the lane
joined_lane : (o : Option ℕ) (d : Desk) → (joined_by o d).lane ≡ d.lane
joined_lane None d = refl
joined_lane (Some t) d = refl

settles_lane : (program : ProgramView) (w w2 : Position) (e : EventView) → SettlesOne program w e w2 → w2.desk.lane ≡ w.desk.lane
settles_lane program w w2 e x = ap (λ (z : Position). z.desk.lane) x.10 ∙ joined_lane (owner_of x.2 w.state.waits) w.desk

waits_lane : (program : ProgramView) (w w2 : Position) (m : ℕ) (ports : List ℕ) → WaitsIdle program w m ports w2 → w2.desk.lane ≡ w.desk.lane
waits_lane program w w2 m ports x = ap (λ (z : Position). z.desk.lane) x.8

passes_lane : (w w2 : Position) → PassesOne w w2 → w2.desk.lane ≡ w.desk.lane
passes_lane w w2 x = ap (λ (z : Position). z.desk.lane) x.4

module _ {A : Type 0} (over : CodeView → A → Type 0) (place : A → At) (stands : ProgramView → A → TaskBody → Type 0) (advances : ProgramView → A → A → Type 0) (gives : A → Tree → A → Type 0) (starts : ProgramView → SeedView → A → Type 0)
    (advance_law : Advanced stands place advances) (answer_law : Answered stands place gives) (start_law : Started stands place starts) (program : ProgramView) (code : CodeView)
    (v v2 : View (PartSeen A) Drawn) (t : Turn (PartSeen A) Drawn) (g : TurnGoes drawn_touches (drawn_moves over place advances gives starts) (left_now drawn_touches v) t) (more : IsAfter v v2 t) where
  -- the turn is that of the only worker
  pub one_works : HaveCode code (left_now drawn_touches v) → (s : State) → TableStands place (stands_over over code stands) program 1 (left_now drawn_touches v) s → (drawn_view t.event).workers ≡ 1
  one_works coded s run =
      let moved = moved_by over place stands advances gives starts program code v v2 t g more coded in
      tied_by (drawn_view t.event).workers (contents_at (left_now drawn_touches v)) (drawn_touches t.event) (map content_of t.before) (map content_of t.after)
      (touches_some place (advances_over over code advances) (gives_over over code gives) (starts_over over code starts) (drawn_view t.event) (map content_of t.before) (map content_of t.after) moved)
      (found_at over place stands advances gives starts program code v v2 t g more) moved.1 run.kinds

  module _ (answers : List ℕ) (w : Position) (a : StandsAlone over place stands program code v answers w) where
    abbrev both : ProgramView → A → TaskBody → Type 0
    both = stands_over over code stands

    -- the worker is then alone at a position of this phase, after these answers of the clock
    abbrev pub Then : List ℕ → Phase → Type 0
    Then rs f = (w2 : Position) × StandsAlone over place stands program code v2 rs w2 × (w2.phase ≡ f)

    -- .. with the lane as before
    abbrev pub ThenSame : List ℕ → Phase → Type 0
    ThenSame rs f = (w2 : Position) × StandsAlone over place stands program code v2 rs w2 × (w2.phase ≡ f) × (w2.desk.lane ≡ w.desk.lane)

    found : AreAt (contents_at (left_now drawn_touches v)) (drawn_touches t.event) (map content_of t.before)
    found = found_at over place stands advances gives starts program code v v2 t g more

    moved : Moves place (advances_over over code advances) (gives_over over code gives) (starts_over over code starts) (drawn_view t.event) (map content_of t.before) (map content_of t.after)
    moved = moved_by over place stands advances gives starts program code v v2 t g more a.coded

    one : (drawn_view t.event).workers ≡ 1
    one = one_works a.coded w.state a.position.run

    -- Pick and Yield
    pub lone_picks : turn_view t.event.what ≡ said.picks 0 → w.phase ≡ free → Then answers picked
    lone_picks is phase = let k = pick_is_move place both program (contents_at (left_now drawn_touches v)) w a.position (advances_over over code advances) (gives_over over code gives) (starts_over over code starts) (advanced_over over code place stands advances advance_law) (answered_over over code place stands gives answer_law) (started_over over code place stands starts start_law) (drawn_view t.event) (map content_of t.before) (map content_of t.after) one found moved is phase in
        (k.0, lone_shows over place stands advances gives starts program code v v2 t g more answers w a k.0 (subst (λ es. SoloMove program w k.0 es) (sym (ap visible is)) (picks k.1 refl)) k.3, k.2)

    pub lone_yields : turn_view t.event.what ≡ said.yields → w.phase ≡ settling [] → ((lane : Lane) → w.desk.lane ≡ Some lane → patience ≤ lane.events) → Then answers free
    lone_yields is phase enough = let k = yield_is_move place both program (contents_at (left_now drawn_touches v)) w a.position (advances_over over code advances) (gives_over over code gives) (starts_over over code starts) (advanced_over over code place stands advances advance_law) (answered_over over code place stands gives answer_law) (started_over over code place stands starts start_law) (drawn_view t.event) (map content_of t.before) (map content_of t.after) one found moved is phase enough in
        (k.0, lone_shows over place stands advances gives starts program code v v2 t g more answers w a k.0 (subst (λ es. SoloMove program w k.0 es) (sym (ap visible is)) (yields k.1 refl)) k.3, k.2)

    -- what is silent, and no move
    pub lone_prunes : (side : Side) (q wait : ℕ) → turn_view t.event.what ≡ said.prunes side q wait → StandsAlone over place stands program code v2 answers w
    lone_prunes side q wait is = lone_stays over place stands advances gives starts program code v v2 t g more answers w a (ap visible is) (prune_stays place both program (contents_at (left_now drawn_touches v)) w a.position (advances_over over code advances) (gives_over over code gives) (starts_over over code starts) (advanced_over over code place stands advances advance_law) (answered_over over code place stands gives answer_law) (started_over over code place stands starts start_law) (drawn_view t.event) (map content_of t.before) (map content_of t.after) one found moved side q wait is)

    pub lone_stalls : turn_view t.event.what ≡ said.stalls → StandsAlone over place stands program code v2 answers w
    lone_stalls is = lone_stays over place stands advances gives starts program code v v2 t g more answers w a (ap visible is) (stall_stays place both program (contents_at (left_now drawn_touches v)) w a.position (advances_over over code advances) (gives_over over code gives) (starts_over over code starts) (advanced_over over code place stands advances advance_law) (answered_over over code place stands gives answer_law) (started_over over code place stands starts start_law) (drawn_view t.event) (map content_of t.before) (map content_of t.after) one found moved is)

    pub lone_halts : turn_view t.event.what ≡ said.halts → StandsAlone over place stands program code v2 answers w
    lone_halts is = lone_stays over place stands advances gives starts program code v v2 t g more answers w a (ap visible is) (halt_stays place both program (contents_at (left_now drawn_touches v)) w a.position (advances_over over code advances) (gives_over over code gives) (starts_over over code starts) (advanced_over over code place stands advances advance_law) (answered_over over code place stands gives answer_law) (started_over over code place stands starts start_law) (drawn_view t.event) (map content_of t.before) (map content_of t.after) one found moved is)

    -- the clock is asked at a pick, and answers in time ..
    pub lone_reads : (m : ℕ) → turn_view t.event.what ≡ said.asks_clock → w.phase ≡ picked → IsEarly w.state.deadlines m → Then (answers ++ m ∷ []) in_time
    lone_reads m is phase early = let k = read_is_move place both program (contents_at (left_now drawn_touches v)) w a.position (advances_over over code advances) (gives_over over code gives) (starts_over over code starts) (advanced_over over code place stands advances advance_law) (answered_over over code place stands gives answer_law) (started_over over code place stands starts start_law) (drawn_view t.event) (map content_of t.before) (map content_of t.after) one found moved m is phase early in
        (k.0, lone_turn over place stands advances gives starts program code v v2 t g more answers w a (m ∷ []) k.0 (subst (λ es. SoloMove program (also_later (m ∷ []) w) k.0 es) (sym (ap visible is)) (is_in_time k.1 refl)) k.3, k.2)

    -- .. or late, and a Tick comes ..
    pub lone_is_late : (m : ℕ) (ports us : List ℕ) → turn_view t.event.what ≡ said.shown (ticked m ports) → w.phase ≡ picked → IsDue w.state.deadlines m → Ordered ports us → Then (answers ++ m ∷ []) (settling us)
    lone_is_late m ports us is phase due order = let k = late_is_move place both program (contents_at (left_now drawn_touches v)) w a.position (advances_over over code advances) (gives_over over code gives) (starts_over over code starts) (advanced_over over code place stands advances advance_law) (answered_over over code place stands gives answer_law) (started_over over code place stands starts start_law) (drawn_view t.event) (map content_of t.before) (map content_of t.after) one found moved m ports us is phase due order in
        (k.0, lone_turn over place stands advances gives starts program code v v2 t g more answers w a (m ∷ []) k.0 (subst (λ es. SoloMove program (also_later (m ∷ []) w) k.0 es) (sym (ap visible is)) (is_late m ports k.1 refl)) k.3, k.2)

    -- .. or nobody is ready, and it waits
    pub lone_waits : (m : ℕ) (ports us : List ℕ) → turn_view t.event.what ≡ said.shown (ticked m ports) → w.phase ≡ free → w.desk.ready ≡ [] → IsDue w.state.deadlines m → Ordered ports us → ThenSame (answers ++ m ∷ []) (settling us)
    lone_waits m ports us is phase none due order = let k = idle_is_move place both program (contents_at (left_now drawn_touches v)) w a.position (advances_over over code advances) (gives_over over code gives) (starts_over over code starts) (advanced_over over code place stands advances advance_law) (answered_over over code place stands gives answer_law) (started_over over code place stands starts start_law) (drawn_view t.event) (map content_of t.before) (map content_of t.after) one found moved m ports us is phase none due order in
        (k.0, lone_turn over place stands advances gives starts program code v v2 t g more answers w a (m ∷ []) k.0 (subst (λ es. SoloMove program (also_later (m ∷ []) w) k.0 es) (sym (ap visible is)) (waits_idle m ports k.1 refl)) k.3, k.2, waits_lane program (also_later (m ∷ []) w) k.0 m ports k.1)

    -- the least channel that may settle does
    pub lone_settles : (wait o : ℕ) (side : Side) (q : ℕ) (x : Tree) (us : List ℕ) → turn_view t.event.what ≡ said.shown (settled wait o side q x) → w.phase ≡ settling (q ∷ us) → ThenSame answers (settling (q ∷ us))
    lone_settles wait o side q x us is phase = let k = settle_is_move place both program (contents_at (left_now drawn_touches v)) w a.position (advances_over over code advances) (gives_over over code gives) (starts_over over code starts) (advanced_over over code place stands advances advance_law) (answered_over over code place stands gives answer_law) (started_over over code place stands starts start_law) (drawn_view t.event) (map content_of t.before) (map content_of t.after) one found moved wait o side q x us is phase in
        (k.0, lone_shows over place stands advances gives starts program code v v2 t g more answers w a k.0 (subst (λ es. SoloMove program w k.0 es) (sym (ap visible is)) (settles_one (settled wait o side q x) k.1 refl)) k.3, k.2, settles_lane program w k.0 (settled wait o side q x) k.1)

    -- .. and there is one where it does
    pub none_settles : (wait o : ℕ) (side : Side) (q : ℕ) (x : Tree) → turn_view t.event.what ≡ said.shown (settled wait o side q x) → w.phase ≡ free → ⊥
    none_settles wait o side q x is phase =
        let k = lone_shown place both (advances_over over code advances) (gives_over over code gives) (starts_over over code starts) (drawn_view t.event) (contents_at (left_now drawn_touches v)) (map content_of t.before) (map content_of t.after) one found moved
        (advanced_over over code place stands advances advance_law) (answered_over over code place stands gives answer_law) (started_over over code place stands starts start_law) program w.state a.position.run (settled wait o side q x) (ap visible is) in
        let step = k.1 in
        (follows_in program answers (shown_by v.turns) w free a.alone phase).1 q (step.0, step.4, λ n. let i : unsettled ≡ settles side step.2 x step.1 = sym n ∙ step.5 in cc)

-- what is no turn
module _ {A : Type 0} (over : CodeView → A → Type 0) (place : A → At) (stands : ProgramView → A → TaskBody → Type 0) (program : ProgramView) (code : CodeView) (v : View (PartSeen A) Drawn) (answers : List ℕ) (w : Position) (a : StandsAlone over place stands program code v answers w) where
  abbrev pub Still : Phase → Type 0
  Still f = (w2 : Position) × StandsAlone over place stands program code v answers w2 × (w2.phase ≡ f)

  -- where no deadline is open the clock isn't asked
  pub lone_untimed : w.phase ≡ picked → w.state.deadlines ≡ [] → Still in_time
  lone_untimed phase none = let k = untimed_is_move place (stands_over over code stands) program (contents_at (left_now drawn_touches v)) w a.position phase none in
      (k.0, lone_between over place stands program code v answers w a k.0 (is_in_time k.1 refl) k.2, ap (λ (z : Position). z.phase) k.1.3)

  -- the least channel that may settle doesn't
  pub lone_passes : (q : ℕ) (us : List ℕ) → w.phase ≡ settling (q ∷ us) → (CanSettle w.state q → ⊥) → (w2 : Position) × StandsAlone over place stands program code v answers w2 × (w2.phase ≡ settling us) × (w2.desk.lane ≡ w.desk.lane)
  lone_passes q us phase not = let k = rested_is_move place (stands_over over code stands) program (contents_at (left_now drawn_touches v)) w a.position q us phase not in
      (k.0, lone_between over place stands program code v answers w a k.0 (passes_one k.1 refl) k.3, k.2, passes_lane w k.0 k.1)

  -- the task left
  pub lone_rests : w.phase ≡ settling [] → w.desk.lane ≡ None → Still free
  lone_rests phase none = let k = empty_is_move place (stands_over over code stands) program (contents_at (left_now drawn_touches v)) w a.position phase none in
      (k.0, lone_between over place stands program code v answers w a k.0 (rests k.1 refl) k.3, k.2)
