-- Each turn of a lone worker leads from one standing in the schedule to the next.
use Rattle.std.proofs.Common.{⊎_elim, inl, ◌≡◌, ◌∙◌, ℕ, ◌<◌, ◌≤◌, List, [], ◌∷◌, ◌++◌, refl, sym, ap, subst, arith, append-nil, false, Option, Some, None}
use Rattle.ca_value.specs.Tree.{Tree}
use Rattle.ca_term.specs.declared.event.Side.{Side}
use Rattle.ca_term.specs.Event.{settled, ticked}
use Rattle.ca_term.specs.Program.{ProgramView}
use Rattle.ca_term.specs.Operation.{SeedView}
use Rattle.ca_meaning.specs.Body.{At}
use Rattle.ca_meaning.specs.Solo.{Lane, patience}
use Rattle.ca_meaning.specs.Task.{TaskBody}
use Rattle.ca_states.specs.Code.{CodeView}
use Rattle.ca_agent.specs.Agents.{Advanced, Answered, Started}
use Rattle.ca_turns.specs.declared.rule.View.{View}
use Rattle.ca_commit.specs.Contents.{TimersPart}
use Rattle.ca_commit.specs.Gathered.{parts_of}
use Rattle.ca_commit.specs.Touched as said
use Rattle.ca_commit.proofs.Seats.{some_same}
use Rattle.ca_table.specs.Draws.{drawn_moves, drawn_touches}
use Rattle.ca_table.specs.LoneHands.{DrewTurn, left_now}
use Rattle.ca_table.specs.Moments.{turn_asked}
use Rattle.ca_table.specs.Running.{contents_at}
use Rattle.ca_table.specs.Seen.{PartSeen}
use Rattle.ca_table.specs.Worked.{ends_main}
use Rattle.ca_table.specs.declared.drawn.Drawn.{Drawn}
use Rattle.ca_solo.specs.Positions.{HasUsed, Position}
use Rattle.ca_solo.specs.Stirs.{Ordered}
use Rattle.ca_alone.specs.Answers.{HasGiven}
use Rattle.ca_alone.specs.Lone.{DrewNext, StandsAlone}
use Rattle.ca_alone.specs.OwnTurn.{IsDue, IsEarly}
use Rattle.ca_alone.specs.Schedule.{AtFree, AtPicked, Follow, LedTo, IsFull, AreTurnsRun, MaySettle, MayTick, StandsAt, to_rest, to_turn}
use Rattle.ca_alone.specs.Standing.{IsOn}
use Rattle.ca_alone.proofs.LoneClock.{lone_reads_given}
use Rattle.ca_alone.proofs.LoneMoves.{lone_halts, lone_is_late, lone_picks, lone_prunes, lone_reads, lone_settles, lone_stalls, lone_waits, lone_yields, none_settles}
use Rattle.ca_alone.proofs.Standings.{free_now, leads, next, open_after, picked_lane, timed_now}

not_both : (o : Option Lane) → IsOn o → IsFull o → ⊥
not_both None on full = on
not_both (Some lane) on full = let lt : lane.events < patience = on in let le : patience ≤ lane.events = full in omega (arith, lt, le)

full_enough : (o : Option Lane) → IsFull o → (lane : Lane) → o ≡ Some lane → patience ≤ lane.events
full_enough None f lane e = absurd f
full_enough (Some l) f lane e = subst (λ (z : Lane). patience ≤ z.events) (some_same l lane e) f

module _ {A : Type 0} (over : CodeView → A → Type 0) (place : A → At) (stands : ProgramView → A → TaskBody → Type 0) (advances : ProgramView → A → A → Type 0) (gives : A → Tree → A → Type 0) (starts : ProgramView → SeedView → A → Type 0)
    (advance_law : Advanced stands place advances) (answer_law : Answered stands place gives) (start_law : Started stands place starts) (program : ProgramView) (code : CodeView) where
  abbrev pub Here : (Position → Type 0) → View (PartSeen A) Drawn → Type 0
  Here P v = StandsAt over place stands advances gives starts program code P v

  abbrev pub Is : (Position → Type 0) → View (PartSeen A) Drawn → Type 0
  Is P v = LedTo over place stands advances gives starts program code P v

  abbrev pub Ran : View (PartSeen A) Drawn → Type 0
  Ran v = AreTurnsRun over place stands advances gives starts program code v

  module _ (what : said.Turn) (v v2 : View (PartSeen A) Drawn) where
    abbrev Next : Type 0
    Next = DrewNext (drawn_moves over place advances gives starts) what v v2

    -- a turn that may be told, and takes these answers
    goes : {P Q : Position → Type 0} (rs : List ℕ) → ((least : ℕ) → turn_asked what least ≡ rs) → ends_main what ≡ false → Here P v → DrewTurn what v v2
        → (Next → (x : Is P v) → (w2 : Position) × StandsAlone over place stands program code v2 (x.answers ++ rs) w2 × Q w2) → Here Q v2
    goes rs asks main s d f = record {
      stand = leads over place stands advances gives starts advance_law answer_law start_law program code what v v2 rs asks d s.stand f;
      going = open_after what v v2 d s.going main;
    }

    -- one that takes none, and tells none
    goes_quietly : {P Q : Position → Type 0} → ((least : ℕ) → turn_asked what least ≡ []) → ends_main what ≡ false → Here P v → DrewTurn what v v2
        → (Next → (x : Is P v) → (w2 : Position) × StandsAlone over place stands program code v2 x.answers w2 × Q w2) → Here Q v2
    goes_quietly asks main s d f = goes [] asks main s d
        (λ n x. let k = f n x in (k.0, subst (λ told. StandsAlone over place stands program code v2 told k.0) (sym (append-nil x.answers)) k.1, k.2))

  -- Pick and Yield
  pub picks : (v v2 : View (PartSeen A) Drawn) → Here AtFree v → DrewTurn (said.picks 0) v v2 → Here AtPicked v2
  picks v v2 s d = goes_quietly (said.picks 0) v v2 (λ l. refl) refl s d
      (λ n x. let k = lone_picks over place stands advances gives starts advance_law answer_law start_law program code v v2 n.turn n.goes n.after x.answers x.at x.alone n.is x.kind.0 in (k.0, k.1, (k.2, picked_lane program x.answers _ k.0 k.1.alone k.2)))

  pub yields : (v v2 : View (PartSeen A) Drawn) → Here (λ w. MaySettle to_turn [] w × IsFull w.desk.lane) v → DrewTurn said.yields v v2 → Here AtFree v2
  yields v v2 s d = goes_quietly said.yields v v2 (λ l. refl) refl s d
      (λ n x. let k = lone_yields over place stands advances gives starts advance_law answer_law start_law program code v v2 n.turn n.goes n.after x.answers x.at x.alone n.is (⊎_elim (λ e. e) (λ y. absurd (not_both x.at.desk.lane y.2 x.kind.1)) x.kind.0) (full_enough x.at.desk.lane x.kind.1) in (k.0, k.1, free_now over place stands advances gives starts advance_law answer_law start_law program code v2 x.answers k.0 k.1 k.2))

  -- what is silent, and no move
  pub prunes : {P : Position → Type 0} (v v2 : View (PartSeen A) Drawn) (side : Side) (p wait : ℕ) → Here P v → DrewTurn (said.prunes side p wait) v v2 → Here P v2
  prunes v v2 side p wait s d = goes_quietly (said.prunes side p wait) v v2 (λ l. refl) refl s d
      (λ n x. (x.at, lone_prunes over place stands advances gives starts advance_law answer_law start_law program code v v2 n.turn n.goes n.after x.answers x.at x.alone side p wait n.is, x.kind))

  pub stalls : {P : Position → Type 0} (v v2 : View (PartSeen A) Drawn) → Here P v → DrewTurn said.stalls v v2 → Here P v2
  stalls v v2 s d = goes_quietly said.stalls v v2 (λ l. refl) refl s d
      (λ n x. (x.at, lone_stalls over place stands advances gives starts advance_law answer_law start_law program code v v2 n.turn n.goes n.after x.answers x.at x.alone n.is, x.kind))

  pub halts : {P : Position → Type 0} (v v2 : View (PartSeen A) Drawn) → Here P v → DrewTurn said.halts v v2 → Here P v2
  halts v v2 s d = goes_quietly said.halts v v2 (λ l. refl) refl s d
      (λ n x. (x.at, lone_halts over place stands advances gives starts advance_law answer_law start_law program code v v2 n.turn n.goes n.after x.answers x.at x.alone n.is, x.kind))

  -- the least channel that may settle does
  pub settles : (v v2 : View (PartSeen A) Drawn) (k : Follow) (p : ℕ) (us : List ℕ) (wait o : ℕ) (side : Side) (x : Tree) → Here (MaySettle k (p ∷ us)) v → DrewTurn (said.shown (settled wait o side p x)) v v2 → Here (MaySettle k (p ∷ us)) v2
  settles v v2 k p us wait o side x s d = goes_quietly (said.shown (settled wait o side p x)) v v2 (λ l. refl) refl s d (by k) where
    by : (k : Follow) → DrewNext (drawn_moves over place advances gives starts) (said.shown (settled wait o side p x)) v v2 → (y : Is (MaySettle k (p ∷ us)) v) → (w2 : Position) × StandsAlone over place stands program code v2 y.answers w2 × MaySettle k (p ∷ us) w2
    by to_turn n y = ⊎_elim (λ e. let k = lone_settles over place stands advances gives starts advance_law answer_law start_law program code v v2 n.turn n.goes n.after y.answers y.at y.alone wait o side p x us n.is e in (k.0, k.1, inl k.2)) (λ h. absurd (let z : p ∷ us ≡ [] = h.1 in cc)) y.kind
    by to_rest n y = ⊎_elim (λ e. let k = lone_settles over place stands advances gives starts advance_law answer_law start_law program code v v2 n.turn n.goes n.after y.answers y.at y.alone wait o side p x us n.is e in (k.0, k.1, (k.3 ∙ y.kind.0, inl k.2)))
        (λ e. absurd (none_settles over place stands advances gives starts advance_law answer_law start_law program code v v2 n.turn n.goes n.after y.answers y.at y.alone wait o side p x n.is e)) y.kind.1

  -- the clock is asked at a pick, and its answer is before the first deadline
  asked_now : (v v2 : View (PartSeen A) Drawn) (m : ℕ) → DrewNext (drawn_moves over place advances gives starts) said.asks_clock v v2 → ((c : TimersPart) → (parts_of 1 (contents_at (left_now drawn_touches v2))).timers ≡ Some c → c.least ≡ m)
      → Is (λ w. AtPicked w × IsEarly w.state.deadlines m) v → (o : Option TimersPart) → (parts_of 1 (contents_at v.opening)).timers ≡ o → Is (MaySettle to_turn []) v2
  asked_now v v2 m n told x None none = let k = lone_reads over place stands advances gives starts advance_law answer_law start_law program code v v2 n.turn n.goes n.after x.answers x.at x.alone m n.is x.kind.0.0 x.kind.1 in record {
    answers = x.answers ++ m ∷ [];
    at = k.0;
    alone = k.1;
    answered = λ first e. absurd (let z : None ≡ Some first = sym none ∙ ap (λ cs. (parts_of 1 (contents_at cs)).timers) (sym n.after.opening) ∙ e in cc);
    kind = timed_now over place stands advances gives starts advance_law answer_law start_law program code v2 (x.answers ++ m ∷ []) k.0 k.1 k.2;
  }
  asked_now v v2 m n told x (Some clock) some = let k = lone_reads_given over place stands advances gives starts advance_law answer_law start_law program code v v2 n.turn n.goes n.after clock x.answers (x.answered clock some) x.at x.alone n.is x.kind.0.0 (λ c e. subst (IsEarly x.at.state.deadlines) (sym (told c e)) x.kind.1) in record {
    answers = x.answers ++ k.0 ∷ [];
    at = k.1.0;
    alone = k.1.1;
    answered = λ first e. subst (λ (z : TimersPart). HasGiven z (x.answers ++ k.0 ∷ []) (contents_at (left_now drawn_touches v2))) (some_same clock first (sym some ∙ ap (λ cs. (parts_of 1 (contents_at cs)).timers) (sym n.after.opening) ∙ e)) k.2;
    kind = timed_now over place stands advances gives starts advance_law answer_law start_law program code v2 (x.answers ++ k.0 ∷ []) k.1.0 k.1.1 k.1.2;
  }

  pub reads : (v v2 : View (PartSeen A) Drawn) (m : ℕ) → Here (λ w. AtPicked w × IsEarly w.state.deadlines m) v → DrewTurn said.asks_clock v v2 → (Ran v2 → (c : TimersPart) → (parts_of 1 (contents_at (left_now drawn_touches v2))).timers ≡ Some c → c.least ≡ m) → Here (MaySettle to_turn []) v2
  reads v v2 m s d told = record {
    stand = λ ran. (let n = next over place stands advances gives starts advance_law answer_law start_law program code said.asks_clock v v2 d ran in asked_now v v2 m n.0 (told ran) (s.stand n.1) (parts_of 1 (contents_at v.opening)).timers refl);
    going = open_after said.asks_clock v v2 d s.going refl;
  }

  -- A Tick, at a pick or where nobody is ready. The run may end with it.
  pub ticks : (v v2 : View (PartSeen A) Drawn) (k : Follow) (m : ℕ) (ports us : List ℕ) → Here (λ w. MayTick k w × IsDue w.state.deadlines m) v → DrewTurn (said.shown (ticked m ports)) v v2 → Ordered ports us → Here (λ w. MaySettle k us w × HasUsed w.phase) v2
  ticks v v2 k m ports us s d order = goes (said.shown (ticked m ports)) v v2 (m ∷ []) (λ l. refl) refl s d (by k) where
    by : (k : Follow) → DrewNext (drawn_moves over place advances gives starts) (said.shown (ticked m ports)) v v2 → (x : Is (λ w. MayTick k w × IsDue w.state.deadlines m) v) → (w2 : Position) × StandsAlone over place stands program code v2 (x.answers ++ m ∷ []) w2 × (MaySettle k us w2 × HasUsed w2.phase)
    by to_turn n x = let k = lone_is_late over place stands advances gives starts advance_law answer_law start_law program code v v2 n.turn n.goes n.after x.answers x.at x.alone m ports us n.is x.kind.0.0 x.kind.1 order in (k.0, k.1, (inl k.2, subst HasUsed (sym k.2) tt))
    by to_rest n x = let k = lone_waits over place stands advances gives starts advance_law answer_law start_law program code v v2 n.turn n.goes n.after x.answers x.at x.alone m ports us n.is x.kind.0.0.0 x.kind.0.1 x.kind.1 order in (k.0, k.1, ((k.3 ∙ x.kind.0.0.1, inl k.2), subst HasUsed (sym k.2) tt))
