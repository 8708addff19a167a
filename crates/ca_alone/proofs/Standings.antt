-- Where a lone worker's turns have come to in the schedule: as it begins, by moves that are no turns, and by a turn more.
use Rattle.std.proofs.Common.{⊎_elim, inl, inr, ◌≡◌, ◌∙◌, ℕ, ◌<◌, List, [], ◌∷◌, ◌++◌, refl, sym, ap, subst, arith, Bool, true, false, None}
use Rattle.std.specs.Prelude.{◌||◌}
use Rattle.ca_value.specs.Tree.{Tree}
use Rattle.ca_term.specs.Event.{EventView}
use Rattle.ca_term.specs.Program.{ProgramView}
use Rattle.ca_term.specs.Operation.{SeedView}
use Rattle.ca_meaning.specs.Body.{At}
use Rattle.ca_meaning.specs.Solo.{CanSettle, Desk, patience}
use Rattle.ca_meaning.specs.State.{State, opening_state}
use Rattle.ca_meaning.specs.Task.{TaskBody}
use Rattle.ca_states.specs.Code.{CodeView}
use Rattle.ca_agent.specs.Agents.{Advanced, Answered, Started}
use Rattle.ca_turns.specs.declared.rule.View.{View}
use Rattle.ca_commit.specs.Gathered.{parts_of}
use Rattle.ca_commit.specs.Touched as said
use Rattle.ca_table.specs.Draws.{drawn_moves, drawn_touches, turn_view}
use Rattle.ca_table.specs.LoneHands.{DrewTurn, contents_left, left_now}
use Rattle.ca_table.specs.Moments.{turn_asked}
use Rattle.ca_table.specs.OneCode.{HaveCode, stands_over}
use Rattle.ca_table.specs.Running.{Knows, TableStands, contents_at}
use Rattle.ca_table.specs.Seen.{PartSeen}
use Rattle.ca_table.specs.Worked.{ends_main, some_turn}
use Rattle.ca_table.specs.declared.drawn.Drawn.{Drawn}
use Rattle.ca_table.proofs.Having.{both_false, has_append}
use Rattle.ca_solo.specs.Alone.{Alone}
use Rattle.ca_solo.specs.Positions.{Position, first_position, free, in_time, picked}
use Rattle.ca_solo.proofs.Following.{follows_in}
use Rattle.ca_alone.specs.Answers.{HasGiven}
use Rattle.ca_alone.specs.Lone.{DrewNext, StandsAlone}
use Rattle.ca_alone.specs.Schedule.{AtFree, AtPicked, Follow, HasAnswered, LedTo, AreTurnsRun, MaySettle, StandsAt, to_rest, to_turn}
use Rattle.ca_alone.specs.Standing.{IsOn}
use Rattle.ca_alone.proofs.Answering.{gave_none}
use Rattle.ca_alone.proofs.Beginning.{lone_starts}
use Rattle.ca_alone.proofs.Drawing.{ran_next}
use Rattle.ca_alone.proofs.LoneClock.{lone_given}
use Rattle.ca_alone.proofs.LoneMoves.{lone_passes, lone_rests, lone_untimed}

-- what a position's phase says of the lane
module _ (program : ProgramView) (readings : List ℕ) (journal : List EventView) (w : Position) (a : Alone program readings journal w) where
  free_lane : w.phase ≡ free → w.desk.lane ≡ None
  free_lane e = ap (λ (z : Desk). z.lane) (follows_in program readings journal w free a e).0.2

  pub picked_lane : w.phase ≡ picked → IsOn w.desk.lane
  picked_lane e = subst IsOn (sym (ap (λ (z : Desk). z.lane) (follows_in program readings journal w picked a e).0.3)) (let z : 0 < patience = omega arith in z)

  timed_lane : w.phase ≡ in_time → IsOn w.desk.lane
  timed_lane e = subst IsOn (sym (ap (λ (z : Desk). z.lane) (follows_in program readings journal w in_time a e).1.4)) (let z : 0 < patience = omega arith in z)

-- whether the main text has ended
module _ {C : Type 0} (what : said.Turn) (v v2 : View C Drawn) (d : DrewTurn what v v2) where
  has_more : some_turn ends_main v2.turns ≡ (some_turn ends_main v.turns || ends_main what)
  has_more = ap (some_turn ends_main) d.after.turns ∙ has_append ends_main v.turns (d.turn ∷ []) ∙ ap (λ b. some_turn ends_main v.turns || b) (or_false (ends_main (turn_view d.turn.event.what)) ∙ ap ends_main d.is) where
    or_false : (b : Bool) → (b || false) ≡ b
    or_false true = refl
    or_false false = refl

  pub open_after : some_turn ends_main v.turns ≡ false → ends_main what ≡ false → some_turn ends_main v2.turns ≡ false
  open_after old new = has_more ∙ ap (λ b. b || ends_main what) old ∙ new

  pub open_before : some_turn ends_main v2.turns ≡ false → some_turn ends_main v.turns ≡ false
  open_before new = (both_false (some_turn ends_main v.turns) (ends_main what) (sym has_more ∙ new)).0

module _ {A : Type 0} (over : CodeView → A → Type 0) (place : A → At) (stands : ProgramView → A → TaskBody → Type 0) (advances : ProgramView → A → A → Type 0) (gives : A → Tree → A → Type 0) (starts : ProgramView → SeedView → A → Type 0)
    (advance_law : Advanced stands place advances) (answer_law : Answered stands place gives) (start_law : Started stands place starts) (program : ProgramView) (code : CodeView) where
  abbrev pub Here : (Position → Type 0) → View (PartSeen A) Drawn → Type 0
  Here P v = StandsAt over place stands advances gives starts program code P v

  abbrev pub Is : (Position → Type 0) → View (PartSeen A) Drawn → Type 0
  Is P v = LedTo over place stands advances gives starts program code P v

  abbrev pub Ran : View (PartSeen A) Drawn → Type 0
  Ran v = AreTurnsRun over place stands advances gives starts program code v

  abbrev pub Gives : View (PartSeen A) Drawn → List ℕ → Type 0
  Gives v answers = HasAnswered over place stands advances gives starts program code v answers

  abbrev pub Standing : View (PartSeen A) Drawn → List ℕ → Position → Type 0
  Standing v answers w = StandsAlone over place stands program code v answers w

  abbrev pub Next : said.Turn → View (PartSeen A) Drawn → View (PartSeen A) Drawn → Type 0
  Next what v v2 = DrewNext (drawn_moves over place advances gives starts) what v v2

  -- it hangs on the opening and the turns alone
  pub same_stands : {P : Position → Type 0} (v v2 : View (PartSeen A) Drawn) → v2.opening ≡ v.opening → v2.turns ≡ v.turns → Here P v → Here P v2
  same_stands {P} v v2 opening turns s =
      let moved : Here P (record v { opening = v2.opening; turns = v2.turns }) = subst (λ ts. Here P (record v { opening = v2.opening; turns = ts })) (sym turns) (subst (λ cs. Here P (record v { opening = cs })) (sym opening) s) in record {
        stand = λ ran. (let x = moved.stand ran in record { answers = x.answers; at = x.at; alone = record { position = x.alone.position; coded = x.alone.coded; alone = x.alone.alone }; answered = x.answered; kind = x.kind });
        going = moved.going;
      }

  -- of a position of one kind a further kind may be known
  as_kind : {P Q : Position → Type 0} (v : View (PartSeen A) Drawn) (x : Is P v) → Q x.at → Is Q v
  as_kind v x k = record { answers = x.answers; at = x.at; alone = x.alone; answered = x.answered; kind = k }

  pub stands_as : {P Q : Position → Type 0} (v : View (PartSeen A) Drawn) → ((w : Position) → P w → Q w) → Here P v → Here Q v
  stands_as v f s = record { stand = λ ran. (let x = s.stand ran in as_kind v x (f x.at x.kind)); going = s.going }

  pub stands_with : {P Q : Position → Type 0} (v : View (PartSeen A) Drawn) → (Ran v → (x : Is P v) → Q x.at) → Here P v → Here (λ w. P w × Q w) v
  stands_with v f s = record { stand = λ ran. (let x = s.stand ran in as_kind v x (x.kind, f ran x)); going = s.going }

  -- a move that is no turn
  between : {P Q : Position → Type 0} (v : View (PartSeen A) Drawn) → Here P v → ((x : Is P v) → (w2 : Position) × Standing v x.answers w2 × Q w2) → Here Q v
  between v s f = record {
    stand = λ ran. (let x = s.stand ran in let k = f x in record { answers = x.answers; at = k.0; alone = k.1; answered = x.answered; kind = k.2 });
    going = s.going;
  }

  pub free_now : (v : View (PartSeen A) Drawn) (answers : List ℕ) (w : Position) → Standing v answers w → w.phase ≡ free → AtFree w
  free_now v answers w a e = (e, free_lane program answers _ w a.alone e)

  pub timed_now : (v : View (PartSeen A) Drawn) (answers : List ℕ) (w : Position) → Standing v answers w → w.phase ≡ in_time → MaySettle to_turn [] w
  timed_now v answers w a e = inr (e, refl, timed_lane program answers _ w a.alone e)

  -- before it drew anything
  pub begins : (v : View (PartSeen A) Drawn) → Knows over stands program code 1 v → v.turns ≡ [] → Here AtFree v
  begins v k none =
      let r = lone_rests over place stands program code v [] (first_position [] (opening_state k.body)) (lone_starts over place stands advances gives starts advance_law answer_law start_law program code v k none) refl refl in record {
        stand = λ ran. record {
          answers = [];
          at = r.0;
          alone = r.1;
          answered = λ first e. record { clock = first; in_timers = ap (λ ts. (parts_of 1 (contents_at (contents_left drawn_touches v.opening ts))).timers) none ∙ e; gave = gave_none first };
          kind = free_now v [] r.0 r.1 r.2;
        };
        going = ap (some_turn ends_main) none;
      }

  -- no deadline is open
  pub untimed : (v : View (PartSeen A) Drawn) → Here (λ w. AtPicked w × (w.state.deadlines ≡ [])) v → Here (MaySettle to_turn []) v
  untimed v s = between v s (λ x. let k = lone_untimed over place stands program code v x.answers x.at x.alone x.kind.0.0 x.kind.1 in (k.0, k.1, timed_now v x.answers k.0 k.1 k.2))

  -- the least channel that may settle doesn't
  pub passes : (v : View (PartSeen A) Drawn) (k : Follow) (p : ℕ) (us : List ℕ) → Here (λ w. MaySettle k (p ∷ us) w × (CanSettle w.state p → ⊥)) v → Here (MaySettle k us) v
  passes v to_turn p us s = between v s (λ x. ⊎_elim (λ e. let k = lone_passes over place stands program code v x.answers x.at x.alone p us e x.kind.1 in (k.0, k.1, inl k.2)) (λ y. absurd (let z : p ∷ us ≡ [] = y.1 in cc)) x.kind.0)
  passes v to_rest p us s = between v s (λ x. ⊎_elim (λ e. let k = lone_passes over place stands program code v x.answers x.at x.alone p us e x.kind.1 in (k.0, k.1, (k.3 ∙ x.kind.0.0, inl k.2))) (λ e. (x.at, x.alone, (x.kind.0.0, inr e))) x.kind.0.1)

  -- none is left, and nobody is in the lane: as before, or since the last event
  pub rests : (v : View (PartSeen A) Drawn) → Here (MaySettle to_rest []) v → Here AtFree v
  rests v s = between v s (λ x. ⊎_elim (λ e. let k = lone_rests over place stands program code v x.answers x.at x.alone e x.kind.0 in (k.0, k.1, free_now v x.answers k.0 k.1 k.2)) (λ e. (x.at, x.alone, (e, x.kind.0))) x.kind.1)

  pub leaves : (v : View (PartSeen A) Drawn) → Here (λ w. MaySettle to_turn [] w × (w.desk.lane ≡ None)) v → Here AtFree v
  leaves v s = between v s (λ x. ⊎_elim (λ e. let k = lone_rests over place stands program code v x.answers x.at x.alone e x.kind.1 in (k.0, k.1, free_now v x.answers k.0 k.1 k.2)) (λ y. absurd (subst IsOn x.kind.1 y.2)) x.kind.0)

  -- a turn more
  module _ (what : said.Turn) (v v2 : View (PartSeen A) Drawn) where
    pub next : DrewTurn what v v2 → Ran v2 → Next what v v2 × Ran v
    next d ran = ran_next (drawn_moves over place advances gives starts) what v v2 d.turn (left_now drawn_touches v2) ran d.after d.is

    module _ (rs : List ℕ) (asks : (least : ℕ) → turn_asked what least ≡ rs) where
      -- the clock gave the answers that it took
      pub gives_more : Next what v v2 → (answers : List ℕ) (s : State) → HaveCode code (left_now drawn_touches v) → TableStands place (stands_over over code stands) program 1 (left_now drawn_touches v) s → Gives v answers → Gives v2 (answers ++ rs)
      gives_more n answers s coded run told first e =
          let given = told first (ap (λ cs. (parts_of 1 (contents_at cs)).timers) (sym n.after.opening) ∙ e) in
          let k = lone_given over place stands advances gives starts advance_law answer_law start_law program code v v2 n.turn n.goes n.after first answers given coded s run what n.is in
          subst (λ zs. HasGiven first (answers ++ zs) (contents_at (left_now drawn_touches v2))) (asks k.0) k.1

      -- it leads from a position to another
      pub leads : {P Q : Position → Type 0} → DrewTurn what v v2 → (Ran v → Is P v) → (Next what v v2 → (x : Is P v) → (w2 : Position) × Standing v2 (x.answers ++ rs) w2 × Q w2) → Ran v2 → Is Q v2
      leads d stand f ran =
          let n = next d ran in
          let x = stand n.1 in
          let k = f n.0 x in
          record { answers = x.answers ++ rs; at = k.0; alone = k.1; answered = gives_more n.0 x.answers x.at.state x.alone.coded x.alone.position.run x.answered; kind = k.2 }
