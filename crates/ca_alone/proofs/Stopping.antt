-- Where a lone worker may stop, and the events of its lane's task, after each of which it may have to.
use Rattle.std.proofs.Common.{⊎_elim, inl, ◌≡◌, ◌∙◌, ℕ, ◌+◌, ◌<◌, ◌≤◌, List, [], ◌∷◌, ◌++◌, refl, sym, ap, subst, arith, append-nil, true, false}
use Rattle.ca_value.specs.Tree.{Tree}
use Rattle.ca_term.specs.Cost.{cost_of}
use Rattle.ca_term.specs.Event.{EventView, made, spawned, done, met, parked, posted, settled, defaulted, closed, registered, printed, ticked, over as is_over}
use Rattle.ca_term.specs.Program.{ProgramView}
use Rattle.ca_term.specs.Operation.{SeedView}
use Rattle.ca_meaning.specs.Body.{At}
use Rattle.ca_meaning.specs.Cost.{cost}
use Rattle.ca_meaning.specs.Ends.{but_last}
use Rattle.ca_meaning.specs.EndsLaw.{is_of}
use Rattle.ca_meaning.specs.Legal.{EndsLast, is_end_of_main}
use Rattle.ca_meaning.specs.Solo.{Solo}
use Rattle.ca_meaning.specs.Sound.{Each}
use Rattle.ca_meaning.specs.Task.{TaskBody}
use Rattle.ca_states.specs.Code.{CodeView}
use Rattle.ca_agent.specs.Agents.{Advanced, Answered, Started}
use Rattle.ca_turns.specs.declared.rule.Turn.{Turn}
use Rattle.ca_turns.specs.declared.rule.View.{View}
use Rattle.ca_commit.specs.Moving.{visible}
use Rattle.ca_commit.specs.Touched as said
use Rattle.ca_table.specs.Draws.{drawn_touches, turn_view}
use Rattle.ca_table.specs.LoneHands.{DrewTurn, left_now}
use Rattle.ca_table.specs.Moments.{turn_asked}
use Rattle.ca_table.specs.OneCode.{stands_over}
use Rattle.ca_table.specs.Running.{TableStands, shown_by}
use Rattle.ca_table.specs.Seen.{PartSeen}
use Rattle.ca_table.specs.Worked.{ends_main, some_turn}
use Rattle.ca_table.specs.declared.drawn.Drawn.{Drawn}
use Rattle.ca_table.proofs.Having.{both_false}
use Rattle.ca_table.proofs.Running.{turn_leads}
use Rattle.ca_solo.specs.Moves.{MayMake}
use Rattle.ca_solo.specs.Positions.{HasUsed, Position, settling}
use Rattle.ca_solo.specs.Stirs.{stirred}
use Rattle.ca_alone.specs.Schedule.{HasStopped, LedTo, IsScheduleDone, AreTurnsRun, IsSchedule, MaySettle, StandsAt, to_turn}
use Rattle.ca_alone.specs.Standing.{ChoosesWell, IsOn, clock_answers}
use Rattle.ca_alone.proofs.Lone.{coded_after, left_after, lone_makes, lone_solo, shown_more}
use Rattle.ca_alone.proofs.Standings.{gives_more, leads, next, open_after, open_before, stands_as}

-- what the last event leaves out of account
cost_but_last : (es : List EventView) → cost (but_last es) ≤ cost es
cost_but_last [] = omega arith
cost_but_last (e ∷ []) = omega arith
cost_but_last (e ∷ (f ∷ es)) = let k = cost_but_last (f ∷ es) in omega (arith, k)

cost_before : (es : List EventView) (e : EventView) → cost (but_last (es ++ e ∷ [])) ≡ cost es
cost_before [] e = refl
cost_before (f ∷ []) e = refl
cost_before (f ∷ (g ∷ es)) e = ap (λ n. cost_of f + n) (cost_before (g ∷ es) e)

abbrev NoEnd : List EventView → Type 0
NoEnd es = Each (λ e. is_end_of_main e ≡ false) es

goes_on_then : (es : List EventView) (e : EventView) → NoEnd es → EndsLast (es ++ e ∷ [])
goes_on_then [] e n = tt
goes_on_then (f ∷ []) e n = (n.0, tt)
goes_on_then (f ∷ (g ∷ es)) e n = (n.0, goes_on_then (g ∷ es) e n.1)

all_go_on : (es : List EventView) → NoEnd es → EndsLast es
all_go_on [] n = tt
all_go_on (e ∷ []) n = tt
all_go_on (e ∷ (f ∷ es)) n = (n.0, all_go_on (f ∷ es) n.1)

shown_open : (what : said.Turn) (es : List EventView) → ends_main what ≡ false → NoEnd es → NoEnd (visible what ++ es)
shown_open (said.shown e) es is n = (is, n)
shown_open (said.picks r) es is n = n
shown_open said.yields es is n = n
shown_open (said.prunes side p wait) es is n = n
shown_open said.asks_clock es is n = n
shown_open said.fails es is n = n
shown_open said.stops es is n = n
shown_open said.halts es is n = n
shown_open said.stalls es is n = n

no_end : {C : Type 0} (ts : List (Turn C Drawn)) → some_turn ends_main ts ≡ false → NoEnd (shown_by ts)
no_end [] e = tt
no_end (t ∷ ts) e = let k = both_false (ends_main (turn_view t.event.what)) (some_turn ends_main ts) e in shown_open (turn_view t.event.what) (shown_by ts) k.0 (no_end ts k.1)

shown_now : {C : Type 0} (what : said.Turn) (v v2 : View C Drawn) → DrewTurn what v v2 → shown_by v2.turns ≡ shown_by v.turns ++ visible what
shown_now what v v2 d = ap shown_by d.after.turns ∙ shown_more v.turns d.turn ∙ ap (λ z. shown_by v.turns ++ visible z) d.is

-- an event of a task tells the answers that it took
tells : (t : ℕ) (e : EventView) → is_of t e ≡ true → (least : ℕ) → turn_asked (said.shown e) least ≡ clock_answers e
tells t (made u p what moment) is least = refl
tells t (spawned u w kind r) is least = refl
tells t (done u k b x) is least = refl
tells t (met u k side p x w o) is least = refl
tells t (parked u w bs) is least = refl
tells t (posted u w p x) is least = refl
tells t (settled w k side p x) is least = refl
tells t (defaulted u x) is least = refl
tells t (closed u p) is least = refl
tells t (registered u name args x) is least = refl
tells t (printed u line) is least = refl
tells t (ticked m ports) is least = absurd (let k : false ≡ true = is in cc)
tells t (is_over u how) is least = refl

module _ {A : Type 0} (over : CodeView → A → Type 0) (place : A → At) (stands : ProgramView → A → TaskBody → Type 0) (advances : ProgramView → A → A → Type 0) (gives : A → Tree → A → Type 0) (starts : ProgramView → SeedView → A → Type 0)
    (advance_law : Advanced stands place advances) (answer_law : Answered stands place gives) (start_law : Started stands place starts) (program : ProgramView) (code : CodeView) where
  abbrev pub Here : (Position → Type 0) → View (PartSeen A) Drawn → Type 0
  Here P v = StandsAt over place stands advances gives starts program code P v

  abbrev pub Is : (Position → Type 0) → View (PartSeen A) Drawn → Type 0
  Is P v = LedTo over place stands advances gives starts program code P v

  abbrev pub Ran : View (PartSeen A) Drawn → Type 0
  Ran v = AreTurnsRun over place stands advances gives starts program code v

  abbrev pub Stopped : ℕ → View (PartSeen A) Drawn → Type 0
  Stopped most v = HasStopped over place stands advances gives starts program code most v

  abbrev Done : View (PartSeen A) Drawn → Type 0
  Done v = IsScheduleDone over place stands advances gives starts program code v

  done_at : {P : Position → Type 0} (v : View (PartSeen A) Drawn) → ((w : Position) → P w → HasUsed w.phase) → Is P v → Done v
  done_at v used x = record { answers = x.answers; solo = lone_solo over place stands program code v x.answers x.at x.alone (used x.at x.kind); answered = x.answered; state = x.at.state; stands_for = x.alone.position.run; coded = x.alone.coded }

  -- it hangs on the opening and the turns alone
  pub same_stopped : (most : ℕ) (v v2 : View (PartSeen A) Drawn) → v2.opening ≡ v.opening → v2.turns ≡ v.turns → Stopped most v → Stopped most v2
  same_stopped most v v2 opening turns s =
      let moved : Stopped most (record v { opening = v2.opening; turns = v2.turns }) = subst (λ ts. Stopped most (record v { opening = v2.opening; turns = ts })) (sym turns) (subst (λ cs. Stopped most (record v { opening = cs })) (sym opening) s) in record {
        done = λ ran. (let x = moved.done ran in record { answers = x.answers; solo = x.solo; answered = x.answered; state = x.state; stands_for = x.stands_for; coded = x.coded });
        within = moved.within;
        goes_on = moved.goes_on;
      }

  -- where a run may end and budget is left ..
  pub stops : {P : Position → Type 0} (most : ℕ) (v : View (PartSeen A) Drawn) → Here P v → ((w : Position) → P w → HasUsed w.phase) → cost (shown_by v.turns) < most → Stopped most v
  stops most v s used less = record {
    done = λ ran. done_at v used (s.stand ran);
    within = (let k = cost_but_last (shown_by v.turns) in let lt : cost (but_last (shown_by v.turns)) < most = omega (arith, k, less) in lt);
    goes_on = all_go_on (shown_by v.turns) (no_end v.turns s.going);
  }

  -- .. or some was left before the last event
  shown_last : {P : Position → Type 0} (most : ℕ) (v v2 : View (PartSeen A) Drawn) (e : EventView) → (Ran v2 → Is P v2) → ((w : Position) → P w → HasUsed w.phase) → some_turn ends_main v.turns ≡ false → DrewTurn (said.shown e) v v2 → cost (shown_by v.turns) < most → Stopped most v2
  shown_last most v v2 e stand used going d less = record {
    done = λ ran. done_at v2 used (stand ran);
    within = subst (λ n. n < most) (sym (ap (λ es. cost (but_last es)) (shown_now (said.shown e) v v2 d) ∙ cost_before (shown_by v.turns) e)) less;
    goes_on = subst EndsLast (sym (shown_now (said.shown e) v v2 d)) (goes_on_then (shown_by v.turns) e (no_end v.turns going));
  }

  pub shows_stopped : {Q : Position → Type 0} (most : ℕ) (v v2 : View (PartSeen A) Drawn) (e : EventView) → Here Q v2 → ((w : Position) → Q w → HasUsed w.phase) → DrewTurn (said.shown e) v v2 → cost (shown_by v.turns) < most → Stopped most v2
  shows_stopped most v v2 e s used d less = shown_last most v v2 e s.stand used (open_before (said.shown e) v v2 d s.going) d less

  -- its task may stand back then
  pub yields_stopped : (most : ℕ) (v v2 : View (PartSeen A) Drawn) → Stopped most v → DrewTurn said.yields v v2 → Stopped most v2
  yields_stopped most v v2 s d =
      let same : shown_by v2.turns ≡ shown_by v.turns = shown_now said.yields v v2 d ∙ append-nil (shown_by v.turns) in record {
        done = λ ran. (
            let n = next over place stands advances gives starts advance_law answer_law start_law program code said.yields v v2 d ran in
            let x = s.done n.1 in
            let k = turn_leads over place stands advances gives starts advance_law answer_law start_law program code 1 (left_now drawn_touches v) x.state n.0.turn x.coded x.stands_for n.0.goes in record {
              answers = x.answers ++ [];
              solo = subst (λ told. Solo program told (shown_by v2.turns)) (sym (append-nil x.answers)) (subst (Solo program x.answers) (sym same) x.solo);
              answered = gives_more over place stands advances gives starts advance_law answer_law start_law program code said.yields v v2 [] (λ l. refl) n.0 x.answers x.state x.coded x.stands_for x.answered;
              state = k.0;
              stands_for = subst (λ now. TableStands place (stands_over over code stands) program 1 now k.0) (sym (left_after over place stands advances gives starts program code v v2 n.0.turn n.0.goes n.0.after)) k.2;
              coded = coded_after over place stands advances gives starts program code v v2 n.0.turn n.0.goes n.0.after x.coded;
            });
        within = subst (λ es. cost (but_last es) < most) (sym same) s.within;
        goes_on = subst EndsLast (sym same) s.goes_on;
      }

  -- and then its turns show a run of the schedule, over what its clock answered
  pub is_schedule : (most : ℕ) (v : View (PartSeen A) Drawn) → Stopped most v → Ran v → IsSchedule over place stands advances gives starts program code most v
  is_schedule most v s ran = let x = s.done ran in record { answers = x.answers; solo = x.solo; answered = x.answered; within = s.within; goes_on = s.goes_on }

  -- an event of the lane's task
  may_make : (w : Position) → MaySettle to_turn [] w → MayMake w.phase
  may_make w m = ⊎_elim (λ e. subst MayMake (sym e) tt) (λ y. subst MayMake (sym y.0) tt) m

  pub makes : (v v2 : View (PartSeen A) Drawn) (t : ℕ) (e : EventView) (us : List ℕ) → Here (λ w. MaySettle to_turn [] w × IsOn w.desk.lane × (stirred w.state e ≡ us) × ChoosesWell w.state w.desk e) v → DrewTurn (said.shown e) v v2 → is_of t e ≡ true
      → (is_end_of_main e ≡ false → Here (MaySettle to_turn us) v2) × ((most : ℕ) → cost (shown_by v.turns) < most → Stopped most v2)
  makes v v2 t e us s d is = (
    λ more. (let k : Here (λ w. w.phase ≡ settling us) v2 = record { stand = stand; going = open_after (said.shown e) v v2 d s.going more } in stands_as over place stands advances gives starts advance_law answer_law start_law program code v2 kept k),
    λ most less. shown_last most v v2 e stand (λ w k. subst HasUsed (sym k) tt) s.going d less,
  ) where
    kept : (w : Position) → w.phase ≡ settling us → MaySettle to_turn us w
    kept w k = inl k

    stand : Ran v2 → Is (λ w. w.phase ≡ settling us) v2
    stand = leads over place stands advances gives starts advance_law answer_law start_law program code (said.shown e) v v2 (clock_answers e) (tells t e is) d s.stand
        (λ n x. let k = lone_makes over place stands advances gives starts program code v v2 n.turn n.goes n.after x.answers x.at x.alone advance_law answer_law start_law t e n.is is (may_make x.at x.kind.0) x.kind.1 x.kind.3 in (k.0, k.1, k.2 ∙ ap settling x.kind.2))
