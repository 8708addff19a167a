-- A lone worker's visits to its lane: what it holds tells its position, and its own turns lead on.
use Rattle.std.proofs.Common.{◌≡◌, ◌∙◌, ◌⊎◌, inr, ⊎_elim, ℕ, ◌+◌, ◌-◌, ◌<◌, ◌≤◌, List, [], refl, sym, ap, subst, arith, Bool, true, false, Option, Some, None, Result, Ok, Err, IfOk, eqb}
use Rattle.std.specs.Prelude.{◌||◌, IsSome, is_some, option_map}
use Rattle.std.specs.Map.{update}
use Rattle.std.proofs.lemmas.Map.{update_here}
use mathlib.Core.Option as core
use lib.ListN.{get_elem?}
use Rattle.ca_value.specs.Tree.{Tree}
use Rattle.ca_term.specs.Operation.{SeedView}
use Rattle.ca_term.specs.Program.{ProgramView, program_view}
use Rattle.ca_meaning.specs.Body.{At}
use Rattle.ca_meaning.specs.Solo.{patience}
use Rattle.ca_meaning.specs.Task.{TaskBody}
use Rattle.ca_states.specs.Code.{CodeView}
use Rattle.ca_states.specs.ValidCode.{valid_code}
use Rattle.ca_states.specs.declared.valid_code.ValidCode.{ValidCode}
use Rattle.ca_agent.specs.Agents.{Advanced, Answered, Started}
use Rattle.ca_turns.specs.Hands.{TableId}
use Rattle.ca_commit.specs.Tasks.{task_view}
use Rattle.ca_commit.specs.Touched as said
use Rattle.ca_commit.specs.declared.task.Task.{Task}
use Rattle.ca_solo.specs.Positions.{Position}
use Rattle.ca_table.specs.Draws.{drawn_touches}
use Rattle.ca_table.specs.Grips.{SameHand, SameTurns, no_grip}
use Rattle.ca_table.specs.LoneHands.{DrewTurn, left_now}
use Rattle.ca_table.specs.Parts.{part_away, lane_seen}
use Rattle.ca_table.specs.Running.{Knows}
use Rattle.ca_table.specs.Seen.{PartSeen, seen_ready}
use Rattle.ca_table.specs.Worked.{Drew}
use Rattle.ca_table.specs.Workers.{IsReady, SameWorker, part_of_lane}
use Rattle.ca_table.specs.declared.part.Lane.{Lane}
use Rattle.ca_table.specs.declared.worker.Worker.{Worker}
use Rattle.ca_table.proofs.Gripping.{fit}
use Rattle.ca_alone.specs.Reading.{lane_read}
use Rattle.ca_alone.specs.Schedule.{AtEmpty, AtFree, AtPicked, HasStopped, IsFull, MaySettle, to_rest, to_turn}
use Rattle.ca_alone.proofs.HeldPosition.{with_lane, with_ready}
use Rattle.ca_alone.proofs.Leading as leading
use Rattle.ca_alone.proofs.Standings as standings
use Rattle.ca_alone.proofs.Stopping as stopping
use Rattle.ca_pool.specs.AtWork.{IsAtWork}
use Rattle.ca_pool.specs.Costs.{cost_asked, is_marked}
use Rattle.ca_pool.specs.Lone.{HasAsked, IsGoing, IsLone, IsRunning, LoneAt, LoneStopped}
use Rattle.ca_pool.specs.declared.clock.Asked.{Asked}
use Rattle.ca_pool.specs.declared.clock.Asked.TheVariants as Clocked
use Rattle.ca_pool.proofs.AtWork.{some_of, spent_first, spent_quiet}
use Rattle.ca_pool.proofs.Lone as lone

-- what a call that may fail says follows
pub then_ok : {X E : Type 0} {P Q : X → Type 0} (r : Result X E) → ((x : X) → P x → Q x) → IfOk r P → IfOk r Q
then_ok (Ok x) f p = f x p
then_ok (Err e) f p = tt

-- nobody is there
pub not_there : {X : Type 0} (o : Option X) → is_some o ≡ false → o ≡ None
not_there None e = refl
not_there (Some x) e = absurd (let z : true ≡ false = e in cc)

module _ {A C : Type 0} (over : CodeView → A → Type 0) (place : A → At) (stands_as : ProgramView → A → TaskBody → Type 0) (advances : ProgramView → A → A → Type 0) (gives : A → Tree → A → Type 0) (starts : ProgramView → SeedView → A → Type 0)
    (advance_law : Advanced stands_as place advances) (answer_law : Answered stands_as place gives) (start_law : Started stands_as place starts) (code : ValidCode) where
  abbrev Here : (Position → Type 0) → Worker A C → Type 0
  Here P w = LoneAt over place stands_as advances gives starts code P w

  abbrev Stops : ℕ → Worker A C → Type 0
  Stops most w = LoneStopped over place stands_as advances gives starts code most w

  abbrev Runs : (Position → Type 0) → ℕ → ℕ → Bool → Worker A C → Type 0
  Runs P most left found w = IsRunning over place stands_as advances gives starts code P most left found w

  abbrev Goes : (Position → Type 0) → ℕ → ℕ → Bool → Worker A C → Type 0
  Goes P most left found w = IsGoing over place stands_as advances gives starts code P most left found w

  module _ (id : TableId) {w : Worker A C} {lane : Lane A} (at : IsAtWork over stands_as code id w lane) where
    -- the lane is part 0
    in_hand : IsLone w → get_elem? w.hand.view.held 0 ≡ core.some (Some (part_of_lane w.workers code lane))
    in_hand alone =
        let lt = at.seated.one.below in let one = alone.0 in let zero_is : w.number ≡ 0 = omega (arith, lt, one) in
        subst (λ (k : ℕ). get_elem? w.hand.view.held k ≡ core.some (Some (part_of_lane w.workers code lane))) zero_is
        (fit w.hand (update eqb no_grip w.number (Some (part_away w.workers code, part_of_lane w.workers code lane))) w.number (part_away w.workers code, part_of_lane w.workers code lane) at.seated.grips (update_here no_grip w.number (Some (part_away w.workers code, part_of_lane w.workers code lane)))).1

    -- it tells whose turn it is
    lane_told : (P : Position → Type 0) → Here P w → Here (λ x. P x × (x.desk.lane ≡ lane_read (option_map task_view lane.task) lane.since)) w
    lane_told P h = record {
      lone = h.lone;
      at = with_lane over place stands_as advances gives starts (program_view w.program.value) (valid_code code) w.hand.view P (at.seated.one.left h.lone.1) (part_of_lane w.workers code lane) (lane_seen lane) (in_hand h.lone) refl h.at;
    }

    read_as : (o : Option (Task A)) → lane.task ≡ o → lane_read (option_map task_view lane.task) lane.since ≡ lane_read (option_map task_view o) lane.since
    read_as o e = ap (λ (x : Option (Task A)). lane_read (option_map task_view x) lane.since) e

    -- whoever has a task isn't free
    pub not_free : (Q : Position → Type 0) → IsSome lane.task → Here AtFree w → Here Q w
    not_free Q busy h = let t = some_of lane.task busy in
        lone.lone_as over place stands_as advances gives starts advance_law answer_law start_law code {P = λ (x : Position). AtFree x × (x.desk.lane ≡ lane_read (option_map task_view lane.task) lane.since)} {Q = Q}
        (λ x k. absurd (let z : None ≡ lane_read (option_map task_view (Some t.0)) lane.since = sym k.0.1 ∙ k.1 ∙ read_as (Some t.0) t.1 in cc)) (lane_told AtFree h)

    -- its task has left
    pub leaves_lane : lane.task ≡ None → Here (MaySettle to_turn []) w → Here AtFree w
    leaves_lane none h =
        let k = lone.lone_as over place stands_as advances gives starts advance_law answer_law start_law code {P = λ (x : Position). MaySettle to_turn [] x × (x.desk.lane ≡ lane_read (option_map task_view lane.task) lane.since)} {Q = λ (x : Position). MaySettle to_turn [] x × (x.desk.lane ≡ None)}
        (λ x k. (k.0, k.1 ∙ read_as None none)) (lane_told (MaySettle to_turn []) h) in
        record { lone = h.lone; at = standings.leaves over place stands_as advances gives starts advance_law answer_law start_law (program_view w.program.value) (valid_code code) w.hand.view k.at }

    -- its task made all its events
    full_lane : IsSome lane.task → patience ≤ lane.since → Here (MaySettle to_turn []) w → Here (λ x. MaySettle to_turn [] x × IsFull x.desk.lane) w
    full_lane busy le h = let t = some_of lane.task busy in
        lone.lone_as over place stands_as advances gives starts advance_law answer_law start_law code {P = λ (x : Position). MaySettle to_turn [] x × (x.desk.lane ≡ lane_read (option_map task_view lane.task) lane.since)} {Q = λ (x : Position). MaySettle to_turn [] x × IsFull x.desk.lane}
        (λ x k. (k.0, subst IsFull (sym (k.1 ∙ read_as (Some t.0) t.1)) le)) (lane_told (MaySettle to_turn []) h)

    pub running_not_free : (Q : Position → Type 0) {most left : ℕ} {found : Bool} → IsSome lane.task → Runs AtFree most left found w → Goes Q most left found w
    running_not_free Q busy r = lone.running_goes over place stands_as advances gives starts advance_law answer_law start_law code {P = Q} (lone.running_with over place stands_as advances gives starts advance_law answer_law start_law code {P = AtFree} {Q = Q} (λ h. not_free Q busy h) r)

    -- nobody is in the lane, or the run's end was found
    pub stays_free : {most left : ℕ} {found : Bool} → (found ≡ true) ⊎ (lane.task ≡ None) → Goes (MaySettle to_turn []) most left found w → Goes AtFree most left found w
    stays_free by g = ⊎_elim
        (λ over_now. lone.any_stopped over place stands_as advances gives starts advance_law answer_law start_law code {P = MaySettle to_turn []} {Q = AtFree} g (inr over_now))
        (λ none. lone.going_with over place stands_as advances gives starts advance_law answer_law start_law code {P = MaySettle to_turn []} {Q = AtFree} (λ some on h. leaves_lane none h) g) by

    module _ {new : Worker A C} (same : SameWorker w new) (hand : SameHand w.hand new.hand) (d : DrewTurn said.yields w.hand.view new.hand.view) where
      stops_back : {most : ℕ} → Stops most w → Stops most new
      stops_back {most} s = record {
        lone = lone.lone_same same hand s.lone;
        stopped = subst (λ (p : ProgramView). HasStopped over place stands_as advances gives starts p (valid_code code) most new.hand.view) (ap (λ p. program_view p.value) (sym same.program))
            (stopping.yields_stopped over place stands_as advances gives starts advance_law answer_law start_law (program_view w.program.value) (valid_code code) most w.hand.view new.hand.view s.stopped d);
      }

      -- its task stands back
      pub goes_back : {most left : ℕ} {found : Bool} → found ≡ false → Drew 0 false w new → IsSome lane.task → (0 < left → found ≡ false → (lane.task ≡ None) ⊎ (patience ≤ lane.since)) → Goes (MaySettle to_turn []) most left found w → Goes AtFree most left found new
      goes_back on drew busy full g = record {
        first = g.first;
        fresh = g.fresh;
        spent = spent_quiet on g.spent drew;
        at = λ some on. ⊎_elim
            (λ none. absurd (let t = some_of lane.task busy in let z : None ≡ Some t.0 = sym none ∙ t.1 in cc))
            (λ le. lone.lone_by over place stands_as advances gives starts advance_law answer_law start_law code {P = λ (x : Position). MaySettle to_turn [] x × IsFull x.desk.lane} {Q = AtFree} same hand
            (λ program h. leading.yields over place stands_as advances gives starts advance_law answer_law start_law program (valid_code code) w.hand.view new.hand.view h d) (full_lane busy le (g.at some on))) (full some on);
        stopped = λ is. stops_back (g.stopped is);
      }

  module _ {old new : Worker A C} (same : SameWorker old new) where
    -- it picks a task of its own ready part, the only one
    pub goes_picked : {most left : ℕ} {found : Bool} (at : ℕ) → at < old.workers → SameHand old.hand new.hand → DrewTurn (said.picks at) old.hand.view new.hand.view → Drew 0 false old new → Runs AtFree most left found old → Runs AtPicked most left found new
    goes_picked at below hand d drew r =
        let one = r.at.lone.0 in let zero_is : at ≡ 0 = omega (arith, below, one) in record {
          first = r.first;
          fresh = r.fresh;
          spent = spent_quiet r.on r.spent drew;
          some = r.some;
          on = r.on;
          at = lone.lone_by over place stands_as advances gives starts advance_law answer_law start_law code {P = AtFree} {Q = AtPicked} same hand
              (λ program h. leading.picks over place stands_as advances gives starts advance_law answer_law start_law program (valid_code code) old.hand.view new.hand.view h (subst (λ (k : ℕ). DrewTurn (said.picks k) old.hand.view new.hand.view) zero_is d)) r.at;
        }

    -- or there is none
    pub goes_empty : {most left : ℕ} {found : Bool} (at : ℕ) → at < old.workers → SameTurns old.hand new.hand → ((c : PartSeen A) × (get_elem? (left_now drawn_touches new.hand.view) (old.workers + 33 + at) ≡ core.some c) × (c.held ≡ seen_ready [])) → Runs AtFree most left found old → Runs AtEmpty most left found new
    goes_empty at below turns none r =
        let one = r.at.lone.0 in let own : old.workers + 33 + at ≡ 34 = omega (arith, below, one) in
        lone.running_with over place stands_as advances gives starts advance_law answer_law start_law code {P = AtFree} {Q = AtEmpty}
        (λ h. record { lone = h.lone; at = with_ready over place stands_as advances gives starts (program_view new.program.value) (valid_code code) new.hand.view AtFree none.0 [] (subst (λ (k : ℕ). get_elem? (left_now drawn_touches new.hand.view) k ≡ core.some none.0) own none.1) none.2 h.at })
        (lone.same_running over place stands_as advances gives starts advance_law answer_law start_law code {P = AtFree} same turns r)

    -- its first call begins
    pub goes_first : (id : TableId) (allowance : ℕ) → IsReady over stands_as (program_view old.program.value) (valid_code code) id old.workers old → SameTurns old.hand new.hand → IsLone old → old.hand.view.turns ≡ [] → 0 < allowance → Goes AtFree allowance allowance false new
    goes_first id allowance ready turns alone fresh some =
        let begun : Here AtFree old = record {
          lone = alone;
          at = standings.begins over place stands_as advances gives starts advance_law answer_law start_law (program_view old.program.value) (valid_code code) old.hand.view (subst (λ (n : ℕ). Knows over stands_as (program_view old.program.value) (valid_code code) n old.hand.view) alone.0 ready.one.knows) fresh;
        } in
        lone.running_goes over place stands_as advances gives starts advance_law answer_law start_law code {P = AtFree} (record {
          first = old;
          fresh = fresh;
          spent = spent_first same turns;
          some = some;
          on = refl;
          at = lone.same_lone over place stands_as advances gives starts advance_law answer_law start_law code {P = AtFree} same turns begun;
        })

    -- it gives its lane back where it stops
    pub stops_rising : {most left : ℕ} {found : Bool} → SameTurns old.hand new.hand → (left ≡ 0) ⊎ (found ≡ true) → Goes AtFree most left found old → Stops most new
    stops_rising turns is g = lone.same_stopped over place stands_as advances gives starts advance_law answer_law start_law code same turns (g.stopped is)

  module _ {most left left2 : ℕ} {found found2 : Bool} {old new : Worker A C} (r : Runs AtPicked most left found old) (spent : lone.SpentOn over place stands_as advances gives starts advance_law answer_law start_law code left found left2 found2 old new) where
    -- it looked at the clock
    pub goes_asked : (us : List ℕ) (asked : Asked) → left2 ≡ left - cost_asked asked → found2 ≡ (is_marked asked || found) → HasAsked over place stands_as advances gives starts code us most asked new → Goes (MaySettle to_turn us) most left2 found2 new
    goes_asked us Clocked.Nothing is found_is h = lone.quiet_goes over place stands_as advances gives starts advance_law answer_law start_law code {P = AtPicked} {Q = MaySettle to_turn us} r spent (omega (arith, is)) found_is h
    goes_asked us Clocked.Marked is found_is h = lone.goes_on_to over place stands_as advances gives starts advance_law answer_law start_law code {P = AtPicked} {Q = MaySettle to_turn us} r spent (λ some on. absurd (let z : true ≡ false = sym found_is ∙ on in cc)) (λ stop. h)
    goes_asked us (Clocked.Ticked cost) is found_is h = lone.went_on over place stands_as advances gives starts advance_law answer_law start_law code {P = AtPicked} {Q = MaySettle to_turn us} r spent h

  -- nobody is in the lane once nothing settles
  pub goes_rested : {most left : ℕ} {found : Bool} {w : Worker A C} → Goes (MaySettle to_rest []) most left found w → Goes AtFree most left found w
  goes_rested {most} {left} {found} {w} g = lone.going_with over place stands_as advances gives starts advance_law answer_law start_law code {P = MaySettle to_rest []} {Q = AtFree}
      (λ some on h. record { lone = h.lone; at = standings.rests over place stands_as advances gives starts advance_law answer_law start_law (program_view w.program.value) (valid_code code) w.hand.view h.at }) g
