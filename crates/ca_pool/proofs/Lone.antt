-- Where the turns of a lone worker have come to in the schedule, from one call to the next.
use Rattle.std.proofs.Common.{◌≡◌, ◌∙◌, ◌⊎◌, inl, inr, ℕ, ◌+◌, ◌<◌, List, [], ◌∷◌, ◌++◌, All, refl, sym, ap, subst, arith, Bool, true, false, append-nil, append_assoc, length, zero-add}
use Rattle.std.proofs.lemmas.List.Elements.{All-append, All-cons, All-head, All-nil, All-tail}
use Rattle.ca_value.specs.Tree.{Tree}
use Rattle.ca_term.specs.Event.{EventView}
use Rattle.ca_term.specs.Operation.{SeedView}
use Rattle.ca_term.specs.Program.{ProgramView, program_view}
use Rattle.ca_meaning.specs.Body.{At}
use Rattle.ca_meaning.specs.Cost.{cost}
use Rattle.ca_meaning.specs.Task.{TaskBody}
use Rattle.ca_states.specs.Code.{CodeView}
use Rattle.ca_states.specs.ValidCode.{valid_code}
use Rattle.ca_states.specs.declared.valid_code.ValidCode.{ValidCode}
use Rattle.ca_agent.specs.Agents.{Advanced, Answered, Started}
use Rattle.ca_turns.specs.declared.rule.Turn.{Turn}
use Rattle.ca_turns.specs.declared.rule.View.{View}
use Rattle.ca_commit.specs.Moving.{visible}
use Rattle.ca_commit.specs.Touched as said
use Rattle.ca_solo.specs.Positions.{HasUsed, Position}
use Rattle.ca_table.specs.Draws.{turn_view}
use Rattle.ca_table.specs.Grips.{SameHand, SameTurns}
use Rattle.ca_table.specs.LoneHands.{DrewTurn}
use Rattle.ca_table.specs.Running.{shown_by}
use Rattle.ca_table.specs.Seen.{PartSeen}
use Rattle.ca_table.specs.Workers.{SameWorker}
use Rattle.ca_table.specs.declared.drawn.Drawn.{Drawn}
use Rattle.ca_table.specs.declared.worker.Worker.{Worker}
use Rattle.ca_alone.specs.Schedule.{Follow, HasStopped, MaySettle, StandsAt, to_rest, to_turn}
use Rattle.ca_alone.proofs.Leading as leading
use Rattle.ca_alone.proofs.Standings as standings
use Rattle.ca_alone.proofs.Stopping as stopping
use Rattle.ca_pool.specs.AtWork.{HasSpent}
use Rattle.ca_pool.specs.Lone.{IsGoing, IsLone, IsNoMove, IsRunning, LoneAt, LoneStopped, MayGo, Stayed, Went}
use Rattle.ca_pool.proofs.AtWork.{spent_none}
use Rattle.ca_pool.proofs.Ranges.{workers_then}

-- it is alone as before
pub lone_same : {A C : Type 0} {old new : Worker A C} → SameWorker old new → SameHand old.hand new.hand → IsLone old → IsLone new
lone_same same hand lone = (same.workers ∙ lone.0, ap (λ (l : List ℕ). length l) hand.stands_for ∙ lone.1 ∙ sym hand.hands)

of_program : {A C : Type 0} {old new : Worker A C} → SameWorker old new → program_view old.program.value ≡ program_view new.program.value
of_program same = ap (λ p. program_view p.value) (sym same.program)

-- a turn of which all is known
pub drew_turn : {A C : Type 0} (old new : Worker A C) (what : said.Turn) (t : Turn (PartSeen A) Drawn) → SameHand old.hand new.hand → new.hand.view.turns ≡ old.hand.view.turns ++ t ∷ [] → turn_view t.event.what ≡ what → DrewTurn what old.hand.view new.hand.view
drew_turn old new what t hand turns is = record { turn = t; is = is; after = record { opening = hand.opening; turns = turns } }

-- what turns cost, one after another
cost_both : (es fs : List EventView) → cost (es ++ fs) ≡ cost es + cost fs
cost_both [] fs = sym (zero-add (cost fs))
cost_both (e ∷ es) fs = let k = cost_both es fs in omega (arith, k)

shown_both : {A : Type 0} (ts us : List (Turn (PartSeen A) Drawn)) → shown_by (ts ++ us) ≡ shown_by ts ++ shown_by us
shown_both [] us = refl
shown_both (t ∷ ts) us = ap (λ l. visible (turn_view t.event.what) ++ l) (shown_both ts us) ∙ sym (append_assoc (visible (turn_view t.event.what)) (shown_by ts) (shown_by us))

pub cost_shown : {A : Type 0} (ts us : List (Turn (PartSeen A) Drawn)) → cost (shown_by (ts ++ us)) ≡ cost (shown_by ts) + cost (shown_by us)
cost_shown ts us = ap cost (shown_both ts us) ∙ cost_both (shown_by ts) (shown_by us)

-- a turn that is no move isn't shown
no_move_hidden : (what : said.Turn) → IsNoMove what → visible what ≡ []
no_move_hidden (said.prunes side p wait) stay = refl
no_move_hidden said.stalls stay = refl
no_move_hidden said.halts stay = refl
no_move_hidden other stay = absurd stay

no_cost : {A : Type 0} (more : List (Turn (PartSeen A) Drawn)) → All (λ t. IsNoMove (turn_view t.event.what)) more → shown_by more ≡ []
no_cost [] only = refl
no_cost {A} (t ∷ ts) only = ap (λ es. es ++ shown_by ts) (no_move_hidden (turn_view t.event.what) (All-head (λ (t : Turn (PartSeen A) Drawn). IsNoMove (turn_view t.event.what)) t ts only))
    ∙ no_cost ts (All-tail (λ (t : Turn (PartSeen A) Drawn). IsNoMove (turn_view t.event.what)) t ts only)

module _ {A C : Type 0} where
  -- nothing was drawn
  pub stayed_same : {old new : Worker A C} → SameWorker old new → SameTurns old.hand new.hand → Stayed old new
  stayed_same {old} {new} same turns = record { same = same; hand = turns.same; more = []; turns = turns.turns ∙ sym (append-nil old.hand.view.turns); only = All-nil (λ (t : Turn (PartSeen A) Drawn). IsNoMove (turn_view t.event.what)) }

  -- one turn that is no move
  pub stayed_one : {old new : Worker A C} {what : said.Turn} → SameWorker old new → SameHand old.hand new.hand → DrewTurn what old.hand.view new.hand.view → IsNoMove what → Stayed old new
  stayed_one {old} {new} {what} same hand d stay = record {
    same = same;
    hand = hand;
    more = d.turn ∷ [];
    turns = d.after.turns;
    only = All-cons (λ (t : Turn (PartSeen A) Drawn). IsNoMove (turn_view t.event.what)) d.turn [] (subst IsNoMove (sym d.is) stay) (All-nil (λ (t : Turn (PartSeen A) Drawn). IsNoMove (turn_view t.event.what)));
  }

  pub stayed_both : {old mid new : Worker A C} → Stayed old mid → Stayed mid new → Stayed old new
  stayed_both {old} {mid} {new} p q = record {
    same = workers_then old mid new p.same q.same;
    hand = record { table = q.hand.table ∙ p.hand.table; opening = q.hand.opening ∙ p.hand.opening; hands = q.hand.hands ∙ p.hand.hands; stands_for = q.hand.stands_for ∙ p.hand.stands_for };
    more = p.more ++ q.more;
    turns = q.turns ∙ ap (λ ts. ts ++ q.more) p.turns ∙ append_assoc old.hand.view.turns p.more q.more;
    only = All-append (λ (t : Turn (PartSeen A) Drawn). IsNoMove (turn_view t.event.what)) p.more q.more p.only q.only;
  }

  -- such turns cost nothing
  pub stayed_cost : {old new : Worker A C} → Stayed old new → cost (shown_by new.hand.view.turns) ≡ cost (shown_by old.hand.view.turns)
  stayed_cost {old} {new} s = let k = cost_shown old.hand.view.turns s.more in let n : cost (shown_by s.more) ≡ 0 = ap cost (no_cost s.more s.only) in ap (λ ts. cost (shown_by ts)) s.turns ∙ omega (arith, k, n)

-- where these channels may settle, one of them at least, no answer of the clock waits
pub settle_used : (k : Follow) (p : ℕ) (us : List ℕ) (w : Position) → MaySettle k (p ∷ us) w → HasUsed w.phase
settle_used to_turn p us w (inl is) = subst HasUsed (sym is) tt
settle_used to_turn p us w (inr is) = absurd (let e : p ∷ us ≡ [] = is.1 in cc)
settle_used to_rest p us w (e, inl is) = subst HasUsed (sym is) tt
settle_used to_rest p us w (e, inr is) = subst HasUsed (sym is) tt

-- neither nothing left nor the end found
goes_still : {left : ℕ} {found : Bool} {X : Type 0} → 0 < left → found ≡ false → (left ≡ 0) ⊎ (found ≡ true) → X
goes_still some on (inl none) = absurd (omega (arith, some, none))
goes_still some on (inr over) = absurd (let e : false ≡ true = sym on ∙ over in cc)

module _ {A : Type 0} (over : CodeView → A → Type 0) (place : A → At) (stands_as : ProgramView → A → TaskBody → Type 0) (advances : ProgramView → A → A → Type 0) (gives : A → Tree → A → Type 0) (starts : ProgramView → SeedView → A → Type 0)
    (advance_law : Advanced stands_as place advances) (answer_law : Answered stands_as place gives) (start_law : Started stands_as place starts) (code : ValidCode) where
  -- of its hand's view, for its program
  abbrev pub StandsOf : ProgramView → (Position → Type 0) → View (PartSeen A) Drawn → Type 0
  StandsOf program P v = StandsAt over place stands_as advances gives starts program (valid_code code) P v

  -- a turn that is no move, and all of them
  no_move_stands : {P : Position → Type 0} (program : ProgramView) (v v2 : View (PartSeen A) Drawn) (what : said.Turn) → IsNoMove what → DrewTurn what v v2 → StandsOf program P v → StandsOf program P v2
  no_move_stands {P} program v v2 (said.prunes side p wait) stay d at = leading.prunes over place stands_as advances gives starts advance_law answer_law start_law program (valid_code code) {P = P} v v2 side p wait at d
  no_move_stands {P} program v v2 said.stalls stay d at = leading.stalls over place stands_as advances gives starts advance_law answer_law start_law program (valid_code code) {P = P} v v2 at d
  no_move_stands {P} program v v2 said.halts stay d at = leading.halts over place stands_as advances gives starts advance_law answer_law start_law program (valid_code code) {P = P} v v2 at d
  no_move_stands {P} program v v2 other stay d at = absurd stay

  no_moves_stand : {P : Position → Type 0} (program : ProgramView) (more : List (Turn (PartSeen A) Drawn)) (v v2 : View (PartSeen A) Drawn) → All (λ t. IsNoMove (turn_view t.event.what)) more → v2.opening ≡ v.opening → v2.turns ≡ v.turns ++ more → StandsOf program P v → StandsOf program P v2
  no_moves_stand {P} program [] v v2 only opening turns at =
      standings.same_stands over place stands_as advances gives starts advance_law answer_law start_law program (valid_code code) {P = P} v v2 opening (turns ∙ append-nil v.turns) at
  no_moves_stand {P} program (t ∷ ts) v v2 only opening turns at =
      let mid : View (PartSeen A) Drawn = record v { turns = v.turns ++ t ∷ [] } in
      no_moves_stand {P = P} program ts mid v2 (All-tail (λ (u : Turn (PartSeen A) Drawn). IsNoMove (turn_view u.event.what)) t ts only) opening (turns ∙ sym (append_assoc v.turns (t ∷ []) ts))
      (no_move_stands {P = P} program v mid (turn_view t.event.what) (All-head (λ (u : Turn (PartSeen A) Drawn). IsNoMove (turn_view u.event.what)) t ts only)
      (record { turn = t; is = refl; after = record { opening = refl; turns = refl } }) at)

module _ {A C : Type 0} (over : CodeView → A → Type 0) (place : A → At) (stands_as : ProgramView → A → TaskBody → Type 0) (advances : ProgramView → A → A → Type 0) (gives : A → Tree → A → Type 0) (starts : ProgramView → SeedView → A → Type 0)
    (advance_law : Advanced stands_as place advances) (answer_law : Answered stands_as place gives) (start_law : Started stands_as place starts) (code : ValidCode) where
  abbrev pub Stands : (Position → Type 0) → Worker A C → Type 0
  Stands P w = LoneAt over place stands_as advances gives starts code P w

  abbrev pub Stops : ℕ → Worker A C → Type 0
  Stops most w = LoneStopped over place stands_as advances gives starts code most w

  abbrev pub May : (Position → Type 0) → ℕ → Worker A C → Type 0
  May P most w = MayGo over place stands_as advances gives starts code P most w

  abbrev pub Gone : (Position → Type 0) → ℕ → Worker A C → Type 0
  Gone P most w = Went over place stands_as advances gives starts code P most w

  abbrev pub Runs : (Position → Type 0) → ℕ → ℕ → Bool → Worker A C → Type 0
  Runs P most left found w = IsRunning over place stands_as advances gives starts code P most left found w

  abbrev pub Goes : (Position → Type 0) → ℕ → ℕ → Bool → Worker A C → Type 0
  Goes P most left found w = IsGoing over place stands_as advances gives starts code P most left found w

  -- by a step of its view, as those of the schedule
  pub lone_by : {P Q : Position → Type 0} {old new : Worker A C} → SameWorker old new → SameHand old.hand new.hand → ((program : ProgramView) → StandsAt over place stands_as advances gives starts program (valid_code code) P old.hand.view → StandsAt over place stands_as advances gives starts program (valid_code code) Q new.hand.view) → Stands P old → Stands Q new
  lone_by {P} {Q} {old} {new} same hand f s = record {
    lone = lone_same same hand s.lone;
    at = subst (λ (p : ProgramView). StandsAt over place stands_as advances gives starts p (valid_code code) Q new.hand.view) (of_program {old = old} {new = new} same) (f (program_view old.program.value) s.at);
  }

  pub same_lone : {P : Position → Type 0} {old new : Worker A C} → SameWorker old new → SameTurns old.hand new.hand → Stands P old → Stands P new
  same_lone {P} {old} {new} same turns s = lone_by {P = P} {Q = P} same turns.same
      (λ program at. standings.same_stands over place stands_as advances gives starts advance_law answer_law start_law program (valid_code code) {P = P} old.hand.view new.hand.view turns.same.opening turns.turns at) s

  pub same_stopped : {most : ℕ} {old new : Worker A C} → SameWorker old new → SameTurns old.hand new.hand → Stops most old → Stops most new
  same_stopped {most} {old} {new} same turns s = record {
    lone = lone_same same turns.same s.lone;
    stopped = subst (λ (p : ProgramView). HasStopped over place stands_as advances gives starts p (valid_code code) most new.hand.view) (of_program {old = old} {new = new} same)
        (stopping.same_stopped over place stands_as advances gives starts advance_law answer_law start_law (program_view old.program.value) (valid_code code) most old.hand.view new.hand.view turns.same.opening turns.turns s.stopped);
  }

  pub same_may : {P : Position → Type 0} {most : ℕ} {old new : Worker A C} → SameWorker old new → SameTurns old.hand new.hand → May P most old → May P most new
  same_may {P} {most} {old} {new} same turns m = record { at = same_lone {P = P} same turns m.at; below = subst (λ ts. cost (shown_by ts) < most) (sym turns.turns) m.below }

  -- to a weaker kind
  pub lone_as : {P Q : Position → Type 0} {w : Worker A C} → ((x : Position) → P x → Q x) → Stands P w → Stands Q w
  lone_as {P} {Q} {w} f s = record { lone = s.lone; at = standings.stands_as over place stands_as advances gives starts advance_law answer_law start_law (program_view w.program.value) (valid_code code) {P = P} {Q = Q} w.hand.view f s.at }

  pub went_as : {P Q : Position → Type 0} {most : ℕ} {w : Worker A C} → ((x : Position) → P x → Q x) → Gone P most w → Gone Q most w
  went_as {P} {Q} f g = record { at = lone_as {P = P} {Q = Q} f g.at; stopped = g.stopped }

  -- it drew no moves
  pub stayed_lone : {P : Position → Type 0} {old new : Worker A C} → Stayed old new → Stands P old → Stands P new
  stayed_lone {P} {old} {new} d s = lone_by {P = P} {Q = P} d.same d.hand (λ program at. no_moves_stand over place stands_as advances gives starts advance_law answer_law start_law code {P = P} program d.more old.hand.view new.hand.view d.only d.hand.opening d.turns at) s

  pub stayed_may : {P : Position → Type 0} {most : ℕ} {old new : Worker A C} → Stayed old new → May P most old → May P most new
  stayed_may {P} {most} {old} {new} d m = record { at = stayed_lone {P = P} d m.at; below = subst (λ (n : ℕ). n < most) (sym (stayed_cost {old = old} {new = new} d)) m.below }

  -- it may stop where it stands
  pub may_stop : {P : Position → Type 0} {most : ℕ} {w : Worker A C} → ((x : Position) → P x → HasUsed x.phase) → May P most w → Stops most w
  may_stop {P} {most} {w} f m = record {
    lone = m.at.lone;
    stopped = stopping.stops over place stands_as advances gives starts advance_law answer_law start_law (program_view w.program.value) (valid_code code) {P = P} most w.hand.view m.at.at f m.below;
  }

  -- it drew one turn, which the journal shows
  pub may_show : {P Q : Position → Type 0} {most : ℕ} {old new : Worker A C} (e : EventView) → SameWorker old new → SameHand old.hand new.hand → DrewTurn (said.shown e) old.hand.view new.hand.view → ((x : Position) → Q x → HasUsed x.phase) → ((program : ProgramView) → StandsAt over place stands_as advances gives starts program (valid_code code) P old.hand.view → StandsAt over place stands_as advances gives starts program (valid_code code) Q new.hand.view) → May P most old → Gone Q most new
  may_show {P} {Q} {most} {old} {new} e same hand d f leads m = let at : Stands Q new = lone_by {P = P} {Q = Q} same hand leads m.at in record {
    at = at;
    stopped = record {
      lone = at.lone;
      stopped = stopping.shows_stopped over place stands_as advances gives starts advance_law answer_law start_law (program_view new.program.value) (valid_code code) {Q = Q} most old.hand.view new.hand.view e at.at f d m.below;
    };
  }

  -- What is left in a call.
  pub running_may_go : {P : Position → Type 0} {most left : ℕ} {found : Bool} {w : Worker A C} → Runs P most left found w → May P most w
  running_may_go {P} {most} {left} {found} {w} r =
      let d = r.spent in
      let c : cost (shown_by w.hand.view.turns) ≡ cost (shown_by d.more) = ap (λ ts. cost (shown_by ts)) (d.turns ∙ ap (λ ts. ts ++ d.more) r.fresh) in
      let e = d.left_is in let some = r.some in record { at = r.at; below = omega (arith, c, e, some) }

  pub running_goes : {P : Position → Type 0} {most left : ℕ} {found : Bool} {w : Worker A C} → Runs P most left found w → Goes P most left found w
  running_goes r = record { first = r.first; fresh = r.fresh; spent = r.spent; at = λ some on. r.at; stopped = λ is. goes_still r.some r.on is }

  pub is_running : {P : Position → Type 0} {most left : ℕ} {found : Bool} {w : Worker A C} → Goes P most left found w → 0 < left → found ≡ false → Runs P most left found w
  is_running g some on = record { first = g.first; fresh = g.fresh; spent = g.spent; some = some; on = on; at = g.at some on }

  pub any_stopped : {P Q : Position → Type 0} {most left : ℕ} {found : Bool} {w : Worker A C} → Goes P most left found w → (left ≡ 0) ⊎ (found ≡ true) → Goes Q most left found w
  any_stopped g is = record { first = g.first; fresh = g.fresh; spent = g.spent; at = λ some on. goes_still some on is; stopped = g.stopped }

  -- more is known of where it stands
  pub going_with : {P Q : Position → Type 0} {most left : ℕ} {found : Bool} {w : Worker A C} → (0 < left → found ≡ false → Stands P w → Stands Q w) → Goes P most left found w → Goes Q most left found w
  going_with f g = record { first = g.first; fresh = g.fresh; spent = g.spent; at = λ some on. f some on (g.at some on); stopped = g.stopped }

  pub running_with : {P Q : Position → Type 0} {most left : ℕ} {found : Bool} {w : Worker A C} → (Stands P w → Stands Q w) → Runs P most left found w → Runs Q most left found w
  running_with f r = record { first = r.first; fresh = r.fresh; spent = r.spent; some = r.some; on = r.on; at = f r.at }

  -- no turn was drawn
  pub same_running : {P : Position → Type 0} {most left : ℕ} {found : Bool} {old new : Worker A C} → SameWorker old new → SameTurns old.hand new.hand → Runs P most left found old → Runs P most left found new
  same_running {P} same turns r = record { first = r.first; fresh = r.fresh; spent = spent_none same turns r.spent; some = r.some; on = r.on; at = same_lone {P = P} same turns r.at }

  -- as the clause `spent` of a call says of what is left
  abbrev pub SpentOn : ℕ → Bool → ℕ → Bool → Worker A C → Worker A C → Type 0
  SpentOn left found left2 found2 old new = (start : ℕ) (w : Worker A C) → HasSpent start left found w old → HasSpent start left2 found2 w new

  -- it went on, and has come to such a position where it goes on still
  pub goes_on_to : {P Q : Position → Type 0} {most left left2 : ℕ} {found found2 : Bool} {old new : Worker A C} → Runs P most left found old → SpentOn left found left2 found2 old new → (0 < left2 → found2 ≡ false → Stands Q new) → ((left2 ≡ 0) ⊎ (found2 ≡ true) → Stops most new) → Goes Q most left2 found2 new
  goes_on_to {P} {Q} {most} r spent at stopped = record { first = r.first; fresh = r.fresh; spent = spent most r.first r.spent; at = at; stopped = stopped }

  pub went_on : {P Q : Position → Type 0} {most left left2 : ℕ} {found found2 : Bool} {old new : Worker A C} → Runs P most left found old → SpentOn left found left2 found2 old new → Gone Q most new → Goes Q most left2 found2 new
  went_on {P} {Q} r spent g = goes_on_to {P = P} {Q = Q} r spent (λ some on. g.at) (λ is. g.stopped)

  -- by calls that cost nothing and find no end
  pub quiet_runs : {P Q : Position → Type 0} {most left left2 : ℕ} {found found2 : Bool} {old new : Worker A C} → Runs P most left found old → SpentOn left found left2 found2 old new → left2 ≡ left → found2 ≡ found → Stands Q new → Runs Q most left2 found2 new
  quiet_runs {P} {Q} {most} r spent l f at = let some = r.some in record { first = r.first; fresh = r.fresh; spent = spent most r.first r.spent; some = omega (arith, some, l); on = f ∙ r.on; at = at }

  pub quiet_goes : {P Q : Position → Type 0} {most left left2 : ℕ} {found found2 : Bool} {old new : Worker A C} → Runs P most left found old → SpentOn left found left2 found2 old new → left2 ≡ left → found2 ≡ found → Stands Q new → Goes Q most left2 found2 new
  quiet_goes {P} {Q} r spent l f at = running_goes {P = Q} (quiet_runs {P = P} {Q = Q} r spent l f at)
