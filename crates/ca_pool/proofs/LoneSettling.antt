-- A lone worker looks at the least channel that may settle: it settles by an event, or doesn't.
use Rattle.std.proofs.Common.{◌≡◌, ◌∙◌, ℕ, ◌+◌, ◌-◌, List, [], ◌∷◌, ◌++◌, refl, sym, ap, subst, arith, Bool, true, false, Option, Some, None, cond, eq-eqb, eqb, is_some}
use Rattle.std.specs.Prelude.{IsSome, unwrap_or}
use Rattle.ca_value.specs.Tree.{Tree}
use Rattle.ca_term.specs.declared.event.Event.{Event}
use Rattle.ca_term.specs.declared.event.Side.{Side}
use Rattle.ca_term.specs.Event.{event_view, settled}
use Rattle.ca_term.specs.Operation.{SeedView}
use Rattle.ca_term.specs.Program.{ProgramView, program_view}
use Rattle.ca_meaning.specs.Body.{At}
use Rattle.ca_meaning.specs.Cost.{cost}
use Rattle.ca_meaning.specs.Task.{TaskBody}
use Rattle.ca_states.specs.Code.{CodeView}
use Rattle.ca_states.specs.ValidCode.{valid_code}
use Rattle.ca_states.specs.declared.valid_code.ValidCode.{ValidCode}
use Rattle.ca_agent.specs.Agents.{Advanced, Answered, Started}
use Rattle.ca_turns.specs.Hands.{TableId}
use Rattle.ca_turns.specs.declared.rule.Turn.{Turn}
use Rattle.ca_commit.specs.Contents.{home}
use Rattle.ca_commit.specs.Finding.{rests}
use Rattle.ca_commit.specs.Listing.{listed}
use Rattle.ca_commit.specs.Listings.{parts}
use Rattle.ca_commit.specs.Numbers.{number_of_bank}
use Rattle.ca_commit.specs.Settling.{served_in}
use Rattle.ca_commit.specs.Showing.{bank_in, channels_held}
use Rattle.ca_commit.specs.Touched as said
use Rattle.ca_commit.specs.declared.held.Held.{Held}
use Rattle.ca_solo.specs.Positions.{Position}
use Rattle.ca_table.specs.Carriers.{IsCarrying}
use Rattle.ca_table.specs.Draws.{turn_view}
use Rattle.ca_table.specs.Grips.{SameHand}
use Rattle.ca_table.specs.Homes.{has_home}
use Rattle.ca_table.specs.Parts.{part_seen}
use Rattle.ca_table.specs.Running.{shown_by}
use Rattle.ca_table.specs.Seen.{PartSeen}
use Rattle.ca_table.specs.Worked.{Drew}
use Rattle.ca_table.specs.Workers.{SameWorker}
use Rattle.ca_table.specs.declared.drawn.Drawn.{Drawn}
use Rattle.ca_table.specs.declared.drawn.Turned.TheVariants as T
use Rattle.ca_table.specs.declared.homes.Homes.{Homes}
use Rattle.ca_table.specs.declared.part.Lane.{Lane}
use Rattle.ca_table.specs.declared.worker.Worker.{Worker}
use Rattle.ca_alone.specs.Schedule.{Follow, MaySettle}
use Rattle.ca_alone.proofs.HeldPosition as position
use Rattle.ca_alone.proofs.HeldWithin.{carried_lies}
use Rattle.ca_alone.proofs.Leading as leading
use Rattle.ca_alone.proofs.Standings as standings
use Rattle.ca_pool.specs.AtWork.{HasSpent}
use Rattle.ca_pool.specs.Desk.{desk_taken}
use Rattle.ca_pool.specs.Lone.{HasCounted, HasSettled, IsGoing, IsRunning, LoneAt, MayGo, Went}
use Rattle.ca_pool.proofs.Desk.{some_map}
use Rattle.ca_pool.proofs.Lone as lone

-- the bank of a channel is held, where its number is among the homes
pub bank_held : {A : Type 0} (held : Held A) (p : ℕ) → is_some (listed number_of_bank (parts held.banks) (home p)) ≡ true → IsSome (channels_held held.banks (home p))
bank_held held p e = some_map bank_in (listed number_of_bank (parts held.banks) (home p)) ∙ e

-- the home of a number that was added
pub home_added : (old new : Homes) (p : ℕ) → ((i : ℕ) → has_home new i ≡ cond (eqb (home p) i) true (has_home old i)) → has_home new (home p) ≡ true
home_added old new p e = e (home p) ∙ ap (λ b. cond b true (has_home old (home p))) (eq-eqb (home p) (home p) refl)

-- what a known option holds
some_there : {X : Type 0} (o : Option X) → is_some o ≡ true → (x : X) × (o ≡ Some x)
some_there (Some x) e = (x, refl)
some_there None e = absurd (let z : false ≡ true = e in cc)

module _ {A C : Type 0} where
  -- what the turns cost with those of a call
  pub drew_cost : {spends : ℕ} {found : Bool} {old new : Worker A C} → Drew spends found old new → cost (shown_by new.hand.view.turns) ≡ cost (shown_by old.hand.view.turns) + spends
  drew_cost {spends} {found} {old} {new} d = let k = lone.cost_shown old.hand.view.turns d.more in let c = d.costs in ap (λ ts. cost (shown_by ts)) d.turns ∙ omega (arith, k, c)

module _ {A C : Type 0} (over : CodeView → A → Type 0) (place : A → At) (stands_as : ProgramView → A → TaskBody → Type 0) (advances : ProgramView → A → A → Type 0) (gives : A → Tree → A → Type 0) (starts : ProgramView → SeedView → A → Type 0)
    (advance_law : Advanced stands_as place advances) (answer_law : Answered stands_as place gives) (start_law : Started stands_as place starts) (code : ValidCode) where
  abbrev Stands : (Position → Type 0) → Worker A C → Type 0
  Stands P w = LoneAt over place stands_as advances gives starts code P w

  abbrev May : (Position → Type 0) → ℕ → Worker A C → Type 0
  May P most w = MayGo over place stands_as advances gives starts code P most w

  abbrev Gone : (Position → Type 0) → ℕ → Worker A C → Type 0
  Gone P most w = Went over place stands_as advances gives starts code P most w

  abbrev Runs : (Position → Type 0) → ℕ → ℕ → Bool → Worker A C → Type 0
  Runs P most left found w = IsRunning over place stands_as advances gives starts code P most left found w

  abbrev Goes : (Position → Type 0) → ℕ → ℕ → Bool → Worker A C → Type 0
  Goes P most left found w = IsGoing over place stands_as advances gives starts code P most left found w

  -- the event by which the channel settled
  pub settled_goes : {old new : Worker A C} (k : Follow) (us : List ℕ) (most w o p : ℕ) (side : Side) (x : Tree) (e : Event) → event_view e ≡ settled w o side p x → SameWorker old new → SameHand old.hand new.hand
      → (t : Turn (PartSeen A) Drawn) × (new.hand.view.turns ≡ old.hand.view.turns ++ t ∷ []) × (t.event.what ≡ T.Shown e) → May (MaySettle k (p ∷ us)) most old → Gone (MaySettle k (p ∷ us)) most new
  settled_goes {old} {new} k us most w o p side x e is same hand d m =
      let shown : turn_view d.0.event.what ≡ said.shown (settled w o side p x) = ap turn_view d.2 ∙ ap said.shown is in
      let drew = lone.drew_turn old new (said.shown (settled w o side p x)) d.0 hand d.1 shown in
      lone.may_show over place stands_as advances gives starts advance_law answer_law start_law code {P = MaySettle k (p ∷ us)} {Q = MaySettle k (p ∷ us)} {old = old} {new = new} (settled w o side p x) same hand drew (lone.settle_used k p us)
      (λ program at. leading.settles over place stands_as advances gives starts advance_law answer_law start_law program (valid_code code) old.hand.view new.hand.view k p us w o side x at drew) m

  -- what is held shows that the channel doesn't settle
  pub rests_pass : (least faults : C → ℕ) (readings : C → Option (List ℕ)) (id : TableId) {w : Worker A C} (program : ProgramView) (n : ℕ) (l : Lane A) (number : ℕ) (held : Held A) (k : Follow) (p : ℕ) (us : List ℕ) → IsCarrying over stands_as program code id n w (desk_taken (part_seen least faults readings) n code number l None held)
      → IsSome (channels_held held.banks (home p)) → served_in held p ≡ rests → Stands (MaySettle k (p ∷ us)) w → Stands (MaySettle k us) w
  rests_pass least faults readings id {w} program n l number held k p us c bank e s =
      let one : n ≡ 1 = sym c.one.of ∙ s.lone.0 in
      let c1 : IsCarrying over stands_as program code id 1 w (desk_taken (part_seen least faults readings) 1 code number l None held) = subst (λ (i : ℕ). IsCarrying over stands_as program code id i w (desk_taken (part_seen least faults readings) i code number l None held)) one c in
      let lies = carried_lies over stands_as program code id w (desk_taken (part_seen least faults readings) 1 code number l None held) c1 least faults readings held (c1.one.left s.lone.1) refl refl in
      let f = some_there (channels_held held.banks (home p)) bank in record {
        lone = s.lone;
        at = standings.passes over place stands_as advances gives starts advance_law answer_law start_law (program_view w.program.value) (valid_code code) w.hand.view k p us
            (position.with_rest over place stands_as advances gives starts (program_view w.program.value) (valid_code code) w.hand.view (MaySettle k (p ∷ us)) held p f.0 lies f.1 e s.at);
      }

  -- nothing was drawn that costs
  pub again_may : {P Q : Position → Type 0} {found : Bool} {most : ℕ} {old new : Worker A C} → Drew 0 found old new → May P most old → Stands Q new → May Q most new
  again_may {most = most} {old = old} {new = new} d m s = let k = drew_cost {old = old} {new = new} d in let b = m.below in record { at = s; below = omega (arith, k, b) }

  -- what settling it once, at that cost, leaves
  pub counted : {most left left2 : ℕ} {found found2 : Bool} {old new : Worker A C} (k : Follow) (p : ℕ) (us : List ℕ) (o : Option ℕ) (more : Bool) → more ≡ is_some o → Runs (MaySettle k (p ∷ us)) most left found old
      → ((start : ℕ) (w : Worker A C) → HasSpent start left found w old → HasSpent start left2 found2 w new) → left2 ≡ left - unwrap_or o 0 → found2 ≡ found → HasSettled over place stands_as advances gives starts code k p us most o new
      → HasCounted over place stands_as advances gives starts code k p us most more left2 found2 new
  counted {left = left} {left2 = left2} {old = old} {new = new} k p us None false is r spent l f s = let z : left2 ≡ left - 0 = l in
      lone.quiet_goes over place stands_as advances gives starts advance_law answer_law start_law code {P = MaySettle k (p ∷ us)} {Q = MaySettle k us} {old = old} {new = new} r spent (omega (arith, z)) f s
  counted {old = old} {new = new} k p us (Some cost) true is r spent l f s =
      lone.went_on over place stands_as advances gives starts advance_law answer_law start_law code {P = MaySettle k (p ∷ us)} {Q = MaySettle k (p ∷ us)} {old = old} {new = new} r spent s
  counted k p us None true is r spent l f s = absurd (let z : true ≡ false = is in cc)
  counted k p us (Some cost) false is r spent l f s = absurd (let z : false ≡ true = is in cc)
