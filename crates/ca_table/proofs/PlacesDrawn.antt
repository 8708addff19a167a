-- The event of a plan that was made where the parts lie: it covers them, where they are just what it needs, and moves them.
use Rattle.std.proofs.Common.{◌≡◌, ◌∙◌, ℕ, [], ◌++◌, List, refl, sym, ap, subst}
use Rattle.std.proofs.lemmas.List.{append-nil}
use Rattle.ca_value.specs.Tree.{Tree}
use Rattle.ca_term.specs.Event.{EventView}
use Rattle.ca_term.specs.Operation.{SeedView}
use Rattle.ca_term.specs.Program.{ProgramView}
use Rattle.ca_meaning.specs.Body.{At}
use Rattle.ca_states.specs.Code.{CodeView}
use Rattle.ca_states.specs.ValidCode.{valid_code}
use Rattle.ca_states.specs.declared.valid_code.ValidCode.{ValidCode}
use Rattle.ca_commit.specs.Agents.{TaskAgent}
use Rattle.ca_commit.specs.Applying.{event_of}
use Rattle.ca_commit.specs.Contents.{Content, Parts}
use Rattle.ca_commit.specs.Gathered.{Alike}
use Rattle.ca_commit.specs.Moving.{MovesTurn}
use Rattle.ca_commit.specs.PlanMoves.{IsApplied}
use Rattle.ca_commit.specs.Planning.{Planned}
use Rattle.ca_commit.specs.Touched as said
use Rattle.ca_table.specs.Carriers.{IsMoved, is_now, was}
use Rattle.ca_table.specs.Carrying.{Carries, EachCarried, carried}
use Rattle.ca_table.specs.Covering.{Covers, is_named_one, turn_names, plain_drawn}
use Rattle.ca_table.specs.Needing.{Brings, needed, needs_ready, needs_timers, own_if, ports_needed, waits_needed}
use Rattle.ca_table.specs.OneCode.{advances_over, gives_over, starts_over}
use Rattle.ca_table.specs.Seen.{PartSeen}
use Rattle.ca_table.specs.declared.part.Part.{Part}
use Rattle.ca_table.proofs.Needing.{lane_held}
use Rattle.ca_table.proofs.PlanCovered.{names_needed, no_stall, plan_turns}

-- what an event names is all that is carried
covers_just : {X : Type 0} (h : Carries X) (w n : ℕ) (what : said.Turn) (x : said.NamedParts) → (what ≡ said.stalls → ⊥) → turn_names w what ≡ x → x.lane ≡ Rattle.std.specs.Prelude.is_some h.lane → Brings x.ports x.waits x.timers x.ready h → Covers (plain_drawn w n what) h
covers_just h w n what x some is lane brings = record {
  some = some;
  lane = ap (λ (y : said.NamedParts). y.lane) is ∙ lane;
  banks = λ i lt. ap (λ (y : said.NamedParts). said.homes (y.ports ++ []) i) is ∙ ap (λ (l : List ℕ). said.homes l i) (append-nil x.ports) ∙ brings.banks i lt;
  shards = λ i lt. ap (λ (y : said.NamedParts). said.homes (y.waits ++ []) i) is ∙ ap (λ (l : List ℕ). said.homes l i) (append-nil x.waits) ∙ brings.shards i lt;
  timers = ap (λ (y : said.NamedParts). y.timers) is ∙ brings.timers;
  ready = λ r. ap (λ (y : said.NamedParts). is_named_one y.ready r) is ∙ brings.ready r;
}

module _ {A X : Type 0} (place : A → At) (advances : ProgramView → A → A → Type 0) (gives : A → Tree → A → Type 0) (starts : ProgramView → SeedView → A → Type 0) (f g : X → Content (TaskAgent A))
    (w n t u p v m : ℕ) (q : Planned) (h : Carries X) (e : EventView) (x : IsApplied place advances gives starts w n t u p v m q (carried f w h) (carried g w h)) where
  abbrev before : Parts (TaskAgent A)
  before = carried f w h

  abbrev event : EventView
  event = event_of before.bank before.registry t u p v m q

  pub applied_covers : e ≡ event → Brings (ports_needed p q) (waits_needed v q) (needs_timers q) (own_if (needs_ready q) w) h → Covers (plain_drawn w n (said.shown e)) h
  applied_covers is brings = subst (λ (e : EventView). Covers (plain_drawn w n (said.shown e)) h) (sym is)
      (covers_just h w n (said.shown event) (needed w p v q) (no_stall event) (names_needed before.bank before.registry w t u p v m q x.is_event) (sym (lane_held f w h x.stands.lane x.stands.lanes.was)) brings)

  pub applied_turns : e ≡ event → MovesTurn place advances gives starts w n (said.shown e) (carried f w h) (carried g w h)
  applied_turns is = subst (λ (e : EventView). MovesTurn place advances gives starts w n (said.shown e) (carried f w h) (carried g w h)) (sym is) (plan_turns place advances gives starts f g w n t u p v m q h x)

module _ {A C : Type 0} (over_code : CodeView → A → Type 0) (place : A → At) (advances : ProgramView → A → A → Type 0) (gives : A → Tree → A → Type 0) (starts : ProgramView → SeedView → A → Type 0) (seen : Part A C → PartSeen A) (code : ValidCode) where
  abbrev Advances : ProgramView → A → A → Type 0
  Advances = advances_over over_code (valid_code code) advances

  abbrev Gives : A → Tree → A → Type 0
  Gives = gives_over over_code (valid_code code) gives

  abbrev Starts : ProgramView → SeedView → A → Type 0
  Starts = starts_over over_code (valid_code code) starts

  -- so its worker draws it
  pub applied_moved : (w n t u p v m : ℕ) (q : Planned) (h : Carries (Part A C × PartSeen A)) (e : EventView) → IsApplied place Advances Gives Starts w n t u p v m q (carried was w h) (carried (is_now seen) w h)
      → e ≡ event_of (carried was w h).bank (carried was w h).registry t u p v m q → EachCarried (λ x. Alike n (was x) (is_now seen x)) h
      → Brings (ports_needed p q) (waits_needed v q) (needs_timers q) (own_if (needs_ready q) w) h → IsMoved over_code place advances gives starts seen code n w (plain_drawn w n (said.shown e)) h
  applied_moved w n t u p v m q h e x is alike brings = record {
    by = refl;
    of = refl;
    covers = applied_covers place Advances Gives Starts was (is_now seen) w n t u p v m q h e x is brings;
    alike = alike;
    moves = applied_turns place Advances Gives Starts was (is_now seen) w n t u p v m q h e x is;
  }
