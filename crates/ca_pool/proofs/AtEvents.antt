-- What a worker has between two events and at one, whoever says it.
use Rattle.std.proofs.Common.{◌≡◌, ◌∙◌, ℕ, List, ◌<◌, refl, sym, ap, subst, Option, Some, None, false}
use Rattle.std.specs.Prelude.{option_map}
use Rattle.ca_term.specs.Program.{ProgramView, program_view}
use Rattle.ca_meaning.specs.Task.{TaskBody}
use Rattle.ca_journal.specs.Merge.{entries}
use Rattle.ca_states.specs.Code.{CodeView}
use Rattle.ca_states.specs.ValidCode.{valid_code}
use Rattle.ca_states.specs.declared.valid_code.ValidCode.{ValidCode}
use Rattle.ca_turns.specs.Hands.{Held as HandHeld, TableId}
use Rattle.ca_turns.specs.Views.{hands_stood_for}
use Rattle.ca_commit.specs.Contents.{TimersPart}
use Rattle.ca_commit.specs.declared.held.Held.{Held}
use Rattle.ca_table.specs.Bearing.{ShowSame}
use Rattle.ca_table.specs.Carriers.{IsCarrying}
use Rattle.ca_table.specs.Carrying.{Carries, at_places}
use Rattle.ca_table.specs.Draws.{drawn_touches}
use Rattle.ca_table.specs.Grips.{Grips, SameTurns}
use Rattle.ca_table.specs.LoneHands.{HoldsLeft}
use Rattle.ca_table.specs.Parts.{part_away, clockwork_seen, part_seen}
use Rattle.ca_table.specs.Seen.{PartSeen, seen_timers}
use Rattle.ca_table.specs.Worked.{Drew}
use Rattle.ca_table.specs.Workers.{AllAbove, IsOne, SameWorker, noted}
use Rattle.ca_table.specs.declared.drawn.Drawn.{Drawn}
use Rattle.ca_table.specs.declared.part.Lane.{Lane}
use Rattle.ca_table.specs.declared.part.Part.{Part}
use Rattle.ca_table.specs.declared.worker.Worker.{Worker}
use Rattle.ca_table.proofs.Drawing.{drew_none}
use Rattle.ca_table.proofs.Knowing.{knows_same}
use Rattle.ca_pool.specs.AtEvent.{HasLane, HasTaken}
use Rattle.ca_pool.specs.Desk.{ClockBox, IsBare, desk_taken}
use Rattle.ca_pool.proofs.Desk.{bare_taken, clock_seen, taken_same}

-- a call that leaves the hand alone
pub same_turns : {P C E : Type 0} (h g : HandHeld P C E) → g ≡ h → SameTurns h g
same_turns h g e = record {
  same = record { table = ap (λ x. x.table) e; opening = ap (λ x. x.view.opening) e; hands = ap (λ x. x.view.hands) e; stands_for = ap (λ x. x.view.stands_for) e };
  turns = ap (λ x. x.view.turns) e;
}

pub turns_both : {P C E : Type 0} (x y z : HandHeld P C E) → SameTurns x y → SameTurns y z → SameTurns x z
turns_both x y z a b = record {
  same = record { table = b.same.table ∙ a.same.table; opening = b.same.opening ∙ a.same.opening; hands = b.same.hands ∙ a.same.hands; stands_for = b.same.stands_for ∙ a.same.stands_for };
  turns = b.turns ∙ a.turns;
}

-- nothing was drawn where nothing was done
pub drew_nothing : {A C : Type 0} (w : Worker A C) → Drew 0 false w w
drew_nothing w = drew_none (record { number = refl; workers = refl; program = refl; code = refl }) (same_turns w.hand w.hand refl)

module _ {A C : Type 0} (over : CodeView → A → Type 0) (stands_as : ProgramView → A → TaskBody → Type 0) (code : ValidCode) (id : TableId) (program : ProgramView) (n : ℕ) (w v : Worker A C) where
  -- the same worker with the same hand, and the same entries
  kept_one : SameWorker w v → v.hand ≡ w.hand → entries v.entries ≡ entries w.entries → IsOne over stands_as program (valid_code code) id n w → IsOne over stands_as program (valid_code code) id n v
  kept_one same hand entries_are one = record {
    table = ap (λ h. h.table) hand ∙ one.table;
    slots = one.slots;
    of = same.workers ∙ one.of;
    few = one.few;
    below = subst (λ (k : ℕ). k < n) (sym same.number) one.below;
    of_program = ap (λ p. program_view p.value) same.program ∙ one.of_program;
    of_code = ap (λ p. valid_code p.value) same.code ∙ one.of_code;
    knows = knows_same over stands_as program (valid_code code) n w.hand.view v.hand.view (ap (λ h. h.view.opening) hand) one.knows;
    opened_for = ap (λ h. h.view.hands) hand ∙ one.opened_for;
    above = subst (λ ts. AllAbove 0 ts) (sym (ap (λ h. h.view.turns) hand)) one.above;
    notes = entries_are ∙ one.notes ∙ sym (ap (λ h. noted h.view.turns) hand);
    left = subst (λ (h : HandHeld (Part A C) (PartSeen A) Drawn). hands_stood_for h.view ≡ h.view.hands → HoldsLeft drawn_touches h.view) (sym hand) one.left;
  }

  pub kept_carrying : (h : Carries (Part A C × PartSeen A)) → SameWorker w v → v.hand ≡ w.hand → entries v.entries ≡ entries w.entries → IsCarrying over stands_as program code id n w h → IsCarrying over stands_as program code id n v h
  kept_carrying h same hand entries_are s = record {
    one = kept_one same hand entries_are s.one;
    grips = subst (λ (k : ℕ). Grips v.hand (at_places n k h)) (sym same.number) (subst (λ (g : HandHeld (Part A C) (PartSeen A) Drawn). Grips g (at_places n w.number h)) (sym hand) s.grips);
    sorted = s.sorted;
    coded = s.coded;
  }

module _ {A C : Type 0} (over : CodeView → A → Type 0) (stands_as : ProgramView → A → TaskBody → Type 0) (code : ValidCode) (id : TableId) (program : ProgramView) (n : ℕ) (l : Lane A) (least faults : C → ℕ) (readings : C → Option (List ℕ)) where
  abbrev shows : Part A C → PartSeen A
  shows = part_seen least faults readings

  -- by its own number
  pub own_number : (w v : Worker A C) (clock : Option (ClockBox C)) (held : Held A) → v.number ≡ w.number → IsCarrying over stands_as program code id n v (desk_taken shows n code w.number l clock held) → HasTaken over stands_as code id program n l shows clock held v
  own_number w v clock held e s = subst (λ (k : ℕ). IsCarrying over stands_as program code id n v (desk_taken shows n code k l clock held)) (sym e) s

  -- nothing is held beside the lane
  pub bare_lane : (w : Worker A C) (held : Held A) → IsBare held → HasTaken over stands_as code id program n l shows None held w → HasLane over stands_as code id program n l w
  bare_lane w held bare s = subst (λ (h : Carries (Part A C × PartSeen A)). IsCarrying over stands_as program code id n w h) (bare_taken shows n code w.number l held bare) s

  pub lane_bare : (w : Worker A C) (held : Held A) → IsBare held → HasLane over stands_as code id program n l w → HasTaken over stands_as code id program n l shows None held w
  lane_bare w held bare s = subst (λ (h : Carries (Part A C × PartSeen A)). IsCarrying over stands_as program code id n w h) (sym (bare_taken shows n code w.number l held bare)) s

  -- what shows the same is settled the same
  pub taken_shown : (w : Worker A C) (clock : Option (ClockBox C)) (old new : Held A) → ShowSame old new → HasTaken over stands_as code id program n l shows clock old w → HasTaken over stands_as code id program n l shows clock new w
  taken_shown w clock old new same s = subst (λ (h : Carries (Part A C × PartSeen A)). IsCarrying over stands_as program code id n w h) (taken_same least faults readings n code w.number l clock old new same) s

  abbrev clock_part : TimersPart → Part A C × PartSeen A
  clock_part t = (part_away n code, record { workers = n; code = valid_code code; held = seen_timers t })

  clock_parts : (clock : Option (ClockBox C)) → option_map (λ c. clock_part (clockwork_seen least faults readings c.value)) clock ≡ option_map clock_part (clock_seen least faults readings clock)
  clock_parts None = refl
  clock_parts (Some c) = refl

  pub clock_shown : (w : Worker A C) (clock clock2 : Option (ClockBox C)) (held : Held A) → clock_seen least faults readings clock2 ≡ clock_seen least faults readings clock → HasTaken over stands_as code id program n l shows clock held w → HasTaken over stands_as code id program n l shows clock2 held w
  clock_shown w clock clock2 held e s = subst (λ (h : Carries (Part A C × PartSeen A)). IsCarrying over stands_as program code id n w h) same s where
    same : desk_taken shows n code w.number l clock held ≡ desk_taken shows n code w.number l clock2 held
    same = λ t. record {
      lane = (desk_taken shows n code w.number l clock held).lane;
      banks = (desk_taken shows n code w.number l clock held).banks;
      shards = (desk_taken shows n code w.number l clock held).shards;
      timers = (clock_parts clock ∙ ap (option_map clock_part) (sym e) ∙ sym (clock_parts clock2)) t;
      ready = (desk_taken shows n code w.number l clock held).ready;
    }
