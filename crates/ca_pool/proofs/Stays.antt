-- A worker that made room for entries, or whose hand did more, but drew nothing.
use Rattle.std.proofs.Common.{◌≡◌, ◌∙◌, ◌<◌, ℕ, List, length, sym, ap, subst}
use Rattle.ca_term.specs.Program.{ProgramView, program_view}
use Rattle.ca_meaning.specs.Task.{TaskBody}
use Rattle.ca_journal.specs.Merge.{entries}
use Rattle.ca_states.specs.Code.{CodeView}
use Rattle.ca_states.specs.ValidCode.{valid_code}
use Rattle.ca_states.specs.declared.valid_code.ValidCode.{ValidCode}
use Rattle.ca_turns.specs.Hands.{Held, TableId}
use Rattle.ca_table.specs.Carriers.{IsCarrying}
use Rattle.ca_table.specs.Carrying.{Carries, at_places}
use Rattle.ca_table.specs.Grips.{Grips, SameTurns}
use Rattle.ca_table.specs.Seen.{PartSeen}
use Rattle.ca_table.specs.Workers.{AllAbove, IsOne, KeepsLeft, SameWorker, noted}
use Rattle.ca_table.specs.declared.drawn.Drawn.{Drawn}
use Rattle.ca_table.specs.declared.part.Part.{Part}
use Rattle.ca_table.specs.declared.worker.Worker.{Worker}
use Rattle.ca_table.proofs.Knowing.{knows_same}
use Rattle.ca_pool.proofs.Lefts.{kept_left}

-- a hand that is the same drew the same
pub same_turns : {P C E : Type 0} (x y : Held P C E) → y ≡ x → SameTurns x y
same_turns {P} {C} {E} x y e = record {
  same = record { table = ap (λ (h : Held P C E). h.table) e; opening = ap (λ (h : Held P C E). h.view.opening) e; hands = ap (λ (h : Held P C E). h.view.hands) e; stands_for = ap (λ (h : Held P C E). h.view.stands_for) e };
  turns = ap (λ (h : Held P C E). h.view.turns) e;
}

module _ {A C : Type 0} (over : CodeView → A → Type 0) (stands_as : ProgramView → A → TaskBody → Type 0) (program : ProgramView) (id : TableId) (n : ℕ) (o w : Worker A C) (same : SameWorker o w) (noted_same : entries w.entries ≡ entries o.entries) where
  pub still_one : (code : CodeView) → SameTurns o.hand w.hand → KeepsLeft o.hand.view w.hand.view → IsOne over stands_as program code id n o → IsOne over stands_as program code id n w
  still_one code turns kept one = record {
    table = turns.same.table ∙ one.table;
    slots = one.slots;
    of = same.workers ∙ one.of;
    few = one.few;
    below = subst (λ (k : ℕ). k < n) (sym same.number) one.below;
    of_program = ap (λ p. program_view p.value) same.program ∙ one.of_program;
    of_code = ap (λ c. valid_code c.value) same.code ∙ one.of_code;
    knows = knows_same over stands_as program code n o.hand.view w.hand.view turns.same.opening one.knows;
    opened_for = turns.same.hands ∙ one.opened_for;
    above = subst (λ ts. AllAbove 0 ts) (sym turns.turns) one.above;
    notes = noted_same ∙ one.notes ∙ sym (ap noted turns.turns);
    left = λ alone. let was = sym (ap (λ (l : List ℕ). length l) turns.same.stands_for) ∙ alone ∙ turns.same.hands in kept was one.above (one.left was);
  }

  pub still_carries : (code : ValidCode) (h : Carries (Part A C × PartSeen A)) → w.hand ≡ o.hand → IsCarrying over stands_as program code id n o h → IsCarrying over stands_as program code id n w h
  still_carries code h hand s = record {
    one = still_one (valid_code code) (same_turns o.hand w.hand hand) (kept_left o.hand.view w.hand.view (ap (λ (h : Held (Part A C) (PartSeen A) Drawn). h.view) hand)) s.one;
    grips = subst (λ (k : ℕ). Grips w.hand (at_places n k h)) (sym same.number) (subst (λ (g : Held (Part A C) (PartSeen A) Drawn). Grips g (at_places n o.number h)) (sym hand) s.grips);
    sorted = s.sorted;
    coded = s.coded;
  }
