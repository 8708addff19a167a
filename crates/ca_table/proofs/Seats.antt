-- A worker whose hand did more, but drew nothing.
use Rattle.std.proofs.Common.{◌∙◌, ℕ, sym, ap, subst}
use Rattle.ca_term.specs.Program.{ProgramView}
use Rattle.ca_meaning.specs.Task.{TaskBody}
use Rattle.ca_states.specs.Code.{CodeView}
use Rattle.ca_turns.specs.Hands.{Held, TableId}
use Rattle.ca_table.specs.Grips.{SameTurns}
use Rattle.ca_table.specs.Seen.{PartSeen}
use Rattle.ca_table.specs.Workers.{AllAbove, IsOne, KeepsLeft, noted}
use Rattle.ca_table.specs.declared.drawn.Drawn.{Drawn}
use Rattle.ca_table.specs.declared.part.Part.{Part}
use Rattle.ca_table.specs.declared.worker.Worker.{Worker}
use Rattle.ca_table.proofs.Knowing.{knows_same}
use Rattle.ca_table.proofs.OwnTurns.{was_alone}

abbrev pub with_hand : {A C : Type 0} → Worker A C → Held (Part A C) (PartSeen A) Drawn → Worker A C
with_hand w h = record { number = w.number; workers = w.workers; program = w.program; code = w.code; hand = h; entries = w.entries; answer = w.answer }

pub same_one : {A C : Type 0} (over : CodeView → A → Type 0) (stands_as : ProgramView → A → TaskBody → Type 0) (program : ProgramView) (code : CodeView) (id : TableId) (n : ℕ) (w : Worker A C) (h : Held (Part A C) (PartSeen A) Drawn) → SameTurns w.hand h → KeepsLeft w.hand.view h.view → IsOne over stands_as program code id n w → IsOne over stands_as program code id n (with_hand w h)
same_one over stands_as program code id n w h same keeps one = record {
  table = same.same.table ∙ one.table;
  slots = one.slots;
  of = one.of;
  few = one.few;
  below = one.below;
  of_program = one.of_program;
  of_code = one.of_code;
  knows = knows_same over stands_as program code n w.hand.view h.view same.same.opening one.knows;
  opened_for = same.same.hands ∙ one.opened_for;
  above = subst (λ ts. AllAbove 0 ts) (sym same.turns) one.above;
  notes = one.notes ∙ sym (ap noted same.turns);
  left = λ alone. let before = was_alone w.hand h same.same alone in keeps before one.above (one.left before);
}

pub then_same : {P C E : Type 0} (x y z : Held P C E) → SameTurns x y → SameTurns y z → SameTurns x z
then_same x y z a b = record {
  same = record { table = b.same.table ∙ a.same.table; opening = b.same.opening ∙ a.same.opening; hands = b.same.hands ∙ a.same.hands; stands_for = b.same.stands_for ∙ a.same.stands_for };
  turns = b.turns ∙ a.turns;
}
