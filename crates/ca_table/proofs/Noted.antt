-- A worker that drew one more event and noted it.
use Rattle.std.proofs.Common.{◌≡◌, ◌∙◌, ℕ, suc, ◌+◌, ◌<◌, ◌≤◌, List, [], ◌∷◌, ◌++◌, refl, sym, ap, subst, arith}
use mathlib.Core.Option.{some}
use lib.ListN.{get_elem?}
use Rattle.ca_term.specs.Program.{ProgramView}
use Rattle.ca_meaning.specs.Task.{TaskBody}
use Rattle.ca_journal.specs.Merge.{entries}
use Rattle.ca_journal.specs.declared.entries.Entries.{Entries}
use Rattle.ca_states.specs.Code.{CodeView}
use Rattle.ca_turns.specs.Hands.{Held, TableId}
use Rattle.ca_turns.specs.Views.{new_turn}
use Rattle.ca_turns.specs.declared.rule.Turn.{Turn}
use Rattle.ca_table.specs.Draws.{drawn_touches}
use Rattle.ca_table.specs.Grips.{SameHand}
use Rattle.ca_table.specs.LoneHands.{HoldsLeft}
use Rattle.ca_table.specs.Seen.{PartSeen}
use Rattle.ca_table.specs.Workers.{AllAbove, IsOne, event_entries, noted}
use Rattle.ca_table.specs.declared.drawn.Drawn.{Drawn}
use Rattle.ca_table.specs.declared.part.Part.{Part}
use Rattle.ca_table.specs.declared.worker.Worker.{Worker}
use Rattle.ca_table.proofs.Gathers.{noted_append}
use Rattle.ca_table.proofs.Knowing.{knows_same}
use Rattle.ca_table.proofs.OwnTurns.{was_alone}

above_snoc : {C : Type 0} (m : ℕ) (ts : List (Turn C Drawn)) (k : ℕ) (d : Drawn) (before after : List C) → m ≤ k → ((i : ℕ) (t : Turn C Drawn) → get_elem? ts i ≡ some t → t.number < k) → AllAbove m ts → AllAbove m (ts ++ new_turn k d before after ∷ [])
above_snoc m [] k d before after le later h = (le, tt)
above_snoc m (t ∷ ts) k d before after le later h = (h.0, above_snoc (t.number + 1) ts k d before after (let lt = later 0 t refl in omega (arith, lt)) (λ i. later (suc i)) h.1)

append_nothing : {X : Type 0} (xs : List X) → xs ++ [] ≡ xs
append_nothing [] = refl
append_nothing (x ∷ xs) = ap (λ l. x ∷ l) (append_nothing xs)

pub drew_one : {A C : Type 0} (over : CodeView → A → Type 0) (stands_as : ProgramView → A → TaskBody → Type 0) (program : ProgramView) (code : CodeView) (id : TableId) (n : ℕ) (w : Worker A C) (h : Held (Part A C) (PartSeen A) Drawn) (es : Entries) (k : ℕ) (d : Drawn) (before after : List (PartSeen A))
    → SameHand w.hand h → h.view.turns ≡ w.hand.view.turns ++ new_turn k d before after ∷ [] → ((i : ℕ) (t : Turn (PartSeen A) Drawn) → get_elem? w.hand.view.turns i ≡ some t → t.number < k) → entries es ≡ entries w.entries ++ event_entries k d.what → (HoldsLeft drawn_touches w.hand.view → HoldsLeft drawn_touches h.view)
    → IsOne over stands_as program code id n w → IsOne over stands_as program code id n (record { number = w.number; workers = w.workers; program = w.program; code = w.code; hand = h; entries = es; answer = w.answer })
drew_one over stands_as program code id n w h es k d before after same drew later notes left one = record {
  table = same.table ∙ one.table;
  slots = one.slots;
  of = one.of;
  few = one.few;
  below = one.below;
  of_program = one.of_program;
  of_code = one.of_code;
  knows = knows_same over stands_as program code n w.hand.view h.view same.opening one.knows;
  opened_for = same.hands ∙ one.opened_for;
  above = subst (λ ts. AllAbove 0 ts) (sym drew) (above_snoc 0 w.hand.view.turns k d before after (omega arith) later one.above);
  notes = notes ∙ ap (λ l. l ++ event_entries k d.what) one.notes ∙ sym (ap noted drew ∙ noted_append w.hand.view.turns (new_turn k d before after ∷ []) ∙ ap (λ l. noted w.hand.view.turns ++ l) (append_nothing (event_entries k d.what)));
  left = λ alone. left (one.left (was_alone w.hand h same alone));
}
