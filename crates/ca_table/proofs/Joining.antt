-- A hand that others are joined into, and the lists of what their workers noted.
use Rattle.std.proofs.Common.{◌≡◌, ◌∙◌, ℕ, ◌+◌, List, [], ◌∷◌, ◌++◌, length, map, refl, sym, ap, ap₂, subst, arith, length-append}
use mathlib.Core.List.{append_assoc, append-nil}
use lib.ListN.{get_elem?}
use Rattle.ca_term.specs.Program.{ProgramView}
use Rattle.ca_meaning.specs.Task.{TaskBody}
use Rattle.ca_states.specs.Code.{CodeView}
use Rattle.ca_journal.specs.Merge.{Ascends, EachAscends, Numbered, entries, joined}
use Rattle.ca_journal.specs.declared.entries.Entries.{Entries}
use Rattle.ca_turns.specs.Hands.{Held, TableId}
use Rattle.ca_turns.specs.Places.{total}
use Rattle.ca_turns.specs.Views.{both_views, hands_stood_for}
use Rattle.ca_table.specs.Seen.{PartSeen}
use Rattle.ca_table.specs.Workers.{IsJoined, IsReady, noted, stands_for}
use Rattle.ca_table.specs.declared.drawn.Drawn.{Drawn}
use Rattle.ca_table.specs.declared.part.Part.{Part}
use Rattle.ca_table.specs.declared.worker.Worker.{Worker}
use Rattle.ca_table.proofs.Gathers.{noted_append, noted_ascends}
use Rattle.ca_table.proofs.Knowing.{knows_same}

joined_more : (lists : List Entries) (e : Entries) → joined (map entries (lists ++ e ∷ [])) ≡ joined (map entries lists) ++ entries e
joined_more [] e = append-nil (entries e)
joined_more (l ∷ lists) e = ap (λ es. entries l ++ es) (joined_more lists e) ∙ sym (append_assoc (entries l) (joined (map entries lists)) (entries e))

each_more : (lists : List Entries) (e : Entries) → EachAscends (map entries lists) → Ascends (entries e) → EachAscends (map entries (lists ++ e ∷ []))
each_more [] e up one = (one, tt)
each_more (l ∷ lists) e up one = (up.0, each_more lists e up.1 one)

module _ {A C : Type 0} (over : CodeView → A → Type 0) (stands_as : ProgramView → A → TaskBody → Type 0) (program : ProgramView) (code : CodeView) (id : TableId) (n : ℕ) where
  ascend : (w : Worker A C) → IsReady over stands_as program code id n w → Ascends (entries w.entries)
  ascend w r = subst Ascends (sym r.one.notes) (noted_ascends 0 w.hand.view.turns r.one.above)

  pub alone : (w : Worker A C) → IsReady over stands_as program code id n w → IsJoined {A = A} {C = C} over stands_as program code id n (stands_for w) w.hand (w.entries ∷ [])
  alone w r = record {
    table = r.one.table;
    knows = r.one.knows;
    opened_for = r.one.opened_for;
    nothing = r.nothing;
    notes = append-nil (entries w.entries) ∙ r.one.notes;
    ascends = (ascend w r, tt);
    counted = refl;
  }

  pub joins : (count : ℕ) (hand new : Held (Part A C) (PartSeen A) Drawn) (lists : List Entries) (w : Worker A C) → IsJoined {A = A} {C = C} over stands_as program code id n count hand lists → IsReady over stands_as program code id n w
      → new.table ≡ hand.table → new.parts ≡ hand.parts → new.view ≡ both_views hand.view w.hand.view → IsJoined {A = A} {C = C} over stands_as program code id n (count + stands_for w) new (lists ++ w.entries ∷ [])
  joins count hand new lists w j r table parts view = record {
    table = table ∙ j.table;
    knows = knows_same over stands_as program code n hand.view new.view (ap (λ v. v.opening) view) j.knows;
    opened_for = ap (λ v. v.hands) view ∙ j.opened_for;
    nothing = λ i x e. j.nothing i x (sym (ap (λ l. get_elem? l i) parts) ∙ e);
    notes = joined_more lists w.entries ∙ ap₂ (λ (x y : List Numbered). x ++ y) j.notes r.one.notes ∙ sym (noted_append hand.view.turns w.hand.view.turns) ∙ sym (ap (λ v. noted v.turns) view);
    ascends = each_more lists w.entries j.ascends (ascend w r);
    counted = ap hands_stood_for view ∙ length-append hand.view.stands_for w.hand.view.stands_for ∙ ap (λ (k : ℕ). k + stands_for w) j.counted;
  }

-- nobody is left
pub no_total : {X : Type 0} (f : X → ℕ) (xs : List X) → length xs ≡ 0 → total f xs ≡ 0
no_total f [] e = refl
no_total f (x ∷ xs) e = absurd (omega (arith, e))
