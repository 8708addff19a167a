-- The only worker of a run: the journal is what its turns show, and the parts are what they left.
use Rattle.std.proofs.Common.{◌≡◌, ◌∙◌, zero, suc, List, [], ◌∷◌, ◌++◌, length, refl, sym, ap, subst, arith, All, length-append}
use Rattle.ca_term.specs.Event.{EventView}
use Rattle.ca_journal.specs.Merge.{events_of, in_order}
use Rattle.ca_turns.specs.Hands.{Held}
use Rattle.ca_turns.specs.Steps.{Sees}
use Rattle.ca_turns.specs.Views.{hands_stood_for}
use Rattle.ca_turns.specs.declared.rule.Turn.{Turn}
use Rattle.ca_table.specs.Draws.{drawn_touches}
use Rattle.ca_table.specs.Seen.{PartSeen}
use Rattle.ca_table.specs.Worked.{RanAlone}
use Rattle.ca_table.specs.Workers.{AllAbove, noted}
use Rattle.ca_table.specs.declared.drawn.Drawn.{Drawn}
use Rattle.ca_table.specs.declared.part.Part.{Part}
use Rattle.ca_table.specs.declared.worker.Worker.{Worker}
use Rattle.ca_table.proofs.OwnTurns.{own_contents, own_journal, own_run}

one_has : {X : Type 0} (P : X → Type 0) (x : X) → P x → All P (x ∷ [])
one_has P x p zero d lt = p
one_has P x p (suc k) d lt = absurd (omega (arith, lt))

none_before : {X : Type 0} (ys : List X) (x : X) → length (ys ++ x ∷ []) ≡ 1 → ys ≡ []
none_before [] x e = refl
none_before (y ∷ ys) x e = let k = length-append ys (x ∷ []) in absurd (omega (arith, e, k))

-- what is so of the last of one is so of all
pub all_of_one : {X : Type 0} (P : X → Type 0) (xs ys : List X) (x : X) → xs ≡ ys ++ x ∷ [] → length xs ≡ 1 → (ys ≡ [] → P x) → All P xs
all_of_one P xs ys x e one p = let none = none_before ys x (sym (ap length e) ∙ one) in subst (All P) (sym (e ∙ ap (λ l. l ++ x ∷ []) none)) (one_has P x (p none))

module _ {A C : Type 0} (moves : Drawn → List (PartSeen A) → List (PartSeen A) → Type 0) (w : Worker A C) (journal : List EventView) (log : List (Turn (PartSeen A) Drawn)) (parts : List (PartSeen A)) where
  ran_so : Sees drawn_touches moves w.hand.view log parts → hands_stood_for w.hand.view ≡ w.hand.view.hands → AllAbove 0 w.hand.view.turns → journal ≡ events_of (in_order (noted w.hand.view.turns)) → RanAlone moves journal parts w
  ran_so sees alone up is = record {
    shown = is ∙ own_journal drawn_touches moves w.hand.view log parts sees alone up;
    run = own_run drawn_touches moves w.hand.view (log, parts, sees) alone up;
    parts_left = sym (own_contents drawn_touches moves w.hand.view log parts sees alone up);
  }

  -- its hand closed the table
  pub ran_alone : (hand : Held (Part A C) (PartSeen A) Drawn) → hand ≡ w.hand → Sees drawn_touches moves hand.view log parts → hands_stood_for hand.view ≡ hand.view.hands → AllAbove 0 w.hand.view.turns → journal ≡ events_of (in_order (noted hand.view.turns)) → RanAlone moves journal parts w
  ran_alone hand same sees alone up is = ran_so (subst (λ (h : Held (Part A C) (PartSeen A) Drawn). Sees drawn_touches moves h.view log parts) same sees) (subst (λ (h : Held (Part A C) (PartSeen A) Drawn). hands_stood_for h.view ≡ h.view.hands) same alone) up
      (is ∙ ap (λ (h : Held (Part A C) (PartSeen A) Drawn). events_of (in_order (noted h.view.turns))) same)
