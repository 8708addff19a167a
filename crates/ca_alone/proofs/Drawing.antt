-- What a lone hand draws over the parts that it holds moves what its turns left.
use Rattle.std.proofs.Common.{◌≡◌, ℕ, List, [], ◌∷◌, ◌++◌, map, refl, sym, ap, ◌∙◌, subst, Option, Some}
use Rattle.std.proofs.lemmas.List.{length-map}
use mathlib.Core.Option.{some}
use lib.ListN.{get_elem?}
use Rattle.ca_turns.specs.Hands.{Held, look}
use Rattle.ca_turns.specs.History.{Run}
use Rattle.ca_turns.specs.Places.{AllIn}
use Rattle.ca_turns.specs.Views.{drawing, new_turn}
use Rattle.ca_turns.specs.declared.rule.Turn.{Turn}
use Rattle.ca_turns.specs.declared.rule.View.{View}
use Rattle.ca_turns.proofs.Looks.{all_there, long_look}
use Rattle.ca_commit.specs.Touched as said
use Rattle.ca_table.specs.Draws.{drawn_touches, turn_view}
use Rattle.ca_table.specs.Grips.{GripFits, Grips, HasAll}
use Rattle.ca_table.specs.Seen.{PartSeen}
use Rattle.ca_table.specs.declared.drawn.Drawn.{Drawn}
use Rattle.ca_table.specs.LoneHands.{HoldsLeft, IsAfter, left_now}
use Rattle.ca_alone.specs.Lone.{DrewNext}
use Rattle.ca_table.proofs.OwnTurns.{draw_goes, draw_left, last_goes, ran_before}

module _ {P C E : Type 0} (h : Held P C E) (g : ℕ → Option (P × C)) (grips : Grips h g) where
  fits : (i : ℕ) (x : P × C) → g i ≡ Some x → (get_elem? h.parts i ≡ some (Some x.0)) × (get_elem? h.view.held i ≡ some (Some x.1))
  fits i x e = subst (λ o. GripFits o h i) e (grips i)

  -- what it holds is there, now and as it was settled
  parts_there : (is : List ℕ) → HasAll g is → AllIn (λ i. (x : P) × (get_elem? h.parts i ≡ some (Some x))) is
  parts_there [] all = tt
  parts_there (i ∷ is) all = ((all.0.0.0, (fits i all.0.0 all.0.1).0), parts_there is all.1)

  held_in : (is : List ℕ) → HasAll g is → AllIn (λ i. (c : C) × (get_elem? h.view.held i ≡ some (Some c))) is
  held_in [] all = tt
  held_in (i ∷ is) all = ((all.0.0.1, (fits i all.0.0 all.0.1).1), held_in is all.1)

module _ {P A : Type 0} (content : P → PartSeen A) (moves : Drawn → List (PartSeen A) → List (PartSeen A) → Type 0) (h : Held P (PartSeen A) Drawn) (e : Drawn) where
  abbrev before : List (PartSeen A)
  before = look h.view.held (drawn_touches e)

  abbrev after : List (PartSeen A)
  after = map content (look h.parts (drawn_touches e))

  -- the hand after the draw has one turn more, and holds what is left then
  pub draws_next : (g : ℕ → Option (P × PartSeen A)) → Grips h g → HasAll g (drawn_touches e) → moves e before after → HoldsLeft drawn_touches h.view → (n : ℕ) (v2 : View (PartSeen A) Drawn) → v2 ≡ drawing h.view (drawn_touches e) (new_turn n e before after)
      → DrewNext moves (turn_view e.what) h.view v2 × HoldsLeft drawn_touches v2
  draws_next g grips all m left n v2 is = (
    record {
      turn = new_turn n e before after;
      is = refl;
      goes = draw_goes drawn_touches moves h.view n e after left (all_there h.view.held (drawn_touches e) (held_in h g grips (drawn_touches e) all)) m
          (length-map (look h.parts (drawn_touches e)) content ∙ long_look h.parts (drawn_touches e) (all_there h.parts (drawn_touches e) (parts_there h g grips (drawn_touches e) all)));
      after = record { opening = ap (λ (v : View (PartSeen A) Drawn). v.opening) is; turns = ap (λ (v : View (PartSeen A) Drawn). v.turns) is };
    },
    subst (λ (v : View (PartSeen A) Drawn). HoldsLeft drawn_touches v) (sym is) (draw_left drawn_touches h.view (new_turn n e before after) left),
  )

-- The last turn of a run moved what those before it left, and these are a run.
pub ran_next : {A : Type 0} (moves : Drawn → List (PartSeen A) → List (PartSeen A) → Type 0) (what : said.Turn) (v v2 : View (PartSeen A) Drawn) (t : Turn (PartSeen A) Drawn) (last : List (PartSeen A)) → Run drawn_touches moves v2.opening v2.turns last → IsAfter v v2 t → turn_view t.event.what ≡ what → DrewNext moves what v v2 × Run drawn_touches moves v.opening v.turns (left_now drawn_touches v)
ran_next {A} moves what v v2 t last r more is =
    let run : Run drawn_touches moves v.opening (v.turns ++ t ∷ []) last = subst (λ ts. Run drawn_touches moves v.opening ts last) more.turns (subst (λ cs. Run drawn_touches moves cs v2.turns last) more.opening r) in
    (record { turn = t; is = is; goes = last_goes drawn_touches moves v.opening v.turns t last run; after = more }, ran_before drawn_touches moves v.opening v.turns t last run)
