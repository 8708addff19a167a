-- What a hand holds after its calls.
use Rattle.std.proofs.Common.{◌≡◌, ◌≢◌, ℕ, zero, suc, List, [], ◌∷◌, set, refl, sym, ap, ◌∙◌, subst, Bool, true, false, cond, Option, Some, None, eqb, eqb-true}
use Rattle.std.proofs.lemmas.Bool.{eqb-false}
use Rattle.std.specs.Map.{update}
use mathlib.Core.Option as core
use lib.ListN.{get_elem?}
use Rattle.ca_turns.specs.Hands.{Held, HoldsNothing, IsHolding, IsNone, IsPartSettled, IsWithout, SameBut, look}
use Rattle.ca_turns.specs.Places.{AllIn}
use Rattle.ca_turns.proofs.Lists.{both_some, in_range}
use Rattle.ca_turns.proofs.Callers.{look_at, set_else, set_here}
use Rattle.ca_table.specs.Grips.{GripFits, Grips, HasAll, add_settled, add_value, is_place_among, no_grip, settle, settled_contents, settled_one, values}

module _ {P C E : Type 0} where
  -- the part at i is as said, and the others stay
  pub grips_at : (old new : Held P C E) (g : ℕ → Option (P × C)) (i : ℕ) (o : Option (P × C)) → SameBut i old new → GripFits o new i → Grips old g → Grips new (update eqb g i o)
  grips_at old new g i o same here all k = by (eqb i k) refl where
    other : k ≢ i → (x : Option (P × C)) → GripFits x old k → GripFits x new k
    other ne None h = λ x e. h x (sym (same k ne).0 ∙ e)
    other ne (Some x) h = ((same k ne).0 ∙ h.0, (same k ne).1 ∙ h.1)

    by : (b : Bool) → eqb i k ≡ b → GripFits (cond b o (g k)) new k
    by true e = subst (λ (k : ℕ). GripFits o new k) (eqb-true i k e) here
    by false e = other (λ is. eqb-false i k e (sym is)) (g k) (all k)

  pub fit : (h : Held P C E) (g : ℕ → Option (P × C)) (i : ℕ) (x : P × C) → Grips h g → g i ≡ Some x → (get_elem? h.parts i ≡ core.some (Some x.0)) × (get_elem? h.view.held i ≡ core.some (Some x.1))
  fit h g i x all e = subst (λ o. GripFits o h i) e (all i)

  pub no_fit : (h : Held P C E) (g : ℕ → Option (P × C)) (i : ℕ) → Grips h g → g i ≡ None → IsWithout h i
  no_fit h g i all e = subst (λ o. GripFits o h i) e (all i)

  -- a hand that holds these parts holds no other
  pub held_is : (h : Held P C E) (g : ℕ → Option (P × C)) (i : ℕ) → Grips h g → IsHolding h i → g i ≡ None → ⊥
  held_is h g i all x e = no_fit h g i all e x.0 x.1

  -- what a part is now
  pub grips_put : (old new : Held P C E) (g : ℕ → Option (P × C)) (i : ℕ) (x y : P) (c : C) → g i ≡ Some (x, c) → new.view.held ≡ old.view.held → new.parts ≡ set old.parts i (Some y) → Grips old g → Grips new (update eqb g i (Some (y, c)))
  grips_put old new g i x y c e view parts all = let at = fit old g i (x, c) all e in
      grips_at old new g i (Some (y, c)) (λ k ne. (ap (λ l. get_elem? l k) parts ∙ set_else old.parts i k (Some y) ne, ap (λ l. get_elem? l k) view))
      (ap (λ l. get_elem? l i) parts ∙ set_here old.parts i (Some y) (in_range old.parts i (Some x) at.0), ap (λ l. get_elem? l i) view ∙ at.1) all

  -- it holds each of these places
  pub all_held : (h : Held P C E) (g : ℕ → Option (P × C)) (is : List ℕ) → Grips h g → HasAll g is → AllIn (IsHolding h) is
  all_held h g [] all has = tt
  all_held h g (i ∷ is) all has = ((has.0.0.0, (fit h g i has.0.0 all has.0.1).0), all_held h g is all has.1)

  -- what it has at these places
  pub look_all : (h : Held P C E) (g : ℕ → Option (P × C)) (is : List ℕ) → Grips h g → HasAll g is → (look h.parts is ≡ values g is) × (look h.view.held is ≡ settled_contents g is)
  look_all h g [] all has = (refl, refl)
  look_all h g (i ∷ is) all has = let x = has.0.0 in let f = fit h g i x all has.0.1 in let r = look_all h g is all has.1 in (
    look_at h.parts i is x.0 f.0 ∙ ap (λ l. x.0 ∷ l) r.0 ∙ ap (λ o. add_value o (values g is)) (sym has.0.1),
    look_at h.view.held i is x.1 f.1 ∙ ap (λ l. x.1 ∷ l) r.1 ∙ ap (λ o. add_settled o (settled_contents g is)) (sym has.0.1),
  )

pub among_at : (i : ℕ) (is : List ℕ) → is_place_among i is ≡ true → (m : ℕ) × (get_elem? is m ≡ core.some i)
among_at i [] e = absurd (let k : false ≡ true = e in cc)
among_at i (j ∷ js) e = by (eqb j i) refl (λ e. among_at i js e) e where
  by : (b : Bool) → eqb j i ≡ b → (is_place_among i js ≡ true → (m : ℕ) × (get_elem? js m ≡ core.some i)) → cond b true (is_place_among i js) ≡ true → (m : ℕ) × (get_elem? (j ∷ js) m ≡ core.some i)
  by true is rest e = (0, ap core.some (eqb-true j i is))
  by false is rest e = let r = rest e in (suc r.0, r.1)

not_among : (i : ℕ) (is : List ℕ) → is_place_among i is ≡ false → IsNone is i
not_among i [] e m = λ f. absurd (let k : core.none ≡ core.some i = f in cc)
not_among i (j ∷ js) e m = by (eqb j i) refl (λ e. not_among i js e) e m where
  by : (b : Bool) → eqb j i ≡ b → (is_place_among i js ≡ false → IsNone js i) → cond b true (is_place_among i js) ≡ false → (m : ℕ) → get_elem? (j ∷ js) m ≡ core.some i → ⊥
  by true is rest e m f = absurd (let k : true ≡ false = e in cc)
  by false is rest e zero f = eqb-false j i is (let k : j ≡ i = cc in k)
  by false is rest e (suc m) f = rest e m f

module _ {P C E : Type 0} (content : P → C) where
  -- once these are settled as they are, and the others are as they were
  pub grips_settled : (is : List ℕ) (old new : Held P C E) (g : ℕ → Option (P × C)) → Grips old g → new.parts ≡ old.parts → ((m i : ℕ) → get_elem? is m ≡ core.some i → IsPartSettled content new i)
      → ((i : ℕ) → IsNone is i → get_elem? new.view.held i ≡ get_elem? old.view.held i) → Grips new (settle content is g)
  grips_settled is old new g all parts here others i = by (is_place_among i is) refl where
    same_part : get_elem? new.parts i ≡ get_elem? old.parts i
    same_part = ap (λ l. get_elem? l i) parts

    settled_fit : (o : Option (P × C)) → GripFits o old i → IsPartSettled content new i → GripFits (settled_one content o) new i
    settled_fit None h s = λ x f. h x (sym same_part ∙ f)
    settled_fit (Some x) h s = let p = same_part ∙ h.0 in (p, s.2 ∙ ap (λ y. core.some (Some (content y))) (both_some s.0 x.0 (sym s.1 ∙ p)))

    same_fit : (o : Option (P × C)) → GripFits o old i → get_elem? new.view.held i ≡ get_elem? old.view.held i → GripFits o new i
    same_fit None h s = λ x f. h x (sym same_part ∙ f)
    same_fit (Some x) h s = (same_part ∙ h.0, s ∙ h.1)

    by : (b : Bool) → is_place_among i is ≡ b → GripFits (cond b (settled_one content (g i)) (g i)) new i
    by true e = let m = among_at i is e in settled_fit (g i) (all i) (here m.0 i m.1)
    by false e = same_fit (g i) (all i) (others i (not_among i is e))

module _ {P C E : Type 0} where
  -- a hand that holds nothing
  pub holds_nothing : (h : Held P C E) (g : ℕ → Option (P × C)) → Grips h g → ((i : ℕ) → g i ≡ None) → HoldsNothing h
  holds_nothing h g all none i = no_fit h g i all (none i)

  pub grips_nothing : (h : Held P C E) → HoldsNothing h → Grips h no_grip
  grips_nothing h none i = none i
