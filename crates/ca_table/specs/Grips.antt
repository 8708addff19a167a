-- What a hand holds: for each part its value now, and its content as last settled.
use Rattle.std.specs.Prelude.{◌≡◌, ℕ, List, [], ◌∷◌, Option, Some, None, Bool, true, false, cond, eqb}
use mathlib.Core.Option as core
use lib.ListN.{get_elem?}
use Rattle.ca_turns.specs.Hands.{Held, IsWithout}
use Rattle.ca_turns.specs.Places.{AllIn}

module _ {P C E : Type 0} where
  abbrev pub GripFits : Option (P × C) → Held P C E → ℕ → Type 0
  GripFits None h i = IsWithout h i
  GripFits (Some g) h i = (get_elem? h.parts i ≡ core.some (Some g.0)) × (get_elem? h.view.held i ≡ core.some (Some g.1))

  -- the hand holds exactly these parts
  abbrev pub Grips : Held P C E → (ℕ → Option (P × C)) → Type 0
  Grips h g = (i : ℕ) → GripFits (g i) h i

  -- the same hand of the same table
  pub record SameHand (old new : Held P C E) : Type 0 where
    pub table : new.table ≡ old.table
    pub opening : new.view.opening ≡ old.view.opening
    pub hands : new.view.hands ≡ old.view.hands
    pub stands_for : new.view.stands_for ≡ old.view.stands_for

  -- it drew no more
  pub record SameTurns (old new : Held P C E) : Type 0 where
    pub same : SameHand old new
    pub turns : new.view.turns ≡ old.view.turns

abbrev pub no_grip : {P C : Type 0} → ℕ → Option (P × C)
no_grip i = None

module _ {P C : Type 0} where
  -- it holds each of these
  abbrev pub HasAll : (ℕ → Option (P × C)) → List ℕ → Type 0
  HasAll g is = AllIn (λ i. (x : P × C) × (g i ≡ Some x)) is

  -- the values of these parts, and their settled contents
  abbrev pub add_value : Option (P × C) → List P → List P
  add_value None ps = ps
  add_value (Some x) ps = x.0 ∷ ps

  abbrev pub add_settled : Option (P × C) → List C → List C
  add_settled None cs = cs
  add_settled (Some x) cs = x.1 ∷ cs

  abbrev pub values : (ℕ → Option (P × C)) → List ℕ → List P
  values g [] = []
  values g (i ∷ is) = add_value (g i) (values g is)

  abbrev pub settled_contents : (ℕ → Option (P × C)) → List ℕ → List C
  settled_contents g [] = []
  settled_contents g (i ∷ is) = add_settled (g i) (settled_contents g is)

abbrev pub is_place_among : ℕ → List ℕ → Bool
is_place_among i [] = false
is_place_among i (j ∷ js) = cond (eqb j i) true (is_place_among i js)

module _ {P C : Type 0} (content : P → C) where
  abbrev pub settled_one : Option (P × C) → Option (P × C)
  settled_one None = None
  settled_one (Some g) = Some (g.0, content g.0)

  -- these parts are settled as they are
  abbrev pub settle : List ℕ → (ℕ → Option (P × C)) → ℕ → Option (P × C)
  settle is g i = cond (is_place_among i is) (settled_one (g i)) (g i)
