-- An event that moves what a worker carries as the definitions of a run say moves the contents that it touches.
use Rattle.std.proofs.Common.{◌≡◌, ◌∙◌, ℕ, ◌<◌, List, [], ◌∷◌, map, refl, sym, ap, subst, Bool, true, false, cond, Option, Some, None, eqb, eqb-true, eq-eqb, is_some}
use Rattle.std.specs.Prelude.{option_map}
use Rattle.ca_value.specs.Tree.{Tree}
use Rattle.ca_term.specs.Program.{ProgramView}
use Rattle.ca_term.specs.Operation.{SeedView}
use Rattle.ca_meaning.specs.Body.{At}
use Rattle.ca_turns.specs.Places.{AllIn}
use Rattle.ca_turns.specs.Hands.{Held, IsHolding, IsNone}
use Rattle.ca_commit.specs.Agents.{TaskAgent}
use Rattle.ca_commit.specs.Contents.{Content, Parts}
use Rattle.ca_commit.specs.Gathered.{Alike, AllAlike, gather, kind_of_part, parts_of, pick}
use Rattle.ca_commit.specs.Moving.{Moves, MovesTurn}
use Rattle.ca_commit.specs.Touched.{Drawn, touches}
use Rattle.ca_table.specs.Carrying.{AreSorted, Carries, EachCarried, at_places, carried, each_by}
use Rattle.ca_table.specs.Covering.{Covers}
use Rattle.ca_table.specs.Grips.{Grips, HasAll, add_settled, add_value, is_place_among, settle, settled_contents, settled_one, values}
use Rattle.ca_table.proofs.Carried.{at_each, each_at, each_weaker, sorted_alike}
use Rattle.ca_table.proofs.Carrying.{parts_carried}
use Rattle.ca_table.proofs.Covered.{covered}
use Rattle.ca_table.proofs.Gripping.{among_at, held_is}

among_later : (i j : ℕ) (is : List ℕ) → is_place_among j is ≡ true → is_place_among j (i ∷ is) ≡ true
among_later i j is e = by (eqb i j) where
  by : (b : Bool) → cond b true (is_place_among j is) ≡ true
  by true = refl
  by false = e

pub all_among : (P : ℕ → Type 0) (is : List ℕ) → ((i : ℕ) → is_place_among i is ≡ true → P i) → AllIn P is
all_among P [] h = tt
all_among P (i ∷ is) h = (h i (ap (λ b. cond b true (is_place_among i is)) (eq-eqb i i refl)), all_among P is (λ j e. h j (among_later i j is e)))

there : {X : Type 0} (o : Option X) → is_some o ≡ true → (x : X) × (o ≡ Some x)
there None e = absurd (let z : false ≡ true = e in cc)
there (Some x) e = (x, refl)

module _ {Z Y : Type 0} (q : Z → Y) where
  abbrev add_by : Option Z → List Y → List Y
  add_by None ys = ys
  add_by (Some x) ys = q x ∷ ys

  -- what is at these places, seen through q
  abbrev looks : (ℕ → Option Z) → List ℕ → List Y
  looks g [] = []
  looks g (i ∷ is) = add_by (g i) (looks g is)

  same_looks : (g f : ℕ → Option Z) (is : List ℕ) → AllIn (λ i. g i ≡ f i) is → looks g is ≡ looks f is
  same_looks g f [] e = refl
  same_looks g f (i ∷ is) e = ap (λ o. add_by o (looks g is)) e.0 ∙ ap (λ l. add_by (f i) l) (same_looks g f is e.1)

  pick_one : (g : ℕ → Option Z) (i j : ℕ) (is : List ℕ) (x : Z) → g i ≡ Some x → (b : Bool) → eqb i j ≡ b → (is_place_among j is ≡ is_some (g j) → pick is (looks g is) j ≡ option_map q (g j)) → cond b true (is_place_among j is) ≡ is_some (g j) → cond b (Some (q x)) (pick is (looks g is) j) ≡ option_map q (g j)
  pick_one g i j is x f true s more e = sym (ap (λ (k : ℕ). option_map q (g k)) (sym (eqb-true i j s)) ∙ ap (option_map q) f)
  pick_one g i j is x f false s more e = more e

  none_here : (o : Option Z) → false ≡ is_some o → None ≡ option_map q o
  none_here None e = refl
  none_here (Some x) e = absurd (let z : false ≡ true = e in cc)

  pick_looks : (g : ℕ → Option Z) (is : List ℕ) → AllIn (λ i. (x : Z) × (g i ≡ Some x)) is → (j : ℕ) → is_place_among j is ≡ is_some (g j) → pick is (looks g is) j ≡ option_map q (g j)
  pick_looks g [] has j e = none_here (g j) e
  pick_looks g (i ∷ is) has j e = ap (λ o. pick (i ∷ is) (add_by o (looks g is)) j) has.0.1 ∙ pick_one g i j is has.0.0 has.0.1 (eqb i j) refl (pick_looks g is has.1 j) e

module _ {A Z : Type 0} (n : ℕ) (f1 f2 : Z → Content A) where
  alike_looks : (g : ℕ → Option Z) (is : List ℕ) → ((i : ℕ) (x : Z) → g i ≡ Some x → Alike n (f1 x) (f2 x)) → AllAlike n (looks f1 g is) (looks f2 g is)
  alike_looks g [] h = tt
  alike_looks g (i ∷ is) h = by (g i) (h i) (alike_looks g is h) where
    by : (o : Option Z) → ((x : Z) → o ≡ Some x → Alike n (f1 x) (f2 x)) → AllAlike n (looks f1 g is) (looks f2 g is) → AllAlike n (add_by f1 o (looks f1 g is)) (add_by f2 o (looks f2 g is))
    by None a r = r
    by (Some x) a r = (a x refl, r)

module _ {P C Y : Type 0} where
  map_settled : (f : C → Y) (g : ℕ → Option (P × C)) (is : List ℕ) → map f (settled_contents g is) ≡ looks (λ x. f x.1) g is
  map_settled f g [] = refl
  map_settled f g (i ∷ is) = by (g i) (map_settled f g is) where
    by : (o : Option (P × C)) → map f (settled_contents g is) ≡ looks (λ x. f x.1) g is → map f (add_settled o (settled_contents g is)) ≡ add_by (λ x. f x.1) o (looks (λ x. f x.1) g is)
    by None e = e
    by (Some x) e = ap (λ l. f x.1 ∷ l) e

  map_values : (f : C → Y) (content : P → C) (g : ℕ → Option (P × C)) (is : List ℕ) → map f (map content (values g is)) ≡ looks (λ x. f (content x.0)) g is
  map_values f content g [] = refl
  map_values f content g (i ∷ is) = by (g i) (map_values f content g is) where
    by : (o : Option (P × C)) → map f (map content (values g is)) ≡ looks (λ x. f (content x.0)) g is → map f (map content (add_value o (values g is))) ≡ add_by (λ x. f (content x.0)) o (looks (λ x. f (content x.0)) g is)
    by None e = e
    by (Some x) e = ap (λ l. f (content x.0) ∷ l) e

module _ {P C : Type 0} where
  has_same : (g f : ℕ → Option (P × C)) (is : List ℕ) → AllIn (λ i. g i ≡ f i) is → HasAll f is → HasAll g is
  has_same g f [] e h = tt
  has_same g f (i ∷ is) e h = ((h.0.0, e.0 ∙ h.0.1), has_same g f is e.1 h.1)

module _ {X : Type 0} (d : Drawn) (h : Carries X) (lt : d.worker < d.workers) (c : Covers d h) where
  -- each part that is touched is carried
  has_each : AllIn (λ i. (x : X) × (at_places d.workers d.worker h i ≡ Some x)) (touches d)
  has_each = all_among (λ i. (x : X) × (at_places d.workers d.worker h i ≡ Some x)) (touches d) (λ i e. there (at_places d.workers d.worker h i) (sym (covered d h lt c i) ∙ e))

  -- what is touched, sorted, is what is carried
  gathers : {A : Type 0} (f : X → Content A) → AreSorted f h → gather d (looks f (at_places d.workers d.worker h) (touches d)) ≡ carried f d.worker h
  gathers f s = ap (parts_of d.workers) (λ t j. pick_looks f (at_places d.workers d.worker h) (touches d) has_each j (covered d h lt c j) t) ∙ parts_carried f d.workers d.worker lt h s

module _ {A P C : Type 0} (place : A → At) (advances : ProgramView → A → A → Type 0) (gives : A → Tree → A → Type 0) (starts : ProgramView → SeedView → A → Type 0) (view : C → Content (TaskAgent A)) (content : P → C)
    (d : Drawn) (h : Carries (P × C)) (lt : d.worker < d.workers) (c : Covers d h) where
  abbrev before : P × C → Content (TaskAgent A)
  before x = view x.1

  abbrev after : P × C → Content (TaskAgent A)
  after x = view (content x.0)

  -- the hand may have more than that
  pub moved : AreSorted before h → EachCarried (λ x. Alike d.workers (before x) (after x)) h → MovesTurn place advances gives starts d.worker d.workers d.what (carried before d.worker h) (carried after d.worker h)
      → (g : ℕ → Option (P × C)) → AllIn (λ i. g i ≡ at_places d.workers d.worker h i) (touches d) → HasAll g (touches d) × Moves place advances gives starts d (map view (settled_contents g (touches d))) (map view (map content (values g (touches d))))
  moved s alike moves g same = (has_same g at (touches d) same (has_each d h lt c), subst (λ l. Moves place advances gives starts d l (map view (map content (values g (touches d))))) (sym first) (subst (λ l. Moves place advances gives starts d (looks before at (touches d)) l) (sym second) (lt, alike_looks d.workers before after at (touches d) (each_at (λ x. Alike d.workers (before x) (after x)) d.workers d.worker h alike), turn))) where
    at : ℕ → Option (P × C)
    at = at_places d.workers d.worker h

    first : map view (settled_contents g (touches d)) ≡ looks before at (touches d)
    first = map_settled view g (touches d) ∙ same_looks before g at (touches d) same

    second : map view (map content (values g (touches d))) ≡ looks after at (touches d)
    second = map_values view content g (touches d) ∙ same_looks after g at (touches d) same

    sorted_after : AreSorted after h
    sorted_after = sorted_alike before after h s (each_weaker (λ x. Alike d.workers (before x) (after x)) (λ x. kind_of_part (after x).held ≡ kind_of_part (before x).held) (λ x a. a.2) h alike)

    turn : MovesTurn place advances gives starts d.worker d.workers d.what (gather d (looks before at (touches d))) (gather d (looks after at (touches d)))
    turn = subst (λ (p : Parts (TaskAgent A)). MovesTurn place advances gives starts d.worker d.workers d.what p (gather d (looks after at (touches d)))) (sym (gathers d h lt c before s))
        (subst (λ (p : Parts (TaskAgent A)). MovesTurn place advances gives starts d.worker d.workers d.what (carried before d.worker h) p) (sym (gathers d h lt c after sorted_after)) moves)

module _ {P C : Type 0} (content : P → C) (d : Drawn) (h : Carries (P × C)) (lt : d.worker < d.workers) (c : Covers d h) where
  -- once all that is carried is settled
  pub settles : settle content (touches d) (at_places d.workers d.worker h) ≡ at_places d.workers d.worker (each_by (settled_one content) h)
  settles = λ t j. (by (at_places d.workers d.worker h j) (is_place_among j (touches d)) (covered d h lt c j) ∙ sym (at_each (settled_one content) d.workers d.worker h refl j)) t where
    by : (o : Option (P × C)) (b : Bool) → b ≡ is_some o → cond b (settled_one content o) o ≡ settled_one content o
    by None true e = refl
    by None false e = refl
    by (Some x) true e = refl
    by (Some x) false e = absurd (let z : false ≡ true = e in cc)

  -- nothing else is held
  pub none_aside : {E : Type 0} (hand : Held P C E) → Grips hand (at_places d.workers d.worker h) → (i : ℕ) → IsHolding hand i → IsNone (touches d) i → ⊥
  none_aside hand grips i holds none = by (at_places d.workers d.worker h i) refl where
    by : (o : Option (P × C)) → at_places d.workers d.worker h i ≡ o → ⊥
    by None e = held_is hand (at_places d.workers d.worker h) i grips holds e
    by (Some x) e = let m = among_at i (touches d) (covered d h lt c i ∙ ap is_some e) in none m.0 m.1
