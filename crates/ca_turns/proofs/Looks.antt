-- What lies at the places that an event touches, and what a draw settles there.
use Rattle.std.proofs.Common.{◌≡◌, ◌≢◌, ℕ, zero, suc, ◌<◌, List, [], ◌∷◌, map, length, get_or, set, sym, refl, ap, ◌∙◌, subst, arith, Bool, true, false, length-set}
use mathlib.Core.Option.{some, some-injective, some-ne-none}
use lib.ListN.{get_elem?}
use lib.Seq.{map-set}
use Rattle.std.specs.Prelude.{Option, Some, None}
use Rattle.atomic_table.proofs.Lists.{set_here}
use Rattle.ca_turns.specs.Places.{ReadsPlaces, write, AllIn, IsDistinct}
use Rattle.ca_turns.specs.Hands.{is_there, there, one_where, look, look_one, AllThere, IsNone}
use Rattle.ca_turns.proofs.Lists.{in_range, read_at}
use Rattle.ca_turns.proofs.Runs.{write_else}

pub all_read : {A : Type 0} (h : List (Option A)) (is : List ℕ) → AllThere h is → ReadsPlaces h is (map Some (look h is))
all_read h [] a = tt
all_read h (i ∷ is) a = let at = at_there h i a.0 in let e : get_or h i None ≡ Some at.0 = reads h i at.0 at.1 in
    subst (λ (o : Option _). ReadsPlaces h (i ∷ is) (map Some (look_one o (look h is)))) (sym e) (at.1, all_read h is a.1)
  where
    at_there : {A : Type 0} (h : List (Option A)) (i : ℕ) → get_or (there h) i false ≡ true → (x : A) × (get_elem? h i ≡ some (Some x))
    at_there [] i e = absurd (let b : one_where false ≡ one_where true = ap one_where e in omega arith)
    at_there (None ∷ h) zero e = absurd (let b : one_where false ≡ one_where true = ap one_where e in omega arith)
    at_there (Some x ∷ h) zero e = (x, refl)
    at_there (y ∷ h) (suc i) e = at_there h i e

    reads : {A : Type 0} (h : List (Option A)) (i : ℕ) (x : A) → get_elem? h i ≡ some (Some x) → get_or h i None ≡ Some x
    reads [] i x e = absurd (some-ne-none (Some x) (sym e))
    reads (y ∷ h) zero x e = some-injective y (Some x) e
    reads (y ∷ h) (suc i) x e = reads h i x e

pub long_look : {A : Type 0} (h : List (Option A)) (is : List ℕ) → AllThere h is → length (look h is) ≡ length is
long_look h is a = long h is (look h is) (all_read h is a)
  where
    long : {A : Type 0} (h : List (Option A)) (is : List ℕ) (cs : List A) → ReadsPlaces h is (map Some cs) → length cs ≡ length is
    long h [] [] r = refl
    long h [] (c ∷ cs) r = absurd r
    long h (i ∷ is) [] r = absurd r
    long h (i ∷ is) (c ∷ cs) r = ap suc (long h is cs r.1)

pub both_there : {A B : Type 0} (xs : List (Option A)) (ys : List (Option B)) → there xs ≡ there ys → (is : List ℕ) → AllThere xs is → AllThere ys is
both_there xs ys same [] a = tt
both_there xs ys same (i ∷ is) a = (sym (ap (λ l. get_or l i false) same) ∙ a.0, both_there xs ys same is a.1)

pub written_there : {C : Type 0} (h : List (Option C)) (is : List ℕ) (cs : List C) → AllThere h is → there (write h is (map Some cs)) ≡ there h
written_there h [] cs a = refl
written_there h (i ∷ is) [] a = refl
written_there h (i ∷ is) (c ∷ cs) a = let same : there (set h i (Some c)) ≡ there h = map-set is_there h i (Some c) ∙ again (there h) i a.0 in written_there (set h i (Some c)) is cs (both_there h (set h i (Some c)) (sym same) is a.1) ∙ same
  where
    again : (bs : List Bool) (i : ℕ) → get_or bs i false ≡ true → set bs i true ≡ bs
    again [] i e = refl
    again (b ∷ bs) zero e = ap (λ z. z ∷ bs) (sym e)
    again (b ∷ bs) (suc i) e = ap (λ z. b ∷ z) (again bs i e)

pub there_at : {A : Type 0} (xs : List (Option A)) (i : ℕ) (a : Option A) → get_elem? xs i ≡ some a → get_elem? (there xs) i ≡ some (is_there a)
there_at [] i a e = absurd (some-ne-none a (sym e))
there_at (x ∷ xs) zero a e = ap some (ap is_there (some-injective x a e))
there_at (x ∷ xs) (suc i) a e = there_at xs i a e

pub all_there : {A : Type 0} (h : List (Option A)) (is : List ℕ) → AllIn (λ i. (x : A) × (get_elem? h i ≡ some (Some x))) is → AllThere h is
all_there h [] a = tt
all_there h (i ∷ is) a = (read_at (there h) i true false (there_at h i (Some a.0.0) a.0.1), all_there h is a.1)

at_there : {A : Type 0} (h : List (Option A)) (i : ℕ) → get_or (there h) i false ≡ true → (x : A) × (get_elem? h i ≡ some (Some x))
at_there [] i e = absurd (let b : one_where false ≡ one_where true = ap one_where e in omega arith)
at_there (None ∷ h) zero e = absurd (let b : one_where false ≡ one_where true = ap one_where e in omega arith)
at_there (Some x ∷ h) zero e = (x, refl)
at_there (y ∷ h) (suc i) e = at_there h i e

-- what is settled at each place that is touched, once the contents that lie there are written
pub written_at : {P C : Type 0} (content : P → C) (parts : List (Option P)) (is : List ℕ) → IsDistinct is → AllThere parts is → (held : List (Option C)) → length held ≡ length parts → (m i : ℕ) → get_elem? is m ≡ some i
    → (x : P) × (get_elem? parts i ≡ some (Some x)) × (get_elem? (write held is (map Some (map content (look parts is)))) i ≡ some (Some (content x)))
written_at content parts [] d a held long m i e = absurd (some-ne-none i (sym e))
written_at {P} {C} content parts (j ∷ is) d a held long m i e = let at = at_there parts j a.0 in let one : get_or parts j None ≡ Some at.0 = read_at parts j (Some at.0) None at.1 in let held' = set held j (Some (content at.0)) in
    let near : j < length held = (let h : j < length parts = in_range parts j (Some at.0) at.1 in omega arith) in
    subst (λ (o : Option P). (x : P) × (get_elem? parts i ≡ some (Some x)) × (get_elem? (write held (j ∷ is) (map Some (map content (look_one o (look parts is))))) i ≡ some (Some (content x)))) (sym one)
    (go at.0 at.1 near (λ k f. written_at content parts is d.1 a.1 held' (length-set held j (Some (content at.0)) ∙ long) k i f) m e)
  where
    go : (x : P) → get_elem? parts j ≡ some (Some x) → j < length held → ((k : ℕ) → get_elem? is k ≡ some i → (y : P) × (get_elem? parts i ≡ some (Some y)) × (get_elem? (write (set held j (Some (content x))) is (map Some (map content (look parts is)))) i ≡ some (Some (content y))))
        → (m : ℕ) → get_elem? (j ∷ is) m ≡ some i → (y : P) × (get_elem? parts i ≡ some (Some y)) × (get_elem? (write (set held j (Some (content x))) is (map Some (map content (look parts is)))) i ≡ some (Some (content y)))
    go x at near later zero e = let l = write (set held j (Some (content x))) is (map Some (map content (look parts is))) in (
      x,
      ap (get_elem? parts) (sym (some-injective j i e)) ∙ at,
      ap (get_elem? l) (sym (some-injective j i e)) ∙ write_else (set held j (Some (content x))) is (map Some (map content (look parts is))) j d.0 ∙ set_here held j (Some (content x)) near,
    )
    go x at near later (suc k) e = later k e

apart : (is : List ℕ) (i : ℕ) → IsNone is i → AllIn (λ j. i ≢ j) is
apart [] i h = tt
apart (j ∷ is) i h = ((λ e. h 0 (ap some (sym e))), apart is i (λ m e. h (suc m) e))

pub written_else : {C : Type 0} (held : List (Option C)) (is : List ℕ) (cs : List C) (i : ℕ) → IsNone is i → get_elem? (write held is (map Some cs)) i ≡ get_elem? held i
written_else held is cs i h = write_else held is (map Some cs) i (apart is i h)
