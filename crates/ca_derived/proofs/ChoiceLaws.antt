-- What pairs give, one after the other.
use Rattle.std.proofs.Common.{◌≡◌, ℕ, zero, suc, ◌-◌, ◌+◌, ◌<◌, ◌≤◌, List, [], ◌∷◌, ◌++◌, length, map, drop, get_or, slice_set, refl, sym, ap, ap₂, ◌∙◌, arith, true, append_assoc}
use Rattle.ca_term.specs.declared.place.Place.{Place}
use Rattle.ca_reader.specs.declared.form.Form.{Form}
use Rattle.ca_reader.specs.declared.form.Bracket.TheVariants.{Round, Square, Curly}
use Rattle.ca_reader.specs.Form.{FormTree, FormTrees, form, atom, group, none, item}
use Rattle.ca_reader.specs.View.{form_tree, form_trees_of}
use Rattle.ca_derived.specs.Forms.{nil_form, square}
use Rattle.ca_derived.specs.Rows.{call}
use Rattle.ca_derived.specs.Choice.{Choice, operation_count, name_of_answer, port_name, value_name, test, with_take, with_put, with_operation, with_operations, tests, begins_with_names, bound_result, with_pair, with_pairs}
use Rattle.std.specs.Prelude.{codes}

pub as_long : (fs : List Form) → length (map form_tree fs) ≡ length fs
as_long [] = refl
as_long (f ∷ fs) = ap suc (as_long fs)

pub set_long : (xs : List FormTree) (n : ℕ) (f : FormTree) → length (slice_set xs n f) ≡ length xs
set_long [] n f = refl
set_long (x ∷ xs) zero f = refl
set_long (x ∷ xs) (suc n) f = ap suc (set_long xs n f)

pub take_made : (p : Place) (c : FormTree) (x : Choice) (n : ℕ) (bs os : List FormTree) (a b : FormTree) → n ≡ operation_count x → a ≡ port_name p n → b ≡ port_name p n
    → bs ≡ x.bindings ++ a ∷ c ∷ [] → os ≡ x.operations ++ b ∷ [] → record x { bindings = bs; operations = os } ≡ with_take p c x
take_made p c x n bs os a b e f g h k = rw (h, k, f, g, e) refl

pub put_made : (p : Place) (c v : FormTree) (x : Choice) (n : ℕ) (cs bs os : List FormTree) (a b o : FormTree) → n ≡ operation_count x → a ≡ port_name p n → b ≡ value_name p n
    → cs ≡ x.bindings ++ a ∷ c ∷ [] → bs ≡ cs ++ b ∷ v ∷ [] → o ≡ square p (port_name p n ∷ value_name p n ∷ []) → os ≡ x.operations ++ o ∷ [] → record x { bindings = bs; operations = os } ≡ with_put p c v x
put_made p c v x n cs bs os a b o e f g h i j k = rw (i, h, k, j, f, g, e) refl

pub operations_step : (p : Place) (xs : List FormTree) (i : ℕ) (x y : Choice) (f : FormTree) → i < length xs → f ≡ get_or xs i (nil_form p) → y ≡ with_operation p f x
    → with_operations p (form_trees_of (drop i xs)) x ≡ with_operations p (form_trees_of (drop (suc i) (slice_set xs i (nil_form p)))) y
operations_step p [] i x y f h e k = absurd (omega (arith, h))
operations_step p (g ∷ xs) zero x y f h e k = ap (with_operations p (form_trees_of xs)) (ap (λ z. with_operation p z x) (sym e) ∙ sym k)
operations_step p (g ∷ xs) (suc i) x y f h e k = operations_step p xs i x y f (omega (arith, h)) e k

longer : (xs : List FormTree) (y : FormTree) → length xs ≤ length (xs ++ y ∷ [])
longer [] y = omega arith
longer (x ∷ xs) y = let k : length xs ≤ length (xs ++ y ∷ []) = longer xs y in omega (arith, k)

one_grows : (p : Place) (f : FormTree) (x : Choice) → operation_count x ≤ operation_count (with_operation p f x)
one_grows p (form (group Square (item c (item v none))) q) x = longer x.operations (square p (port_name p (operation_count x) ∷ value_name p (operation_count x) ∷ []))
one_grows p (form (group Square none) q) x = longer x.operations (port_name p (operation_count x))
one_grows p (form (group Square (item c none)) q) x = longer x.operations (port_name p (operation_count x))
one_grows p (form (group Square (item c (item v (item w fs)))) q) x = longer x.operations (port_name p (operation_count x))
one_grows p (form (group Round fs) q) x = longer x.operations (port_name p (operation_count x))
one_grows p (form (group Curly fs) q) x = longer x.operations (port_name p (operation_count x))
one_grows p (form (atom a) q) x = longer x.operations (port_name p (operation_count x))

-- no operation is lost
pub size_grows : (p : Place) (fs : FormTrees) (x : Choice) → operation_count x ≤ operation_count (with_operations p fs x)
size_grows p none x = omega arith
size_grows p (item f fs) x = let a : operation_count x ≤ operation_count (with_operation p f x) = one_grows p f x in let b : operation_count (with_operation p f x) ≤ operation_count (with_operations p fs (with_operation p f x)) = size_grows p fs (with_operation p f x) in omega (arith, a, b)

pub tests_step : (p : Place) (ds es xs : List FormTree) (t : FormTree) (n m : ℕ) → n < m → t ≡ test p (port_name p n) → es ≡ ds ++ t ∷ [] → ds ++ tests p n (m - n) ≡ xs → es ++ tests p (n + 1) (m - (n + 1)) ≡ xs
tests_step p ds es xs t n m h e k s =
    let i : m - n ≡ suc (m - (n + 1)) = omega (arith, h) in
    let j : suc n ≡ n + 1 = omega arith in
    rw k (append_assoc ds (t ∷ []) (tests p (n + 1) (m - (n + 1))) ∙ ap (λ z. ds ++ z) (ap₂ (λ a b. a ∷ tests p b (m - (n + 1))) e (sym j) ∙ ap (tests p n) (sym i)) ∙ s)

pub bound_is : (p : Place) (xs : List FormTree) (b : FormTree) → begins_with_names (form_trees_of xs) ≡ true → b ≡ square p (get_or xs 0 (nil_form p) ∷ name_of_answer p ∷ []) → call p (codes "let") (slice_set (slice_set xs 0 (nil_form p)) 0 b) ≡ bound_result p (form_trees_of xs)
bound_is p [] b h e = cc
bound_is p (x ∷ xs) b h e = rw e refl

pub pairs_step : (p : Place) (xs : List FormTree) (j : ℕ) (x y : Choice) (o r : FormTree) → suc j < length xs → o ≡ get_or xs j (nil_form p) → r ≡ get_or (slice_set xs j (nil_form p)) (suc j) (nil_form p) → y ≡ with_pair p o r x
    → with_pairs p (form_trees_of (drop j xs)) x ≡ with_pairs p (form_trees_of (drop (suc (suc j)) (slice_set (slice_set xs j (nil_form p)) (suc j) (nil_form p)))) y
pairs_step p [] j x y o r h e f k = absurd (omega (arith, h))
pairs_step p (a ∷ []) zero x y o r h e f k = absurd (omega (arith, h))
pairs_step p (a ∷ b ∷ xs) zero x y o r h e f k = ap (with_pairs p (form_trees_of xs)) (ap₂ (λ c d. with_pair p c d x) (sym e) (sym f) ∙ sym k)
pairs_step p (a ∷ xs) (suc j) x y o r h e f k = pairs_step p xs j x y o r (omega (arith, h)) e f k

pub pairs_over : (p : Place) (xs : List FormTree) (j : ℕ) (x : Choice) → length xs ≤ suc j → with_pairs p (form_trees_of (drop j xs)) x ≡ x
pairs_over p [] zero x h = refl
pairs_over p [] (suc j) x h = refl
pairs_over p (a ∷ []) zero x h = refl
pairs_over p (a ∷ b ∷ xs) zero x h = absurd (omega (arith, h))
pairs_over p (a ∷ xs) (suc j) x h = pairs_over p xs j x (omega (arith, h))
