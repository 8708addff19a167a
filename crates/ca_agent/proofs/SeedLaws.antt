-- A list of values with one more, as trees.
use Rattle.std.proofs.Common.{◌≡◌, ◌+◌, List, [], ◌∷◌, ◌++◌, map, length, refl, sym, ap, ◌∙◌, length-append}
use Rattle.std.proofs.lemmas.List.{length-map}
use Rattle.ca_value.specs.Tree.{Tree, trees_of}
use Rattle.ca_value.specs.View.{view, views, trees}
use Rattle.ca_value.specs.declared.value.Value.{Value}
use Rattle.ca_meaning.specs.Operands.{values_in}

values_back : (ts : List Tree) → values_in (trees_of ts) ≡ ts
values_back [] = refl
values_back (t ∷ ts) = ap (λ us. t ∷ us) (values_back ts)

views_more : (xs : List Value) (v : Value) → views (xs ++ v ∷ []) ≡ views xs ++ view v ∷ []
views_more [] v = refl
views_more (x ∷ xs) v = ap (λ ts. view x ∷ ts) (views_more xs v)

-- the values with one more
pub values_pushed : (xs ys zs : List Value) (v : Value) → zs ≡ ys ++ v ∷ [] → ys ≡ xs → views zs ≡ values_in (trees xs) ++ view v ∷ []
values_pushed xs ys zs v e f = ap views (e ∙ ap (λ us. us ++ v ∷ []) f) ∙ views_more xs v ∙ ap (λ ts. ts ++ view v ∷ []) (sym (values_back (map view xs)))

pub count_pushed : (xs ys zs : List Value) (v : Value) → zs ≡ ys ++ v ∷ [] → ys ≡ xs → length (views zs) ≡ length xs + 1
count_pushed xs ys zs v e f = length-map zs view ∙ ap length e ∙ length-append ys (v ∷ []) ∙ ap (λ l. length l + 1) f
