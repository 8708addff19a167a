-- Functions are found by name in the list that the table stands for.
use Rattle.std.proofs.Common.{◌≡◌, ℕ, suc, ◌+◌, ◌<◌, ◌≤◌, List, [], ◌∷◌, ◌++◌, length, None, Some, Bool, true, false, cond, not, nat_lt, refl, sym, ap, ◌∙◌, arith, subst}
use Rattle.std.proofs.lemmas.List.{length-map, map-append}
use Rattle.std.proofs.lemmas.Bool.{ltb-true, ltb-false}
use Rattle.std.proofs.lemmas.Slice.Eq.{bytes_eq-Decides}
use Rattle.std.specs.List.{position, position_or_len, slice_get}
use Rattle.std.specs.Str.{bytes_eq}
use Rattle.std.specs.Map.{lookup, keys_of}
use Rattle.ca_forms.specs.declared.functions.Function.{Function}
use Rattle.ca_forms.specs.FunctionsView.{find, find_from}
use Rattle.ca_forms.specs.FunctionsView.{named_function, functions_of}

module _ {V : Type 0} (key : V → List ℕ) (s : List ℕ) where
  abbrev first : List (V × Function) → ℕ
  first es = position_or_len (λ v. bytes_eq s (key v)) (keys_of es)

  first_found : (es : List (V × Function)) (i : ℕ) (k : V) (f : Function) → first es < length es → slice_get es (first es) ≡ Some (k, f)
      → find_from s (functions_of key es) i ≡ Some (i + first es, named_function s f)
  first_found [] i k f h e = absurd (omega arith)
  first_found (x ∷ es) i k f h e = by (bytes_eq s (key x.0)) (bytes_eq-Decides s (key x.0)).0 h e (first_found es (suc i) k f) where
    by : (b : Bool) → (b ≡ true → s ≡ key x.0) → cond (not b) (1 + first es) 0 < suc (length es) → slice_get (x ∷ es) (cond (not b) (1 + first es) 0) ≡ Some (k, f)
        → (first es < length es → slice_get es (first es) ≡ Some (k, f) → find_from s (functions_of key es) (suc i) ≡ Some (suc i + first es, named_function s f))
        → cond b (Some (i, named_function (key x.0) x.1)) (find_from s (functions_of key es) (suc i)) ≡ Some (i + cond (not b) (1 + first es) 0, named_function s f)
    by true d h e ih =
        let same : x ≡ (k, f) = cc in
        let more : i ≡ i + 0 = omega arith in
        ap (λ n. Some (n, named_function (key x.0) x.1)) more ∙ ap (λ t. Some (i + 0, named_function t x.1)) (sym (d refl)) ∙ ap (λ (p : V × Function). Some (i + 0, named_function s p.1)) same
    by false d h e ih =
        let up : 1 + first es ≡ suc (first es) = omega arith in
        let next : suc i + first es ≡ i + (1 + first es) = omega arith in
        let there : slice_get es (first es) ≡ Some (k, f) = subst (λ n. slice_get (x ∷ es) n ≡ Some (k, f)) up e in
        ih (omega arith) there ∙ ap (λ n. Some (n, named_function s f)) next

  first_missed : (es : List (V × Function)) (i : ℕ) → length es ≤ first es → find_from s (functions_of key es) i ≡ None
  first_missed [] i h = refl
  first_missed (x ∷ es) i h = by (bytes_eq s (key x.0)) h (first_missed es (suc i)) where
    by : (b : Bool) → suc (length es) ≤ cond (not b) (1 + first es) 0 → (length es ≤ first es → find_from s (functions_of key es) (suc i) ≡ None)
        → cond b (Some (i, named_function (key x.0) x.1)) (find_from s (functions_of key es) (suc i)) ≡ None
    by true h ih = absurd (omega arith)
    by false h ih = ih (omega arith)

  as_many : (es : List (V × Function)) → length (keys_of es) ≡ length es
  as_many es = length-map es (λ e. e.0)

  pub found_by_position : (es : List (V × Function)) (n : ℕ) (k : V) (f : Function) → position (λ v. bytes_eq s (key v)) (keys_of es) ≡ Some n → slice_get es n ≡ Some (k, f)
      → find s (functions_of key es) ≡ Some (n, named_function s f)
  found_by_position es n k f h e = by (nat_lt (first es) (length (keys_of es))) refl h where
    by : (b : Bool) → nat_lt (first es) (length (keys_of es)) ≡ b → cond b (Some (first es)) None ≡ Some n → find s (functions_of key es) ≡ Some (n, named_function s f)
    by true t h =
        let same : first es ≡ n = cc in
        let within : first es < length (keys_of es) = ltb-true (first es) (length (keys_of es)) t in
        let start : 0 + first es ≡ n = omega arith in
        first_found es 0 k f (omega (arith, as_many es)) (rw same e) ∙ ap (λ m. Some (m, named_function s f)) start
    by false t h = absurd (cc)

  pub missed_by_position : (es : List (V × Function)) → position (λ v. bytes_eq s (key v)) (keys_of es) ≡ None → find s (functions_of key es) ≡ None
  missed_by_position es h = by (nat_lt (first es) (length (keys_of es))) refl h where
    by : (b : Bool) → nat_lt (first es) (length (keys_of es)) ≡ b → cond b (Some (first es)) None ≡ None → find s (functions_of key es) ≡ None
    by true t h = absurd (cc)
    by false t h =
        let past : length (keys_of es) ≤ first es = ltb-false (first es) (length (keys_of es)) t in
        first_missed es 0 (omega (arith, as_many es))

  pub missed : (es : List (V × Function)) (i : ℕ) → find_from s (functions_of key es) i ≡ None → lookup (λ v. bytes_eq s (key v)) es ≡ None
  missed [] i h = refl
  missed (x ∷ es) i h = by (bytes_eq s (key x.0)) h (missed es (suc i)) where
    by : (b : Bool) → cond b (Some (i, named_function (key x.0) x.1)) (find_from s (functions_of key es) (suc i)) ≡ None
        → (find_from s (functions_of key es) (suc i) ≡ None → lookup (λ v. bytes_eq s (key v)) es ≡ None)
        → cond b (Some x.1) (lookup (λ v. bytes_eq s (key v)) es) ≡ None
    by true h ih = cc
    by false h ih = ih h

pub functions_more : {V : Type 0} (key : V → List ℕ) (es : List (V × Function)) (k : V) (f : Function)
    → functions_of key (es ++ (k, f) ∷ []) ≡ functions_of key es ++ named_function (key k) f ∷ []
functions_more key es k f = map-append (λ e. named_function (key e.0) e.1) es ((k, f) ∷ [])
