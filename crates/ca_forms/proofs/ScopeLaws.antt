-- What binding and leaving a name do to the table of names.
use Rattle.std.proofs.Common.{◌≡◌, ℕ, suc, ◌+◌, List, [], ◌∷◌, ◌++◌, length, Option, None, Some, Bool, true, false, cond, ◌||◌, is_some, refl, sym, ap, ◌∙◌, append_assoc, arith, append-nil, true≢false, unwrap_or}
use Rattle.std.proofs.lemmas.List.{length-map}
use Rattle.std.proofs.lemmas.List.{map-append}
use Rattle.std.proofs.lemmas.Slice.Eq.{bytes_eq-Decides}
use Rattle.std.specs.Str.{bytes_eq}
use Rattle.std.specs.List.{list_any}
use Rattle.std.specs.Map.{lookup as lookup_in}
use Rattle.indexmap.specs.IndexMap.{insert_entry}
use Rattle.ca_forms.specs.declared.scope.Bound.{Bound}
use Rattle.ca_forms.specs.Meaning.{last_position, lookup}
use Rattle.ca_forms.specs.ScopeView.{bound_name, names_of_bounds, flat, FindsLastPlaces, Hide}

-- equal texts are equal before others
pub same_text : (x y z : List ℕ) → bytes_eq x y ≡ true → bytes_eq z x ≡ bytes_eq z y
same_text x y z e = ap (bytes_eq z) ((bytes_eq-Decides x y).0 e)

pub same_first : (x y z : List ℕ) → bytes_eq x y ≡ true → bytes_eq x z ≡ bytes_eq y z
same_first x y z e = ap (λ t. bytes_eq t z) ((bytes_eq-Decides x y).0 e)

pub last_of_more : (x y : List ℕ) (ys : List (List ℕ)) (i : ℕ) (best : Option ℕ)
    → last_position x (ys ++ y ∷ []) i best ≡ cond (bytes_eq x y) (Some (i + length ys)) (last_position x ys i best)
last_of_more x y [] i best = ap (λ n. cond (bytes_eq x y) (Some n) best) none_more where
  none_more : i ≡ i + 0
  none_more = omega arith
last_of_more x y (z ∷ ys) i best =
    last_of_more x y ys (suc i) (cond (bytes_eq x z) (Some i) best)
    ∙ ap (λ n. cond (bytes_eq x y) (Some n) (last_position x ys (suc i) (cond (bytes_eq x z) (Some i) best))) one_more where
      one_more : suc i + length ys ≡ i + suc (length ys)
      one_more = omega arith

pub lookup_more : (x y : List ℕ) (ys : List (List ℕ)) → lookup x (ys ++ y ∷ []) ≡ cond (bytes_eq x y) (Some (length ys)) (lookup x ys)
lookup_more x y ys = last_of_more x y ys 0 None ∙ ap (λ n. cond (bytes_eq x y) (Some n) (lookup x ys)) none_more where
  none_more : 0 + length ys ≡ length ys
  none_more = omega arith

last_of_any : (x : List ℕ) (ys : List (List ℕ)) (i : ℕ) (best : Option ℕ) → is_some (last_position x ys i best) ≡ (is_some best || list_any (λ y. bytes_eq x y) ys)
last_of_any x [] i None = refl
last_of_any x [] i (Some n) = refl
last_of_any x (y ∷ ys) i best = by (bytes_eq x y) best (last_of_any x ys (suc i)) where
  by : (b : Bool) (best : Option ℕ) → ((o : Option ℕ) → is_some (last_position x ys (suc i) o) ≡ (is_some o || list_any (λ y. bytes_eq x y) ys))
      → is_some (last_position x ys (suc i) (cond b (Some i) best)) ≡ (is_some best || (b || list_any (λ y. bytes_eq x y) ys))
  by true None ih = ih (Some i)
  by true (Some n) ih = ih (Some i)
  by false None ih = ih None
  by false (Some n) ih = ih (Some n)

-- whether a name is in scope
pub lookup_any : (x : List ℕ) (ys : List (List ℕ)) → is_some (lookup x ys) ≡ list_any (λ y. bytes_eq x y) ys
lookup_any x ys = last_of_any x ys 0 None

module _ {V : Type 0} (key : V → List ℕ) where
  -- the table after an insertion
  pub insert_finds : (es : List (V × Option ℕ)) (k : V) (n : Option ℕ) (x : List ℕ)
      → lookup_in (λ v. bytes_eq x (key v)) (insert_entry (λ v w. bytes_eq (key v) (key w)) es k n)
      ≡ cond (bytes_eq x (key k)) (Some n) (lookup_in (λ v. bytes_eq x (key v)) es)
  insert_finds [] k n x = refl
  insert_finds (p ∷ es) k n x = by (bytes_eq (key k) (key p.0)) (bytes_eq x (key p.0)) (bytes_eq x (key k)) refl (same_text (key k) (key p.0) x) (same_first x (key k) (key p.0)) (insert_finds es k n x) where
    by : (a b d : Bool) → bytes_eq x (key p.0) ≡ b → (a ≡ true → d ≡ b) → (d ≡ true → b ≡ a)
        → lookup_in (λ v. bytes_eq x (key v)) (insert_entry (λ v w. bytes_eq (key v) (key w)) es k n) ≡ cond d (Some n) (lookup_in (λ v. bytes_eq x (key v)) es)
        → lookup_in (λ v. bytes_eq x (key v)) (cond a ((p.0, n) ∷ es) (p ∷ insert_entry (λ v w. bytes_eq (key v) (key w)) es k n))
        ≡ cond d (Some n) (cond b (Some p.1) (lookup_in (λ v. bytes_eq x (key v)) es))
    by true b d e f g ih = rw (e, f refl) (both b) where
      both : (c : Bool) → cond c (Some n) (lookup_in (λ v. bytes_eq x (key v)) es) ≡ cond c (Some n) (cond c (Some p.1) (lookup_in (λ v. bytes_eq x (key v)) es))
      both true = refl
      both false = refl
    by false true true e f g ih = absurd (true≢false (g refl))
    by false true false e f g ih = rw e refl
    by false false d e f g ih = rw (e, ih) refl

  -- binding k under the next number
  pub bind_finds : (es : List (V × Option ℕ)) (k : V) (names : List (List ℕ)) → FindsLastPlaces key es names
      → FindsLastPlaces key (insert_entry (λ v w. bytes_eq (key v) (key w)) es k (Some (length names))) (names ++ key k ∷ [])
  bind_finds es k names h = λ x. ap flat (insert_finds es k (Some (length names)) x)
      ∙ by (bytes_eq x (key k)) (lookup_in (λ v. bytes_eq x (key v)) es) (h x) ∙ sym (lookup_more x (key k) names) where
        by : (b : Bool) (o : Option (Option ℕ)) → {m : Option ℕ} → flat o ≡ m → flat (cond b (Some (Some (length names))) o) ≡ cond b (Some (length names)) m
        by true o e = refl
        by false o e = e

  -- leaving k, which hid that number
  pub leave_finds : (es : List (V × Option ℕ)) (k : V) (names : List (List ℕ)) (n : Option ℕ) → FindsLastPlaces key es (names ++ key k ∷ []) → n ≡ lookup (key k) names
      → FindsLastPlaces key (insert_entry (λ v w. bytes_eq (key v) (key w)) es k n) names
  leave_finds es k names n h g = λ x. ap flat (insert_finds es k n x)
      ∙ by x (bytes_eq x (key k)) (lookup_in (λ v. bytes_eq x (key v)) es) (bytes_eq-Decides x (key k)).0 (h x ∙ lookup_more x (key k) names) where
        by : (x : List ℕ) (b : Bool) (o : Option (Option ℕ)) → (b ≡ true → x ≡ key k) → flat o ≡ cond b (Some (length names)) (lookup x names)
            → flat (cond b (Some n) o) ≡ lookup x names
        by x true o e f = g ∙ ap (λ y. lookup y names) (sym (e refl))
        by x false o e f = f

-- a name that is in scope is in the table
pub is_there : (x : List ℕ) (names : List (List ℕ)) → lookup x (names ++ x ∷ []) ≡ Some (length names)
is_there x names = lookup_more x x names ∙ ap (λ b. cond b (Some (length names)) (lookup x names)) ((bytes_eq-Decides x x).1 refl)

pub names_more : (bs : List Bound) (b : Bound) → names_of_bounds (bs ++ b ∷ []) ≡ names_of_bounds bs ++ bound_name b ∷ []
names_more bs b = map-append bound_name bs (b ∷ [])

pub hide_more : (before : List (List ℕ)) (bs : List Bound) (b : Bound) → Hide before bs → b.hides ≡ lookup (bound_name b) (before ++ names_of_bounds bs) → Hide before (bs ++ b ∷ [])
hide_more before [] b h e = (e ∙ ap (lookup (bound_name b)) (append-nil before), tt)
hide_more before (c ∷ bs) b h e = (h.0, hide_more (before ++ bound_name c ∷ []) bs b h.1 (e ∙ ap (lookup (bound_name b)) (sym (append_assoc before (bound_name c ∷ []) (names_of_bounds bs)))))

pub hide_less : (before : List (List ℕ)) (bs : List Bound) (b : Bound) → Hide before (bs ++ b ∷ []) → Hide before bs × (b.hides ≡ lookup (bound_name b) (before ++ names_of_bounds bs))
hide_less before [] b h = (tt, h.0 ∙ ap (lookup (bound_name b)) (sym (append-nil before)))
hide_less before (c ∷ bs) b h = let r = hide_less (before ++ bound_name c ∷ []) bs b h.1 in
    ((h.0, r.0), r.1 ∙ ap (lookup (bound_name b)) (append_assoc before (bound_name c ∷ []) (names_of_bounds bs)))

pub flat_or : (o : Option (Option ℕ)) → unwrap_or o None ≡ flat o
flat_or None = refl
flat_or (Some n) = refl

module _ {V : Type 0} (key : V → List ℕ) where
  -- what holds of the table and the list
  abbrev pub Stands : List (V × Option ℕ) → List Bound → Type 0
  Stands es bs = FindsLastPlaces key es (names_of_bounds bs) × Hide [] bs

  pub bound_stands : (es es2 : List (V × Option ℕ)) (bs cs : List Bound) (b : Bound) (k : V) (n : ℕ) (old : Option (Option ℕ)) → Stands es bs
      → es2 ≡ insert_entry (λ v w. bytes_eq (key v) (key w)) es k (Some n) → n ≡ length bs → key k ≡ bound_name b
      → old ≡ lookup_in (λ v. bytes_eq (key k) (key v)) es → b.hides ≡ unwrap_or old None → cs ≡ bs ++ b ∷ [] → Stands es2 cs
  bound_stands es es2 bs cs b k n old h e g t o d c =
      let m : n ≡ length (names_of_bounds bs) = g ∙ sym (length-map bs bound_name) in
      let names : names_of_bounds cs ≡ names_of_bounds bs ++ key k ∷ [] = ap names_of_bounds c ∙ names_more bs b ∙ ap (λ x. names_of_bounds bs ++ x ∷ []) (sym t) in
      let found : FindsLastPlaces key es2 (names_of_bounds cs) = rw (names, e, m) (bind_finds key es k (names_of_bounds bs) h.0) in
      let hides : b.hides ≡ lookup (bound_name b) (names_of_bounds bs) = d ∙ flat_or old ∙ ap flat o ∙ h.0 (key k) ∙ ap (λ x. lookup x (names_of_bounds bs)) t in
      (found, rw c (hide_more [] bs b h.1 hides))

  pub left_stands : (es es2 : List (V × Option ℕ)) (bs cs : List Bound) (b : Bound) (k : V) → Stands es bs
      → bs ≡ cs ++ b ∷ [] → key k ≡ bound_name b → es2 ≡ insert_entry (λ v w. bytes_eq (key v) (key w)) es k b.hides → Stands es2 cs
  left_stands es es2 bs cs b k h c t e =
      let names : names_of_bounds bs ≡ names_of_bounds cs ++ key k ∷ [] = ap names_of_bounds c ∙ names_more cs b ∙ ap (λ x. names_of_bounds cs ++ x ∷ []) (sym t) in
      let found : FindsLastPlaces key es (names_of_bounds cs ++ key k ∷ []) = rw names at h.0 in
      let hidden : Hide [] (cs ++ b ∷ []) = rw c at h.1 in
      let parts = hide_less [] cs b hidden in
      (rw e (leave_finds key es k (names_of_bounds cs) b.hides found (parts.1 ∙ ap (λ x. lookup x (names_of_bounds cs)) (sym t))), parts.0)

  -- a name in scope is in the table
  pub never_absent : (es : List (V × Option ℕ)) (bs cs : List Bound) (b : Bound) (k : V) → Stands es bs
      → bs ≡ cs ++ b ∷ [] → key k ≡ bound_name b → lookup_in (λ v. bytes_eq (key k) (key v)) es ≡ None → ⊥
  never_absent es bs cs b k h c t e =
      let names : names_of_bounds bs ≡ names_of_bounds cs ++ key k ∷ [] = ap names_of_bounds c ∙ names_more cs b ∙ ap (λ x. names_of_bounds cs ++ x ∷ []) (sym t) in
      let found : flat (lookup_in (λ v. bytes_eq (key k) (key v)) es) ≡ lookup (key k) (names_of_bounds bs) = h.0 (key k) in
      let none : None ≡ Some (length (names_of_bounds cs)) = ap flat (sym e) ∙ found ∙ ap (lookup (key k)) names ∙ is_there (key k) (names_of_bounds cs) in
      cc
