-- A value is told by its readable text.
use Rattle.std.proofs.Common.{◌≡◌, ℕ, suc, ℤ, pos, negsuc, ◌<◌, ◌^◌, List, [], ◌∷◌, ◌++◌, refl, sym, ap, ap₂, subst, arith, ◌∙◌, Bool, true, false, eqb, eq-eqb, drop}
use Rattle.std.proofs.lemmas.List.{append_assoc}
use Rattle.std.proofs.lemmas.Fmt.{decimal_injective, decimal_is_IsNumeral}
use Rattle.std.specs.Fmt.{decimal, signed_decimal}
use Rattle.std.specs.Str.Parse.{AllDigits}
use Rattle.std.proofs.lemmas.Str.Parse.{digit_from_value}
use Rattle.ca_value.specs.Tree.{Tree, Trees, TreePairs, nil, bool, int, text, key, vector, map, port, none, item, empty, pair}
use Rattle.ca_value.specs.declared.print.Style.TheVariants.{Readable}
use Rattle.ca_value.specs.Printed.{bool_text, printed_value, printed_items, printed_more, printed_pairs, printed_more_pairs}
use Rattle.ca_meaning.specs.Shown.{Solid, IsShownInteger, IsShown, AreShown, PairsShown}
use Rattle.ca_meaning.proofs.LineWords.{Ends, split, decimal_solid, quoted_told, tag, first_class, starts_with}

signed_solid : (z : ℤ) → IsShownInteger z → Solid (signed_decimal z)
signed_solid (pos n) h = decimal_solid n (omega (arith, h))
signed_solid (negsuc n) h = (refl, decimal_solid (suc n) (omega (arith, h)))

no_minus : {P : Type 0} (n : ℕ) (ds : List ℕ) → n < 2 ^ 64 → decimal n ≡ 45 ∷ ds → P
no_minus n ds h e = let d = subst (AllDigits 10) e (decimal_is_IsNumeral n h).0.1 in let k = digit_from_value 45 d.0 in absurd (omega (arith, k))

same_int : (y z : ℤ) → IsShownInteger y → IsShownInteger z → signed_decimal y ≡ signed_decimal z → y ≡ z
same_int (pos m) (pos n) g h e = ap pos (decimal_injective m n (omega (arith, g)) (omega (arith, h)) e)
same_int (pos m) (negsuc n) g h e = no_minus m (decimal (suc n)) (omega (arith, g)) e
same_int (negsuc m) (pos n) g h e = no_minus n (decimal (suc m)) (omega (arith, h)) (sym e)
same_int (negsuc m) (negsuc n) g h e = let k = decimal_injective (suc m) (suc n) (omega (arith, g)) (omega (arith, h)) (ap (drop 1) e) in ap negsuc (omega (arith, k))

pub behind_one : (a b : ℕ) (x y : List ℕ) → a ∷ x ≡ b ∷ y → x ≡ y
behind_one a b x y e = cc

pub apart : {P : Type 0} (m n : ℕ) → eqb m n ≡ false → m ≡ n → P
apart m n d e = absurd (let k : true ≡ false = sym (eq-eqb m n e) ∙ d in cc)

abbrev pub head_of : List ℕ → ℕ
head_of [] = 0
head_of (b ∷ s) = b

bool_told : (a b : Bool) (r s : List ℕ) → bool_text a ++ r ≡ bool_text b ++ s → (a ≡ b) × (r ≡ s)
bool_told true true r s e = (refl, behind_one 101 101 r s (behind_one 117 117 _ _ (behind_one 114 114 _ _ (behind_one 116 116 _ _ e))))
bool_told false false r s e = (refl, behind_one 101 101 r s (behind_one 115 115 _ _ (behind_one 108 108 _ _ (behind_one 97 97 _ _ (behind_one 102 102 _ _ e)))))
bool_told true false r s e = apart 116 102 refl (ap head_of e)
bool_told false true r s e = apart 102 116 refl (ap head_of e)

more_ends : (ts : Trees) (r : List ℕ) → Ends (printed_more Readable ts ++ (93 ∷ r))
more_ends none r = refl
more_ends (item t ts) r = refl

pairs_end : (ps : TreePairs) (r : List ℕ) → Ends (printed_more_pairs Readable ps ++ (125 ∷ r))
pairs_end empty r = refl
pairs_end (pair k v ps) r = refl

-- a value doesn't begin as a list ends
no_end : {P : Type 0} (t : Tree) (x y : List ℕ) (b : ℕ) → IsShown t → first_class (b ∷ y) ≡ 9 → b ∷ y ≡ printed_value Readable t ++ x → P
no_end {P} t x y b h n e = by t (sym (starts_with t x h) ∙ ap first_class (sym e) ∙ n) where
  by : (t : Tree) → tag t ≡ 9 → P
  by nil k = cc
  by (bool b) k = cc
  by (int z) k = cc
  by (text s) k = cc
  by (key s) k = cc
  by (vector ts) k = cc
  by (map ps) k = cc
  by (port n) k = cc

same_tag : (t u : Tree) (r s : List ℕ) → IsShown t → IsShown u → printed_value Readable t ++ r ≡ printed_value Readable u ++ s → tag t ≡ tag u
same_tag t u r s g h e = sym (starts_with t r g) ∙ ap first_class e ∙ starts_with u s h

-- a key, a space, a value, and the pairs behind them
pair_step : (k l v w : Tree) (ps qs : TreePairs) (r s : List ℕ) → IsShown k × IsShown v × PairsShown ps → IsShown l × IsShown w × PairsShown qs
    → ((r s : List ℕ) → Ends r → Ends s → printed_value Readable k ++ r ≡ printed_value Readable l ++ s → tag k ≡ tag l → (k ≡ l) × (r ≡ s))
    → ((r s : List ℕ) → Ends r → Ends s → printed_value Readable v ++ r ≡ printed_value Readable w ++ s → tag v ≡ tag w → (v ≡ w) × (r ≡ s))
    → (printed_more_pairs Readable ps ++ (125 ∷ r) ≡ printed_more_pairs Readable qs ++ (125 ∷ s) → (ps ≡ qs) × (r ≡ s))
    → (printed_value Readable k ++ (32 ∷ (printed_value Readable v ++ printed_more_pairs Readable ps))) ++ (125 ∷ r) ≡ (printed_value Readable l ++ (32 ∷ (printed_value Readable w ++ printed_more_pairs Readable qs))) ++ (125 ∷ s)
    → (pair k v ps ≡ pair l w qs) × (r ≡ s)
pair_step k l v w ps qs r s g h tk tv tp e =
    let a = printed_more_pairs Readable ps in
    let b = printed_more_pairs Readable qs in
    let d = sym (append_assoc (printed_value Readable k) (32 ∷ (printed_value Readable v ++ a)) (125 ∷ r)) ∙ e ∙ append_assoc (printed_value Readable l) (32 ∷ (printed_value Readable w ++ b)) (125 ∷ s) in
    let m = tk (32 ∷ ((printed_value Readable v ++ a) ++ (125 ∷ r))) (32 ∷ ((printed_value Readable w ++ b) ++ (125 ∷ s))) refl refl d (same_tag k l (32 ∷ ((printed_value Readable v ++ a) ++ (125 ∷ r))) (32 ∷ ((printed_value Readable w ++ b) ++ (125 ∷ s))) g.0 h.0 d) in
    let f = sym (append_assoc (printed_value Readable v) a (125 ∷ r)) ∙ behind_one 32 32 ((printed_value Readable v ++ a) ++ (125 ∷ r)) ((printed_value Readable w ++ b) ++ (125 ∷ s)) m.1 ∙ append_assoc (printed_value Readable w) b (125 ∷ s) in
    let n = tv (a ++ (125 ∷ r)) (b ++ (125 ∷ s)) (pairs_end ps r) (pairs_end qs s) f (same_tag v w (a ++ (125 ∷ r)) (b ++ (125 ∷ s)) g.1 h.1 f) in
    let o = tp n.1 in
    (ap (λ z. pair z v ps) m.0 ∙ ap (λ z. pair l z ps) n.0 ∙ ap (λ z. pair l w z) o.0, o.1)

mutual
  told_as : (t u : Tree) (r s : List ℕ) → IsShown t → IsShown u → Ends r → Ends s → printed_value Readable t ++ r ≡ printed_value Readable u ++ s → tag t ≡ tag u → (t ≡ u) × (r ≡ s)
  told_as nil nil r s g h x y e k = (refl, (split (110 ∷ (105 ∷ (108 ∷ []))) (110 ∷ (105 ∷ (108 ∷ []))) r s (refl, (refl, (refl, tt))) (refl, (refl, (refl, tt))) x y e).1)
  told_as (bool a) (bool b) r s g h x y e k = let m = bool_told a b r s e in (ap (λ z. bool z) m.0, m.1)
  told_as (int a) (int b) r s g h x y e k = let m = split (signed_decimal a) (signed_decimal b) r s (signed_solid a g) (signed_solid b h) x y e in (ap (λ z. int z) (same_int a b g h m.0), m.1)
  told_as (text a) (text b) r s g h x y e k = let m = quoted_told a b r s e in (ap (λ z. text z) m.0, m.1)
  told_as (key a) (key b) r s g h x y e k = let m = split a b r s g h x y (behind_one 58 58 (a ++ r) (b ++ s) e) in (ap (λ z. key z) m.0, m.1)
  told_as (vector ts) (vector us) r s g h x y e k =
      let m = items_told ts us r s g h (sym (append_assoc (printed_items Readable ts) (93 ∷ []) r) ∙ behind_one 91 91 ((printed_items Readable ts ++ 93 ∷ []) ++ r) ((printed_items Readable us ++ 93 ∷ []) ++ s) e ∙ append_assoc (printed_items Readable us) (93 ∷ []) s) in
      (ap (λ z. vector z) m.0, m.1)
  told_as (map ps) (map qs) r s g h x y e k =
      let m = pairs_told ps qs r s g h (sym (append_assoc (printed_pairs Readable ps) (125 ∷ []) r) ∙ behind_one 123 123 ((printed_pairs Readable ps ++ 125 ∷ []) ++ r) ((printed_pairs Readable qs ++ 125 ∷ []) ++ s) e ∙ append_assoc (printed_pairs Readable qs) (125 ∷ []) s) in
      (ap (λ z. map z) m.0, m.1)
  told_as (port m) (port n) r s g h x y e k =
      let j : 35 ∷ (112 ∷ (111 ∷ (114 ∷ (116 ∷ (32 ∷ (decimal m ++ r)))))) ≡ 35 ∷ (112 ∷ (111 ∷ (114 ∷ (116 ∷ (32 ∷ (decimal n ++ s)))))) = e in
      let i : decimal m ++ r ≡ decimal n ++ s = cc in
      let l = split (decimal m) (decimal n) r s (decimal_solid m g) (decimal_solid n h) x y i in
      (ap (λ z. port z) (decimal_injective m n g h l.0), l.1)
  told_as t u r s g h x y e k = apart (tag t) (tag u) refl k

  items_told : (ts us : Trees) (r s : List ℕ) → AreShown ts → AreShown us → printed_items Readable ts ++ (93 ∷ r) ≡ printed_items Readable us ++ (93 ∷ s) → (ts ≡ us) × (r ≡ s)
  items_told none none r s g h e = (refl, behind_one 93 93 r s e)
  items_told none (item u us) r s g h e = no_end u (printed_more Readable us ++ (93 ∷ s)) r 93 h.0 refl (e ∙ append_assoc (printed_value Readable u) (printed_more Readable us) (93 ∷ s))
  items_told (item t ts) none r s g h e = no_end t (printed_more Readable ts ++ (93 ∷ r)) s 93 g.0 refl (sym e ∙ append_assoc (printed_value Readable t) (printed_more Readable ts) (93 ∷ r))
  items_told (item t ts) (item u us) r s g h e =
      let d = sym (append_assoc (printed_value Readable t) (printed_more Readable ts) (93 ∷ r)) ∙ e ∙ append_assoc (printed_value Readable u) (printed_more Readable us) (93 ∷ s) in
      let m = told_as t u (printed_more Readable ts ++ (93 ∷ r)) (printed_more Readable us ++ (93 ∷ s)) g.0 h.0 (more_ends ts r) (more_ends us s) d (same_tag t u (printed_more Readable ts ++ (93 ∷ r)) (printed_more Readable us ++ (93 ∷ s)) g.0 h.0 d) in
      let n = more_told ts us r s g.1 h.1 m.1 in
      (ap₂ (λ a b. item a b) m.0 n.0, n.1)

  more_told : (ts us : Trees) (r s : List ℕ) → AreShown ts → AreShown us → printed_more Readable ts ++ (93 ∷ r) ≡ printed_more Readable us ++ (93 ∷ s) → (ts ≡ us) × (r ≡ s)
  more_told none none r s g h e = (refl, behind_one 93 93 r s e)
  more_told none (item u us) r s g h e = apart 93 32 refl (ap head_of e)
  more_told (item t ts) none r s g h e = apart 32 93 refl (ap head_of e)
  more_told (item t ts) (item u us) r s g h e =
      let f = behind_one 32 32 ((printed_value Readable t ++ printed_more Readable ts) ++ (93 ∷ r)) ((printed_value Readable u ++ printed_more Readable us) ++ (93 ∷ s)) e in
      let d = sym (append_assoc (printed_value Readable t) (printed_more Readable ts) (93 ∷ r)) ∙ f ∙ append_assoc (printed_value Readable u) (printed_more Readable us) (93 ∷ s) in
      let m = told_as t u (printed_more Readable ts ++ (93 ∷ r)) (printed_more Readable us ++ (93 ∷ s)) g.0 h.0 (more_ends ts r) (more_ends us s) d (same_tag t u (printed_more Readable ts ++ (93 ∷ r)) (printed_more Readable us ++ (93 ∷ s)) g.0 h.0 d) in
      let n = more_told ts us r s g.1 h.1 m.1 in
      (ap₂ (λ a b. item a b) m.0 n.0, n.1)

  pairs_told : (ps qs : TreePairs) (r s : List ℕ) → PairsShown ps → PairsShown qs → printed_pairs Readable ps ++ (125 ∷ r) ≡ printed_pairs Readable qs ++ (125 ∷ s) → (ps ≡ qs) × (r ≡ s)
  pairs_told empty empty r s g h e = (refl, behind_one 125 125 r s e)
  pairs_told empty (pair l w qs) r s g h e = no_end l _ r 125 h.0 refl (e ∙ append_assoc (printed_value Readable l) (32 ∷ (printed_value Readable w ++ printed_more_pairs Readable qs)) (125 ∷ s))
  pairs_told (pair k v ps) empty r s g h e = no_end k _ s 125 g.0 refl (sym e ∙ append_assoc (printed_value Readable k) (32 ∷ (printed_value Readable v ++ printed_more_pairs Readable ps)) (125 ∷ r))
  pairs_told (pair k v ps) (pair l w qs) r s g h e = pair_step k l v w ps qs r s g h (λ r s x y e t. told_as k l r s g.0 h.0 x y e t) (λ r s x y e t. told_as v w r s g.1 h.1 x y e t) (λ e. more_pairs_told ps qs r s g.2 h.2 e) e

  more_pairs_told : (ps qs : TreePairs) (r s : List ℕ) → PairsShown ps → PairsShown qs → printed_more_pairs Readable ps ++ (125 ∷ r) ≡ printed_more_pairs Readable qs ++ (125 ∷ s) → (ps ≡ qs) × (r ≡ s)
  more_pairs_told empty empty r s g h e = (refl, behind_one 125 125 r s e)
  more_pairs_told empty (pair l w qs) r s g h e = apart 125 44 refl (ap head_of e)
  more_pairs_told (pair k v ps) empty r s g h e = apart 44 125 refl (ap head_of e)
  more_pairs_told (pair k v ps) (pair l w qs) r s g h e = pair_step k l v w ps qs r s g h (λ r s x y e t. told_as k l r s g.0 h.0 x y e t) (λ r s x y e t. told_as v w r s g.1 h.1 x y e t) (λ e. more_pairs_told ps qs r s g.2 h.2 e) (behind_one 32 32 _ _ (behind_one 44 44 _ _ e))

pub told : (t u : Tree) (r s : List ℕ) → IsShown t → IsShown u → Ends r → Ends s → printed_value Readable t ++ r ≡ printed_value Readable u ++ s → (t ≡ u) × (r ≡ s)
told t u r s g h x y e = told_as t u r s g h x y e (same_tag t u r s g h e)
