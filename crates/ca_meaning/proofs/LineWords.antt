-- Words, numbers and values are told by their texts.
use Rattle.std.proofs.Common.{◌≡◌, ℕ, ℤ, pos, negsuc, ◌≤◌, ◌<◌, List, [], ◌∷◌, ◌++◌, length, refl, sym, ap, arith, ◌∙◌, Bool, true, false, cond, ◌||◌, ◌==◌, ne_eqb, eqb-true, nat_lt}
use Rattle.std.proofs.lemmas.Bool.Decides.{nat_tests}
use Rattle.std.proofs.lemmas.List.{append_assoc}
use Rattle.std.proofs.lemmas.Fmt.{decimal_is_IsNumeral, decimal_nonempty}
use Rattle.std.proofs.lemmas.Str.Parse.{digit_from_value}
use Rattle.std.specs.Fmt.{decimal, signed_decimal}
use Rattle.std.specs.Prelude.{codes}
use Rattle.std.specs.Str.Parse.{AllDigits}
use Rattle.ca_value.specs.Tree.{Tree, nil, bool, int, text, key, vector, map, port}
use Rattle.ca_value.specs.declared.print.Style.TheVariants.{Readable}
use Rattle.ca_value.specs.Printed.{escaped, all_escaped, quoted, printed_value}
use Rattle.ca_meaning.specs.Shown.{ends_word, Solid, IsNumber, IsShownInteger, IsShown}

-- what may follow a word
abbrev pub Ends : List ℕ → Type 0
Ends [] = Unit {0}
Ends (b ∷ s) = ends_word b ≡ true

clash : {P : Type 0} (b c : ℕ) → b ≡ c → ends_word b ≡ true → ends_word c ≡ false → P
clash b c e t f = absurd (let k : true ≡ false = sym t ∙ ap ends_word e ∙ f in cc)

pub split : (w v r s : List ℕ) → Solid w → Solid v → Ends r → Ends s → w ++ r ≡ v ++ s → (w ≡ v) × (r ≡ s)
split [] [] r s a b x y e = (refl, e)
split [] (c ∷ v) [] s a b x y e = absurd (let k : [] ≡ c ∷ (v ++ s) = e in cc)
split [] (c ∷ v) (d ∷ r) s a b x y e = clash d c (let k : d ∷ r ≡ c ∷ (v ++ s) = e in cc) x b.0
split (d ∷ w) [] r [] a b x y e = absurd (let k : d ∷ (w ++ r) ≡ [] = e in cc)
split (d ∷ w) [] r (c ∷ s) a b x y e = clash c d (let k : d ∷ (w ++ r) ≡ c ∷ s = e in cc) y a.0
split (d ∷ w) (c ∷ v) r s a b x y e =
    let k : d ∷ (w ++ r) ≡ c ∷ (v ++ s) = e in
    let h : d ≡ c = cc in
    let t : w ++ r ≡ v ++ s = cc in
    let m = split w v r s a.1 b.1 x y t in
    (ap (λ z. z ∷ w) h ∙ ap (λ z. c ∷ z) m.0, m.1)

-- a word, a space, and more
pub cut : (w v x y r s : List ℕ) → Solid w → Solid v → (w ++ (32 ∷ x)) ++ r ≡ (v ++ (32 ∷ y)) ++ s → (w ≡ v) × (x ++ r ≡ y ++ s)
cut w v x y r s a b e =
    let m = split w v (32 ∷ (x ++ r)) (32 ∷ (y ++ s)) a b refl refl (sym (append_assoc w (32 ∷ x) r) ∙ e ∙ append_assoc v (32 ∷ y) s) in
    (m.0, (let k : 32 ∷ (x ++ r) ≡ 32 ∷ (y ++ s) = m.1 in cc))

-- numbers
or_false : (a b : Bool) → a ≡ false → b ≡ false → a || b ≡ false
or_false false b p q = q
or_false true b p q = cc

digit_goes_on : (b : ℕ) → 48 ≤ b → b ≤ 57 → ends_word b ≡ false
digit_goes_on b l h =
    or_false (b == 32) _ (ne_eqb b 32 (λ e. omega (arith, e, l)))
    (or_false (b == 10) _ (ne_eqb b 10 (λ e. omega (arith, e, l)))
    (or_false (b == 44) _ (ne_eqb b 44 (λ e. omega (arith, e, l)))
    (or_false (b == 93) (b == 125) (ne_eqb b 93 (λ e. omega (arith, e, h))) (ne_eqb b 125 (λ e. omega (arith, e, h))))))

digits_solid : (ds : List ℕ) → AllDigits 10 ds → Solid ds
digits_solid [] d = tt
digits_solid (c ∷ cs) d = let k = digit_from_value c d.0 in (digit_goes_on c (omega (arith, k)) (omega (arith, k)), digits_solid cs d.1)

pub decimal_solid : (n : ℕ) → IsNumber n → Solid (decimal n)
decimal_solid n h = digits_solid (decimal n) (decimal_is_IsNumeral n h).0.1

-- texts between quotes
abbrev second : ℕ → ℕ
second c = cond (c == 34) 34 (cond (c == 92) 92 (cond (c == 110) 10 (cond (c == 116) 9 13)))

-- the first byte of a text that is escaped, and what follows
abbrev read_second : List ℕ → ℕ × List ℕ
read_second [] = (0, [])
read_second (c ∷ s) = (second c, s)

abbrev read_first : List ℕ → ℕ × List ℕ
read_first [] = (0, [])
read_first (c ∷ s) = cond (c == 92) (read_second s) (c, s)

abbrev Read : Type 0
Read = ℕ × List ℕ

abbrev with_rest : List ℕ → ℕ → Read
with_rest x n = (n, x)

plain_read : (b : ℕ) (x : List ℕ) (t : Bool) → (b == 92) ≡ t → t ≡ false → cond t (read_second x) (with_rest x b) ≡ with_rest x b
plain_read b x false e f = refl
plain_read b x true e f = cc

reads_back : (b : ℕ) (x : List ℕ) → read_first (escaped b ++ x) ≡ with_rest x b
reads_back b x = by (b == 34) (b == 92) (b == 10) (b == 9) (b == 13) refl refl refl refl refl where
  same : (n : ℕ) → (b == n) ≡ true → with_rest x n ≡ with_rest x b
  same n e = ap (with_rest x) (sym (eqb-true b n e))

  by : (p q r s t : Bool) → (b == 34) ≡ p → (b == 92) ≡ q → (b == 10) ≡ r → (b == 9) ≡ s → (b == 13) ≡ t
      → read_first (cond p (codes "\\\"") (cond q (codes "\\\\") (cond r (codes "\\n") (cond s (codes "\\t") (cond t (codes "\\r") (b ∷ []))))) ++ x) ≡ with_rest x b
  by true q r s t e f g h i = same 34 e
  by false true r s t e f g h i = same 92 f
  by false false true s t e f g h i = same 10 g
  by false false false true t e f g h i = same 9 h
  by false false false false true e f g h i = same 13 i
  by false false false false false e f g h i = plain_read b x (b == 92) refl f

one_escaped : (b c : ℕ) (x y : List ℕ) → escaped b ++ x ≡ escaped c ++ y → (b ≡ c) × (x ≡ y)
one_escaped b c x y e = let k : with_rest x b ≡ with_rest y c = sym (reads_back b x) ∙ ap read_first e ∙ reads_back c y in (ap (λ (z : Read). z.0) k, ap (λ (z : Read). z.1) k)

-- a quote ends the text
abbrev is_quote : List ℕ → Bool
is_quote [] = false
is_quote (b ∷ s) = b == 34

not_quote : (c : ℕ) (y : List ℕ) → is_quote (escaped c ++ y) ≡ false
not_quote c y = by (c == 34) (c == 92) (c == 10) (c == 9) (c == 13) refl where
  by : (p q s t u : Bool) → (c == 34) ≡ p → is_quote (cond p (codes "\\\"") (cond q (codes "\\\\") (cond s (codes "\\n") (cond t (codes "\\t") (cond u (codes "\\r") (c ∷ []))))) ++ y) ≡ false
  by true q s t u f = refl
  by false true s t u f = refl
  by false false true t u f = refl
  by false false false true u f = refl
  by false false false false true f = refl
  by false false false false false f = f

no_quote : {P : Type 0} (c : ℕ) (y r : List ℕ) → 34 ∷ r ≡ escaped c ++ y → P
no_quote {P} c y r e = absurd (let k : true ≡ false = ap is_quote e ∙ not_quote c y in cc)

escaped_told : (s v : List ℕ) (r q : List ℕ) → all_escaped s ++ (34 ∷ r) ≡ all_escaped v ++ (34 ∷ q) → (s ≡ v) × (r ≡ q)
escaped_told [] [] r q e = (refl, (let k : 34 ∷ r ≡ 34 ∷ q = e in cc))
escaped_told [] (c ∷ v) r q e = no_quote c (all_escaped v ++ (34 ∷ q)) r (e ∙ append_assoc (escaped c) (all_escaped v) (34 ∷ q))
escaped_told (b ∷ s) [] r q e = no_quote b (all_escaped s ++ (34 ∷ r)) q (sym e ∙ append_assoc (escaped b) (all_escaped s) (34 ∷ r))
escaped_told (b ∷ s) (c ∷ v) r q e =
    let k = one_escaped b c (all_escaped s ++ (34 ∷ r)) (all_escaped v ++ (34 ∷ q)) (sym (append_assoc (escaped b) (all_escaped s) (34 ∷ r)) ∙ e ∙ append_assoc (escaped c) (all_escaped v) (34 ∷ q)) in
    let m = escaped_told s v r q k.1 in
    (ap (λ z. z ∷ s) k.0 ∙ ap (λ z. c ∷ z) m.0, m.1)

pub quoted_told : (s v r q : List ℕ) → quoted s ++ r ≡ quoted v ++ q → (s ≡ v) × (r ≡ q)
quoted_told s v r q e =
    let k : 34 ∷ ((all_escaped s ++ 34 ∷ []) ++ r) ≡ 34 ∷ ((all_escaped v ++ 34 ∷ []) ++ q) = e in
    escaped_told s v r q (sym (append_assoc (all_escaped s) (34 ∷ []) r) ∙ (let j : (all_escaped s ++ 34 ∷ []) ++ r ≡ (all_escaped v ++ 34 ∷ []) ++ q = cc in j) ∙ append_assoc (all_escaped v) (34 ∷ []) q)

-- the first byte tells the kind
abbrev pub low : ℕ → ℕ
low b = cond (b == 34) 4 (cond (b == 35) 8 (cond (nat_lt b 45) 9 3))

abbrev pub high : ℕ → ℕ
high b = cond (b == 58) 5 (cond (b == 91) 6 (cond (b == 123) 7 (cond (b == 110) 1 (cond (b == 116) 2 (cond (b == 102) 2 9)))))

abbrev pub class : ℕ → ℕ
class b = cond (nat_lt b 58) (low b) (high b)

abbrev pub first_class : List ℕ → ℕ
first_class [] = 9
first_class (b ∷ s) = class b

abbrev pub tag : Tree → ℕ
tag nil = 1
tag (bool b) = 2
tag (int z) = 3
tag (text s) = 4
tag (key s) = 5
tag (vector ts) = 6
tag (map ps) = 7
tag (port n) = 8

cond_is : (a : Bool) (x y : ℕ) → a ≡ false → cond a x y ≡ y
cond_is false x y e = refl
cond_is true x y e = cc

cond_was : (a : Bool) (x y : ℕ) → a ≡ true → cond a x y ≡ x
cond_was true x y e = refl
cond_was false x y e = cc

digit_class : (b : ℕ) → 48 ≤ b → b ≤ 57 → class b ≡ 3
digit_class b l h =
    cond_was (nat_lt b 58) (low b) (high b) (grind (arith, nat_tests))
    ∙ cond_is (b == 34) 4 _ (ne_eqb b 34 (λ e. omega (arith, e, l)))
    ∙ cond_is (b == 35) 8 _ (ne_eqb b 35 (λ e. omega (arith, e, l)))
    ∙ cond_is (nat_lt b 45) 9 3 (grind (arith, nat_tests))

digits_class : (ds x : List ℕ) → AllDigits 10 ds → 0 < length ds → first_class (ds ++ x) ≡ 3
digits_class [] x d l = absurd (omega (arith, l))
digits_class (c ∷ cs) x d l = let k = digit_from_value c d.0 in digit_class c (omega (arith, k)) (omega (arith, k))

int_class : (z : ℤ) (x : List ℕ) → IsShownInteger z → first_class (signed_decimal z ++ x) ≡ 3
int_class (pos n) x h = digits_class (decimal n) x (decimal_is_IsNumeral n (omega (arith, h))).0.1 (decimal_nonempty n (omega (arith, h)))
int_class (negsuc n) x h = refl

pub starts_with : (t : Tree) (x : List ℕ) → IsShown t → first_class (printed_value Readable t ++ x) ≡ tag t
starts_with nil x h = refl
starts_with (bool true) x h = refl
starts_with (bool false) x h = refl
starts_with (int z) x h = int_class z x h
starts_with (text s) x h = refl
starts_with (key s) x h = refl
starts_with (vector ts) x h = refl
starts_with (map ps) x h = refl
starts_with (port n) x h = refl
