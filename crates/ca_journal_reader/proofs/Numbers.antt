-- A printed number is read again, and a word is passed over.
use Rattle.std.proofs.Common.{◌≡◌, ℕ, suc, ◌+◌, ◌-◌, ◌*◌, ◌^◌, ◌<◌, ◌≤◌, List, [], ◌∷◌, ◌++◌, length, drop, drop-cons, get_or, refl, sym, ap, ◌∙◌, subst, arith, Option, Some, None, Bool, true, false, ◌==◌, cond, nat_le, nat_lt, ⊎_elim, eq-eqb, eqb-true}
use Rattle.std.proofs.lemmas.Bool.{and_from, le-leb, lt-ltb, cases_lt}
use Rattle.std.specs.Fmt.{decimal}
use Rattle.std.specs.Str.Parse.{AllDigits, digits_value_after}
use Rattle.std.specs.Char.{digit_value}
use Rattle.std.proofs.lemmas.Fmt.{decimal_is_IsNumeral}
use Rattle.std.proofs.lemmas.Str.{digit_value_digit}
use Rattle.std.proofs.lemmas.Str.Parse.{digit_from_value}
use Rattle.ca_journal_reader.specs.Found.{Found}
use Rattle.ca_journal_reader.specs.Words.{is_digit_byte, number_from, number_in, word_behind}

abbrev pub Read : Type 0
Read = ℕ × List ℕ

-- no digit stands in front
abbrev pub IsStop : List ℕ → Type 0
IsStop [] = Unit {0}
IsStop (b ∷ bs) = is_digit_byte b ≡ false

stops : (v : ℕ) (r : List ℕ) → IsStop r → number_from v r ≡ (v, r)
stops v [] s = refl
stops v (b ∷ bs) s = ap (λ (c : Bool). cond {A = Read} c (number_from (v * 10 + (b - 48)) bs) (v, b ∷ bs)) s

pub digit_is : (c : ℕ) → digit_value c < 10 → (is_digit_byte c ≡ true) × (48 ≤ c) × (c ≤ 57)
digit_is c d =
    let range = digit_from_value c d in
    let back = digit_value_digit c range in
    let low : 48 ≤ c = omega (arith, back) in
    let high : c ≤ 57 = omega (arith, back, d) in
    (and_from (nat_le 48 c) (nat_le c 57) (le-leb 48 c low) (le-leb c 57 high), low, high)

number_digits : (ds r : List ℕ) (v : ℕ) → AllDigits 10 ds → IsStop r → number_from v (ds ++ r) ≡ (digits_value_after 10 v ds, r)
number_digits [] r v a s = stops v r s
number_digits (c ∷ cs) r v a s =
    let is = digit_is c a.0 in
    let back = digit_value_digit c (digit_from_value c a.0) in
    ap (λ (b : Bool). cond {A = Read} b (number_from (v * 10 + (c - 48)) (cs ++ r)) (v, c ∷ (cs ++ r))) is.0
    ∙ ap (λ n. number_from (v * 10 + n) (cs ++ r)) (let e : c - 48 ≡ digit_value c = omega (arith, back) in e)
    ∙ number_digits cs r (v * 10 + digit_value c) a.1 s

number_printed : (n : ℕ) (r : List ℕ) → n < 2 ^ 64 → IsStop r → number_from 0 (decimal n ++ r) ≡ (n, r)
number_printed n r lt s = let d = decimal_is_IsNumeral n lt in number_digits (decimal n) r 0 d.0.1 s ∙ ap (λ (v : ℕ). (v, r)) d.1

pub number_back : (n : ℕ) (r : List ℕ) → n < 2 ^ 64 → IsStop r → number_in (decimal n ++ r) ≡ Some (n, r)
number_back n r lt s = ap (λ (z : Read). cond (nat_lt z.0 (2 ^ 64)) (Some z) None) (number_printed n r lt s) ∙ ap (λ (b : Bool). cond {A = Option Read} b (Some (n, r)) None) (lt-ltb n (2 ^ 64) lt)

grows : (v : ℕ) (bs : List ℕ) → v ≤ (number_from v bs).0
grows v [] = omega arith
grows v (b ∷ bs) = by (is_digit_byte b) (grows (v * 10 + (b - 48)) bs) where
  by : (t : Bool) → v * 10 + (b - 48) ≤ (number_from (v * 10 + (b - 48)) bs).0 → v ≤ (cond {A = Read} t (number_from (v * 10 + (b - 48)) bs) (v, b ∷ bs)).0
  by true le = omega (arith, le)
  by false le = omega arith

at_least : (a b : ℕ) → (a < b → ⊥) → b ≤ a
at_least a b f = ⊎_elim (λ (lt : a < b). absurd (f lt)) (λ le. le) (cases_lt a b)

too_great_at : (text : List ℕ) (i v : ℕ) → i < length text → is_digit_byte (get_or text i 0) ≡ true → v * 10 + (get_or text i 0 - 48) ≤ (number_from v (drop i text)).0
too_great_at text i v lt is = subst (λ (l : List ℕ). v * 10 + (get_or text i 0 - 48) ≤ (number_from v l).0) (sym (drop-cons text i 0 lt))
    (subst (λ (b : Bool). v * 10 + (get_or text i 0 - 48) ≤ (cond {A = Read} b (number_from (v * 10 + (get_or text i 0 - 48)) (drop (suc i) text)) (v, get_or text i 0 ∷ drop (suc i) text)).0) (sym is) (grows (v * 10 + (get_or text i 0 - 48)) (drop (suc i) text)))

pub product_over : (text : List ℕ) (i v m : ℕ) → i < length text → is_digit_byte (get_or text i 0) ≡ true → number_from v (drop i text) ≡ number_from 0 text → (v * 10 < m → ⊥) → m ≤ (number_from 0 text).0
product_over text i v m lt is inv f = subst (λ (r : Read). m ≤ r.0) inv (let k = too_great_at text i v lt is in let g = at_least (v * 10) m f in omega (arith, k, g))

pub sum_over : (text : List ℕ) (i v m : ℕ) → i < length text → is_digit_byte (get_or text i 0) ≡ true → number_from v (drop i text) ≡ number_from 0 text → (v * 10 + (get_or text i 0 - 48) < m → ⊥) → m ≤ (number_from 0 text).0
sum_over text i v m lt is inv f = subst (λ (r : Read). m ≤ r.0) inv (let k = too_great_at text i v lt is in let g = at_least (v * 10 + (get_or text i 0 - 48)) m f in omega (arith, k, g))

abbrev Passed : Type 0
Passed = Found (Unit {0})

pub too_short : (w text : List ℕ) → length text < length w → word_behind w text ≡ None
too_short [] text lt = absurd (omega (arith, lt))
too_short (a ∷ w) [] lt = refl
too_short (a ∷ w) (b ∷ text) lt = by (a == b) (too_short w text (omega (arith, lt))) where
  by : (t : Bool) → word_behind w text ≡ None → cond t (word_behind w text) None ≡ None
  by true e = e
  by false e = refl

pub word_back : (w r : List ℕ) → word_behind w (w ++ r) ≡ Some (tt, r)
word_back [] r = refl
word_back (a ∷ w) r = ap (λ (b : Bool). cond {A = Passed} b (word_behind w (w ++ r)) None) (eq-eqb a a refl) ∙ word_back w r

-- what a word is passed over in begins with it
pub word_there : (w text r : List ℕ) (x : Unit {0}) → word_behind w text ≡ Some (x, r) → text ≡ w ++ r
word_there [] text r x e = ap (λ (o : Option (Unit {0} × List ℕ)). rest_or text o) e where
  rest_or : List ℕ → Option (Unit {0} × List ℕ) → List ℕ
  rest_or z None = z
  rest_or z (Some y) = y.1
word_there (a ∷ w) [] r x e = cc
word_there (a ∷ w) (b ∷ text) r x e = by (a == b) refl e (λ f. word_there w text r x f) where
  by : (t : Bool) → (a == b) ≡ t → cond {A = Passed} t (word_behind w text) None ≡ Some (x, r) → (word_behind w text ≡ Some (x, r) → text ≡ w ++ r) → b ∷ text ≡ a ∷ (w ++ r)
  by true is e f = let g : text ≡ w ++ r = f e in let k : a ≡ b = eqb-true a b is in ap (λ z. z ∷ text) (sym k) ∙ ap (λ z. a ∷ z) g
  by false is e f = cc
