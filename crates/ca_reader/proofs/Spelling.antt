-- The token that says an atom is what printing writes for it.
use Rattle.std.proofs.Common.{◌≡◌, ℕ, zero, suc, ◌<◌, ◌≤◌, ◌^◌, Bool, true, false, List, [], ◌∷◌, ◌++◌, length, take, sym, ◌∙◌, ap, refl, subst, arith, None, Some, Result, Ok, Err, ℤ, pos, negsuc, inl, inr, ◌⊎◌}
use Rattle.std.specs.Prelude.{◌==◌, ◌&&◌, ◌||◌, if◌then◌else◌, not, codes, decimal, nat_le, nat_lt, slice_index}
use Rattle.std.specs.List.{list_all, prefix_len}
use Rattle.std.specs.Int.{is_in_range}
use Rattle.std.specs.Str.{bytes_eq}
use Rattle.std.specs.Str.Parse.{digits_value, AllDigits}
use Rattle.std.proofs.lemmas.List.{take_at}
use Rattle.std.proofs.lemmas.Fmt.{decimal_is_IsNumeral, first_decimal, decimal_nonempty, decimal_digit}
use Rattle.std.proofs.lemmas.Str.Parse.{digit_from_value}
use lib.Signed.{mag}
use borrow.Author.Tests.{eqb-true, leb-true, ltb-true, le-leb, lt-ltb}
use Rattle.ca_reader.specs.declared.error.ReadErrorKind.{ReadErrorKind}
use Rattle.ca_reader.specs.declared.error.ReadErrorKind.TheVariants.{BadByte}
use Rattle.ca_reader.specs.Form.{Atom, nil, bool, int, text, key, symbol}
use Rattle.ca_reader.specs.Bytes.{is_separator, is_token_byte, is_digit, has_byte}
use Rattle.ca_reader.specs.Tokens.{meaning, unsigned, is_numeral, is_decimal, number, with_sign, or_bad_number, keyword, token_word}
use Rattle.ca_reader.specs.Pieces.{one, found, first, token_first, token}
use Rattle.ca_reader.specs.Printed.{atom_text}
use Rattle.ca_reader.proofs.Numbers.{both, digit_bounds, digit_in}

-- no token goes on into these bytes
abbrev pub IsApart : List ℕ → Type 0
IsApart [] = Unit {0}
IsApart (b ∷ bs) = is_token_byte b ≡ false

pub other_byte : (b n : ℕ) → is_token_byte b ≡ true → is_token_byte n ≡ false → (b == n) ≡ false
other_byte b n h k =
    let by : (t : Bool) → (b == n) ≡ t → (b == n) ≡ false = λ t. elim t as (λ t. (b == n) ≡ t → (b == n) ≡ false) [
      | true ↦ λ e. (let f : b ≡ n = eqb-true b n e in let g = ap is_token_byte f in cc)
      | false ↦ λ e. e
    ]
    in by (b == n) refl

pub no_separator : (b : ℕ) → is_token_byte b ≡ true → is_separator b ≡ false
unfolding is_token_byte
no_separator b h = rw (other_byte b 32 h refl, other_byte b 9 h refl, other_byte b 10 h refl, other_byte b 13 h refl, other_byte b 44 h refl) refl

pub not_token_59 : is_token_byte 59 ≡ false
unfolding is_token_byte
not_token_59 = refl

pub not_token_34 : is_token_byte 34 ≡ false
unfolding is_token_byte
not_token_34 = refl

pub prefix_whole : (t tail : List ℕ) → list_all is_token_byte t ≡ true → IsApart tail → prefix_len is_token_byte (t ++ tail) ≡ length t
prefix_whole [] [] h a = refl
prefix_whole [] (b ∷ tail) h a = rw a refl
prefix_whole (b ∷ t) tail h a =
    let k = both (is_token_byte b) (list_all is_token_byte t) h in
    let i = prefix_whole t tail k.1 a in
    rw k.0 (omega arith)

pub token_whole : (t tail : List ℕ) → list_all is_token_byte t ≡ true → IsApart tail → token (t ++ tail) ≡ t
token_whole t tail h a = ap (λ n. take n (t ++ tail)) (prefix_whole t tail h a) ∙ take_at t tail (length t) refl

pub fourth : {X : Type 0} (a b c d : Bool) (u v w x y : X) → a ≡ false → b ≡ false → c ≡ false → d ≡ true → (if a then u else (if b then v else (if c then w else (if d then x else y)))) ≡ x
fourth a b c d u v w x y h i j k = rw (h, i, j, k) refl

pub first_token : (t tail : List ℕ) → 0 < length t → list_all is_token_byte t ≡ true → IsApart tail → first (t ++ tail) ≡ token_first (length t) (meaning t)
unfolding first
first_token [] tail l h a = absurd (omega arith)
first_token (b ∷ t) tail l h a =
    let k = both (is_token_byte b) (list_all is_token_byte t) h in
    fourth (is_separator b) (b == 59) (b == 34) (is_token_byte b) _ _ _ _ _
    (no_separator b k.0) (other_byte b 59 k.0 not_token_59) (other_byte b 34 k.0 not_token_34) k.0
    ∙ ap (λ (x : List ℕ). token_first (length x) (meaning x)) (token_whole (b ∷ t) tail h a)

-- the atom is read from what printing writes for it
abbrev pub IsSpelt : Atom → Type 0
IsSpelt a = (tail : List ℕ) → IsApart tail → first (atom_text a ++ tail) ≡ found (one a) (length (atom_text a))

pub spelt_by : (a : Atom) → 0 < length (atom_text a) → list_all is_token_byte (atom_text a) ≡ true → meaning (atom_text a) ≡ Ok a → IsSpelt a
spelt_by a l h m = λ tail apart. first_token (atom_text a) tail l h apart ∙ ap (token_first (length (atom_text a))) m

-- what a token with this meaning is
abbrev pub IsRight : List ℕ → Atom → Type 0
IsRight t nil = Unit {0}
IsRight t (bool b) = Unit {0}
IsRight t (int z) = mag z < 2 ^ 63
IsRight t (text s) = ⊥
IsRight t (key s) = t ≡ 58 ∷ s
IsRight t (symbol s) = t ≡ s

abbrev pub Rightly : List ℕ → Result Atom ReadErrorKind → Type 0
Rightly t (Ok a) = IsRight t a
Rightly t (Err k) = Unit {0}

pub if_rightly : (b : Bool) (t : List ℕ) (x y : Result Atom ReadErrorKind) → (b ≡ true → Rightly t x) → (b ≡ false → Rightly t y) → Rightly t (if b then x else y)
if_rightly true t x y h k = h refl
if_rightly false t x y h k = k refl

pub if_right : (b : Bool) (t : List ℕ) (x y : Atom) → IsRight t x → IsRight t y → IsRight t (if b then x else y)
if_right true t x y h k = h
if_right false t x y h k = k

pub with_sign_rightly : (t : List ℕ) (b : Bool) (n : ℕ) → Rightly t (or_bad_number (with_sign b n))
with_sign_rightly t true zero = omega arith
with_sign_rightly t true (suc n) =
    let by : (c : Bool) → nat_le (suc n) (2 ^ 63) ≡ c → Rightly t (or_bad_number (if c then Some (negsuc n) else None)) = λ c. elim c as (λ c. nat_le (suc n) (2 ^ 63) ≡ c → Rightly t (or_bad_number (if c then Some (negsuc n) else None))) [
      | true ↦ λ e. (let h = leb-true (suc n) (2 ^ 63) e in omega arith)
      | false ↦ λ e. tt
    ]
    in by (nat_le (suc n) (2 ^ 63)) refl
with_sign_rightly t false n =
    let by : (c : Bool) → nat_lt n (2 ^ 63) ≡ c → Rightly t (or_bad_number (if c then Some (pos n) else None)) = λ c. elim c as (λ c. nat_lt n (2 ^ 63) ≡ c → Rightly t (or_bad_number (if c then Some (pos n) else None))) [
      | true ↦ λ e. ltb-true n (2 ^ 63) e
      | false ↦ λ e. tt
    ]
    in by (nat_lt n (2 ^ 63)) refl

pub number_rightly : (t : List ℕ) → Rightly t (or_bad_number (number t))
number_rightly t =
    let by : (c : Bool) → Rightly t (or_bad_number (if c then with_sign (slice_index t 0 == 45) (digits_value 10 (unsigned t)) else None)) = λ c. elim c as (λ c. Rightly t (or_bad_number (if c then with_sign (slice_index t 0 == 45) (digits_value 10 (unsigned t)) else None))) [
      | true ↦ with_sign_rightly t (slice_index t 0 == 45) (digits_value 10 (unsigned t))
      | false ↦ tt
    ]
    in by (is_decimal (unsigned t))

pub keyword_rightly : (t : List ℕ) → (slice_index t 0 == 58) ≡ true → Rightly t (keyword t)
keyword_rightly [] h = cc
keyword_rightly (b ∷ t) h = if_rightly (nat_lt 1 (suc (length t)) && not (has_byte 58 t)) (b ∷ t) (Ok (key t)) (Err BadByte)
    (λ e. (let f : b ≡ 58 = eqb-true b 58 h in ap (λ (c : ℕ). c ∷ t) f)) (λ e. tt)

pub word_right : (t : List ℕ) → IsRight t (token_word t)
word_right t =
    if_right (bytes_eq t (codes "nil")) t nil _ tt
    (if_right (bytes_eq t (codes "true")) t (bool true) _ tt
    (if_right (bytes_eq t (codes "false")) t (bool false) (symbol t) tt refl))

pub meaning_rightly : (t : List ℕ) → Rightly t (meaning t)
unfolding meaning
meaning_rightly t =
    if_rightly (is_numeral t) t (or_bad_number (number t)) _ (λ e. number_rightly t) (λ e.
    if_rightly (slice_index t 0 == 58) t (keyword t) _ (λ h. keyword_rightly t h) (λ h.
    if_rightly (has_byte 58 t) t (Err BadByte) (Ok (token_word t)) (λ k. tt) (λ k. word_right t)))

pub third : (a b c d : Bool) → c ≡ true → (a || b || c || d) ≡ true
third a b c d h = rw h (elim a as (λ a. (a || b || true || d) ≡ true) [ true ↦ refl | false ↦ elim b as (λ b. (false || b || true || d) ≡ true) [ true ↦ refl | false ↦ refl ] ])

-- digits
pub taken : {X : Type 0} (b : Bool) (x y : X) → b ≡ true → (if b then x else y) ≡ x
taken b x y h = rw h refl

pub passed_over : {X : Type 0} (b : Bool) (x y : X) → b ≡ false → (if b then x else y) ≡ y
passed_over b x y h = rw h refl

pub eqb_apart : (a b : ℕ) → (a < b) ⊎ (b < a) → (a == b) ≡ false
eqb_apart a b h =
    let by : (t : Bool) → (a == b) ≡ t → (a == b) ≡ false = λ t. elim t as (λ t. (a == b) ≡ t → (a == b) ≡ false) [
      | true ↦ λ e. (let f : a ≡ b = eqb-true a b e in absurd (elim h [ inl l ↦ omega arith | inr l ↦ omega arith ]))
      | false ↦ λ e. e
    ]
    in by (a == b) refl

pub minus_is_token : (ds : List ℕ) → list_all is_token_byte ds ≡ true → list_all is_token_byte (45 ∷ ds) ≡ true
unfolding is_token_byte
minus_is_token ds h = h

pub digit_is_token : (c : ℕ) → is_digit c ≡ true → is_token_byte c ≡ true
unfolding is_token_byte
digit_is_token c h = third (is_in_range 97 122 c) (is_in_range 65 90 c) (is_digit c) (has_byte c (codes "*+!-_?<>=&%$./:")) h

pub in_range_is_digit : (c : ℕ) → 48 ≤ c → c ≤ 57 → is_digit c ≡ true
in_range_is_digit c h k = rw (le-leb 48 c h, le-leb c 57 k) refl

pub digits_are : (ds : List ℕ) → AllDigits 10 ds → (list_all is_digit ds ≡ true) × (list_all is_token_byte ds ≡ true)
digits_are [] h = (refl, refl)
digits_are (c ∷ ds) h =
    let r = digit_from_value c h.0 in
    let d = in_range_is_digit c r.0 r.1 in
    let i = digits_are ds h.1 in
    (rw (d, i.0) refl, rw (digit_is_token c d, i.1) refl)

-- what is known of the digits that printing writes of n
pub record IsDecimal (n : ℕ) (ds : List ℕ) : Type 0 where
  pub some : 0 < length ds
  pub digits : list_all is_digit ds ≡ true
  pub tokens : list_all is_token_byte ds ≡ true
  pub value : digits_value 10 ds ≡ n
  pub canonical : is_decimal ds ≡ true
  pub first : is_digit (slice_index ds 0) ≡ true

pub digit_not : (c n : ℕ) → is_digit c ≡ true → (n < 48) ⊎ (57 < n) → (c == n) ≡ false
digit_not c n h k = let b = digit_bounds c h in elim k [ inl l ↦ eqb_apart c n (inr (omega arith)) | inr l ↦ eqb_apart c n (inl (omega arith)) ]

pub decimal_canonical : (n : ℕ) → n < 2 ^ 64 → list_all is_digit (decimal n) ≡ true → is_decimal (decimal n) ≡ true
decimal_canonical zero h d = ap is_decimal (decimal_digit 0 (omega arith))
decimal_canonical (suc n) h d =
    passed_over (slice_index (decimal (suc n)) 0 == 48) _ _ (eqb_apart _ 48 (inr (first_decimal (suc n) (omega arith) h))) ∙ d

pub decimal_is : (n : ℕ) → n < 2 ^ 64 → IsDecimal n (decimal n)
decimal_is n h =
    let m = decimal_is_IsNumeral n h in
    let d = digits_are (decimal n) m.0.1 in
    let l = decimal_nonempty n h in
    record { some = l; digits = d.0; tokens = d.1; value = m.1; canonical = decimal_canonical n h d.0; first = digit_in (decimal n) 0 l d.0 }

pub unsigned_digit : (t : List ℕ) → is_digit (slice_index t 0) ≡ true → (unsigned t ≡ t) × ((slice_index t 0 == 45) ≡ false)
unsigned_digit t h =
    let e = digit_not (slice_index t 0) 43 h (inl (omega arith)) in
    let f = digit_not (slice_index t 0) 45 h (inl (omega arith)) in
    let g : (slice_index t 0 == 43 || slice_index t 0 == 45) ≡ false = rw (e, f) refl in
    (passed_over (slice_index t 0 == 43 || slice_index t 0 == 45) _ _ g, f)

pub number_is : (t ds : List ℕ) (negative : Bool) (n : ℕ) → unsigned t ≡ ds → is_decimal ds ≡ true → (slice_index t 0 == 45) ≡ negative → digits_value 10 ds ≡ n → number t ≡ with_sign negative n
number_is t ds negative n e d h v =
    taken (is_decimal (unsigned t)) _ _ (ap is_decimal e ∙ d)
    ∙ ap (λ (x : List ℕ). with_sign (slice_index t 0 == 45) (digits_value 10 x)) e
    ∙ ap (λ (x : Bool). with_sign x (digits_value 10 ds)) h
    ∙ ap (with_sign negative) v

pub meaning_number : (t : List ℕ) → is_numeral t ≡ true → meaning t ≡ or_bad_number (number t)
unfolding meaning
meaning_number t h = taken (is_numeral t) _ _ h

pub meaning_pos : (n : ℕ) (ds : List ℕ) → IsDecimal n ds → n < 2 ^ 63 → meaning ds ≡ Ok (int (pos n))
meaning_pos n ds d h =
    let u = unsigned_digit ds d.first in
    meaning_number ds (ap (λ (x : List ℕ). is_digit (slice_index x 0)) u.0 ∙ d.first)
    ∙ ap or_bad_number (number_is ds ds false n u.0 d.canonical u.1 d.value ∙ taken (nat_lt n (2 ^ 63)) _ _ (lt-ltb n (2 ^ 63) h))

pub meaning_neg : (n : ℕ) (ds : List ℕ) → IsDecimal (suc n) ds → n < 2 ^ 63 → meaning (45 ∷ ds) ≡ Ok (int (negsuc n))
meaning_neg n ds d h =
    meaning_number (45 ∷ ds) d.first
    ∙ ap or_bad_number (number_is (45 ∷ ds) ds true (suc n) refl d.canonical refl d.value ∙ taken (nat_le (suc n) (2 ^ 63)) _ _ (le-leb (suc n) (2 ^ 63) (omega arith)))

pub spelt_int : (z : ℤ) → mag z < 2 ^ 63 → IsSpelt (int z)
spelt_int (pos n) h =
    let k : n < 2 ^ 63 = h in
    let d = decimal_is n (omega arith) in
    spelt_by (int (pos n)) d.some d.tokens (meaning_pos n (decimal n) d k)
spelt_int (negsuc n) h =
    let k : n < 2 ^ 63 = h in
    let d = decimal_is (suc n) (omega arith) in
    spelt_by (int (negsuc n)) (omega arith) (minus_is_token (decimal (suc n)) d.tokens) (meaning_neg n (decimal (suc n)) d k)

pub spelt_nil : IsSpelt nil
unfolding is_token_byte meaning
spelt_nil = spelt_by nil (omega arith) refl refl

pub spelt_bool : (b : Bool) → IsSpelt (bool b)
unfolding is_token_byte meaning
spelt_bool true = spelt_by (bool true) (omega arith) refl refl
spelt_bool false = spelt_by (bool false) (omega arith) refl refl

-- what a token says is spelt as printing writes it
pub spelt_token : (t : List ℕ) (a : Atom) → 0 < length t → list_all is_token_byte t ≡ true → meaning t ≡ Ok a → IsSpelt a
spelt_token t nil l h m = spelt_nil
spelt_token t (bool b) l h m = spelt_bool b
spelt_token t (int z) l h m = spelt_int z (subst (Rightly t) m (meaning_rightly t))
spelt_token t (text s) l h m = absurd (subst (Rightly t) m (meaning_rightly t))
spelt_token t (key s) l h m =
    let e : t ≡ 58 ∷ s = subst (Rightly t) m (meaning_rightly t) in
    spelt_by (key s) (omega arith) (subst (λ (x : List ℕ). list_all is_token_byte x ≡ true) e h) (ap meaning (sym e) ∙ m)
spelt_token t (symbol s) l h m =
    let e : t ≡ s = subst (Rightly t) m (meaning_rightly t) in
    spelt_by (symbol s) (subst (λ (x : List ℕ). 0 < length x) e l) (subst (λ (x : List ℕ). list_all is_token_byte x ≡ true) e h) (ap meaning (sym e) ∙ m)
