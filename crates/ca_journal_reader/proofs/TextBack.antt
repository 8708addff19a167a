-- Texts and keywords are read again.
use Rattle.std.proofs.Common.{◌≡◌, ℕ, suc, ◌+◌, ◌<◌, List, [], ◌∷◌, ◌++◌, length, take, drop, refl, sym, ap, ◌∙◌, arith, Some, None, Bool, true, false, cond, ◌==◌, ◌||◌, ◌&&◌, eqb-true, ne_eqb, append_assoc, append-nil, length-append, codes}
use Rattle.std.specs.List.{list_all, prefix_len}
use Rattle.ca_value.specs.Tree.{Tree, key}
use Rattle.ca_value.specs.Printed.{escaped, all_escaped}
use Rattle.ca_value.specs.IsValue.{is_keyword_byte, is_keyword}
use Rattle.ca_meaning.specs.Shown.{ends_word}
use Rattle.ca_meaning.proofs.LineWords.{Ends}
use Rattle.ca_journal_reader.specs.Found.{Found}
use Rattle.ca_journal_reader.specs.ValueText.{text_from, key_in}
use Rattle.ca_journal_reader.proofs.Loops.{plain_step}

-- a byte of a text, behind which there is more
byte_back : (b y : ℕ) (said z : List ℕ) → text_from said (escaped b ++ (y ∷ z)) ≡ text_from (said ++ b ∷ []) (y ∷ z)
byte_back b y said z = by (b == 34) (b == 92) (b == 10) (b == 9) (b == 13) refl refl refl refl refl where
  same : (n : ℕ) → (b == n) ≡ true → text_from (said ++ n ∷ []) (y ∷ z) ≡ text_from (said ++ b ∷ []) (y ∷ z)
  same n e = ap (λ (m : ℕ). text_from (said ++ m ∷ []) (y ∷ z)) (sym (eqb-true b n e))

  by : (p q r s t : Bool) → (b == 34) ≡ p → (b == 92) ≡ q → (b == 10) ≡ r → (b == 9) ≡ s → (b == 13) ≡ t
      → text_from said (cond p (codes "\\\"") (cond q (codes "\\\\") (cond r (codes "\\n") (cond s (codes "\\t") (cond t (codes "\\r") (b ∷ []))))) ++ (y ∷ z)) ≡ text_from (said ++ b ∷ []) (y ∷ z)
  by true q r s t e f g h i = same 34 e
  by false true r s t e f g h i = same 92 f
  by false false true s t e f g h i = same 10 g
  by false false false true t e f g h i = same 9 h
  by false false false false true e f g h i = same 13 i
  by false false false false false e f g h i = sym (plain_step said (said ++ b ∷ []) (b ∷ (y ∷ z)) (y ∷ z) z b y refl refl e f refl)

byte_back_any : (b : ℕ) (said x : List ℕ) → 0 < length x → text_from said (escaped b ++ x) ≡ text_from (said ++ b ∷ []) x
byte_back_any b said [] h = absurd (omega (arith, h))
byte_back_any b said (y ∷ z) h = byte_back b y said z

quote_back : (said r : List ℕ) → text_from said (34 ∷ r) ≡ Some (said, r)
quote_back said [] = refl
quote_back said (c ∷ s) = refl

quote_behind : (s r : List ℕ) → 0 < length (all_escaped s ++ (34 ∷ r))
quote_behind s r = grind (arith, length-append)

pub text_back : (s said r : List ℕ) → text_from said (all_escaped s ++ (34 ∷ r)) ≡ Some (said ++ s, r)
text_back [] said r = quote_back said r ∙ ap (λ (z : List ℕ). Some (z, r)) (sym (append-nil said))
text_back (b ∷ s) said r =
    ap (λ z. text_from said z) (append_assoc (escaped b) (all_escaped s) (34 ∷ r))
    ∙ byte_back_any b said (all_escaped s ++ (34 ∷ r)) (quote_behind s r)
    ∙ text_back s (said ++ b ∷ []) r
    ∙ ap (λ (z : List ℕ). Some (z, r)) (append_assoc said (b ∷ []) s)

pub quoted_back : (s r : List ℕ) → text_from [] ((all_escaped s ++ 34 ∷ []) ++ r) ≡ Some (s, r)
quoted_back s r = ap (λ z. text_from [] z) (append_assoc (all_escaped s) (34 ∷ []) r) ∙ text_back s [] r

-- the bytes in front that pass a test
pub drop_back : (w r : List ℕ) → drop (length w) (w ++ r) ≡ r
drop_back [] r = refl
drop_back (b ∷ w) r = drop_back w r

pub take_back : (w r : List ℕ) → take (length w) (w ++ r) ≡ w
take_back [] r = refl
take_back (b ∷ w) r = ap (λ z. b ∷ z) (take_back w r)

-- none of the bytes in front passes
abbrev pub Fails : (ℕ → Bool) → List ℕ → Type 0
Fails p [] = Unit {0}
Fails p (b ∷ s) = p b ≡ false

pub prefix_back : (p : ℕ → Bool) (w r : List ℕ) → list_all p w ≡ true → Fails p r → prefix_len p (w ++ r) ≡ length w
prefix_back p [] [] all stop = refl
prefix_back p [] (b ∷ r) all stop = ap (λ (t : Bool). cond t (1 + prefix_len p r) 0) stop
prefix_back p (b ∷ w) r all stop = by (p b) all (λ e. prefix_back p w r e stop) where
  by : (t : Bool) → (t && list_all p w) ≡ true → (list_all p w ≡ true → prefix_len p (w ++ r) ≡ length w) → cond t (1 + prefix_len p (w ++ r)) 0 ≡ suc (length w)
  by true e f = let g = f e in omega (arith, g)
  by false e f = absurd (let k : false ≡ true = e in cc)

-- no byte that ends a word is one of a keyword
pub stop_is : (b : ℕ) → ends_word b ≡ true → is_keyword_byte b ≡ false
stop_is b = by (b == 32) (b == 10) (b == 44) (b == 93) (b == 125) refl refl refl refl refl where
  same : (n : ℕ) → (b == n) ≡ true → is_keyword_byte n ≡ false → is_keyword_byte b ≡ false
  same n e f = ap is_keyword_byte (eqb-true b n e) ∙ f

  by : (p q r s t : Bool) → (b == 32) ≡ p → (b == 10) ≡ q → (b == 44) ≡ r → (b == 93) ≡ s → (b == 125) ≡ t → (p || (q || (r || (s || t)))) ≡ true → is_keyword_byte b ≡ false
  by true q r s t e f g h i k = same 32 e refl
  by false true r s t e f g h i k = same 10 f refl
  by false false true s t e f g h i k = same 44 g refl
  by false false false true t e f g h i k = same 93 h refl
  by false false false false true e f g h i k = same 125 i refl
  by false false false false false e f g h i k = absurd (let j : false ≡ true = k in cc)

ends_fail : (r : List ℕ) → Ends r → Fails is_keyword_byte r
ends_fail [] e = tt
ends_fail (b ∷ r) e = stop_is b e

abbrev keyed : List ℕ → List ℕ → Found Tree
keyed w r = Some (key w, r)

abbrev Keyed : ℕ → List ℕ → Found Tree
Keyed n s = cond (n == 0) None (keyed (take n s) (drop n s))

pub key_back : (s r : List ℕ) → is_keyword s ≡ true → Ends r → key_in (s ++ r) ≡ Some (key s, r)
key_back [] r is e = absurd (let k : false ≡ true = is in cc)
key_back (b ∷ s) r is e =
    let w = b ∷ s in
    let n : ℕ = length w in
    ap (λ m. Keyed m (w ++ r)) (prefix_back is_keyword_byte w r is (ends_fail r e))
    ∙ ap (λ (t : Bool). cond {A = Found Tree} t None (keyed (take n (w ++ r)) (drop n (w ++ r)))) (ne_eqb n 0 (λ e. omega (arith, e)))
    ∙ ap (λ z. keyed z (drop n (w ++ r))) (take_back w r)
    ∙ ap (λ z. keyed w z) (drop_back w r)
