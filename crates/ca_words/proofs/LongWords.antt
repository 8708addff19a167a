-- What a word that begins with `--` is, and words joined to their values.
use Rattle.std.proofs.Common.{◌≡◌, ◌∙◌, ◌+◌, ℕ, Bool, true, false, suc, codes, refl, sym, ap, ap₂, arith, List, [], ◌∷◌, ◌++◌, Option, Some, None, is_some, true≢false}
use Rattle.std.specs.Prelude.{nat_eq, unwrap_or}
use Rattle.std.specs.List.{before_first, after_first, position_or_len}
use Rattle.std.proofs.Common.{eqb-true}
use Rattle.std.specs.Str.{bytes_eq}
use Rattle.std.proofs.lemmas.Slice.Eq.{bytes_eq-Decides}
use Rattle.clap.specs.Lexer.{has_byte, long_of, name_and_value}
use Rattle.ca_words.specs.Words.{Text, behind_start, options_joined, wants_value}
use Rattle.ca_words.proofs.Rules.{is_bare}

-- ---- words

abbrev is_equals : ℕ → Bool
is_equals y = nat_eq y 61

later : (y : ℕ) (ys : Text) → is_equals y ≡ false → position_or_len is_equals (y ∷ ys) ≡ suc (position_or_len is_equals ys)
later y ys e = rw e (omega arith)

one_more : (k : ℕ) → suc k + 1 ≡ suc (k + 1)
one_more k = omega arith

-- a text with no `=`, and one with it
pub no_equals : (t : Text) → has_byte 61 t ≡ false → before_first is_equals t ≡ t
no_equals [] e = refl
no_equals (y ∷ ys) e = go (is_equals y) refl (no_equals ys)
  where
    go : (b : Bool) → is_equals y ≡ b → (has_byte 61 ys ≡ false → before_first is_equals ys ≡ ys) → before_first is_equals (y ∷ ys) ≡ y ∷ ys
    go true h rec = absurd (true≢false (rw h at e))
    go false h rec = rw (later y ys h) (ap (λ zs. y ∷ zs) (rec (rw h at e)))

pub cut_equals : (t : Text) → has_byte 61 t ≡ true → t ≡ before_first is_equals t ++ 61 ∷ after_first is_equals t
cut_equals [] e = absurd (true≢false (sym e))
cut_equals (y ∷ ys) e = go (is_equals y) refl (cut_equals ys)
  where
    go : (b : Bool) → is_equals y ≡ b → (has_byte 61 ys ≡ true → ys ≡ before_first is_equals ys ++ 61 ∷ after_first is_equals ys) → y ∷ ys ≡ before_first is_equals (y ∷ ys) ++ 61 ∷ after_first is_equals (y ∷ ys)
    go true h rec = rw h (ap (λ z. z ∷ ys) (eqb-true y 61 h))
    go false h rec = rw (later y ys h, one_more (position_or_len is_equals ys)) (ap (λ zs. y ∷ zs) (rec (rw h at e)))

pub some≢none : {X : Type 0} (x : X) → None ≡ Some x → ⊥
some≢none x e = true≢false (sym (ap is_some e))

pub inside : {X : Type 0} (x y : X) → Some x ≡ Some y → x ≡ y
inside x y e = ap (λ o. unwrap_or o x) e

-- a long word is `--` and a text with a name and, it may be, a value
pub long_shape : (x : Text) (q : Text × Option Text) → long_of x ≡ Some q → (r : Text) × (x ≡ 45 ∷ 45 ∷ r) × (name_and_value r ≡ q)
long_shape [] q e = absurd (some≢none q e)
long_shape (a ∷ []) q e = go (nat_eq a 45) refl
  where
    go : (b : Bool) → nat_eq a 45 ≡ b → (r : Text) × (a ∷ [] ≡ 45 ∷ 45 ∷ r) × (name_and_value r ≡ q)
    go true h = absurd (some≢none q (rw h at e))
    go false h = absurd (some≢none q (rw h at e))
long_shape (a ∷ b ∷ []) q e = go (nat_eq a 45) (nat_eq b 45) refl refl
  where
    go : (s t : Bool) → nat_eq a 45 ≡ s → nat_eq b 45 ≡ t → (r : Text) × (a ∷ b ∷ [] ≡ 45 ∷ 45 ∷ r) × (name_and_value r ≡ q)
    go true true h k = absurd (some≢none q (rw (h, k) at e))
    go true false h k = absurd (some≢none q (rw (h, k) at e))
    go false t h k = absurd (some≢none q (rw h at e))
long_shape (a ∷ b ∷ y ∷ ys) q e = go (nat_eq a 45) (nat_eq b 45) refl refl
  where
    go : (s t : Bool) → nat_eq a 45 ≡ s → nat_eq b 45 ≡ t → (r : Text) × (a ∷ b ∷ y ∷ ys ≡ 45 ∷ 45 ∷ r) × (name_and_value r ≡ q)
    go true true h k = (y ∷ ys, ap₂ (λ u v. u ∷ v ∷ y ∷ ys) (eqb-true a 45 h) (eqb-true b 45 k), inside _ _ (rw (h, k) at e))
    go true false h k = absurd (some≢none q (rw (h, k) at e))
    go false t h k = absurd (some≢none q (rw h at e))

pub long_word : (x n : Text) → long_of x ≡ Some (n, None) → x ≡ 45 ∷ 45 ∷ n
long_word x n is =
    let s = long_shape x (n, None) is in
    go s.0 s.1 s.2 (has_byte 61 s.0) refl
  where
    go : (r : Text) → x ≡ 45 ∷ 45 ∷ r → name_and_value r ≡ (n, None) → (b : Bool) → has_byte 61 r ≡ b → x ≡ 45 ∷ 45 ∷ n
    go r a e true h = absurd (some≢none _ (sym (rw h at (ap (λ (p : Text × Option Text). p.1) e))))
    go r a e false h = a ∙ ap (λ z. 45 ∷ 45 ∷ z) (sym (no_equals r h) ∙ ap (λ (p : Text × Option Text). p.0) e)

pub long_value : (x n v : Text) → long_of x ≡ Some (n, Some v) → x ≡ 45 ∷ 45 ∷ n ++ 61 ∷ v
long_value x n v is =
    let s = long_shape x (n, Some v) is in
    go s.0 s.1 s.2 (has_byte 61 s.0) refl
  where
    go : (r : Text) → x ≡ 45 ∷ 45 ∷ r → name_and_value r ≡ (n, Some v) → (b : Bool) → has_byte 61 r ≡ b → x ≡ 45 ∷ 45 ∷ n ++ 61 ∷ v
    go r a e false h = absurd (some≢none _ (rw h at (ap (λ (p : Text × Option Text). p.1) e)))
    go r a e true h =
        let name : before_first is_equals r ≡ n = ap (λ (p : Text × Option Text). p.0) e in
        let value : after_first is_equals r ≡ v = inside _ _ (rw h at (ap (λ (p : Text × Option Text). p.1) e)) in
        a ∙ ap (λ z. 45 ∷ 45 ∷ z) (cut_equals r h) ∙ ap₂ (λ y z. 45 ∷ 45 ∷ y ++ 61 ∷ z) name value

pub wanting : (x : Text) → wants_value x ≡ true → (n : Text) × (x ≡ 45 ∷ 45 ∷ n) × (long_of x ≡ Some (n, None)) × ((v : Text) → long_of (x ++ 61 ∷ v) ≡ Some (n, Some v))
wanting x w = go (bytes_eq x (codes "--workers")) (bytes_eq x (codes "--budget")) refl refl
  where
    from : (y n : Text) → y ≡ 45 ∷ 45 ∷ n → long_of y ≡ Some (n, None) → ((v : Text) → long_of (y ++ 61 ∷ v) ≡ Some (n, Some v)) → x ≡ y
        → (n : Text) × (x ≡ 45 ∷ 45 ∷ n) × (long_of x ≡ Some (n, None)) × ((v : Text) → long_of (x ++ 61 ∷ v) ≡ Some (n, Some v))
    from y n a b d e = (n, e ∙ a, ap long_of e ∙ b, λ v. ap (λ z. long_of (z ++ 61 ∷ v)) e ∙ d v)

    go : (p q : Bool) → bytes_eq x (codes "--workers") ≡ p → bytes_eq x (codes "--budget") ≡ q
        → (n : Text) × (x ≡ 45 ∷ 45 ∷ n) × (long_of x ≡ Some (n, None)) × ((v : Text) → long_of (x ++ 61 ∷ v) ≡ Some (n, Some v))
    go true q h k = from (codes "--workers") (codes "workers") refl refl (λ v. refl) ((bytes_eq-Decides x (codes "--workers")).0 h)
    go false true h k = from (codes "--budget") (codes "budget") refl refl (λ v. refl) ((bytes_eq-Decides x (codes "--budget")).0 k)
    go false false h k = absurd (true≢false (sym (rw (h, k) at w)))

no_dash : (y : ℕ) → nat_eq 45 y ≡ false → nat_eq y 45 ≡ false
no_dash y e = grind arith

pub bare_is_open : (x : Text) → is_bare x ≡ true → long_of x ≡ None
bare_is_open [] e = refl
bare_is_open (y ∷ ys) e = go (nat_eq 45 y) refl
  where
    go : (b : Bool) → nat_eq 45 y ≡ b → long_of (y ∷ ys) ≡ None
    go true h = absurd (true≢false (sym (rw h at e)))
    go false h = rw (no_dash y h) refl

pub joined_apart : (x v : Text) (ws : List Text) → wants_value x ≡ true → options_joined (x ∷ v ∷ ws) ≡ (x ++ 61 ∷ v) ∷ options_joined ws
joined_apart x v ws h = rw h refl

pub joined_whole : (x v : Text) (ws : List Text) → wants_value x ≡ false → options_joined (x ∷ v ∷ ws) ≡ x ∷ options_joined (v ∷ ws)
joined_whole x v ws h = rw h refl

-- ---- texts

pub same_text : (a n : Text) → bytes_eq a n ≡ true → n ≡ a
same_text a n h = sym ((bytes_eq-Decides a n).0 h)

-- ---- what follows a text

pub after_is : (p x v : Text) → behind_start p x ≡ Some v → x ≡ p ++ v
after_is [] x v e = ap (λ o. or_empty o) e
  where
    or_empty : Option Text → Text
    or_empty None = []
    or_empty (Some t) = t
after_is (a ∷ p) [] v e = absurd (some≢none v e)
after_is (a ∷ p) (b ∷ x) v e = go (nat_eq a b) refl (after_is p x v)
  where
    go : (t : Bool) → nat_eq a b ≡ t → (behind_start p x ≡ Some v → x ≡ p ++ v) → b ∷ x ≡ a ∷ (p ++ v)
    go true h rec = ap (λ z. z ∷ x) (sym (eqb-true a b h)) ∙ ap (λ z. a ∷ z) (rec (rw h at e))
    go false h rec = absurd (some≢none v (rw h at e))
