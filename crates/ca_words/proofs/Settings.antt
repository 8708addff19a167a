-- Settings: their values are those that clap gives, a number has room and does not begin with `-`, and no option has a
-- default that clap would refuse.
use Rattle.std.proofs.Common.{◌≡◌, ◌∙◌, ◌&&◌, ◌||◌, ℕ, Bool, cond, true, false, refl, sym, ap, arith, List, [], ◌∷◌, length, map, Some, is_some, true≢false}
use Rattle.std.specs.Prelude.{nat_eq, nat_le, filter_map, option_and_then, option_to_list, slice_get}
use Rattle.std.specs.List.{list_all}
use Rattle.clap.specs.Faults.{default_fault}
use Rattle.clap.specs.Walk.{Row, has_row}
use Rattle.clap.proofs.WalkLemmas.{both}
use Rattle.ca_words.specs.Words.{Text, is_decimal_digit, is_number, number_asked, setting}
use Rattle.ca_words.proofs.Rules.{is_bare, valued}
use Rattle.ca_words.proofs.Rows.{HasRoom, Says, found}
use Rattle.ca_words.proofs.Taken.{any}
use Rattle.ca_words.proofs.Arguments.{Argument, Fits}

pub same : {X : Type 0} (b : Bool) (x : X) → cond b x x ≡ x
same true x = refl
same false x = refl

-- the values that the definition sees are those that clap gives
pub values_said : (i : Text) (row : Text → Row) (vs : List Text) (rows : List Row) → ((v : Text) → slice_get (row v).values 0 ≡ Some v)
    → Says i (map row vs) [] rows → option_to_list (option_and_then (λ (r : Row). slice_get r.values 0) (found i rows)) ≡ vs
values_said i row [] rows first h = rw h refl
values_said i row (v ∷ []) rows first h = rw (h.1, first v) refl
values_said i row (v ∷ w ∷ vs) rows first h = absurd h

digit_is_bare : (y : ℕ) → is_decimal_digit y ≡ true → nat_eq 45 y ≡ false
digit_is_bare y e = grind arith

pub number_is_bare : (v : Text) → is_number v ≡ true → is_bare v ≡ true
number_is_bare [] e = absurd (true≢false (sym e))
number_is_bare (y ∷ ys) e =
    let parts = both (nat_le 1 (length (y ∷ ys))) (nat_le (length (y ∷ ys)) 7 && list_all is_decimal_digit (y ∷ ys)) e in
    let digits = both (nat_le (length (y ∷ ys)) 7) (list_all is_decimal_digit (y ∷ ys)) parts.1 in
    let first = both (is_decimal_digit y) (list_all is_decimal_digit ys) digits.1 in
    rw (digit_is_bare y first.0) refl

pub number_from : (least most : ℕ) (v : Text) → is_some (number_asked least most v) ≡ true → is_number v ≡ true
number_from least most v e = go (is_number v) refl
  where
    go : (b : Bool) → is_number v ≡ b → is_number v ≡ true
    go true h = h
    go false h = absurd (true≢false (sym (rw h at e)))

pub setting_fits : (p : Argument) (default least most : ℕ) (js : List Text) → p.fits ≡ is_bare → is_some (setting default least most (filter_map p.value_in js)) ≡ true → Fits p js []
setting_fits p default least most js bare_values e = by (filter_map p.value_in js) e
  where
    by : (vs : List Text) → is_some (setting default least most vs) ≡ true → HasRoom p.id vs [] × (list_all p.fits vs ≡ true)
    by [] e = (tt, refl)
    by (v ∷ []) e = (refl, rw (ap (λ f. f v) bare_values ∙ number_is_bare v (number_from least most v e)) refl)
    by (v ∷ w ∷ vs) e = absurd (true≢false (sym e))

pub any_fits : (vs : List Text) → list_all any vs ≡ true
any_fits [] = refl
any_fits (v ∷ vs) = any_fits vs

pub or_true : (b : Bool) → (b || true) ≡ true
or_true true = refl
or_true false = refl

pub valued_default : (n : Text) (rows : List Row) → default_fault rows (valued n) ≡ []
valued_default n rows = rw (or_true (has_row n rows)) refl
