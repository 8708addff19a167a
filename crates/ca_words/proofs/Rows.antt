-- What rows say of an argument, before and after words are taken.
use Rattle.ca_words.specs.Words.{Text}
use Rattle.std.proofs.Common.{◌≡◌, ◌∙◌, ◌||◌, Bool, cond, true, false, refl, sym, ap, List, [], ◌∷◌, ◌++◌, Option, Some, None, is_some, true≢false}
use Rattle.std.specs.Prelude.{find}
use Rattle.std.specs.Str.{bytes_eq}
use Rattle.std.proofs.lemmas.List.{append-nil}
use Rattle.clap.specs.Walk.{Row, at_row, has_row, more_values, with_values, without}
use Rattle.clap.specs.declared.builder.value_parser.Reading.{Reading}
use Rattle.clap.specs.declared.parser.matches.ValueSource.{ValueSource}
use Rattle.ca_words.proofs.Steps.{same_bytes}
use Rattle.ca_words.proofs.LongWords.{some≢none}

abbrev pub found : Text → List Row → Option Row
found i rows = find (λ r. bytes_eq r.id i) rows

abbrev pub new_row : Text → Reading → ValueSource → List Text → Row
new_row n how s vs = record { id = n; values = vs; count = None; source = Some s; reading = how }

pub has_found : (i : Text) (rows : List Row) → has_row i rows ≡ is_some (found i rows)
has_found i [] = refl
has_found i (r ∷ rs) = go (bytes_eq r.id i) (has_found i rs)
  where
    go : (b : Bool) → has_row i rs ≡ is_some (found i rs) → (b || has_row i rs) ≡ is_some (cond b (Some r) (found i rs))
    go true e = refl
    go false e = e

pub not_there : (i : Text) (rows : List Row) → has_row i rows ≡ false → found i rows ≡ None
not_there i rows e = go (found i rows) refl
  where
    go : (o : Option Row) → found i rows ≡ o → found i rows ≡ None
    go None h = h
    go (Some r) h = absurd (true≢false (sym (ap is_some h) ∙ sym (has_found i rows) ∙ e))

pub there_not : (i : Text) (rows : List Row) → found i rows ≡ None → has_row i rows ≡ false
there_not i rows e = has_found i rows ∙ ap is_some e

at_missing : (n : Text) (change : Row → List Row) (missing rows : List Row) → has_row n rows ≡ false → at_row n change missing rows ≡ rows ++ missing
at_missing n change missing [] e = refl
at_missing n change missing (r ∷ rs) e = go (bytes_eq r.id n) refl (at_missing n change missing rs)
  where
    go : (b : Bool) → bytes_eq r.id n ≡ b → (has_row n rs ≡ false → at_row n change missing rs ≡ rs ++ missing) → at_row n change missing (r ∷ rs) ≡ r ∷ (rs ++ missing)
    go true h rec = absurd (true≢false (rw h at e))
    go false h rec = rw h (ap (λ xs. r ∷ xs) (rec (rw h at e)))

pub used_row : (n : Text) (how : Reading) (s : ValueSource) (vs : List Text) (rows : List Row) → has_row n rows ≡ false → with_values n how s vs (without n rows) ≡ rows ++ new_row n how s vs ∷ []
used_row n how s vs rows e =
    let same : without n rows ≡ rows = at_missing n (λ _. []) [] rows e ∙ append-nil rows in
    ap (with_values n how s vs) same ∙ at_missing n (more_values s vs) (new_row n how s vs ∷ []) rows e

pub default_row : (n : Text) (how : Reading) (s : ValueSource) (vs : List Text) (rows : List Row) → has_row n rows ≡ false → with_values n how s vs rows ≡ rows ++ new_row n how s vs ∷ []
default_row n how s vs rows e = at_missing n (more_values s vs) (new_row n how s vs ∷ []) rows e

pub found_last : (i : Text) (r : Row) (rows : List Row) → found i rows ≡ None → found i (rows ++ r ∷ []) ≡ found i (r ∷ [])
found_last i r [] e = refl
found_last i r (x ∷ xs) e = go (bytes_eq x.id i) refl (found_last i r xs)
  where
    go : (b : Bool) → bytes_eq x.id i ≡ b → (found i xs ≡ None → found i (xs ++ r ∷ []) ≡ found i (r ∷ [])) → found i (x ∷ (xs ++ r ∷ [])) ≡ found i (r ∷ [])
    go true h rec = absurd (some≢none x (sym (rw h at e)))
    go false h rec = rw h (rec (rw h at e))

pub found_before : (i : Text) (r : Row) (rows : List Row) → bytes_eq r.id i ≡ false → found i (rows ++ r ∷ []) ≡ found i rows
found_before i r [] e = rw e refl
found_before i r (x ∷ xs) e = go (bytes_eq x.id i) (found_before i r xs e)
  where
    go : (b : Bool) → found i (xs ++ r ∷ []) ≡ found i xs → cond b (Some x) (found i (xs ++ r ∷ [])) ≡ cond b (Some x) (found i xs)
    go true h = refl
    go false h = h

-- after the first use of an argument
pub new_found : (n : Text) (how : Reading) (s : ValueSource) (vs : List Text) (rows : List Row) → has_row n rows ≡ false
    → found n (with_values n how s vs (without n rows)) ≡ Some (new_row n how s vs)
new_found n how s vs rows e =
    ap (found n) (used_row n how s vs rows e) ∙ found_last n (new_row n how s vs) rows (not_there n rows e) ∙ rw (same_bytes n) refl

pub old_found : (i n : Text) (how : Reading) (s : ValueSource) (vs : List Text) (rows : List Row) → bytes_eq n i ≡ false → has_row n rows ≡ false
    → found i (with_values n how s vs (without n rows)) ≡ found i rows
old_found i n how s vs rows other e = ap (found i) (used_row n how s vs rows e) ∙ found_before i (new_row n how s vs) rows other

-- ---- what is said of an argument from rows `a` on, where rows `b` are come to

abbrev pub Says : Text → List Row → List Row → List Row → Type 0
Says i [] a b = found i b ≡ found i a
Says i (r ∷ []) a b = (found i a ≡ None) × (found i b ≡ Some r)
Says i (r ∷ s ∷ rs) a b = ⊥

pub says_other : (i : Text) (rs a c b : List Row) → found i c ≡ found i a → Says i rs c b → Says i rs a b
says_other i [] a c b e h = h ∙ e
says_other i (r ∷ []) a c b e h = (sym e ∙ h.0, h.1)
says_other i (r ∷ s ∷ rs) a c b e h = h

pub says_here : (i : Text) (r : Row) (rs a c b : List Row) → found i a ≡ None → found i c ≡ Some r → Says i rs c b → Says i (r ∷ rs) a b
says_here i r [] a c b none e h = (none, h ∙ e)
says_here i r (s ∷ []) a c b none e h = some≢none r (sym h.0 ∙ e)
says_here i r (s ∷ t ∷ rs) a c b none e h = h

-- what is said has room beside rows `a`
abbrev pub HasRoom : Text → List Text → List Row → Type 0
HasRoom i [] a = Unit {0}
HasRoom i (v ∷ []) a = found i a ≡ None
HasRoom i (v ∷ w ∷ vs) a = ⊥

pub room_other : (i : Text) (vs : List Text) (a c : List Row) → found i c ≡ found i a → HasRoom i vs a → HasRoom i vs c
room_other i [] a c e h = tt
room_other i (v ∷ []) a c e h = e ∙ h
room_other i (v ∷ w ∷ vs) a c e h = h

pub room_here : (i v : Text) (vs : List Text) (a : List Row) → HasRoom i (v ∷ vs) a → (found i a ≡ None) × ((c : List Row) → HasRoom i vs c)
room_here i v [] a h = (h, λ c. tt)
room_here i v (w ∷ vs) a h = absurd h
