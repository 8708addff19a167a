-- One step of clap's walk over the words of a command: by options with one value, flags and positionals, over
-- words that are neither `--` nor short options.
use Rattle.ca_words.specs.Words.{Text}
use Rattle.std.proofs.Common.{◌≡◌, ◌⊎◌, ◌&&◌, ℕ, Bool, true, false, not, refl, sym, ap, List, [], ◌∷◌, Option, Some, None, inl, inr, true≢false}
use Rattle.std.proofs.lemmas.Slice.Eq.{bytes_eq-Decides}
use Rattle.std.specs.Prelude.{if◌then◌else◌}
use Rattle.std.specs.Str.{bytes_eq}
use Rattle.clap.specs.Lexer.{long_of}
use Rattle.clap.specs.Kinds.{Kinds, or_else}
use Rattle.clap.specs.declared.error.kind.ErrorKind.{ErrorKind}
use Rattle.clap.specs.declared.error.kind.ErrorKind.TheVariants as kind
use Rattle.clap.specs.Faults.{settle_fault, turn_fault, use_fault}
use Rattle.clap.specs.Walk.{Row, Rule, Walk, arg_by_id, arg_by_index, arg_by_long, has_row, settled_rows, used, walked}
use Rattle.ca_words.proofs.Rules.{IsOpen, at, flag, held, leaf, next_place, place, valued, wait}

-- ---- kinds

abbrev is_nil : Kinds → Bool
is_nil [] = true
is_nil (y ∷ ys) = false

pub cons≢nil : (k : ErrorKind) (ks : Kinds) → k ∷ ks ≡ [] → ⊥
cons≢nil k ks e = true≢false (sym (ap is_nil e))

pub none_of : (a b : Kinds) → or_else a b ≡ [] → (a ≡ []) × (b ≡ [])
none_of [] b e = (refl, e)
none_of (k ∷ ks) b e = absurd (cons≢nil k ks e)

pub both_none : (a b : Kinds) → a ≡ [] → b ≡ [] → or_else a b ≡ []
both_none a b x y = rw (x, y) refl

pub not_several : (b : Bool) → (b && false) ≡ false
not_several true = refl
not_several false = refl

pub same_bytes : (n : Text) → bytes_eq n n ≡ true
same_bytes n = (bytes_eq-Decides n n).1 refl

pub no_second : (a : Kinds) → or_else a [] ≡ a
no_second [] = refl
no_second (k ∷ ks) = refl

module _ (m : Text) (c : List Rule) where
  abbrev pub turn : Walk → Text → Kinds
  turn w x = turn_fault (leaf m c) [] w x

  abbrev pub settle : List Row → Option (Text × List Text) → Kinds
  settle rows p = settle_fault c false (held rows p)

  -- ---- an option that waits for its value
  pub waits_walk : (rows : List Row) (p : Option (Text × List Text)) (k : ℕ) (x n : Text) → bytes_eq x (45 ∷ 45 ∷ []) ≡ false → long_of x ≡ Some (n, None)
      → arg_by_long c n ≡ Some (valued n) → walked c [] (at rows p k) x ≡ wait (settled_rows c p rows) n k
  unfolding walked
  waits_walk rows p k x n dash is arg = rw (dash, is, arg) refl

  pub waits_turn : (rows : List Row) (p : Option (Text × List Text)) (k : ℕ) (x n : Text) → bytes_eq x (45 ∷ 45 ∷ []) ≡ false → long_of x ≡ Some (n, None)
      → arg_by_long c n ≡ Some (valued n) → turn (at rows p k) x ≡ settle rows p
  waits_turn rows p k x n dash is arg = rw (dash, is, arg) (no_second (settle rows p))

  -- ---- an option with its value
  pub given_walk : (rows : List Row) (p : Option (Text × List Text)) (k : ℕ) (x n v : Text) → bytes_eq x (45 ∷ 45 ∷ []) ≡ false → long_of x ≡ Some (n, Some v)
      → arg_by_long c n ≡ Some (valued n) → walked c [] (at rows p k) x ≡ at (used (valued n) (v ∷ []) (settled_rows c p rows)) None k
  unfolding walked
  given_walk rows p k x n v dash is arg = rw (dash, is, arg) refl

  -- ---- a flag
  pub flag_walk : (rows : List Row) (p : Option (Text × List Text)) (k : ℕ) (x n : Text) → bytes_eq x (45 ∷ 45 ∷ []) ≡ false → long_of x ≡ Some (n, None)
      → arg_by_long c n ≡ Some (flag n) → walked c [] (at rows p k) x ≡ at (used (flag n) [] (settled_rows c p rows)) None k
  unfolding walked
  flag_walk rows p k x n dash is arg = rw (dash, is, arg) refl

  pub given_turn : (rows : List Row) (p : Option (Text × List Text)) (k : ℕ) (x n v : Text) → bytes_eq x (45 ∷ 45 ∷ []) ≡ false → long_of x ≡ Some (n, Some v)
      → arg_by_long c n ≡ Some (valued n) → turn (at rows p k) x ≡ or_else (settle rows p) (use_fault false (valued n) (v ∷ []) (settled_rows c p rows))
  given_turn rows p k x n v dash is arg = rw (dash, is, arg) (no_second _)

  pub flag_turn : (rows : List Row) (p : Option (Text × List Text)) (k : ℕ) (x n : Text) → bytes_eq x (45 ∷ 45 ∷ []) ≡ false → long_of x ≡ Some (n, None)
      → arg_by_long c n ≡ Some (flag n) → turn (at rows p k) x ≡ or_else (settle rows p) (use_fault false (flag n) [] (settled_rows c p rows))
  flag_turn rows p k x n dash is arg = rw (dash, is, arg) (no_second _)

  -- ---- an unknown option, a flag with a value
  pub unknown_turn : (rows : List Row) (p : Option (Text × List Text)) (k : ℕ) (x n : Text) (v : Option Text) → bytes_eq x (45 ∷ 45 ∷ []) ≡ false → long_of x ≡ Some (n, v)
      → arg_by_long c n ≡ None → turn (at rows p k) x ≡ kind.UnknownArgument ∷ []
  unknown_turn rows p k x n v dash is arg = rw (dash, is, arg) refl

  pub full_turn : (rows : List Row) (p : Option (Text × List Text)) (k : ℕ) (x n v : Text) → bytes_eq x (45 ∷ 45 ∷ []) ≡ false → long_of x ≡ Some (n, Some v)
      → arg_by_long c n ≡ Some (flag n) → turn (at rows p k) x ≡ kind.TooManyValues ∷ []
  full_turn rows p k x n v dash is arg = rw (dash, is, arg) refl

  -- ---- a value of a positional
  pub place_walk : (rows : List Row) (p : Option (Text × List Text)) (k : ℕ) (x n : Text) → IsOpen x → long_of x ≡ None
      → arg_by_index c k ≡ Some (place n k) → walked c [] (at rows p k) x ≡ at (settled_rows c p rows) (Some (n, x ∷ [])) (next_place k)
  unfolding walked
  place_walk rows p k x n o is arg = rw (o.0, is, o.1, arg) (rw not_several refl)

  pub place_turn : (rows : List Row) (p : Option (Text × List Text)) (k : ℕ) (x n : Text) → IsOpen x → long_of x ≡ None
      → arg_by_index c k ≡ Some (place n k) → turn (at rows p k) x ≡ settle rows p
  place_turn rows p k x n o is arg = rw (o.0, is, o.1, arg) (rw not_several refl)

  pub stray_turn : (rows : List Row) (p : Option (Text × List Text)) (k : ℕ) (x : Text) → IsOpen x → long_of x ≡ None
      → arg_by_index c k ≡ None → turn (at rows p k) x ≡ kind.UnknownArgument ∷ []
  stray_turn rows p k x o is arg = rw (o.0, is, o.1, arg) refl

  -- ---- the word after an option that waits for its value
  pub value_walk : (rows : List Row) (k : ℕ) (x n : Text) → IsOpen x → long_of x ≡ None
      → arg_by_id c n ≡ Some (valued n) → walked c [] (wait rows n k) x ≡ at rows (Some (n, x ∷ [])) k
  unfolding walked
  value_walk rows k x n o is arg = rw (o.0, is, o.1, arg, same_bytes n) refl

  pub value_turn : (rows : List Row) (k : ℕ) (x n : Text) → IsOpen x → long_of x ≡ None
      → arg_by_id c n ≡ Some (valued n) → turn (wait rows n k) x ≡ []
  value_turn rows k x n o is arg = rw (o.0, is, o.1) refl

  -- no value
  pub empty_settle : (rows : List Row) (n : Text) → arg_by_id c n ≡ Some (valued n) → settle rows (Some (n, [])) ≡ kind.InvalidValue ∷ []
  empty_settle rows n arg = rw arg refl

  pub other_long_turn : (rows : List Row) (k : ℕ) (x n y : Text) (v : Option Text) → bytes_eq x (45 ∷ 45 ∷ []) ≡ false → long_of x ≡ Some (y, v)
      → arg_by_id c n ≡ Some (valued n) → (arg_by_long c y ≡ None) ⊎ ((arg_by_long c y ≡ Some (valued y)) ⊎ (arg_by_long c y ≡ Some (flag y)))
      → turn (wait rows n k) x ≡ [] → ⊥
  other_long_turn rows k x n y v dash is arg (inl a) e = cons≢nil _ _ (rw (dash, is, a) at e)
  other_long_turn rows k x n y (Some v) dash is arg (inr (inl a)) e = cons≢nil _ _ (rw (dash, is, a, arg) at e)
  other_long_turn rows k x n y None dash is arg (inr (inl a)) e = cons≢nil _ _ (rw (dash, is, a, arg) at e)
  other_long_turn rows k x n y (Some v) dash is arg (inr (inr a)) e = cons≢nil _ _ (rw (dash, is, a) at e)
  other_long_turn rows k x n y None dash is arg (inr (inr a)) e = cons≢nil _ _ (rw (dash, is, a, arg) at e)

-- ---- when a use passes

unrepeated : (b : Bool) → or_else (if b && not false then kind.ArgumentConflict ∷ [] else []) [] ≡ [] → b ≡ false
unrepeated false e = refl
unrepeated true e = absurd (cons≢nil _ _ e)

pub fresh_value : (n v : Text) (rows : List Row) → use_fault false (valued n) (v ∷ []) rows ≡ [] → has_row n rows ≡ false
fresh_value n v rows e = unrepeated (has_row n rows) e

pub value_fresh : (n v : Text) (rows : List Row) → has_row n rows ≡ false → use_fault false (valued n) (v ∷ []) rows ≡ []
value_fresh n v rows h = rw h refl

pub fresh_flag : (n : Text) (rows : List Row) → use_fault false (flag n) [] rows ≡ [] → has_row n rows ≡ false
fresh_flag n rows e = unrepeated (has_row n rows) e

pub flag_fresh : (n : Text) (rows : List Row) → has_row n rows ≡ false → use_fault false (flag n) [] rows ≡ []
flag_fresh n rows h = rw h refl

pub fresh_place : (n v : Text) (k : ℕ) (rows : List Row) → use_fault false (place n k) (v ∷ []) rows ≡ [] → has_row n rows ≡ false
fresh_place n v k rows e = unrepeated (has_row n rows) e

pub place_fresh : (n v : Text) (k : ℕ) (rows : List Row) → has_row n rows ≡ false → use_fault false (place n k) (v ∷ []) rows ≡ []
place_fresh n v k rows h = rw h refl
