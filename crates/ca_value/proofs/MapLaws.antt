-- Maps as lists of pairs: what holds where a key is, and where it is not.
use Rattle.std.proofs.Common.{◌≡◌, ℕ, ◌<◌, Bool, true, false, List, [], ◌∷◌, ◌++◌, length, Option, Some, None, refl, ap, arith, add-one}
use Rattle.std.specs.Prelude.{slice_get, slice_set, slice_index_or, remove, option_map, MatchOption}
use Rattle.std.proofs.lemmas.Option.{MatchOption-at_some, MatchOption-at_none}
use Rattle.ca_value.specs.Tree.{Tree, nil, pairs_of}
use Rattle.ca_value.specs.Equality.{equals, has_key}
use Rattle.ca_value.specs.Maps.{key_place, value_at, put_pair, without_pair}

-- the key stands first at this place
pub record IsAtPlace (ps : List (Tree × Tree)) (k : Tree) (i : ℕ) : Type 0 where
  pub within : i < length ps
  pub found : value_at ps k ≡ option_map (λ p. p.1) (slice_get ps i)
  pub set : (v : Tree) → put_pair ps k v ≡ slice_set ps i ((slice_index_or ps i (nil, nil)).0, v)
  pub left : without_pair ps k ≡ remove ps i

-- the key is not there
pub record IsAbsent (ps : List (Tree × Tree)) (k : Tree) : Type 0 where
  pub missing : value_at ps k ≡ None
  pub added : (v : Tree) → put_pair ps k v ≡ ps ++ (k, v) ∷ []
  pub same : without_pair ps k ≡ ps
  pub fresh : has_key k (pairs_of ps) ≡ false

step : (p : Tree × Tree) (ps : List (Tree × Tree)) (k : Tree) (b : Bool) → equals k p.0 ≡ b → (o : Option ℕ) → key_place ps k ≡ o →
    MatchOption o (IsAbsent ps k) (IsAtPlace ps k) →
    MatchOption (key_place (p ∷ ps) k) (IsAbsent (p ∷ ps) k) (IsAtPlace (p ∷ ps) k)
step p ps k true e o d h = rw e (record { within = omega arith; found = rw e refl; set = λ v. rw e refl; left = rw e refl })
step p ps k false e None d h =
    rw (e, d) (record { missing = rw e h.missing; added = λ v. rw e (ap (λ qs. p ∷ qs) (h.added v)); same = rw e (ap (λ qs. p ∷ qs) h.same); fresh = rw e h.fresh })
step p ps k false e (Some i) d h =
    rw (e, d, add-one) (record { within = omega arith; found = rw e h.found; set = λ v. rw e (ap (λ qs. p ∷ qs) (h.set v)); left = rw e (ap (λ qs. p ∷ qs) h.left) })

pub placed : (ps : List (Tree × Tree)) (k : Tree) → MatchOption (key_place ps k) (IsAbsent ps k) (IsAtPlace ps k)
placed [] k = record { missing = refl; added = λ v. refl; same = refl; fresh = refl }
placed (p ∷ ps) k = step p ps k (equals k p.0) refl (key_place ps k) refl (placed ps k)

pub at_place : (ps : List (Tree × Tree)) (k : Tree) (i : ℕ) → key_place ps k ≡ Some i → IsAtPlace ps k i
at_place ps k i e = MatchOption-at_some (IsAbsent ps k) (IsAtPlace ps k) i e (placed ps k)

pub absent : (ps : List (Tree × Tree)) (k : Tree) → key_place ps k ≡ None → IsAbsent ps k
absent ps k e = MatchOption-at_none (IsAbsent ps k) (IsAtPlace ps k) e (placed ps k)
