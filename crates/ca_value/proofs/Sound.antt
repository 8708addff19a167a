-- Lists of trees that are regular, and what keeps them so.
use Rattle.std.proofs.Common.{ℕ, zero, suc, Bool, true, false, cond, List, [], ◌∷◌, ◌++◌, take, drop, Option, Some, None, Ok, Err}
use Rattle.std.specs.Prelude.{slice_get, slice_set, unwrap_or, ok_or}
use Rattle.ca_value.specs.declared.fault.ValueFault.{ValueFault}
use Rattle.ca_value.specs.Tree.{Tree, Trees, TreePairs, vector, map as map_tree, none, item, empty, pair, trees_of, pairs_of, items_of, entries_of}
use Rattle.ca_value.specs.IsValue.{Scalars, IsRegular, AreRegular, ArePairsRegular}
use Rattle.ca_value.specs.Outcome.{Answer, Outcome, ◌>>=◌, truth_outcome}
use Rattle.ca_value.specs.Kinds.{vector_of, sequence_of, mapping_of}

-- of an answer that there is
abbrev pub AnswerIs : {A : Type 0} → (A → Type 0) → Answer A → Type 0
AnswerIs P (Ok x) = P x
AnswerIs P (Err f) = Unit {0}

pub goes_on : {A B : Type 0} (P : A → Type 0) (Q : B → Type 0) (r : Answer A) (f : A → Answer B) → AnswerIs P r → ((x : A) → P x → AnswerIs Q (f x)) → AnswerIs Q (r >>= f)
goes_on P Q (Ok x) f p h = h x p
goes_on P Q (Err e) f p h = tt

pub goes_on_any : {A B : Type 0} (Q : B → Type 0) (r : Answer A) (f : A → Answer B) → ((x : A) → AnswerIs Q (f x)) → AnswerIs Q (r >>= f)
goes_on_any Q (Ok x) f h = h x
goes_on_any Q (Err e) f h = tt

pub choice_sound : {A : Type 0} (P : A → Type 0) (b : Bool) (x y : A) → P x → P y → P (cond b x y)
choice_sound P true x y p q = p
choice_sound P false x y p q = q

module _ (w : Scalars) where
  abbrev pub AreSound : List Tree → Type 0
  AreSound [] = Unit {0}
  AreSound (t ∷ ts) = IsRegular w t × AreSound ts

  abbrev pub PairsAreSound : List (Tree × Tree) → Type 0
  PairsAreSound [] = Unit {0}
  PairsAreSound (p ∷ ps) = IsRegular w p.0 × IsRegular w p.1 × PairsAreSound ps

  abbrev pub IsSoundOption : Option Tree → Type 0
  IsSoundOption None = Unit {0}
  IsSoundOption (Some t) = IsRegular w t

  abbrev pub IsSound : Outcome → Type 0
  IsSound o = AnswerIs (IsRegular w) o

  pub truth_sound : (r : Answer Bool) → IsSound (truth_outcome r)
  truth_sound (Ok b) = tt
  truth_sound (Err f) = tt

  -- from lists to trees and back
  pub trees_sound : (ts : List Tree) → AreSound ts → AreRegular w (trees_of ts)
  trees_sound [] s = tt
  trees_sound (t ∷ ts) s = (s.0, trees_sound ts s.1)

  pub items_sound : (ts : Trees) → AreRegular w ts → AreSound (items_of ts)
  items_sound none s = tt
  items_sound (item t ts) s = (s.0, items_sound ts s.1)

  pub pairs_sound : (ps : List (Tree × Tree)) → PairsAreSound ps → ArePairsRegular w (pairs_of ps)
  pairs_sound [] s = tt
  pairs_sound (p ∷ ps) s = (s.0, s.1, pairs_sound ps s.2)

  pub entries_sound : (ps : TreePairs) → ArePairsRegular w ps → PairsAreSound (entries_of ps)
  entries_sound empty s = tt
  entries_sound (pair k v ps) s = (s.0, s.1, entries_sound ps s.2)

  pub vector_of_sound : (c : Tree) → IsRegular w c → AnswerIs AreSound (vector_of c)
  vector_of_sound (vector ts) s = items_sound ts s
  vector_of_sound c s = tt

  pub sequence_of_sound : (c : Tree) → IsRegular w c → AnswerIs AreSound (sequence_of c)
  sequence_of_sound (vector ts) s = items_sound ts s
  sequence_of_sound c s = tt

  pub mapping_of_sound : (c : Tree) → IsRegular w c → AnswerIs PairsAreSound (mapping_of c)
  mapping_of_sound (map_tree ps) s = entries_sound ps s.1
  mapping_of_sound c s = tt

  -- lists
  pub append_sound : (xs ys : List Tree) → AreSound xs → AreSound ys → AreSound (xs ++ ys)
  append_sound [] ys s r = r
  append_sound (x ∷ xs) ys s r = (s.0, append_sound xs ys s.1 r)

  pub take_sound : (n : ℕ) (xs : List Tree) → AreSound xs → AreSound (take n xs)
  take_sound zero xs s = tt
  take_sound (suc n) [] s = tt
  take_sound (suc n) (x ∷ xs) s = (s.0, take_sound n xs s.1)

  pub drop_sound : (n : ℕ) (xs : List Tree) → AreSound xs → AreSound (drop n xs)
  drop_sound zero xs s = s
  drop_sound (suc n) [] s = tt
  drop_sound (suc n) (x ∷ xs) s = drop_sound n xs s.1

  pub set_sound : (xs : List Tree) (n : ℕ) (t : Tree) → AreSound xs → IsRegular w t → AreSound (slice_set xs n t)
  set_sound [] n t s r = tt
  set_sound (x ∷ xs) zero t s r = (r, s.1)
  set_sound (x ∷ xs) (suc n) t s r = (s.0, set_sound xs n t s.1 r)

  pub get_sound : (xs : List Tree) (n : ℕ) → AreSound xs → IsSoundOption (slice_get xs n)
  get_sound [] n s = tt
  get_sound (x ∷ xs) zero s = s.0
  get_sound (x ∷ xs) (suc n) s = get_sound xs n s.1

  pub unwrap_sound : (o : Option Tree) (d : Tree) → IsSoundOption o → IsRegular w d → IsRegular w (unwrap_or o d)
  unwrap_sound None d s r = r
  unwrap_sound (Some t) d s r = s

  pub ok_or_sound : (o : Option Tree) (f : ValueFault) → IsSoundOption o → IsSound (ok_or o f)
  ok_or_sound None f s = tt
  ok_or_sound (Some t) f s = s
