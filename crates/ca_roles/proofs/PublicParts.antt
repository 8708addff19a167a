-- Parts of public values, and answers that are public.
use Rattle.std.proofs.Common.{◌≡◌, ℕ, zero, suc, List, [], ◌∷◌, refl, subst, Bool, take, drop, slice_get, Option, Some, None, unwrap_or}
use Rattle.std.specs.Prelude.{ℤ, pos, negsuc, Ok, Err}
use Rattle.ca_value.specs.Tree.{Tree, Trees, TreePairs, nil, bool, int, text, key, vector, map, port, none as no_trees, item as tree, empty as no_pairs, pair, trees_of, pairs_of, items_of, entries_of}
use Rattle.ca_value.specs.Outcome.{Answer, Outcome, ◌>>=◌, number_outcome, truth_outcome, of_one_argument, of_two_arguments, one_or_two, two_or_three, one_and_more}
use Rattle.ca_value.specs.Kinds.{vector_of, sequence_of, mapping_of}
use Rattle.ca_value.specs.Vectors.{item_at}
use Rattle.ca_meaning.specs.Sound.{Each}
use Rattle.ca_roles.specs.Roles.{Roles, IsPublic, ArePublic, ArePublicPairs}

-- an answer, if there is one
abbrev pub Gives : {A : Type 0} → (A → Type 0) → Answer A → Type 0
Gives P (Ok x) = P x
Gives P (Err f) = Unit {0}

pub any_gives : {A : Type 0} (m : Answer A) → Gives (λ x. Unit {0}) m
any_gives (Ok x) = tt
any_gives (Err f) = tt

pub after : {A B : Type 0} (P : A → Type 0) (Q : B → Type 0) (m : Answer A) (f : A → Answer B) → Gives P m → ((x : A) → P x → Gives Q (f x)) → Gives Q (m >>= f)
after P Q (Ok x) f g h = h x g
after P Q (Err e) f g h = tt

abbrev pub AllPublic : Roles → List Tree → Type 0
AllPublic roles ts = Each (IsPublic roles) ts

abbrev pub PairPublic : Roles → Tree × Tree → Type 0
PairPublic roles p = IsPublic roles p.0 × IsPublic roles p.1

abbrev pub AllPairsPublic : Roles → List (Tree × Tree) → Type 0
AllPairsPublic roles ps = Each (PairPublic roles) ps

abbrev pub GivesPublic : Roles → Outcome → Type 0
GivesPublic roles o = Gives (IsPublic roles) o

-- an argument that may be left out
abbrev pub DefaultPublic : Roles → Option Tree → Type 0
DefaultPublic roles None = Unit {0}
DefaultPublic roles (Some v) = IsPublic roles v

module _ (roles : Roles) where
  pub number_gives : (m : Answer ℤ) → GivesPublic roles (number_outcome m)
  number_gives (Ok z) = tt
  number_gives (Err f) = tt

  pub truth_gives : (m : Answer Bool) → GivesPublic roles (truth_outcome m)
  truth_gives (Ok b) = tt
  truth_gives (Err f) = tt

  -- lists and trees
  pub items_public : (vs : Trees) → ArePublic roles vs → AllPublic roles (items_of vs)
  items_public no_trees h = tt
  items_public (tree v vs) h = (h.0, items_public vs h.1)

  pub trees_public : (ts : List Tree) → AllPublic roles ts → ArePublic roles (trees_of ts)
  trees_public [] h = tt
  trees_public (t ∷ ts) h = (h.0, trees_public ts h.1)

  pub entries_public : (ps : TreePairs) → ArePublicPairs roles ps → AllPairsPublic roles (entries_of ps)
  entries_public no_pairs h = tt
  entries_public (pair k v ps) h = ((h.0, h.1), entries_public ps h.2)

  pub pairs_public : (ps : List (Tree × Tree)) → AllPairsPublic roles ps → ArePublicPairs roles (pairs_of ps)
  pairs_public [] h = tt
  pairs_public (p ∷ ps) h = (h.0.0, h.0.1, pairs_public ps h.1)

  pub sequence_gives : (c : Tree) → IsPublic roles c → Gives (AllPublic roles) (sequence_of c)
  sequence_gives (vector ts) h = items_public ts h
  sequence_gives nil h = tt
  sequence_gives (bool b) h = tt
  sequence_gives (int z) h = tt
  sequence_gives (text s) h = tt
  sequence_gives (key s) h = tt
  sequence_gives (map ps) h = tt
  sequence_gives (port n) h = tt

  pub vector_gives : (c : Tree) → IsPublic roles c → Gives (AllPublic roles) (vector_of c)
  vector_gives (vector ts) h = items_public ts h
  vector_gives nil h = tt
  vector_gives (bool b) h = tt
  vector_gives (int z) h = tt
  vector_gives (text s) h = tt
  vector_gives (key s) h = tt
  vector_gives (map ps) h = tt
  vector_gives (port n) h = tt

  pub mapping_gives : (c : Tree) → IsPublic roles c → Gives (AllPairsPublic roles) (mapping_of c)
  mapping_gives (map ps) h = entries_public ps h
  mapping_gives nil h = tt
  mapping_gives (bool b) h = tt
  mapping_gives (int z) h = tt
  mapping_gives (text s) h = tt
  mapping_gives (key s) h = tt
  mapping_gives (vector vs) h = tt
  mapping_gives (port n) h = tt

  pub maybe_or : (o : Option Tree) (d : Tree) → ((v : Tree) → o ≡ Some v → IsPublic roles v) → IsPublic roles d → IsPublic roles (unwrap_or o d)
  maybe_or None d h k = k
  maybe_or (Some v) d h k = h v refl

  pub get_public : (ts : List Tree) (n : ℕ) → AllPublic roles ts → (v : Tree) → slice_get ts n ≡ Some v → IsPublic roles v
  get_public [] n h v e = absurd (let k : None ≡ Some v = e in cc)
  get_public (t ∷ ts) zero h v e = subst (IsPublic roles) (let k : t ≡ v = cc in k) h.0
  get_public (t ∷ ts) (suc n) h v e = get_public ts n h.1 v e

  pub item_public : (ts : List Tree) (z : ℤ) → AllPublic roles ts → (v : Tree) → item_at ts z ≡ Some v → IsPublic roles v
  item_public ts (pos n) h v e = get_public ts n h v e
  item_public ts (negsuc n) h v e = absurd (let k : None ≡ Some v = e in cc)

  pub take_public : (n : ℕ) (ts : List Tree) → AllPublic roles ts → AllPublic roles (take n ts)
  take_public zero ts h = tt
  take_public (suc n) [] h = tt
  take_public (suc n) (t ∷ ts) h = (h.0, take_public n ts h.1)

  pub drop_public : (n : ℕ) (ts : List Tree) → AllPublic roles ts → AllPublic roles (drop n ts)
  drop_public zero ts h = h
  drop_public (suc n) [] h = tt
  drop_public (suc n) (t ∷ ts) h = drop_public n ts h.1

  -- numbers of arguments
  pub one_gives : (ts : List Tree) (f : Tree → Outcome) → AllPublic roles ts → ((a : Tree) → IsPublic roles a → GivesPublic roles (f a)) → GivesPublic roles (of_one_argument ts f)
  one_gives [] f h k = tt
  one_gives (a ∷ []) f h k = k a h.0
  one_gives (a ∷ b ∷ ts) f h k = tt

  pub two_gives : (ts : List Tree) (f : Tree → Tree → Outcome) → AllPublic roles ts → ((a b : Tree) → IsPublic roles a → IsPublic roles b → GivesPublic roles (f a b)) → GivesPublic roles (of_two_arguments ts f)
  two_gives [] f h k = tt
  two_gives (a ∷ []) f h k = tt
  two_gives (a ∷ b ∷ []) f h k = k a b h.0 h.1.0
  two_gives (a ∷ b ∷ c ∷ ts) f h k = tt

  pub one_or_two_gives : (ts : List Tree) (f : Tree → Option Tree → Outcome) → AllPublic roles ts → ((a : Tree) (b : Option Tree) → GivesPublic roles (f a b)) → GivesPublic roles (one_or_two ts f)
  one_or_two_gives [] f h k = tt
  one_or_two_gives (a ∷ []) f h k = k a None
  one_or_two_gives (a ∷ b ∷ []) f h k = k a (Some b)
  one_or_two_gives (a ∷ b ∷ c ∷ ts) f h k = tt

  pub two_or_three_gives : (ts : List Tree) (f : Tree → Tree → Option Tree → Outcome) → AllPublic roles ts → ((a b : Tree) (c : Option Tree) → IsPublic roles a → IsPublic roles b → DefaultPublic roles c → GivesPublic roles (f a b c)) → GivesPublic roles (two_or_three ts f)
  two_or_three_gives [] f h k = tt
  two_or_three_gives (a ∷ []) f h k = tt
  two_or_three_gives (a ∷ b ∷ []) f h k = k a b None h.0 h.1.0 tt
  two_or_three_gives (a ∷ b ∷ c ∷ []) f h k = k a b (Some c) h.0 h.1.0 h.1.1.0
  two_or_three_gives (a ∷ b ∷ c ∷ d ∷ ts) f h k = tt

  pub more_gives : (ts : List Tree) (f : Tree → List Tree → Outcome) → AllPublic roles ts → ((a : Tree) (us : List Tree) → IsPublic roles a → AllPublic roles us → GivesPublic roles (f a us)) → GivesPublic roles (one_and_more ts f)
  more_gives [] f h k = tt
  more_gives (a ∷ ts) f h k = k a ts h.0 h.1
