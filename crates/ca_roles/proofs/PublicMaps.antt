-- Builtins on maps answer with public values where their arguments are.
use Rattle.std.proofs.Common.{◌≡◌, ℕ, zero, suc, List, [], ◌∷◌, ◌++◌, subst, Bool, true, false, if◌then◌else◌, ◌==◌, nat_lt, length, slice_set, map as map_list, Some, None}
use Rattle.std.specs.Prelude.{ℤ, pos, negsuc, Ok, Err}
use Rattle.ca_value.specs.declared.fault.ValueFault.{ValueFault}
use Rattle.ca_value.specs.Tree.{Tree, nil, bool, int, text, key, vector, map, port, items_of, entries_of}
use Rattle.ca_value.specs.Equality.{equals}
use Rattle.ca_value.specs.Kinds.{integer_of, mapping_of}
use Rattle.ca_value.specs.Maps.{value_at, put_pair, put_all, without_pair, without_all, paired, item_under, get_of, item_set, all_set, places_of, assoc_of, dissoc_of, vector_or_nil, halves_of, pair_vector, walked}
use Rattle.ca_meaning.specs.Sound.{Each}
use Rattle.ca_roles.specs.Roles.{Roles, IsPublic}
use Rattle.ca_meaning.proofs.Waits.{each-append}
use Rattle.ca_roles.proofs.PublicParts.{AllPairsPublic, AllPublic, Gives, GivesPublic, PairPublic, after, any_gives, entries_public, item_public, items_public, mapping_gives, maybe_or, pairs_public, trees_public}

module _ (roles : Roles) where
  -- maps
  pub value_public : (ps : List (Tree × Tree)) (k : Tree) → AllPairsPublic roles ps → (v : Tree) → value_at ps k ≡ Some v → IsPublic roles v
  value_public [] k h v e = absurd (let j : None ≡ Some v = e in cc)
  value_public (p ∷ ps) k h v e = by (equals k p.0) e (value_public ps k h.1 v) where
    by : (b : Bool) → (if b then Some p.1 else value_at ps k) ≡ Some v → (value_at ps k ≡ Some v → IsPublic roles v) → IsPublic roles v
    by true e r = subst (IsPublic roles) (let j : p.1 ≡ v = cc in j) h.0.1
    by false e r = r e

  pub get_gives : (c k d : Tree) → IsPublic roles c → IsPublic roles d → GivesPublic roles (get_of c k d)
  get_gives (map ps) k d h hd = maybe_or roles (value_at (entries_of ps) k) d (value_public (entries_of ps) k (entries_public roles ps h)) hd
  get_gives (vector ts) k d h hd = maybe_or roles (item_under (items_of ts) k) d (under k) hd where
    under : (k : Tree) (v : Tree) → item_under (items_of ts) k ≡ Some v → IsPublic roles v
    under (int z) v e = item_public roles (items_of ts) z (items_public roles ts h) v e
    under nil v e = absurd (let j : None ≡ Some v = e in cc)
    under (bool b) v e = absurd (let j : None ≡ Some v = e in cc)
    under (text s) v e = absurd (let j : None ≡ Some v = e in cc)
    under (key s) v e = absurd (let j : None ≡ Some v = e in cc)
    under (vector us) v e = absurd (let j : None ≡ Some v = e in cc)
    under (map ps) v e = absurd (let j : None ≡ Some v = e in cc)
    under (port n) v e = absurd (let j : None ≡ Some v = e in cc)
  get_gives (text s) k d h hd = tt
  get_gives nil k d h hd = hd
  get_gives (bool b) k d h hd = hd
  get_gives (int z) k d h hd = hd
  get_gives (key s) k d h hd = hd
  get_gives (port n) k d h hd = hd

  pub put_public : (ps : List (Tree × Tree)) (k v : Tree) → AllPairsPublic roles ps → IsPublic roles k → IsPublic roles v → AllPairsPublic roles (put_pair ps k v)
  put_public [] k v h hk hv = ((hk, hv), tt)
  put_public (p ∷ ps) k v h hk hv = by (equals k p.0) (put_public ps k v h.1 hk hv) where
    by : (b : Bool) → AllPairsPublic roles (put_pair ps k v) → AllPairsPublic roles (if b then ((p.0, v) ∷ ps) else (p ∷ put_pair ps k v))
    by true r = ((h.0.0, hv), h.1)
    by false r = (h.0, r)

  pub put_all_public : (ps qs : List (Tree × Tree)) → AllPairsPublic roles ps → AllPairsPublic roles qs → AllPairsPublic roles (put_all ps qs)
  put_all_public ps [] h g = h
  put_all_public ps (q ∷ qs) h g = put_all_public (put_pair ps q.0 q.1) qs (put_public ps q.0 q.1 h g.0.0 g.0.1) g.1

  pub without_public : (ps : List (Tree × Tree)) (k : Tree) → AllPairsPublic roles ps → AllPairsPublic roles (without_pair ps k)
  without_public [] k h = tt
  without_public (p ∷ ps) k h = by (equals k p.0) (without_public ps k h.1) where
    by : (b : Bool) → AllPairsPublic roles (without_pair ps k) → AllPairsPublic roles (if b then ps else (p ∷ without_pair ps k))
    by true r = h.1
    by false r = (h.0, r)

  pub without_all_public : (ps : List (Tree × Tree)) (ks : List Tree) → AllPairsPublic roles ps → AllPairsPublic roles (without_all ps ks)
  without_all_public ps [] h = h
  without_all_public ps (k ∷ ks) h = without_all_public (without_pair ps k) ks (without_public ps k h)

  pub paired_public : (ts : List Tree) → AllPublic roles ts → AllPairsPublic roles (paired ts)
  paired_public [] h = tt
  paired_public (k ∷ []) h = tt
  paired_public (k ∷ v ∷ ts) h = ((h.0, h.1.0), paired_public ts h.1.1)

  abbrev pub PlacesPublic : List (ℤ × Tree) → Type 0
  PlacesPublic zs = Each (λ (z : ℤ × Tree). IsPublic roles z.1) zs

  pub places_gives : (qs : List (Tree × Tree)) → AllPairsPublic roles qs → Gives PlacesPublic (places_of qs)
  places_gives [] h = tt
  places_gives (q ∷ qs) h = after (λ z. Unit {0}) PlacesPublic (integer_of q.0) _ (any_gives (integer_of q.0)) (λ z u. after PlacesPublic PlacesPublic (places_of qs) _ (places_gives qs h.1) (λ zs k. (h.0.1, k)))

  pub set_public : (ts : List Tree) (n : ℕ) (v : Tree) → AllPublic roles ts → IsPublic roles v → AllPublic roles (slice_set ts n v)
  set_public [] n v h k = tt
  set_public (t ∷ ts) zero v h k = (k, h.1)
  set_public (t ∷ ts) (suc n) v h k = (h.0, set_public ts n v h.1 k)

  pub item_set_gives : (ts : List Tree) (z : ℤ) (v : Tree) → AllPublic roles ts → IsPublic roles v → Gives (AllPublic roles) (item_set ts z v)
  item_set_gives ts (pos n) v h k = by (nat_lt n (length ts)) (n == length ts) where
    by : (a b : Bool) → Gives (AllPublic roles) (if a then Ok (slice_set ts n v) else (if b then Ok (ts ++ v ∷ []) else Err ValueFault.OutOfRange))
    by true b = set_public ts n v h k
    by false true = each-append (IsPublic roles) ts (v ∷ []) h (k, tt)
    by false false = tt
  item_set_gives ts (negsuc n) v h k = tt

  pub all_set_gives : (ts : List Tree) (qs : List (ℤ × Tree)) → AllPublic roles ts → PlacesPublic qs → Gives (AllPublic roles) (all_set ts qs)
  all_set_gives ts [] h k = h
  all_set_gives ts (q ∷ qs) h k = after (AllPublic roles) (AllPublic roles) (item_set ts q.0 q.1) _ (item_set_gives ts q.0 q.1 h k.0) (λ us g. all_set_gives us qs g k.1)

  pub assoc_gives : (c : Tree) (us : List Tree) → IsPublic roles c → AllPublic roles us → GivesPublic roles (assoc_of c us)
  assoc_gives (map ps) us h hs = pairs_public roles (put_all (entries_of ps) (paired us)) (put_all_public (entries_of ps) (paired us) (entries_public roles ps h) (paired_public us hs))
  assoc_gives nil us h hs = pairs_public roles (put_all [] (paired us)) (put_all_public [] (paired us) tt (paired_public us hs))
  assoc_gives (vector ts) us h hs = after PlacesPublic (IsPublic roles) (places_of (paired us)) _ (places_gives (paired us) (paired_public us hs)) (λ zs k. after (AllPublic roles) (IsPublic roles) (all_set (items_of ts) zs) _ (all_set_gives (items_of ts) zs (items_public roles ts h) k) (λ ws g. trees_public roles ws g))
  assoc_gives (bool b) us h hs = tt
  assoc_gives (int z) us h hs = tt
  assoc_gives (text s) us h hs = tt
  assoc_gives (key s) us h hs = tt
  assoc_gives (port n) us h hs = tt

  pub dissoc_gives : (c : Tree) (ks : List Tree) → IsPublic roles c → GivesPublic roles (dissoc_of c ks)
  dissoc_gives (map ps) ks h = pairs_public roles (without_all (entries_of ps) ks) (without_all_public (entries_of ps) ks (entries_public roles ps h))
  dissoc_gives nil ks h = tt
  dissoc_gives (bool b) ks h = tt
  dissoc_gives (int z) ks h = tt
  dissoc_gives (text s) ks h = tt
  dissoc_gives (key s) ks h = tt
  dissoc_gives (vector vs) ks h = tt
  dissoc_gives (port n) ks h = tt

  pub or_nil_public : (ts : List Tree) → AllPublic roles ts → IsPublic roles (vector_or_nil ts)
  or_nil_public [] h = tt
  or_nil_public (t ∷ ts) h = (h.0, trees_public roles ts h.1)

  pub mapped_public : (f : Tree × Tree → Tree) → ((p : Tree × Tree) → PairPublic roles p → IsPublic roles (f p)) → (ps : List (Tree × Tree)) → AllPairsPublic roles ps → AllPublic roles (map_list f ps)
  mapped_public f g [] h = tt
  mapped_public f g (p ∷ ps) h = (g p h.0, mapped_public f g ps h.1)

  pub halves_gives : (f : Tree × Tree → Tree) → ((p : Tree × Tree) → PairPublic roles p → IsPublic roles (f p)) → (c : Tree) → IsPublic roles c → GivesPublic roles (halves_of f c)
  halves_gives f g c h = after (AllPairsPublic roles) (IsPublic roles) (mapping_of c) _ (mapping_gives roles c h) (λ ps k. or_nil_public (map_list f ps) (mapped_public f g ps k))

  pub walked_gives : (c : Tree) → IsPublic roles c → GivesPublic roles (walked c)
  walked_gives (map ps) h = trees_public roles (map_list pair_vector (entries_of ps)) (mapped_public pair_vector (λ p k. (k.0, (k.1, tt))) (entries_of ps) (entries_public roles ps h))
  walked_gives (vector ts) h = h
  walked_gives nil h = tt
  walked_gives (bool b) h = tt
  walked_gives (int z) h = tt
  walked_gives (text s) h = tt
  walked_gives (key s) h = tt
  walked_gives (port n) h = tt
