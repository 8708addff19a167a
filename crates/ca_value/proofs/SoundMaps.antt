-- The builtins on maps keep the keys of each map distinct.
use Rattle.std.proofs.Common.{◌≡◌, ℕ, ◌+◌, ◌<◌, zero, suc, ℤ, pos, negsuc, Bool, true, false, List, [], ◌∷◌, ◌++◌, length, map, take, drop, Option, Some, None, Ok, Err, refl, sym, ap, ◌∙◌, subst, arith}
use Rattle.std.specs.Prelude.{slice_set, slice_index_or, remove, AllPairs, nat_lt, ◌==◌}
use Rattle.std.proofs.lemmas.List.{map_push, map-set, set-get_or, get_or-map, length-map, map-append, take-map, drop-map}
use Rattle.std.proofs.lemmas.Option.{none-some}
use Rattle.std.proofs.lemmas.List.Quantifiers.{all_pairs_push, all_pairs_remove}
use Rattle.ca_value.specs.declared.fault.ValueFault.TheVariants.{OutOfRange}
use Rattle.ca_value.specs.Tree.{Tree, nil, int, text, vector, map as map_tree, items_of, entries_of}
use Rattle.ca_value.specs.Equality.{equals}
use Rattle.ca_value.specs.IsValue.{Scalars, IsRegular, KeysDiffer}
use Rattle.ca_value.specs.Kinds.{integer_of, mapping_of, vector_from, map_from}
use Rattle.ca_value.specs.Maps.{key_place, value_at, put_pair, put_all, without_pair, without_all, paired, item_under, get_of, item_set, all_set, places_of, items_assoc, assoc_of, dissoc_of, vector_or_nil, keys_of, values_of_map, pair_vector, walked}
use Rattle.ca_value.proofs.Lists.{entries_of_pairs_of}
use Rattle.ca_value.proofs.MapLaws.{IsAtPlace, at_place, absent}
use Rattle.ca_value.proofs.Sound.{AreSound, PairsAreSound, IsSoundOption, AnswerIs, IsSound, goes_on, goes_on_any, choice_sound, trees_sound, items_sound, pairs_sound, entries_sound, mapping_of_sound, append_sound, set_sound, unwrap_sound}
use Rattle.ca_value.proofs.SoundVectors.{item_at_sound}

module _ (w : Scalars) where
  abbrev keys : List (Tree × Tree) → List Tree
  keys ps = map (λ (p : Tree × Tree). p.0) ps

  -- a map of pairs that are sound and whose keys differ
  pub record IsSoundMap (ps : List (Tree × Tree)) : Type 0 where
    pub differ : KeysDiffer ps
    pub parts : PairsAreSound w ps

  pub map_sound : (ps : List (Tree × Tree)) → IsSoundMap ps → IsRegular w (map_from ps)
  map_sound ps s =
      let P : List (Tree × Tree) → Type 0 = λ qs. KeysDiffer qs in
      (subst P (sym (entries_of_pairs_of ps)) s.differ, pairs_sound w ps s.parts)

  value_at_sound : (ps : List (Tree × Tree)) (k : Tree) → PairsAreSound w ps → IsSoundOption w (value_at ps k)
  value_at_sound [] k s = tt
  value_at_sound (p ∷ ps) k s = choice_sound (IsSoundOption w) (equals k p.0) (Some p.1) (value_at ps k) s.1 (value_at_sound ps k s.2)

  -- the parts after a put, and without a key
  put_parts : (ps : List (Tree × Tree)) (k v : Tree) → PairsAreSound w ps → IsRegular w k → IsRegular w v → PairsAreSound w (put_pair ps k v)
  put_parts [] k v s a b = (a, b, tt)
  put_parts (p ∷ ps) k v s a b = choice_sound (PairsAreSound w) (equals k p.0) ((p.0, v) ∷ ps) (p ∷ put_pair ps k v) (s.0, b, s.2) (s.0, s.1, put_parts ps k v s.2 a b)

  without_parts : (ps : List (Tree × Tree)) (k : Tree) → PairsAreSound w ps → PairsAreSound w (without_pair ps k)
  without_parts [] k s = tt
  without_parts (p ∷ ps) k s = choice_sound (PairsAreSound w) (equals k p.0) ps (p ∷ without_pair ps k) s.2 (s.0, s.1, without_parts ps k s.2)

  -- a key that has no place is equal to no key
  unequal_step : (p : Tree × Tree) (ps : List (Tree × Tree)) (k : Tree) (b : Bool) → equals k p.0 ≡ b → (o : Option ℕ) → key_place ps k ≡ o → key_place (p ∷ ps) k ≡ None → (equals k p.0 ≡ false) × (key_place ps k ≡ None)
  unequal_step p ps k true e o d h = absurd (none-some 0 (sym (rw e at h)))
  unequal_step p ps k false e None d h = (e, d)
  unequal_step p ps k false e (Some i) d h = absurd (none-some (i + 1) (sym (rw (e, d) at h)))

  unequal : (ps : List (Tree × Tree)) (k : Tree) → key_place ps k ≡ None → (j : ℕ) (d : Tree) → j < length (keys ps) → equals k (slice_index_or (keys ps) j d) ≡ false
  unequal [] k h j d l = absurd (omega arith)
  unequal (p ∷ ps) k h zero d l = (unequal_step p ps k (equals k p.0) refl (key_place ps k) refl h).0
  unequal (p ∷ ps) k h (suc j) d l = unequal ps k (unequal_step p ps k (equals k p.0) refl (key_place ps k) refl h).1 j d (omega arith)

  -- a put keeps the keys, or adds one that differs from all
  put_keys : (ps : List (Tree × Tree)) (k v : Tree) (i : ℕ) → IsAtPlace ps k i → keys (put_pair ps k v) ≡ keys ps
  put_keys ps k v i at =
      ap keys (at.set v)
      ∙ map-set (λ (p : Tree × Tree). p.0) ps i ((slice_index_or ps i (nil, nil)).0, v)
      ∙ ap (slice_set (keys ps) i) (sym (get_or-map (λ (p : Tree × Tree). p.0) ps i (nil, nil) nil at.within))
      ∙ set-get_or (keys ps) i nil

  put_differ : (ps : List (Tree × Tree)) (k v : Tree) (o : Option ℕ) → key_place ps k ≡ o → KeysDiffer ps → KeysDiffer (put_pair ps k v)
  put_differ ps k v (Some i) e h =
      let P : List Tree → Type 0 = λ ks. AllPairs (λ k l. equals l k ≡ false) ks in
      subst P (sym (put_keys ps k v i (at_place ps k i e))) h
  put_differ ps k v None e h =
      let P : List Tree → Type 0 = λ ks. AllPairs (λ k l. equals l k ≡ false) ks in
      let added : keys (put_pair ps k v) ≡ keys ps ++ k ∷ [] = ap keys ((absent ps k e).added v) ∙ map_push (λ (p : Tree × Tree). p.0) ps (k, v) in
      subst P (sym added) (all_pairs_push (λ a b. equals b a ≡ false) (keys ps) k h (λ j d l. unequal ps k e j d l))

  keys_remove : (ps : List (Tree × Tree)) (i : ℕ) → keys (remove ps i) ≡ remove (keys ps) i
  keys_remove ps i =
      map-append (λ (p : Tree × Tree). p.0) (take i ps) (drop (suc i) ps)
      ∙ ap (λ ys. ys ++ keys (drop (suc i) ps)) (sym (take-map (λ (p : Tree × Tree). p.0) i ps))
      ∙ ap (λ ys. take i (keys ps) ++ ys) (sym (drop-map (λ (p : Tree × Tree). p.0) (suc i) ps))

  without_differ : (ps : List (Tree × Tree)) (k : Tree) (o : Option ℕ) → key_place ps k ≡ o → KeysDiffer ps → KeysDiffer (without_pair ps k)
  without_differ ps k (Some i) e h =
      let P : List Tree → Type 0 = λ ks. AllPairs (λ k l. equals l k ≡ false) ks in
      let at = at_place ps k i e in
      let size = length-map ps (λ (p : Tree × Tree). p.0) in
      let within : i < length (keys ps) = omega (arith, at.within, size) in
      subst P (sym (ap keys at.left ∙ keys_remove ps i)) (all_pairs_remove (λ a b. equals b a ≡ false) (keys ps) i within h)
  without_differ ps k None e h =
      let P : List (Tree × Tree) → Type 0 = λ qs. KeysDiffer qs in
      subst P (sym (absent ps k e).same) h

  put_sound : (ps : List (Tree × Tree)) (k v : Tree) → IsSoundMap ps → IsRegular w k → IsRegular w v → IsSoundMap (put_pair ps k v)
  put_sound ps k v s a b = record { differ = put_differ ps k v (key_place ps k) refl s.differ; parts = put_parts ps k v s.parts a b }

  without_sound : (ps : List (Tree × Tree)) (k : Tree) → IsSoundMap ps → IsSoundMap (without_pair ps k)
  without_sound ps k s = record { differ = without_differ ps k (key_place ps k) refl s.differ; parts = without_parts ps k s.parts }

  put_all_sound : (qs ps : List (Tree × Tree)) → IsSoundMap ps → PairsAreSound w qs → IsSoundMap (put_all ps qs)
  put_all_sound [] ps s r = s
  put_all_sound (q ∷ qs) ps s r = put_all_sound qs (put_pair ps q.0 q.1) (put_sound ps q.0 q.1 s r.0 r.1) r.2

  without_all_sound : (ks : List Tree) (ps : List (Tree × Tree)) → IsSoundMap ps → IsSoundMap (without_all ps ks)
  without_all_sound [] ps s = s
  without_all_sound (k ∷ ks) ps s = without_all_sound ks (without_pair ps k) (without_sound ps k s)

  empty_sound : IsSoundMap []
  empty_sound = record { differ = λ i j d h l. absurd (omega arith); parts = tt }

  paired_sound : (us : List Tree) → AreSound w us → PairsAreSound w (paired us)
  paired_sound [] s = tt
  paired_sound (k ∷ []) s = tt
  paired_sound (k ∷ v ∷ us) s = (s.0, s.1.0, paired_sound us s.1.1)

  pub hash_map_sound : (us : List Tree) → AreSound w us → IsRegular w (map_from (put_all [] (paired us)))
  hash_map_sound us s = map_sound (put_all [] (paired us)) (put_all_sound (paired us) [] empty_sound (paired_sound us s))

  item_under_sound : (ts : List Tree) (k : Tree) → AreSound w ts → IsSoundOption w (item_under ts k)
  item_under_sound ts (int z) s = item_at_sound w ts z s
  item_under_sound ts k s = tt

  pub get_of_sound : (c k d : Tree) → IsRegular w c → IsRegular w d → IsSound w (get_of c k d)
  get_of_sound (map_tree ps) k d s r = unwrap_sound w (value_at (entries_of ps) k) d (value_at_sound (entries_of ps) k (entries_sound w ps s.1)) r
  get_of_sound (vector ts) k d s r = unwrap_sound w (item_under (items_of ts) k) d (item_under_sound (items_of ts) k (items_sound w ts s)) r
  get_of_sound (text b) k d s r = tt
  get_of_sound c k d s r = r

  -- vectors with items set
  abbrev PlacedAreSound : List (ℤ × Tree) → Type 0
  PlacedAreSound [] = Unit {0}
  PlacedAreSound (q ∷ qs) = IsRegular w q.1 × PlacedAreSound qs

  places_sound : (qs : List (Tree × Tree)) → PairsAreSound w qs → AnswerIs PlacedAreSound (places_of qs)
  places_sound [] s = tt
  places_sound (q ∷ qs) s =
      goes_on_any PlacedAreSound (integer_of q.0) _
      (λ z. goes_on PlacedAreSound PlacedAreSound (places_of qs) (λ zs. Ok ((z, q.1) ∷ zs)) (places_sound qs s.2) (λ zs p. (s.1, p)))

  item_set_sound : (ts : List Tree) (z : ℤ) (v : Tree) → AreSound w ts → IsRegular w v → AnswerIs (AreSound w) (item_set ts z v)
  item_set_sound ts (pos n) v s r =
      choice_sound (AnswerIs (AreSound w)) (nat_lt n (length ts)) (Ok (slice_set ts n v)) _ (set_sound w ts n v s r)
      (choice_sound (AnswerIs (AreSound w)) (n == length ts) (Ok (ts ++ v ∷ [])) (Err OutOfRange) (append_sound w ts (v ∷ []) s (r, tt)) tt)
  item_set_sound ts (negsuc n) v s r = tt

  all_set_sound : (zs : List (ℤ × Tree)) (ts : List Tree) → AreSound w ts → PlacedAreSound zs → AnswerIs (AreSound w) (all_set ts zs)
  all_set_sound [] ts s r = s
  all_set_sound (q ∷ qs) ts s r =
      goes_on (AreSound w) (AreSound w) (item_set ts q.0 q.1) (λ us. all_set us qs) (item_set_sound ts q.0 q.1 s r.0) (λ us p. all_set_sound qs us p r.1)

  items_assoc_sound : (ts : List Tree) (qs : List (Tree × Tree)) → AreSound w ts → PairsAreSound w qs → IsSound w (items_assoc ts qs)
  items_assoc_sound ts qs s r =
      goes_on PlacedAreSound (IsRegular w) (places_of qs) _ (places_sound qs r)
      (λ zs p. goes_on (AreSound w) (IsRegular w) (all_set ts zs) (λ us. Ok (vector_from us)) (all_set_sound zs ts s p) (λ us q. trees_sound w us q))

  pub assoc_sound : (c : Tree) (us : List Tree) → IsRegular w c → AreSound w us → IsSound w (assoc_of c us)
  assoc_sound (map_tree ps) us s r =
      map_sound (put_all (entries_of ps) (paired us)) (put_all_sound (paired us) (entries_of ps) (record { differ = s.0; parts = entries_sound w ps s.1 }) (paired_sound us r))
  assoc_sound nil us s r = hash_map_sound us r
  assoc_sound (vector ts) us s r = items_assoc_sound (items_of ts) (paired us) (items_sound w ts s) (paired_sound us r)
  assoc_sound c us s r = tt

  pub dissoc_sound : (c : Tree) (ks : List Tree) → IsRegular w c → IsSound w (dissoc_of c ks)
  dissoc_sound (map_tree ps) ks s = map_sound (without_all (entries_of ps) ks) (without_all_sound ks (entries_of ps) (record { differ = s.0; parts = entries_sound w ps s.1 }))
  dissoc_sound c ks s = tt

  vector_or_nil_sound : (ts : List Tree) → AreSound w ts → IsRegular w (vector_or_nil ts)
  vector_or_nil_sound [] s = tt
  vector_or_nil_sound (t ∷ ts) s = trees_sound w (t ∷ ts) s

  firsts_sound : (ps : List (Tree × Tree)) → PairsAreSound w ps → AreSound w (map (λ (p : Tree × Tree). p.0) ps)
  firsts_sound [] s = tt
  firsts_sound (p ∷ ps) s = (s.0, firsts_sound ps s.2)

  seconds_sound : (ps : List (Tree × Tree)) → PairsAreSound w ps → AreSound w (map (λ (p : Tree × Tree). p.1) ps)
  seconds_sound [] s = tt
  seconds_sound (p ∷ ps) s = (s.1, seconds_sound ps s.2)

  pub keys_sound : (c : Tree) → IsRegular w c → IsSound w (keys_of c)
  keys_sound c s = goes_on (PairsAreSound w) (IsRegular w) (mapping_of c) _ (mapping_of_sound w c s) (λ ps p. vector_or_nil_sound (map (λ (p : Tree × Tree). p.0) ps) (firsts_sound ps p))

  pub values_sound : (c : Tree) → IsRegular w c → IsSound w (values_of_map c)
  values_sound c s = goes_on (PairsAreSound w) (IsRegular w) (mapping_of c) _ (mapping_of_sound w c s) (λ ps p. vector_or_nil_sound (map (λ (p : Tree × Tree). p.1) ps) (seconds_sound ps p))

  pair_vectors_sound : (ps : List (Tree × Tree)) → PairsAreSound w ps → AreSound w (map pair_vector ps)
  pair_vectors_sound [] s = tt
  pair_vectors_sound (p ∷ ps) s = ((s.0, (s.1, tt)), pair_vectors_sound ps s.2)

  pub walked_sound : (c : Tree) → IsRegular w c → IsSound w (walked c)
  walked_sound (map_tree ps) s = trees_sound w (map pair_vector (entries_of ps)) (pair_vectors_sound (entries_of ps) (entries_sound w ps s.1))
  walked_sound (vector ts) s = s
  walked_sound c s = tt
