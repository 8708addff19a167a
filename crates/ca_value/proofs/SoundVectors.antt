-- The builtins on vectors keep the keys of each map distinct.
use Rattle.std.proofs.Common.{ℤ, pos, negsuc, ◌-◌, List, [], ◌∷◌, ◌++◌, length, take, drop, Option, Some, None, Ok, Err, arith}
use Rattle.std.specs.Prelude.{slice_get, slice_range, unwrap_or, unsigned_abs}
use Rattle.ca_value.specs.declared.fault.ValueFault.TheVariants.{OutOfRange}
use Rattle.ca_value.specs.Tree.{Tree, nil, vector, items_of}
use Rattle.ca_value.specs.IsValue.{Scalars, IsInteger, IsRegular}
use Rattle.ca_value.specs.Kinds.{integer_of, vector_of, sequence_of, vector_from}
use Rattle.ca_value.specs.Vectors.{item_at, item_or_else, appended, nth_at, nth_of, first_item, item_at_end, shortened, popped, end_index, part_between, subvec_of, bounds_of, range_of, distance_of, integers_between, item_at_index}
use Rattle.ca_value.proofs.SoundNumbers.{bounds_are, integers_sound}
use Rattle.ca_value.proofs.Sound.{AreSound, IsSoundOption, IsSound, goes_on, goes_on_any, choice_sound, trees_sound, items_sound, vector_of_sound, sequence_of_sound, append_sound, take_sound, drop_sound, get_sound, unwrap_sound, ok_or_sound}

module _ (w : Scalars) where
  pub item_at_sound : (xs : List Tree) (z : ℤ) → AreSound w xs → IsSoundOption w (item_at xs z)
  item_at_sound xs (pos n) s = get_sound w xs n s
  item_at_sound xs (negsuc n) s = tt

  or_else_sound : (o d : Option Tree) → IsSoundOption w o → IsSoundOption w d → IsSoundOption w (item_or_else o d)
  or_else_sound None d s r = r
  or_else_sound (Some t) d s r = s

  pub appended_sound : (c : Tree) (us : List Tree) → IsRegular w c → AreSound w us → IsSound w (appended c us)
  appended_sound c us s r =
      goes_on (AreSound w) (IsRegular w) (vector_of c) (λ ts. Ok (vector_from (ts ++ us))) (vector_of_sound w c s) (λ ts p. trees_sound w (ts ++ us) (append_sound w ts us p r))

  nth_at_sound : (c : Tree) (n : ℤ) (d : Option Tree) → IsRegular w c → IsSoundOption w d → IsSound w (nth_at c n d)
  nth_at_sound (vector ts) n d s r = ok_or_sound w (item_or_else (item_at (items_of ts) n) d) OutOfRange (or_else_sound (item_at (items_of ts) n) d (item_at_sound (items_of ts) n (items_sound w ts s)) r)
  nth_at_sound nil n d s r = unwrap_sound w d nil r tt
  nth_at_sound c n d s r = tt

  pub nth_sound : (c i : Tree) (d : Option Tree) → IsRegular w c → IsSoundOption w d → IsSound w (nth_of c i d)
  nth_sound c i d s r = goes_on_any (IsRegular w) (integer_of i) (λ n. nth_at c n d) (λ n. nth_at_sound c n d s r)

  pub first_sound : (c : Tree) → IsRegular w c → IsSound w (first_item c)
  first_sound c s = goes_on (AreSound w) (IsRegular w) (sequence_of c) (λ ts. Ok (unwrap_or (slice_get ts 0) nil)) (sequence_of_sound w c s) (λ ts p. unwrap_sound w (slice_get ts 0) nil (get_sound w ts 0 p) tt)

  pub last_sound : (c : Tree) → IsRegular w c → IsSound w (item_at_end c)
  last_sound c s = goes_on (AreSound w) (IsRegular w) (sequence_of c) (λ ts. Ok (unwrap_or (slice_get ts (length ts - 1)) nil)) (sequence_of_sound w c s) (λ ts p. unwrap_sound w (slice_get ts (length ts - 1)) nil (get_sound w ts (length ts - 1) p) tt)

  shortened_sound : (ts : List Tree) → AreSound w ts → IsSound w (shortened ts)
  shortened_sound [] s = tt
  shortened_sound (t ∷ ts) s = choice_sound (IsSound w) _ (Err OutOfRange) (Ok (vector_from (take (length (t ∷ ts) - 1) (t ∷ ts)))) tt (trees_sound w (take (length (t ∷ ts) - 1) (t ∷ ts)) (take_sound w (length (t ∷ ts) - 1) (t ∷ ts) s))

  pub popped_sound : (c : Tree) → IsRegular w c → IsSound w (popped c)
  popped_sound (vector ts) s = shortened_sound (items_of ts) (items_sound w ts s)
  popped_sound c s = tt

  part_between_sound : (ts : List Tree) (i j : ℤ) → AreSound w ts → IsSound w (part_between ts i j)
  part_between_sound ts i j s = choice_sound (IsSound w) _ (Ok (vector_from (slice_range ts (unsigned_abs i) (unsigned_abs j)))) (Err OutOfRange) (trees_sound w (slice_range ts (unsigned_abs i) (unsigned_abs j)) (take_sound w (unsigned_abs j - unsigned_abs i) (drop (unsigned_abs i) ts) (drop_sound w (unsigned_abs i) ts s))) tt

  pub subvec_sound : (c b : Tree) (e : Option Tree) → IsRegular w c → IsSound w (subvec_of c b e)
  subvec_sound c b e s =
      goes_on (AreSound w) (IsRegular w) (vector_of c) _ (vector_of_sound w c s)
      (λ ts p. goes_on_any (IsRegular w) (integer_of b) _ (λ i. goes_on_any (IsRegular w) (end_index ts e) (λ j. part_between ts i j) (λ j. part_between_sound ts i j p)))

  pub range_sound : (a : Tree) (b : Option Tree) → IsRegular w a → IsSoundOption w b → IsSound w (range_of a b)
  range_sound a b s r =
      goes_on (λ (q : ℤ × ℤ). IsInteger w q.0 × IsInteger w q.1) (IsRegular w) (bounds_of a b) (λ q. Ok (vector_from (integers_between q.0 q.1))) (bounds_are w a b s r)
      (λ q i. trees_sound w (integers_between q.0 q.1) (integers_sound w q.0 q.1 (distance_of q.0 q.1) (omega arith) i.0 i.1))

  pub part_sound : (c i : Tree) → IsRegular w c → IsSound w (item_at_index c i)
  part_sound c i s =
      goes_on (AreSound w) (IsRegular w) (sequence_of c) _ (sequence_of_sound w c s)
      (λ ts p. goes_on_any (IsRegular w) (integer_of i) (λ n. Ok (unwrap_or (item_at ts n) nil)) (λ n. unwrap_sound w (item_at ts n) nil (item_at_sound ts n p) tt))
