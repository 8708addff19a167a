-- Builtins on vectors answer with public values where their arguments are.
use Rattle.std.proofs.Common.{◌≡◌, ℕ, ◌-◌, List, [], ◌∷◌, ◌++◌, refl, Bool, true, false, if◌then◌else◌, ◌&&◌, ◌==◌, length, take, drop, slice_get, slice_range, map as map_list, Option, Some, None, unwrap_or}
use Rattle.std.specs.Prelude.{ℤ, pos, ◌+ℤ◌, Ok, Err, ok_or, int_le, unsigned_abs}
use Rattle.ca_value.specs.declared.fault.ValueFault.{ValueFault}
use Rattle.ca_value.specs.Tree.{Tree, nil, bool, int, text, key, vector, map, port, items_of}
use Rattle.ca_value.specs.Kinds.{integer_of, vector_of, sequence_of, vector_from}
use Rattle.ca_value.specs.Vectors.{item_at, item_or_else, appended, nth_at, nth_of, first_item, item_at_end, popped, end_index, part_between, subvec_of, integers_between, bounds_of, range_of, item_at_index}
use Rattle.ca_roles.specs.Roles.{Roles, IsPublic}
use Rattle.ca_meaning.proofs.Waits.{each-append}
use Rattle.ca_roles.proofs.PublicParts.{AllPublic, DefaultPublic, GivesPublic, after, any_gives, drop_public, get_public, item_public, items_public, maybe_or, sequence_gives, take_public, trees_public, vector_gives}

module _ (roles : Roles) where
  -- vectors
  pub nth_gives : (c i : Tree) (d : Option Tree) → IsPublic roles c → IsPublic roles i → DefaultPublic roles d → GivesPublic roles (nth_of c i d)
  nth_gives c i d hc hi hd = after (λ z. Unit {0}) (IsPublic roles) (integer_of i) (λ n. nth_at c n d) (any_gives (integer_of i)) (λ n u. at c n hc) where
    or_good : (o d : Option Tree) → ((v : Tree) → o ≡ Some v → IsPublic roles v) → DefaultPublic roles d → GivesPublic roles (ok_or (item_or_else o d) ValueFault.OutOfRange)
    or_good (Some v) d h k = h v refl
    or_good None None h k = tt
    or_good None (Some v) h k = k

    default_good : (d : Option Tree) → DefaultPublic roles d → IsPublic roles (unwrap_or d nil)
    default_good None k = tt
    default_good (Some v) k = k

    at : (c : Tree) (n : ℤ) → IsPublic roles c → GivesPublic roles (nth_at c n d)
    at (vector ts) n h = or_good (item_at (items_of ts) n) d (item_public roles (items_of ts) n (items_public roles ts h)) hd
    at nil n h = default_good d hd
    at (bool b) n h = tt
    at (int z) n h = tt
    at (text s) n h = tt
    at (key s) n h = tt
    at (map ps) n h = tt
    at (port m) n h = tt

  pub first_gives : (c : Tree) → IsPublic roles c → GivesPublic roles (first_item c)
  first_gives c h = after (AllPublic roles) (IsPublic roles) (sequence_of c) _ (sequence_gives roles c h) (λ ts k. maybe_or roles (slice_get ts 0) nil (get_public roles ts 0 k) tt)

  pub last_gives : (c : Tree) → IsPublic roles c → GivesPublic roles (item_at_end c)
  last_gives c h = after (AllPublic roles) (IsPublic roles) (sequence_of c) _ (sequence_gives roles c h) (λ ts k. maybe_or roles (slice_get ts (length ts - 1)) nil (get_public roles ts (length ts - 1) k) tt)

  pub part_gives : (c i : Tree) → IsPublic roles c → IsPublic roles i → GivesPublic roles (item_at_index c i)
  part_gives c i h hi = after (AllPublic roles) (IsPublic roles) (sequence_of c) _ (sequence_gives roles c h) (λ ts k. after (λ z. Unit {0}) (IsPublic roles) (integer_of i) _ (any_gives (integer_of i)) (λ n u. maybe_or roles (item_at ts n) nil (item_public roles ts n k) tt))

  pub appended_gives : (c : Tree) (us : List Tree) → IsPublic roles c → AllPublic roles us → GivesPublic roles (appended c us)
  appended_gives c us h hs = after (AllPublic roles) (IsPublic roles) (vector_of c) _ (vector_gives roles c h) (λ ts k. trees_public roles (ts ++ us) (each-append (IsPublic roles) ts us k hs))

  pub popped_gives : (c : Tree) → IsPublic roles c → GivesPublic roles (popped c)
  popped_gives (vector vs) h = by (length (items_of vs) == 0) where
    by : (b : Bool) → GivesPublic roles (if b then Err ValueFault.OutOfRange else Ok (vector_from (take (length (items_of vs) - 1) (items_of vs))))
    by true = tt
    by false = trees_public roles (take (length (items_of vs) - 1) (items_of vs)) (take_public roles (length (items_of vs) - 1) (items_of vs) (items_public roles vs h))
  popped_gives nil h = tt
  popped_gives (bool b) h = tt
  popped_gives (int z) h = tt
  popped_gives (text s) h = tt
  popped_gives (key s) h = tt
  popped_gives (map ps) h = tt
  popped_gives (port n) h = tt

  pub between_gives : (ts : List Tree) (i j : ℤ) → AllPublic roles ts → GivesPublic roles (part_between ts i j)
  between_gives ts i j h = by (int_le (pos 0) i && int_le i j && int_le j (pos (length ts))) where
    by : (b : Bool) → GivesPublic roles (if b then Ok (vector_from (slice_range ts (unsigned_abs i) (unsigned_abs j))) else Err ValueFault.OutOfRange)
    by true = trees_public roles (slice_range ts (unsigned_abs i) (unsigned_abs j)) (take_public roles (unsigned_abs j - unsigned_abs i) (drop (unsigned_abs i) ts) (drop_public roles (unsigned_abs i) ts h))
    by false = tt

  pub subvec_gives : (c s : Tree) (e : Option Tree) → IsPublic roles c → GivesPublic roles (subvec_of c s e)
  subvec_gives c s e h = after (AllPublic roles) (IsPublic roles) (vector_of c) _ (vector_gives roles c h) (λ ts k. after (λ z. Unit {0}) (IsPublic roles) (integer_of s) _ (any_gives (integer_of s)) (λ i u. after (λ z. Unit {0}) (IsPublic roles) (end_index ts e) _ (any_gives (end_index ts e)) (λ j w. between_gives ts i j k)))

  pub ints_public : (f : ℕ → ℤ) (ns : List ℕ) → AllPublic roles (map_list (λ k. int (f k)) ns)
  ints_public f [] = tt
  ints_public f (n ∷ ns) = (tt, ints_public f ns)

  pub range_gives : (a : Tree) (b : Option Tree) → GivesPublic roles (range_of a b)
  range_gives a b = after (λ z. Unit {0}) (IsPublic roles) (bounds_of a b) _ (any_gives (bounds_of a b)) (λ r u. trees_public roles (integers_between r.0 r.1) (ints_public (λ k. r.0 +ℤ pos k) _))
