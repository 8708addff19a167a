-- A value is equal to itself, and the channels that a map names by its keys differ.
use Rattle.std.proofs.Common.{◌≡◌, ℕ, zero, suc, ◌<◌, List, length, refl, sym, ap, arith, ◌∙◌, Bool, true, false, cond, not, ◌&&◌, ◌==◌, eqb, eq-eqb, eqb-true, ℤ, map as map_list}
use Rattle.std.specs.Prelude.{slice_index_or}
use Rattle.std.specs.Str.{bytes_eq}
use Rattle.std.specs.Bool.{beq}
use Rattle.std.specs.Ordering.{int_eq}
use Rattle.std.proofs.lemmas.Bool.Decides.{Decides-int_eq}
use Rattle.std.proofs.lemmas.Slice.Eq.{bytes_eq-Decides}
use Rattle.ca_value.specs.Tree.{Tree, Trees, TreePairs, nil, bool, int, text, key, vector, map, port, none, item, empty, pair, entries_of}
use Rattle.ca_value.specs.Equality.{equals, equal_items, is_map_within, has_pair, pair_count}
use Rattle.ca_value.specs.IsValue.{Scalars, IsRegular, AreRegular, ArePairsRegular, KeysDiffer}
use Rattle.ca_meaning.specs.Operands.{port_of_value}
use Rattle.ca_meaning.specs.State.{State}
use Rattle.ca_meaning.specs.Registry.{all_channels, names_channel, channels_differ}
use Rattle.ca_meaning.specs.Refusal.{is_channel}

abbrev keys_in : TreePairs → List Tree
keys_in ps = map_list (λ p. p.0) (entries_of ps)

-- each key of the pairs is another than k
abbrev Others : Tree → TreePairs → Type 0
Others k empty = Unit {0}
Others k (pair l w ps) = (equals l k ≡ false) × Others k ps

others_of : (k : Tree) (ps : TreePairs) → ((j : ℕ) (d : Tree) → j < length (keys_in ps) → equals (slice_index_or (keys_in ps) j d) k ≡ false) → Others k ps
others_of k empty h = tt
others_of k (pair l w ps) h = (h zero nil (omega arith), others_of k ps (λ j d lt. h (suc j) d (omega (arith, lt))))

head_others : (k v : Tree) (ps : TreePairs) → KeysDiffer (entries_of (pair k v ps)) → Others k ps
head_others k v ps d = others_of k ps (λ j e lt. d zero (suc j) e (omega arith) (omega (arith, lt)))

tail_differ : (k v : Tree) (ps : TreePairs) → KeysDiffer (entries_of (pair k v ps)) → KeysDiffer (entries_of ps)
tail_differ k v ps d = λ i j e a b. d (suc i) (suc j) e (omega (arith, a)) (omega (arith, b))

-- each pair of the first is in the second
abbrev AllFound : TreePairs → TreePairs → Type 0
AllFound empty b = Unit {0}
AllFound (pair k v a) b = (has_pair (equals k) (equals v) b ≡ true) × AllFound a b

both : (a b : Bool) → a ≡ true → b ≡ true → a && b ≡ true
both true true p q = refl
both true false p q = q
both false b p q = p

found_within : (a b : TreePairs) → AllFound a b → is_map_within a b ≡ true
found_within empty b h = refl
found_within (pair k v a) b h = both (has_pair (equals k) (equals v) b) (is_map_within a b) h.0 (found_within a b h.1)

behind_one : (t : Bool) (x y : Bool) → t ≡ false → y ≡ true → cond t x y ≡ true
behind_one true x y p q = cc
behind_one false x y p q = q

shifted : (a b : TreePairs) (k w : Tree) → Others k a → AllFound a b → AllFound a (pair k w b)
shifted empty b k w o h = tt
shifted (pair l v a) b k w o h = (behind_one (equals l k) (equals v w) (has_pair (equals l) (equals v) b) o.0 h.0, shifted a b k w o.1 h.1)

at_one : (t : Bool) (x y : Bool) → t ≡ true → x ≡ true → cond t x y ≡ true
at_one true x y p q = q
at_one false x y p q = cc

count_self : (n : ℕ) → n == n ≡ true
count_self n = eq-eqb n n refl

int_self : (z : ℤ) → int_eq z z ≡ true
int_self z = (Decides-int_eq z z).1 refl

bytes_self : (s : List ℕ) → bytes_eq s s ≡ true
bytes_self s = (bytes_eq-Decides s s).1 refl

bool_self : (b : Bool) → beq b b ≡ true
bool_self true = refl
bool_self false = refl

mutual
  pub equals_self : (scalars : Scalars) (t : Tree) → IsRegular scalars t → equals t t ≡ true
  equals_self scalars nil h = refl
  equals_self scalars (bool b) h = bool_self b
  equals_self scalars (int z) h = int_self z
  equals_self scalars (text s) h = bytes_self s
  equals_self scalars (key s) h = bytes_self s
  equals_self scalars (vector ts) h = items_self scalars ts h
  equals_self scalars (map ps) h = both (pair_count ps == pair_count ps) (is_map_within ps ps) (count_self (pair_count ps)) (found_within ps ps (pairs_self scalars ps h.0 h.1))
  equals_self scalars (port n) h = count_self n

  items_self : (scalars : Scalars) (ts : Trees) → AreRegular scalars ts → equal_items ts ts ≡ true
  items_self scalars none h = refl
  items_self scalars (item t ts) h = both (equals t t) (equal_items ts ts) (equals_self scalars t h.0) (items_self scalars ts h.1)

  pairs_self : (scalars : Scalars) (ps : TreePairs) → KeysDiffer (entries_of ps) → ArePairsRegular scalars ps → AllFound ps ps
  pairs_self scalars empty d h = tt
  pairs_self scalars (pair k v ps) d h = (at_one (equals k k) (equals v v) (has_pair (equals k) (equals v) ps) (equals_self scalars k h.0) (equals_self scalars v h.1), shifted ps ps k v (head_others k v ps d) (pairs_self scalars ps (tail_differ k v ps d) h.2))

-- the keys of a toggle
port_there : (s : State) (v : Tree) → is_channel s v ≡ true → v ≡ port (port_of_value v)
port_there s (port n) e = refl
port_there s nil e = cc
port_there s (bool b) e = cc
port_there s (int z) e = cc
port_there s (text t) e = cc
port_there s (key t) e = cc
port_there s (vector vs) e = cc
port_there s (map ps) e = cc

left_of : (a b : Bool) → a && b ≡ true → a ≡ true
left_of true b e = refl
left_of false b e = cc

right_of : (a b : Bool) → a && b ≡ true → b ≡ true
right_of true b e = e
right_of false b e = cc

flipped : (m n : ℕ) → m == n ≡ false → eqb n m ≡ false
flipped m n e = by (eqb n m) refl where
  by : (b : Bool) → eqb n m ≡ b → eqb n m ≡ false
  by false is = is
  by true is = let k : true ≡ false = sym (eq-eqb m n (sym (eqb-true n m is))) ∙ e in cc

not_named : (s : State) (k : Tree) (ps : TreePairs) → is_channel s k ≡ true → all_channels (is_channel s) ps ≡ true → Others k ps → names_channel (port_of_value k) ps ≡ false
not_named s k empty c all o = refl
not_named s k (pair l w ps) c all o =
    let cl = left_of (is_channel s l) (all_channels (is_channel s) ps) all in
    let e : port_of_value l == port_of_value k ≡ false = sym (ap (λ v. equals v (port (port_of_value k))) (port_there s l cl)) ∙ sym (ap (equals l) (port_there s k c)) ∙ o.0 in
    otherwise (eqb (port_of_value k) (port_of_value l)) (flipped (port_of_value l) (port_of_value k) e) (not_named s k ps c (right_of (is_channel s l) (all_channels (is_channel s) ps) all) o.1)
  where
    otherwise : (b : Bool) → b ≡ false → names_channel (port_of_value k) ps ≡ false → cond b true (names_channel (port_of_value k) ps) ≡ false
    otherwise false e h = h
    otherwise true e h = cc

none_named : (a b : Bool) → a ≡ false → b ≡ true → not a && b ≡ true
none_named false b p q = q
none_named true b p q = cc

-- where each key of a value's pairs names a channel, they name different ones
pub apart : (s : State) (ps : TreePairs) → KeysDiffer (entries_of ps) → all_channels (is_channel s) ps ≡ true → channels_differ ps ≡ true
apart s empty d all = refl
apart s (pair k v ps) d all =
    let r = right_of (is_channel s k) (all_channels (is_channel s) ps) all in
    none_named (names_channel (port_of_value k) ps) (channels_differ ps) (not_named s k ps (left_of (is_channel s k) (all_channels (is_channel s) ps) all) r (head_others k v ps d)) (apart s ps (tail_differ k v ps d) r)
