-- What is read as a value is one that a line can tell.
use Rattle.std.proofs.Common.{◌≡◌, ℕ, zero, suc, pos, neg_ℤ, ◌+◌, ◌<◌, ◌≤◌, ◌^◌, List, [], ◌∷◌, ◌++◌, length, take, drop, min, refl, sym, ap, subst, ◌∙◌, arith, Option, Some, None, Bool, true, false, cond, ◌==◌, ◌||◌, ◌&&◌, nat_lt, nat_le, codes}
use Rattle.std.specs.List.{list_all, prefix_len}
use Rattle.std.proofs.lemmas.Bool.Decides.{nat_tests}
use Rattle.std.proofs.lemmas.Int.{ints}
use Rattle.ca_value.specs.Tree.{Tree, nil, bool, int, text, key, vector, map as map_tree, port, trees_of, pairs_of}
use Rattle.ca_value.specs.Measure.{weight_of, depth_of}
use Rattle.ca_value.specs.Equality.{equals}
use Rattle.ca_value.specs.Maps.{put_pair, put_all, paired}
use Rattle.ca_value.specs.IsValue.{written, IsRegular, IsValue, is_keyword, is_keyword_byte}
use Rattle.ca_value.proofs.Sound.{AreSound, trees_sound}
use Rattle.ca_value.proofs.SoundMaps.{hash_map_sound}
use Rattle.ca_meaning.specs.Shown.{ends_word, Solid, IsNumber, IsShown, AreShown, PairsShown}
use Rattle.ca_journal_reader.specs.Found.{Found, then}
use Rattle.ca_journal_reader.specs.Words.{number_from, number_in, byte_in, word_behind, unspaced, is_first, field, decimal_in, numbered_in, is_digit_byte}
use Rattle.ca_journal_reader.specs.ValueText.{text_from, text_in, key_in, signed, int_of, signed_in, integer_in, named_in, scalar_in, items_read, uncomma, pair_in, pairs_read, vector_in, map_in, value_by, value_read, is_within, value_field}
use Rattle.ca_journal_reader.proofs.TextBack.{stop_is}

-- of what is read, if anything is
abbrev pub IfRead : {A : Type 0} → (A → Type 0) → Option A → Type 0
IfRead P None = Unit {0}
IfRead P (Some x) = P x

abbrev pub IfFound : {A : Type 0} → (A → Type 0) → Found A → Type 0
IfFound P o = IfRead (λ r. P r.0) o

abbrev pub Any : {A : Type 0} → A → Type 0
Any x = Unit {0}

pub any : {A : Type 0} (o : Found A) → IfFound Any o
any None = tt
any (Some r) = tt

pub goes : {A B : Type 0} (P : A → Type 0) (Q : B → Type 0) (o : Found A) (f : A → List ℕ → Option B) → IfFound P o → ((x : A) (r : List ℕ) → P x → IfRead Q (f x r)) → IfRead Q (then o f)
goes P Q None f h g = tt
goes P Q (Some r) f h g = g r.0 r.1 h

pub choice : {A : Type 0} (P : A → Type 0) (b : Bool) (x y : Option A) → IfRead P x → IfRead P y → IfRead P (cond b x y)
choice P true x y h k = h
choice P false x y h k = k

pub field_told : {A : Type 0} (P : A → Type 0) (o : Found A) → IfFound P o → IfFound P (field o)
field_told P None h = tt
field_told P (Some r) h = h

-- numbers
pub number_told : (s : List ℕ) → IfFound IsNumber (number_in s)
number_told s = by (number_from 0 s) (nat_lt (number_from 0 s).0 (2 ^ 64)) refl where
  by : (r : ℕ × List ℕ) (b : Bool) → nat_lt r.0 (2 ^ 64) ≡ b → IfFound IsNumber (cond {A = Found ℕ} b (Some r) None)
  by r true e = grind (arith, nat_tests)
  by r false e = tt

pub decimal_told : (s : List ℕ) → IfFound IsNumber (decimal_in s)
decimal_told s = field_told IsNumber (number_in s) (number_told s)

pub numbered_told : (c : ℕ) (s : List ℕ) → IfFound IsNumber (numbered_in c s)
numbered_told c s = goes Any (λ (r : ℕ × List ℕ). IsNumber r.0) (byte_in c s) (λ x rest. decimal_in rest) (any (byte_in c s)) (λ x rest h. decimal_told rest)

-- values
abbrev pub Good : Tree → Type 0
Good t = IsRegular written t × IsShown t

abbrev GoodRead : Tree × List ℕ → Type 0
GoodRead r = Good r.0

negative_good : (n : ℕ) → nat_le n (2 ^ 63) ≡ true → Good (int (neg_ℤ (pos n)))
negative_good zero e = (refl, omega arith)
negative_good (suc n) e = let l : suc n ≤ 2 ^ 63 = grind (arith, nat_tests) in (grind (arith, ints), omega (arith, l))

natural_good : (n : ℕ) → nat_lt n (2 ^ 63) ≡ true → Good (int (pos n))
natural_good n e = let l : n < 2 ^ 63 = grind (arith, nat_tests) in (grind (arith, ints), l)

int_good : (negative : Bool) (n : ℕ) (rest : List ℕ) → IfRead GoodRead (int_of (signed negative n) rest)
int_good true n rest = by (nat_le n (2 ^ 63)) refl where
  by : (b : Bool) → nat_le n (2 ^ 63) ≡ b → IfRead GoodRead (int_of (cond b (Some (neg_ℤ (pos n))) None) rest)
  by true e = negative_good n e
  by false e = tt
int_good false n rest = by (nat_lt n (2 ^ 63)) refl where
  by : (b : Bool) → nat_lt n (2 ^ 63) ≡ b → IfRead GoodRead (int_of (cond b (Some (pos n)) None) rest)
  by true e = natural_good n e
  by false e = tt

signed_good : (negative : Bool) (s : List ℕ) → IfRead GoodRead (signed_in negative s)
signed_good negative s = goes Any GoodRead (number_in s) (λ n rest. int_of (signed negative n) rest) (any (number_in s)) (λ n rest h. int_good negative n rest)

integer_good : (s : List ℕ) → IfRead GoodRead (integer_in s)
integer_good s = choice GoodRead (is_first 45 s) (signed_in true (drop 1 s)) (signed_in false s) (signed_good true (drop 1 s)) (signed_good false s)

-- keywords
front_passes : (p : ℕ → Bool) (s : List ℕ) → list_all p (take (prefix_len p s) s) ≡ true
front_passes p [] = refl
front_passes p (b ∷ s) = by (p b) refl (front_passes p s) where
  by : (t : Bool) → p b ≡ t → list_all p (take (prefix_len p s) s) ≡ true → list_all p (take (cond t (1 + prefix_len p s) 0) (b ∷ s)) ≡ true
  by true e h = subst (λ (m : ℕ). list_all p (take m (b ∷ s)) ≡ true) (let k : suc (prefix_len p s) ≡ 1 + prefix_len p s = omega arith in k) (ap (λ (t : Bool). t && list_all p (take (prefix_len p s) s)) e ∙ h)
  by false e h = refl

solid_byte : (b : ℕ) → is_keyword_byte b ≡ true → ends_word b ≡ false
solid_byte b h = by (ends_word b) refl where
  by : (t : Bool) → ends_word b ≡ t → t ≡ false
  by true e = let k = stop_is b e in absurd (let j : true ≡ false = sym h ∙ k in cc)
  by false e = refl

solid : (s : List ℕ) → list_all is_keyword_byte s ≡ true → Solid s
solid [] h = tt
solid (b ∷ s) h = by (is_keyword_byte b) refl h (λ k. solid s k) where
  by : (t : Bool) → is_keyword_byte b ≡ t → (t && list_all is_keyword_byte s) ≡ true → (list_all is_keyword_byte s ≡ true → Solid s) → (ends_word b ≡ false) × Solid s
  by true e k f = (solid_byte b e, f k)
  by false e k f = absurd (let j : false ≡ true = k in cc)

keyword_there : (w : List ℕ) → 0 < length w → list_all is_keyword_byte w ≡ true → is_keyword w ≡ true
keyword_there [] lt h = absurd (omega (arith, lt))
keyword_there (b ∷ w) lt h = h

key_good : (s : List ℕ) → IfRead GoodRead (key_in s)
key_good s = by (prefix_len is_keyword_byte s) (prefix_len is_keyword_byte s == 0) refl (front_passes is_keyword_byte s) (front_length is_keyword_byte s) where
  front_length : (p : ℕ → Bool) (s : List ℕ) → length (take (prefix_len p s) s) ≡ prefix_len p s
  front_length p [] = refl
  front_length p (b ∷ s) = at (p b) (front_length p s) where
    at : (t : Bool) → length (take (prefix_len p s) s) ≡ prefix_len p s → length (take (cond t (1 + prefix_len p s) 0) (b ∷ s)) ≡ cond t (1 + prefix_len p s) 0
    at true h = subst (λ (m : ℕ). length (take m (b ∷ s)) ≡ m) (let k : suc (prefix_len p s) ≡ 1 + prefix_len p s = omega arith in k) (ap suc h)
    at false h = refl

  by : (n : ℕ) (t : Bool) → (n == 0) ≡ t → list_all is_keyword_byte (take n s) ≡ true → length (take n s) ≡ n → IfRead GoodRead (cond t None (Some (key (take n s), drop n s)))
  by n true e h l = tt
  by zero false e h l = absurd (let k : true ≡ false = e in cc)
  by (suc n) false e h l = (keyword_there (take (suc n) s) (omega (arith, l)) h, solid (take (suc n) s) h)

text_good : (s : List ℕ) → IfRead GoodRead (text_in s)
text_good s = goes Any GoodRead (text_from [] s) (λ said rest. Some (text said, rest)) (any (text_from [] s)) (λ said rest h. (tt, tt))

named_good : (b : ℕ) (s : List ℕ) → IfRead GoodRead (named_in b s)
named_good b s =
    choice GoodRead (b == 110) _ _ (goes Any GoodRead (word_behind (codes "nil") s) (λ x rest. Some (nil, rest)) (any (word_behind (codes "nil") s)) (λ x rest h. (tt, tt)))
    (choice GoodRead (b == 116) _ _ (goes Any GoodRead (word_behind (codes "true") s) (λ x rest. Some (bool true, rest)) (any (word_behind (codes "true") s)) (λ x rest h. (tt, tt)))
    (choice GoodRead (b == 102) _ _ (goes Any GoodRead (word_behind (codes "false") s) (λ x rest. Some (bool false, rest)) (any (word_behind (codes "false") s)) (λ x rest h. (tt, tt)))
    (goes Any GoodRead (word_behind (codes "#port ") s) (λ x rest. then (number_in rest) (λ n rest. Some (port n, rest))) (any (word_behind (codes "#port ") s))
    (λ x rest h. goes IsNumber GoodRead (number_in rest) (λ n rest. Some (port n, rest)) (number_told rest) (λ n rest k. (tt, k))))))

scalar_good : (b : ℕ) (s : List ℕ) → IfRead GoodRead (scalar_in b s)
scalar_good b s =
    choice GoodRead (is_digit_byte b || b == 45) _ _ (integer_good s)
    (choice GoodRead (b == 34) _ _ (text_good (drop 1 s))
    (choice GoodRead (b == 58) _ _ (key_good (drop 1 s)) (named_good b s)))

-- items
abbrev AllGood : List Tree → Type 0
AllGood [] = Unit {0}
AllGood (t ∷ ts) = Good t × AllGood ts

good_more : (ts : List Tree) (t : Tree) → AllGood ts → Good t → AllGood (ts ++ t ∷ [])
good_more [] t h k = (k, tt)
good_more (u ∷ ts) t h k = (h.0, good_more ts t h.1 k)

are_sound : (ts : List Tree) → AllGood ts → AreSound written ts
are_sound [] h = tt
are_sound (t ∷ ts) h = (h.0.0, are_sound ts h.1)

are_shown : (ts : List Tree) → AllGood ts → AreShown (trees_of ts)
are_shown [] h = tt
are_shown (t ∷ ts) h = (h.0.1, are_shown ts h.1)

abbrev GoodBy : (List ℕ → Found Tree) → Type 0
GoodBy f = (s : List ℕ) → IfRead GoodRead (f s)

items_good : (f : List ℕ → Found Tree) → GoodBy f → (n : ℕ) (said : List Tree) (s : List ℕ) → AllGood said → IfFound AllGood (items_read f n said s)
items_good f g zero said s h = tt
items_good f g (suc n) said s h =
    choice (λ (r : List Tree × List ℕ). AllGood r.0) (is_first 93 (unspaced s)) _ _ h
    (goes Good (λ (r : List Tree × List ℕ). AllGood r.0) (f (unspaced s)) (λ t rest. items_read f n (said ++ t ∷ []) rest) (g (unspaced s)) (λ t rest k. items_good f g n (said ++ t ∷ []) rest (good_more said t h k)))

vector_good : (f : List ℕ → Found Tree) → GoodBy f → (s : List ℕ) → IfRead GoodRead (vector_in f s)
vector_good f g s = goes AllGood GoodRead (items_read f (length s) [] s) (λ ts rest. Some (vector (trees_of ts), rest)) (items_good f g (length s) [] s tt) (λ ts rest h. (trees_sound written ts (are_sound ts h), are_shown ts h))

-- pairs
abbrev Pairs : Type 0
Pairs = List (Tree × Tree)

abbrev PairsShownIn : Pairs → Type 0
PairsShownIn [] = Unit {0}
PairsShownIn (p ∷ ps) = IsShown p.0 × IsShown p.1 × PairsShownIn ps

abbrev flat : Pairs → List Tree
flat [] = []
flat (q ∷ qs) = q.0 ∷ (q.1 ∷ flat qs)

paired_flat : (qs : Pairs) → paired (flat qs) ≡ qs
paired_flat [] = refl
paired_flat (q ∷ qs) = ap (λ z. (q.0, q.1) ∷ z) (paired_flat qs)

put_all_more : (ps qs : Pairs) (q : Tree × Tree) → put_all ps (qs ++ q ∷ []) ≡ put_pair (put_all ps qs) q.0 q.1
put_all_more ps [] q = refl
put_all_more ps (r ∷ qs) q = put_all_more (put_pair ps r.0 r.1) qs q

flat_more : (qs : Pairs) (q : Tree × Tree) → AllGood (flat qs) → Good q.0 → Good q.1 → AllGood (flat (qs ++ q ∷ []))
flat_more [] q h k v = (k, (v, tt))
flat_more (r ∷ qs) q h k v = (h.0, (h.1.0, flat_more qs q h.1.1 k v))

put_shown : (ps : Pairs) (k v : Tree) → PairsShownIn ps → IsShown k → IsShown v → PairsShownIn (put_pair ps k v)
put_shown [] k v h a b = (a, b, tt)
put_shown (p ∷ ps) k v h a b = by (equals k p.0) (put_shown ps k v h.2 a b) where
  by : (t : Bool) → PairsShownIn (put_pair ps k v) → PairsShownIn (cond t ((p.0, v) ∷ ps) (p ∷ put_pair ps k v))
  by true m = (h.0, b, h.2)
  by false m = (h.0, h.1, m)

record ArePut (said : Pairs) : Type 0 where
  from : Pairs
  are : said ≡ put_all [] from
  good : AllGood (flat from)
  shown : PairsShownIn said

put_more : (said : Pairs) (p : Tree × Tree) → ArePut said → Good p.0 → Good p.1 → ArePut (put_pair said p.0 p.1)
put_more said p h k v = record {
  from = h.from ++ p ∷ [];
  are = ap (λ (z : Pairs). put_pair z p.0 p.1) h.are ∙ sym (put_all_more [] h.from p);
  good = flat_more h.from p h.good k v;
  shown = put_shown said p.0 p.1 h.shown k.1 v.1;
}

pairs_shown : (ps : Pairs) → PairsShownIn ps → PairsShown (pairs_of ps)
pairs_shown [] h = tt
pairs_shown (p ∷ ps) h = (h.0, h.1, pairs_shown ps h.2)

map_good_of : (ps : Pairs) → ArePut ps → Good (map_tree (pairs_of ps))
map_good_of ps h =
    (subst (λ (z : Pairs). IsRegular written (map_tree (pairs_of z))) (ap (λ (z : Pairs). put_all [] z) (paired_flat h.from) ∙ sym h.are) (hash_map_sound written (flat h.from) (are_sound (flat h.from) h.good)), pairs_shown ps h.shown)

abbrev PairGood : Tree × Tree → Type 0
PairGood p = Good p.0 × Good p.1

pair_good : (f : List ℕ → Found Tree) → GoodBy f → (s : List ℕ) → IfFound PairGood (pair_in f s)
pair_good f g s =
    goes Good (λ (r : (Tree × Tree) × List ℕ). PairGood r.0) (f s) (λ k rest. then (f (unspaced rest)) (λ v rest. Some ((k, v), rest))) (g s)
    (λ k rest h. goes Good (λ (r : (Tree × Tree) × List ℕ). PairGood r.0) (f (unspaced rest)) (λ v rest. Some ((k, v), rest)) (g (unspaced rest)) (λ v rest i. (h, i)))

pairs_good : (f : List ℕ → Found Tree) → GoodBy f → (n : ℕ) (said : Pairs) (s : List ℕ) → ArePut said → IfFound ArePut (pairs_read f n said s)
pairs_good f g zero said s h = tt
pairs_good f g (suc n) said s h =
    choice (λ (r : Pairs × List ℕ). ArePut r.0) (is_first 125 (uncomma s)) _ _ h
    (goes PairGood (λ (r : Pairs × List ℕ). ArePut r.0) (pair_in f (uncomma s)) (λ p rest. pairs_read f n (put_pair said p.0 p.1) rest) (pair_good f g (uncomma s)) (λ p rest k. pairs_good f g n (put_pair said p.0 p.1) rest (put_more said p h k.0 k.1)))

map_good : (f : List ℕ → Found Tree) → GoodBy f → (s : List ℕ) → IfRead GoodRead (map_in f s)
map_good f g s =
    goes ArePut GoodRead (pairs_read f (min (length s) 65536) [] s) (λ ps rest. Some (map_tree (pairs_of ps), rest)) (pairs_good f g (min (length s) 65536) [] s (record { from = []; are = refl; good = tt; shown = tt })) (λ ps rest h. map_good_of ps h)

by_good : (f : List ℕ → Found Tree) → GoodBy f → (s : List ℕ) → IfRead GoodRead (value_by f s)
by_good f g [] = tt
by_good f g (b ∷ s) = choice GoodRead (b == 91) _ _ (vector_good f g s) (choice GoodRead (b == 123) _ _ (map_good f g s) (scalar_good b (b ∷ s)))

value_good : (d : ℕ) (s : List ℕ) → IfRead GoodRead (value_read d s)
value_good zero s = tt
value_good (suc d) s = by_good (value_read d) (value_good d) s

-- a value within the bounds
abbrev pub Told : Tree → Type 0
Told t = IsValue written t × IsShown t

both : (a b : Bool) → (a && b) ≡ true → (a ≡ true) × (b ≡ true)
both true b h = (refl, h)
both false b h = absurd (let q : false ≡ true = h in cc)

at_most : (m n : ℕ) → nat_le m n ≡ true → m ≤ n
at_most m n h = grind (arith, nat_tests)

bounded : (t : Tree) (rest : List ℕ) → Good t → IfFound Told (cond (is_within t) (Some (t, rest)) None)
bounded t rest g = by (is_within t) refl where
  by : (b : Bool) → is_within t ≡ b → IfFound Told (cond {A = Found Tree} b (Some (t, rest)) None)
  by true e = let k = both (nat_le (weight_of t) 131072) (nat_le (depth_of t) 80) e in (record { regular = g.0; light = at_most (weight_of t) 131072 k.0; shallow = at_most (depth_of t) 80 k.1 }, g.1)
  by false e = tt

pub field_value_told : (s : List ℕ) → IfFound Told (value_field s)
field_value_told s =
    field_told Told (then (value_read 80 s) (λ t rest. cond (is_within t) (Some (t, rest)) None))
    (goes Good (λ (r : Tree × List ℕ). Told r.0) (value_read 80 s) (λ t rest. cond (is_within t) (Some (t, rest)) None) (value_good 80 s) (λ t rest g. bounded t rest g))
