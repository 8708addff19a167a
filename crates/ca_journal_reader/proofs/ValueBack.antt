-- A value is read again from its readable text.
use Rattle.std.proofs.Common.{◌≡◌, ℕ, zero, suc, ℤ, pos, negsuc, ◌+◌, ◌<◌, ◌≤◌, ◌^◌, min, List, [], ◌∷◌, ◌++◌, length, drop, refl, sym, ap, ap₂, subst, ◌∙◌, arith, Option, Some, None, Bool, true, false, cond, ◌==◌, ◌||◌, ◌&&◌, ne_eqb, eqb-true, append_assoc, append-nil, length-append, lt-ltb, le-leb, map}
use Rattle.std.specs.Prelude.{slice_index_or}
use Rattle.std.specs.Fmt.{decimal, signed_decimal}
use Rattle.std.specs.Str.Parse.{AllDigits}
use Rattle.std.proofs.lemmas.Fmt.{decimal_is_IsNumeral, decimal_nonempty}
use Rattle.ca_value.specs.Tree.{Tree, Trees, TreePairs, nil, bool, int, text, key, vector, map as map_tree, port, none, item, empty, pair, trees_of, pairs_of, items_of, entries_of}
use Rattle.ca_value.specs.declared.print.Style.TheVariants.{Readable}
use Rattle.ca_value.specs.Printed.{all_escaped, printed_value, printed_items, printed_more, printed_pairs, printed_more_pairs}
use Rattle.ca_value.specs.Measure.{weight_of, weight_of_items, weight_of_pairs, depth_of, depth_of_items, depth_of_pairs}
use Rattle.ca_value.specs.Equality.{equals, pair_count}
use Rattle.ca_value.specs.Maps.{put_pair}
use Rattle.ca_value.specs.IsValue.{written, IsRegular, AreRegular, ArePairsRegular, KeysDiffer, IsValue}
use Rattle.ca_meaning.specs.Shown.{IsShownInteger, IsShown, AreShown, PairsShown}
use Rattle.ca_meaning.proofs.LineWords.{Ends, class, first_class, tag, starts_with}
use Rattle.ca_journal_reader.specs.Found.{Found, then}
use Rattle.ca_journal_reader.specs.Words.{is_digit_byte, is_first, number_in, unspaced, field}
use Rattle.ca_journal_reader.specs.ValueText.{text_in, signed, int_of, signed_in, integer_in, key_in, named_in, scalar_in, items_read, uncomma, pair_in, pairs_read, vector_in, map_in, value_read, is_within, value_field}
use Rattle.ca_journal_reader.proofs.Numbers.{IsStop, digit_is, number_back}
use Rattle.ca_journal_reader.proofs.Loops.{items_step, pairs_step}
use Rattle.ca_journal_reader.proofs.TextBack.{quoted_back, key_back}

pub then_is : {A B : Type 0} (o : Found A) (f : A → List ℕ → Option B) (x : A) (r : List ℕ) (y : Option B) → o ≡ Some (x, r) → f x r ≡ y → then o f ≡ y
then_is {A} {B} o f x r y e g = ap (λ (z : Found A). then {B = B} z f) e ∙ g

-- what ends a word ends a number
pub ends_stop : (r : List ℕ) → Ends r → IsStop r
ends_stop [] e = tt
ends_stop (b ∷ r) e = by (b == 32) (b == 10) (b == 44) (b == 93) (b == 125) refl refl refl refl refl e where
  same : (n : ℕ) → (b == n) ≡ true → is_digit_byte n ≡ false → is_digit_byte b ≡ false
  same n e f = ap is_digit_byte (eqb-true b n e) ∙ f

  by : (p q r s t : Bool) → (b == 32) ≡ p → (b == 10) ≡ q → (b == 44) ≡ r → (b == 93) ≡ s → (b == 125) ≡ t → (p || (q || (r || (s || t)))) ≡ true → is_digit_byte b ≡ false
  by true q r s t e f g h i k = same 32 e refl
  by false true r s t e f g h i k = same 10 f refl
  by false false true s t e f g h i k = same 44 g refl
  by false false false true t e f g h i k = same 93 h refl
  by false false false false true e f g h i k = same 125 i refl
  by false false false false false e f g h i k = absurd (let j : false ≡ true = k in cc)

-- integers
signed_pos : (n : ℕ) (r : List ℕ) → n < 2 ^ 63 → Ends r → signed_in false (decimal n ++ r) ≡ Some (int (pos n), r)
signed_pos n r lt e =
    then_is (number_in (decimal n ++ r)) (λ n rest. int_of (signed false n) rest) n r _ (number_back n r (omega (arith, lt)) (ends_stop r e))
    (ap (λ (b : Bool). int_of (cond b (Some (pos n)) None) r) (lt-ltb n (2 ^ 63) lt))

signed_neg : (n : ℕ) (r : List ℕ) → n < 2 ^ 63 → Ends r → signed_in true (decimal (suc n) ++ r) ≡ Some (int (negsuc n), r)
signed_neg n r lt e =
    then_is (number_in (decimal (suc n) ++ r)) (λ n rest. int_of (signed true n) rest) (suc n) r _ (number_back (suc n) r (omega (arith, lt)) (ends_stop r e))
    (ap (λ (b : Bool). int_of (cond b (Some (negsuc n)) None) r) (le-leb (suc n) (2 ^ 63) (omega (arith, lt))))

-- digits begin an integer
abbrev Value : Type 0
Value = Found Tree

abbrev scalar_else : ℕ → List ℕ → Value
scalar_else b s = cond (b == 34) (text_in (drop 1 s)) (cond (b == 58) (key_in (drop 1 s)) (named_in b s))

digits_begin : (d : ℕ) (c : ℕ) (s : List ℕ) → is_digit_byte c ≡ true → 48 ≤ c → c ≤ 57 → value_read (suc d) (c ∷ s) ≡ signed_in false (c ∷ s)
digits_begin d c s is low high =
    ap (λ (b : Bool). cond {A = Value} b (vector_in (value_read d) s) (cond (c == 123) (map_in (value_read d) s) (scalar_in c (c ∷ s)))) (ne_eqb c 91 (λ e. omega (arith, e, high)))
    ∙ ap (λ (b : Bool). cond {A = Value} b (map_in (value_read d) s) (scalar_in c (c ∷ s))) (ne_eqb c 123 (λ e. omega (arith, e, high)))
    ∙ ap (λ (b : Bool). cond {A = Value} (b || c == 45) (integer_in (c ∷ s)) (scalar_else c (c ∷ s))) is
    ∙ ap (λ (b : Bool). cond {A = Value} b (signed_in true (drop 1 (c ∷ s))) (signed_in false (c ∷ s))) (ne_eqb c 45 (λ e. omega (arith, e, low)))

int_digits : (d : ℕ) (ds r : List ℕ) → AllDigits 10 ds → 0 < length ds → value_read (suc d) (ds ++ r) ≡ signed_in false (ds ++ r)
int_digits d [] r all h = absurd (omega (arith, h))
int_digits d (c ∷ cs) r all h = let k = digit_is c all.0 in digits_begin d c (cs ++ r) k.0 k.1 k.2

int_back : (d : ℕ) (z : ℤ) (r : List ℕ) → IsShownInteger z → Ends r → value_read (suc d) (signed_decimal z ++ r) ≡ Some (int z, r)
int_back d (pos n) r h e = int_digits d (decimal n) r (decimal_is_IsNumeral n (omega (arith, h))).0.1 (decimal_nonempty n (omega (arith, h))) ∙ signed_pos n r h e
int_back d (negsuc n) r h e = signed_neg n r h e

-- a byte that begins no value
tag_is : (t : Tree) → tag t ≡ 9 → ⊥
tag_is nil e = cc
tag_is (bool b) e = cc
tag_is (int z) e = cc
tag_is (text s) e = cc
tag_is (key s) e = cc
tag_is (vector ts) e = cc
tag_is (map_tree ps) e = cc
tag_is (port n) e = cc

not_first : (c k : ℕ) (s : List ℕ) → first_class s ≡ k → (k ≡ 9 → ⊥) → class c ≡ 9 → is_first c s ≡ false
not_first c k [] e n h = refl
not_first c k (b ∷ s) e n h = by (b == c) refl where
  by : (t : Bool) → (b == c) ≡ t → t ≡ false
  by true is = absurd (n (sym e ∙ ap class (eqb-true b c is) ∙ h))
  by false is = refl

pub no_first : (c : ℕ) (t : Tree) (x : List ℕ) → IsShown t → class c ≡ 9 → is_first c (printed_value Readable t ++ x) ≡ false
no_first c t x shown h = not_first c (tag t) (printed_value Readable t ++ x) (starts_with t x shown) (tag_is t) h

unspaced_same : (s : List ℕ) → is_first 32 s ≡ false → unspaced s ≡ s
unspaced_same [] e = refl
unspaced_same (b ∷ s) e = ap (λ (t : Bool). cond t s (b ∷ s)) e

uncomma_same : (s : List ℕ) → is_first 44 s ≡ false → uncomma s ≡ s
uncomma_same s e = ap (λ (t : Bool). cond t (unspaced (drop 1 s)) s) e

pub printed_there : (t : Tree) → IsShown t → 0 < length (printed_value Readable t)
printed_there t shown = by (printed_value Readable t) (sym (ap first_class (append-nil (printed_value Readable t))) ∙ starts_with t [] shown) where
  by : (s : List ℕ) → first_class s ≡ tag t → 0 < length s
  by [] e = absurd (tag_is t (sym e))
  by (b ∷ s) e = omega arith

-- how many bytes there are at the least
abbrev count_of : Trees → ℕ
count_of none = 0
count_of (item t ts) = suc (count_of ts)

more_long : (ts : Trees) (r : List ℕ) → count_of ts < length (printed_more Readable ts ++ (93 ∷ r))
more_long none r = omega arith
more_long (item t ts) r =
    let k = more_long ts r in
    let e : length ((printed_value Readable t ++ printed_more Readable ts) ++ (93 ∷ r)) ≡ length (printed_value Readable t) + length (printed_more Readable ts ++ (93 ∷ r)) = ap length (append_assoc (printed_value Readable t) (printed_more Readable ts) (93 ∷ r)) ∙ length-append (printed_value Readable t) (printed_more Readable ts ++ (93 ∷ r)) in
    omega (arith, k, e)

items_long : (ts : Trees) (r : List ℕ) → AreShown ts → count_of ts < length (printed_items Readable ts ++ (93 ∷ r))
items_long none r h = omega arith
items_long (item t ts) r h =
    let k = more_long ts r in
    let j = printed_there t h.0 in
    let e : length ((printed_value Readable t ++ printed_more Readable ts) ++ (93 ∷ r)) ≡ length (printed_value Readable t) + length (printed_more Readable ts ++ (93 ∷ r)) = ap length (append_assoc (printed_value Readable t) (printed_more Readable ts) (93 ∷ r)) ∙ length-append (printed_value Readable t) (printed_more Readable ts ++ (93 ∷ r)) in
    omega (arith, k, j, e)

weighs : (t : Tree) → 1 ≤ weight_of t
weighs nil = omega arith
weighs (bool b) = omega arith
weighs (int z) = omega arith
weighs (text s) = omega arith
weighs (key s) = omega arith
weighs (vector ts) = omega arith
weighs (map_tree ps) = omega arith
weighs (port n) = omega arith

pairs_weigh : (ps : TreePairs) → pair_count ps + pair_count ps ≤ weight_of_pairs ps
pairs_weigh empty = omega arith
pairs_weigh (pair k v ps) = let i = weighs k in let j = weighs v in let m = pairs_weigh ps in omega (arith, i, j, m)

more_pairs_long : (ps : TreePairs) (r : List ℕ) → pair_count ps < length (printed_more_pairs Readable ps ++ (125 ∷ r))
more_pairs_long empty r = omega arith
more_pairs_long (pair k v ps) r =
    let m = more_pairs_long ps r in
    let a = printed_value Readable k in
    let b = printed_value Readable v in
    let c = printed_more_pairs Readable ps in
    let e : length ((a ++ (32 ∷ (b ++ c))) ++ (125 ∷ r)) ≡ length a + suc (length b + length (c ++ (125 ∷ r))) =
    ap length (append_assoc a (32 ∷ (b ++ c)) (125 ∷ r)) ∙ length-append a (32 ∷ ((b ++ c) ++ (125 ∷ r))) ∙ ap (λ n. length a + suc n) (ap length (append_assoc b c (125 ∷ r)) ∙ length-append b (c ++ (125 ∷ r))) in
    omega (arith, m, e)

pairs_long : (ps : TreePairs) (r : List ℕ) → pair_count ps < length (printed_pairs Readable ps ++ (125 ∷ r))
pairs_long empty r = omega arith
pairs_long (pair k v ps) r =
    let m = more_pairs_long ps r in
    let a = printed_value Readable k in
    let b = printed_value Readable v in
    let c = printed_more_pairs Readable ps in
    let e : length ((a ++ (32 ∷ (b ++ c))) ++ (125 ∷ r)) ≡ length a + suc (length b + length (c ++ (125 ∷ r))) =
    ap length (append_assoc a (32 ∷ (b ++ c)) (125 ∷ r)) ∙ length-append a (32 ∷ ((b ++ c) ++ (125 ∷ r))) ∙ ap (λ n. length a + suc n) (ap length (append_assoc b c (125 ∷ r)) ∙ length-append b (c ++ (125 ∷ r))) in
    omega (arith, m, e)

-- a key that differs from all is put last
abbrev Unlike : Tree → List (Tree × Tree) → Type 0
Unlike k [] = Unit {0}
Unlike k (p ∷ ps) = (equals k p.0 ≡ false) × Unlike k ps

put_last : (ps : List (Tree × Tree)) (k v : Tree) → Unlike k ps → put_pair ps k v ≡ ps ++ (k, v) ∷ []
put_last [] k v h = refl
put_last (p ∷ ps) k v h = ap (λ (b : Bool). cond b ((p.0, v) ∷ ps) (p ∷ put_pair ps k v)) h.0 ∙ ap (λ z. p ∷ z) (put_last ps k v h.1)

abbrev Pairs : Type 0
Pairs = List (Tree × Tree)

-- what the first pair in a list differs from, the rest still does
differ_rest : (p : Tree × Tree) (ps : Pairs) → KeysDiffer (p ∷ ps) → KeysDiffer ps
differ_rest p ps h = λ i j d lt within. h (suc i) (suc j) d (omega (arith, lt)) (omega (arith, within))

key_there : (said : Pairs) (k v : Tree) (more : Pairs) → (slice_index_or (map (λ (p : Tree × Tree). p.0) (said ++ ((k, v) ∷ more))) (length said) nil ≡ k) × (length said < length (map (λ (p : Tree × Tree). p.0) (said ++ ((k, v) ∷ more))))
key_there [] k v more = (refl, omega arith)
key_there (p ∷ said) k v more = let m = key_there said k v more in (m.0, (let n = m.1 in omega (arith, n)))

unlike_all : (said : Pairs) (k v : Tree) (more : Pairs) → KeysDiffer (said ++ ((k, v) ∷ more)) → Unlike k said
unlike_all [] k v more h = tt
unlike_all (p ∷ said) k v more h =
    let m = key_there said k v more in
    let n = m.1 in
    let d = h 0 (suc (length said)) nil (omega arith) (omega (arith, n)) in
    (subst (λ (l : Tree). equals l p.0 ≡ false) m.0 d, unlike_all said k v more (differ_rest p (said ++ ((k, v) ∷ more)) h))

-- trees and pairs as lists
trees_items : (ts : Trees) → trees_of (items_of ts) ≡ ts
trees_items none = refl
trees_items (item t ts) = ap (λ us. item t us) (trees_items ts)

pairs_entries : (ps : TreePairs) → pairs_of (entries_of ps) ≡ ps
pairs_entries empty = refl
pairs_entries (pair k v ps) = ap (λ qs. pair k v qs) (pairs_entries ps)

more_ends : (ts : Trees) (r : List ℕ) → Ends (printed_more Readable ts ++ (93 ∷ r))
more_ends none r = refl
more_ends (item t ts) r = refl

pairs_end : (ps : TreePairs) (r : List ℕ) → Ends (printed_more_pairs Readable ps ++ (125 ∷ r))
pairs_end empty r = refl
pairs_end (pair k v ps) r = refl

-- what is asked of a value that is read again
record IsGood (d : ℕ) (t : Tree) : Type 0 where
  deep : depth_of t ≤ d
  light : weight_of t ≤ 131072
  regular : IsRegular written t
  shown : IsShown t

record AreGood (d : ℕ) (ts : Trees) : Type 0 where
  deep : depth_of_items ts ≤ d
  light : weight_of_items ts ≤ 131072
  regular : AreRegular written ts
  shown : AreShown ts

record PairsGood (d : ℕ) (ps : TreePairs) : Type 0 where
  deep : depth_of_pairs ps ≤ d
  light : weight_of_pairs ps ≤ 131072
  regular : ArePairsRegular written ps
  shown : PairsShown ps

first_good : (d : ℕ) (t : Tree) (ts : Trees) → AreGood d (item t ts) → IsGood d t
first_good d t ts h = record { deep = (let k = h.deep in omega (arith, k)); light = (let k = h.light in omega (arith, k)); regular = h.regular.0; shown = h.shown.0 }

rest_good : (d : ℕ) (t : Tree) (ts : Trees) → AreGood d (item t ts) → AreGood d ts
rest_good d t ts h = record { deep = (let k = h.deep in omega (arith, k)); light = (let k = h.light in omega (arith, k)); regular = h.regular.1; shown = h.shown.1 }

key_good : (d : ℕ) (k v : Tree) (ps : TreePairs) → PairsGood d (pair k v ps) → IsGood d k
key_good d k v ps h = record { deep = (let e = h.deep in omega (arith, e)); light = (let e = h.light in omega (arith, e)); regular = h.regular.0; shown = h.shown.0 }

value_good : (d : ℕ) (k v : Tree) (ps : TreePairs) → PairsGood d (pair k v ps) → IsGood d v
value_good d k v ps h = record { deep = (let e = h.deep in omega (arith, e)); light = (let e = h.light in omega (arith, e)); regular = h.regular.1; shown = h.shown.1 }

pairs_good : (d : ℕ) (k v : Tree) (ps : TreePairs) → PairsGood d (pair k v ps) → PairsGood d ps
pairs_good d k v ps h = record { deep = (let e = h.deep in omega (arith, e)); light = (let e = h.light in omega (arith, e)); regular = h.regular.2; shown = h.shown.2 }

-- one item, behind what is passed over
one_item : (f : List ℕ → Found Tree) (n : ℕ) (said : List Tree) (s : List ℕ) (t : Tree) (x : List ℕ)
    → unspaced s ≡ printed_value Readable t ++ x → IsShown t → f (printed_value Readable t ++ x) ≡ Some (t, x) → items_read f (suc n) said s ≡ items_read f n (said ++ t ∷ []) x
one_item f n said s t x e h is = sym (items_step f (suc n) n said (said ++ t ∷ []) s (printed_value Readable t ++ x) x t refl (sym e) (no_first 93 t x h refl) is refl)

one_pair : (f : List ℕ → Found Tree) (n : ℕ) (said : Pairs) (s : List ℕ) (k v : Tree) (x : List ℕ)
    → uncomma s ≡ printed_value Readable k ++ (32 ∷ (printed_value Readable v ++ x)) → IsShown k → f (printed_value Readable k ++ (32 ∷ (printed_value Readable v ++ x))) ≡ Some (k, 32 ∷ (printed_value Readable v ++ x))
    → f (printed_value Readable v ++ x) ≡ Some (v, x) → Unlike k said → pairs_read f (suc n) said s ≡ pairs_read f n (said ++ (k, v) ∷ []) x
one_pair f n said s k v x e h is_key is_value unlike =
    let whole = printed_value Readable k ++ (32 ∷ (printed_value Readable v ++ x)) in
    let both : pair_in f whole ≡ Some ((k, v), x) =
    then_is (f whole) (λ k rest. then (f (unspaced rest)) (λ v rest. Some ((k, v), rest))) k (32 ∷ (printed_value Readable v ++ x)) _ is_key
    (then_is (f (printed_value Readable v ++ x)) (λ v rest. Some ((k, v), rest)) v x _ is_value refl) in
    sym (pairs_step f (suc n) n said (said ++ (k, v) ∷ []) s whole x (k, v) refl (sym e) (no_first 125 k (32 ∷ (printed_value Readable v ++ x)) h refl) both (sym (put_last said k v unlike)))

last_item : (f : List ℕ → Found Tree) (n : ℕ) (said : List Tree) (r : List ℕ) → 0 < n → items_read f n said (93 ∷ r) ≡ Some (said, r)
last_item f zero said r h = absurd (omega (arith, h))
last_item f (suc n) said r h = refl

last_pair : (f : List ℕ → Found Tree) (n : ℕ) (said : Pairs) (r : List ℕ) → 0 < n → pairs_read f n said (125 ∷ r) ≡ Some (said, r)
last_pair f zero said r h = absurd (omega (arith, h))
last_pair f (suc n) said r h = refl

abbrev Reads : ℕ → Tree → Type 0
Reads d t = (r : List ℕ) → IsGood d t → Ends r → value_read d (printed_value Readable t ++ r) ≡ Some (t, r)

abbrev Behind : ℕ → Trees → Type 0
Behind d ts = (n : ℕ) (said : List Tree) (r : List ℕ) → AreGood d ts → count_of ts < n → items_read (value_read d) n said (printed_more Readable ts ++ (93 ∷ r)) ≡ Some (said ++ items_of ts, r)

abbrev PairsBehind : ℕ → TreePairs → Type 0
PairsBehind d ps = (n : ℕ) (said : Pairs) (r : List ℕ) → PairsGood d ps → KeysDiffer (said ++ entries_of ps) → pair_count ps < n → pairs_read (value_read d) n said (printed_more_pairs Readable ps ++ (125 ∷ r)) ≡ Some (said ++ entries_of ps, r)

-- an item and those behind it, wherever the item begins
items_go : (d : ℕ) (t : Tree) (ts : Trees) → Reads d t → Behind d ts → (n : ℕ) (said : List Tree) (s r : List ℕ) → AreGood d (item t ts) → suc (count_of ts) < n
    → unspaced s ≡ (printed_value Readable t ++ printed_more Readable ts) ++ (93 ∷ r) → items_read (value_read d) n said s ≡ Some (said ++ (t ∷ items_of ts), r)
items_go d t ts one rest zero said s r h lt e = absurd (omega (arith, lt))
items_go d t ts one rest (suc n) said s r h lt e =
    let x = printed_more Readable ts ++ (93 ∷ r) in
    one_item (value_read d) n said s t x (e ∙ append_assoc (printed_value Readable t) (printed_more Readable ts) (93 ∷ r)) h.shown.0 (one x (first_good d t ts h) (more_ends ts r))
    ∙ rest n (said ++ t ∷ []) r (rest_good d t ts h) (omega (arith, lt))
    ∙ ap (λ (z : List Tree). Some (z, r)) (append_assoc said (t ∷ []) (items_of ts))

pairs_go : (d : ℕ) (k v : Tree) (ps : TreePairs) → Reads d k → Reads d v → PairsBehind d ps → (n : ℕ) (said : Pairs) (s r : List ℕ) → PairsGood d (pair k v ps) → KeysDiffer (said ++ ((k, v) ∷ entries_of ps)) → suc (pair_count ps) < n
    → uncomma s ≡ (printed_value Readable k ++ (32 ∷ (printed_value Readable v ++ printed_more_pairs Readable ps))) ++ (125 ∷ r) → pairs_read (value_read d) n said s ≡ Some (said ++ ((k, v) ∷ entries_of ps), r)
pairs_go d k v ps one two rest zero said s r h differ lt e = absurd (omega (arith, lt))
pairs_go d k v ps one two rest (suc n) said s r h differ lt e =
    let c = printed_more_pairs Readable ps in
    let x = c ++ (125 ∷ r) in
    let f : uncomma s ≡ printed_value Readable k ++ (32 ∷ (printed_value Readable v ++ x)) = e ∙ append_assoc (printed_value Readable k) (32 ∷ (printed_value Readable v ++ c)) (125 ∷ r) ∙ ap (λ z. printed_value Readable k ++ (32 ∷ z)) (append_assoc (printed_value Readable v) c (125 ∷ r)) in
    one_pair (value_read d) n said s k v x f h.shown.0 (one (32 ∷ (printed_value Readable v ++ x)) (key_good d k v ps h) refl) (two x (value_good d k v ps h) (pairs_end ps r)) (unlike_all said k v (entries_of ps) differ)
    ∙ rest n (said ++ (k, v) ∷ []) r (pairs_good d k v ps h) (subst (λ (z : Pairs). KeysDiffer z) (sym (append_assoc said ((k, v) ∷ []) (entries_of ps))) differ) (omega (arith, lt))
    ∙ ap (λ (z : Pairs). Some (z, r)) (append_assoc said ((k, v) ∷ []) (entries_of ps))

-- a vector and a map whose parts are read again
vector_go : (d : ℕ) (ts : Trees) (r : List ℕ) → items_read (value_read d) (length (printed_items Readable ts ++ (93 ∷ r))) [] (printed_items Readable ts ++ (93 ∷ r)) ≡ Some (items_of ts, r)
    → vector_in (value_read d) ((printed_items Readable ts ++ 93 ∷ []) ++ r) ≡ Some (vector ts, r)
vector_go d ts r is =
    ap (λ z. vector_in (value_read d) z) (append_assoc (printed_items Readable ts) (93 ∷ []) r)
    ∙ then_is _ (λ ts rest. Some (vector (trees_of ts), rest)) (items_of ts) r _ is (ap (λ us. Some (vector us, r)) (trees_items ts))

map_go : (d : ℕ) (ps : TreePairs) (r : List ℕ) → pairs_read (value_read d) (min (length (printed_pairs Readable ps ++ (125 ∷ r))) 65536) [] (printed_pairs Readable ps ++ (125 ∷ r)) ≡ Some (entries_of ps, r)
    → map_in (value_read d) ((printed_pairs Readable ps ++ 125 ∷ []) ++ r) ≡ Some (map_tree ps, r)
map_go d ps r is =
    ap (λ z. map_in (value_read d) z) (append_assoc (printed_pairs Readable ps) (125 ∷ []) r)
    ∙ then_is _ (λ ps rest. Some (map_tree (pairs_of ps), rest)) (entries_of ps) r _ is (ap (λ qs. Some (map_tree qs, r)) (pairs_entries ps))

port_go : (n : ℕ) (r : List ℕ) → n < 2 ^ 64 → Ends r → then {B = Tree × List ℕ} (number_in (decimal n ++ r)) (λ n rest. Some (port n, rest)) ≡ Some (port n, r)
port_go n r lt e = then_is (number_in (decimal n ++ r)) (λ n rest. Some (port n, rest)) n r _ (number_back n r lt (ends_stop r e)) refl

text_go : (s r : List ℕ) → text_in ((all_escaped s ++ 34 ∷ []) ++ r) ≡ Some (text s, r)
text_go s r = then_is _ (λ said rest. Some (text said, rest)) s r _ (quoted_back s r) refl

no_depth : {P : Type 0} (t : Tree) → IsGood 0 t → P
no_depth t h = let k = h.deep in absurd (by t k) where
  by : (t : Tree) → depth_of t ≤ 0 → ⊥
  by nil k = omega (arith, k)
  by (bool b) k = omega (arith, k)
  by (int z) k = omega (arith, k)
  by (text s) k = omega (arith, k)
  by (key s) k = omega (arith, k)
  by (vector ts) k = omega (arith, k)
  by (map_tree ps) k = omega (arith, k)
  by (port n) k = omega (arith, k)

parts_good : (d : ℕ) (ts : Trees) → IsGood (suc d) (vector ts) → AreGood d ts
parts_good d ts h = record { deep = (let e = h.deep in omega (arith, e)); light = (let e = h.light in omega (arith, e)); regular = h.regular; shown = h.shown }

entries_good : (d : ℕ) (ps : TreePairs) → IsGood (suc d) (map_tree ps) → PairsGood d ps
entries_good d ps h = record { deep = (let e = h.deep in omega (arith, e)); light = (let e = h.light in omega (arith, e)); regular = h.regular.1; shown = h.shown }

few : (ps : TreePairs) (r : List ℕ) → weight_of (map_tree ps) ≤ 131072 → pair_count ps < min (length (printed_pairs Readable ps ++ (125 ∷ r))) 65536
few ps r h = let k = pairs_weigh ps in let j = pairs_long ps r in omega (arith, h, k, j)

mutual
  value_back : (t : Tree) (d : ℕ) → Reads d t
  value_back t zero r h e = no_depth t h
  value_back nil (suc d) r h e = refl
  value_back (bool true) (suc d) r h e = refl
  value_back (bool false) (suc d) r h e = refl
  value_back (int z) (suc d) r h e = int_back d z r h.shown e
  value_back (text s) (suc d) r h e = text_go s r
  value_back (key s) (suc d) r h e = key_back s r h.regular e
  value_back (vector ts) (suc d) r h e = vector_go d ts r (items_back ts d (length (printed_items Readable ts ++ (93 ∷ r))) r (parts_good d ts h) (items_long ts r h.shown))
  value_back (map_tree ps) (suc d) r h e = map_go d ps r (pairs_back ps d (min (length (printed_pairs Readable ps ++ (125 ∷ r))) 65536) r (entries_good d ps h) h.regular.0 (few ps r h.light))
  value_back (port n) (suc d) r h e = port_go n r h.shown e

  items_back : (ts : Trees) (d n : ℕ) (r : List ℕ) → AreGood d ts → count_of ts < n → items_read (value_read d) n [] (printed_items Readable ts ++ (93 ∷ r)) ≡ Some (items_of ts, r)
  items_back none d n r h lt = last_item (value_read d) n [] r lt
  items_back (item t ts) d n r h lt =
      let s = (printed_value Readable t ++ printed_more Readable ts) ++ (93 ∷ r) in
      let x = printed_more Readable ts ++ (93 ∷ r) in
      let first : is_first 32 s ≡ false = ap (is_first 32) (append_assoc (printed_value Readable t) (printed_more Readable ts) (93 ∷ r)) ∙ no_first 32 t x h.shown.0 refl in
      items_go d t ts (value_back t d) (more_back ts d) n [] s r h lt (unspaced_same s first)

  more_back : (ts : Trees) (d : ℕ) → Behind d ts
  more_back none d n said r h lt = last_item (value_read d) n said r lt ∙ ap (λ (z : List Tree). Some (z, r)) (sym (append-nil said))
  more_back (item t ts) d n said r h lt = items_go d t ts (value_back t d) (more_back ts d) n said (32 ∷ ((printed_value Readable t ++ printed_more Readable ts) ++ (93 ∷ r))) r h lt refl

  pairs_back : (ps : TreePairs) (d n : ℕ) (r : List ℕ) → PairsGood d ps → KeysDiffer (entries_of ps) → pair_count ps < n → pairs_read (value_read d) n [] (printed_pairs Readable ps ++ (125 ∷ r)) ≡ Some (entries_of ps, r)
  pairs_back empty d n r h differ lt = last_pair (value_read d) n [] r lt
  pairs_back (pair k v ps) d n r h differ lt =
      let s = (printed_value Readable k ++ (32 ∷ (printed_value Readable v ++ printed_more_pairs Readable ps))) ++ (125 ∷ r) in
      let x = (32 ∷ (printed_value Readable v ++ printed_more_pairs Readable ps)) ++ (125 ∷ r) in
      let first : is_first 44 s ≡ false = ap (is_first 44) (append_assoc (printed_value Readable k) (32 ∷ (printed_value Readable v ++ printed_more_pairs Readable ps)) (125 ∷ r)) ∙ no_first 44 k x h.shown.0 refl in
      pairs_go d k v ps (value_back k d) (value_back v d) (more_pairs_back ps d) n [] s r h differ lt (uncomma_same s first)

  more_pairs_back : (ps : TreePairs) (d : ℕ) → PairsBehind d ps
  more_pairs_back empty d n said r h differ lt = last_pair (value_read d) n said r lt ∙ ap (λ (z : Pairs). Some (z, r)) (sym (append-nil said))
  more_pairs_back (pair k v ps) d n said r h differ lt =
      pairs_go d k v ps (value_back k d) (value_back v d) (more_pairs_back ps d) n said (44 ∷ (32 ∷ ((printed_value Readable k ++ (32 ∷ (printed_value Readable v ++ printed_more_pairs Readable ps))) ++ (125 ∷ r)))) r h differ lt refl

-- a value within the bounds
pub field_back : (t : Tree) (r : List ℕ) → IsValue written t → IsShown t → Ends r → value_field (printed_value Readable t ++ r) ≡ Some (t, unspaced r)
field_back t r v h e =
    let is = value_back t 80 r (record { deep = v.shallow; light = v.light; regular = v.regular; shown = h }) e in
    let within : is_within t ≡ true = ap₂ (λ (a b : Bool). a && b) (le-leb (weight_of t) 131072 v.light) (le-leb (depth_of t) 80 v.shallow) in
    ap (λ (o : Found Tree). field o) (then_is (value_read 80 (printed_value Readable t ++ r)) (λ t rest. cond (is_within t) (Some (t, rest)) None) t r _ is (ap (λ (b : Bool). cond {A = Found Tree} b (Some (t, r)) None) within))
