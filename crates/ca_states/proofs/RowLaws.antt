-- Slots in a row, marks, and what is known of slots.
use Rattle.std.proofs.Common.{◌≡◌, ℕ, zero, suc, ◌+◌, ◌-◌, ◌<◌, ◌≤◌, List, [], ◌∷◌, length, map, drop, get_or, set, Bool, true, false, Some, None, refl, sym, ap, ap₂, ◌∙◌, subst, arith}
use Rattle.std.proofs.lemmas.Bool.{eqb-false, eq-eqb, ltb-true, lt-ltb, le-ltb, leb-true, leb-false}
use Rattle.std.proofs.Math.Dec.{eqb-suc-zero, eqb-zero-suc, eqb-suc-suc}
use Rattle.std.specs.Prelude.{cond, ◌&&◌, nat_eq, nat_lt, nat_le, slice_get, IsTrue, IfSome}
use Rattle.ca_states.specs.declared.code.Mark.{Mark}
use Rattle.ca_states.specs.declared.code.Exit.{Exit}
use Rattle.ca_states.specs.declared.code.Block.{Block}
use Rattle.ca_states.specs.Code.{Slots, has_slot, Instruction, BlockView, CodeView, block_at, no_block, block_view}
use Rattle.ca_states.specs.Machine.{slots_from}
use Rattle.ca_states.specs.Touched.{read_by, emptied_by, written_by, read_at, emptied_at, answered_at, targets}
use Rattle.ca_states.specs.Valid.{KnownSlots, each, are_below, is_counted, is_counted_exit, is_target, is_instruction_in_range, is_exit_in_range, is_in_range, is_valid_block, are_valid_blocks, slot_noted, noted_all, after_instruction, known_after, reads_known, known_past, implies, are_entry_slots_known}
use Rattle.ca_states.specs.Told.{said}

pub drop_first : {A : Type 0} → (xs : List A) (i : ℕ) (d : A) → i < length xs → drop i xs ≡ get_or xs i d ∷ drop (i + 1) xs
drop_first [] i d lt = absurd (omega (arith, lt))
drop_first (x ∷ xs) zero d lt = refl
drop_first (x ∷ xs) (suc i) d lt =
    let e : suc i + 1 ≡ suc (i + 1) = omega arith in
    drop_first xs i d (omega (arith, lt)) ∙ ap (λ n. get_or xs i d ∷ drop n (x ∷ xs)) (sym e)

pub get_set : {A : Type 0} → (xs : List A) (a k : ℕ) (v : A) → a < length xs → slice_get (set xs a v) k ≡ cond (nat_eq k a) (Some v) (slice_get xs k)
get_set [] a k v lt = absurd (omega (arith, lt))
get_set (x ∷ xs) zero zero v lt = refl
get_set (x ∷ xs) zero (suc k) v lt = ap (λ b. cond b (Some v) (slice_get xs k)) (sym (eqb-suc-zero k))
get_set (x ∷ xs) (suc a) zero v lt = ap (λ b. cond b (Some v) (Some x)) (sym (eqb-zero-suc a))
get_set (x ∷ xs) (suc a) (suc k) v lt = get_set xs a k v (omega (arith, lt)) ∙ ap (λ b. cond b (Some v) (slice_get xs k)) (sym (eqb-suc-suc k a))

pub same_number : (n : ℕ) → nat_eq n n ≡ true
same_number n = eq-eqb n n refl

pub said_set : (ms : List Mark) (a k block : ℕ) (known other : Bool) → a < length ms
    → said (slice_get (set ms a (record { block = block; known = known })) k) block other ≡ cond (nat_eq k a) known (said (slice_get ms k) block other)
said_set ms a k block known other lt =
    ap (λ m. said m block other) (get_set ms a k (record { block = block; known = known }) lt) ∙ by (nat_eq k a)
  where
    by : (b : Bool) → said (cond b (Some (record { block = block; known = known })) (slice_get ms k)) block other ≡ cond b known (said (slice_get ms k) block other)
    by true = ap (λ b. cond b known other) (same_number block)
    by false = refl

pub before_set : (ms : List Mark) (a : ℕ) (m : Mark) (n : ℕ) → a < length ms → m.block < n → ((k : ℕ) → IfSome (slice_get ms k) (λ x. x.block < n)) → (k : ℕ) → IfSome (slice_get (set ms a m) k) (λ x. x.block < n)
before_set ms a m n lt small old k = subst (λ o. IfSome o (λ x. x.block < n)) (sym (get_set ms a k m lt)) (by (nat_eq k a))
  where
    by : (b : Bool) → IfSome (cond b (Some m) (slice_get ms k)) (λ x. x.block < n)
    by true = small
    by false = old k

-- what holds of the marks below a place and of the one put there holds of those below the next place
pub below_set : (ms : List Mark) (a : ℕ) (m : Mark) (n : ℕ) → a < length ms → m.block < n → ((k : ℕ) → k < a → IfSome (slice_get ms k) (λ x. x.block < n)) → (k : ℕ) → k < a + 1 → IfSome (slice_get (set ms a m) k) (λ x. x.block < n)
below_set ms a m n lt small old k lk = subst (λ o. IfSome o (λ x. x.block < n)) (sym (get_set ms a k m lt)) (by (nat_eq k a) refl)
  where
    by : (b : Bool) → nat_eq k a ≡ b → IfSome (cond b (Some m) (slice_get ms k)) (λ x. x.block < n)
    by true e = small
    by false e = old k (omega (arith, lk, eqb-false k a e))

past_all : (ms : List Mark) (n : ℕ) → ((k : ℕ) → k < length ms → IfSome (slice_get ms k) (λ x. x.block < n)) → (k : ℕ) → IfSome (slice_get ms k) (λ x. x.block < n)
past_all [] n h k = tt
past_all (m ∷ ms) n h zero = h zero (omega arith)
past_all (m ∷ ms) n h (suc k) = past_all ms n (λ j lt. h (suc j) (omega (arith, lt))) k

pub all_before : (ms : List Mark) (n : ℕ) → ((k : ℕ) → k < length ms → IfSome (slice_get ms k) (λ x. x.block < n)) → (k : ℕ) → IfSome (slice_get ms k) (λ x. x.block < n)
all_before = past_all

-- of slots in a row
pub row_within : (width a n i : ℕ) → IsTrue (are_below width (slots_from a n)) → i < n → a + i < width
row_within width a zero i h lt = absurd (omega (arith, lt))
row_within width a (suc n) i h lt = by (nat_lt a width) refl h i lt (row_within width (suc a) n)
  where
    by : (b : Bool) → nat_lt a width ≡ b → IsTrue (b && are_below width (slots_from (suc a) n)) → (i : ℕ) → i < suc n
        → ((i : ℕ) → IsTrue (are_below width (slots_from (suc a) n)) → i < n → suc a + i < width) → a + i < width
    by false e h i lt more = absurd (let f : false ≡ true = h in cc)
    by true e h zero lt more = let f : a < width = ltb-true a width e in omega (arith, f)
    by true e h (suc i) lt more = let r : suc a + i < width = more i h (omega (arith, lt)) in omega (arith, r)

pub row_first : (a i n : ℕ) → i < n → slots_from (a + i) (n - i) ≡ (a + i) ∷ slots_from (a + (i + 1)) (n - (i + 1))
row_first a i n lt =
    let e : n - i ≡ suc (n - (i + 1)) = omega (arith, lt) in
    let f : suc (a + i) ≡ a + (i + 1) = omega arith in
    ap (slots_from (a + i)) e ∙ ap (λ m. (a + i) ∷ slots_from m (n - (i + 1))) f

pub row_start : (a n : ℕ) → slots_from (a + 0) (n - 0) ≡ slots_from a n
row_start a n = let e : a + 0 ≡ a = omega arith in let f : n - 0 ≡ n = omega arith in ap (λ m. slots_from m (n - 0)) e ∙ ap (slots_from a) f

pub row_end : (a i n : ℕ) → n ≤ i → slots_from a (n - i) ≡ []
row_end a i n le = let e : n - i ≡ 0 = omega (arith, le) in ap (slots_from a) e

-- what is known is so slot by slot
pub noted_same : (b : Bool) (a : ℕ) (K L : KnownSlots) → ((k : ℕ) → K k ≡ L k) → (k : ℕ) → slot_noted b a K k ≡ slot_noted b a L k
noted_same b a K L h k = ap (λ x. cond (nat_eq k a) b x) (h k)

pub noted_all_same : (b : Bool) (ks : List ℕ) (K L : KnownSlots) → ((k : ℕ) → K k ≡ L k) → (k : ℕ) → noted_all b ks K k ≡ noted_all b ks L k
noted_all_same b [] K L h k = h k
noted_all_same b (a ∷ ks) K L h k = noted_all_same b ks (slot_noted b a K) (slot_noted b a L) (noted_same b a K L h) k

pub each_same : (K L : KnownSlots) (ks : List ℕ) → ((k : ℕ) → K k ≡ L k) → each K ks ≡ each L ks
each_same K L [] h = refl
each_same K L (a ∷ ks) h = ap (λ b. b && each K ks) (h a) ∙ ap (λ b. L a && b) (each_same K L ks h)

pub each_range : (K : KnownSlots) (a i n : ℕ) → i < n → each K (slots_from (a + i) (n - i)) ≡ (K (a + i) && each K (slots_from (a + (i + 1)) (n - (i + 1))))
each_range K a i n lt = ap (each K) (row_first a i n lt)

pub each_range_start : (K : KnownSlots) (a n : ℕ) → each K (slots_from (a + 0) (n - 0)) ≡ each K (slots_from a n)
each_range_start K a n = ap (each K) (row_start a n)

pub each_range_end : (K : KnownSlots) (a i n : ℕ) → n ≤ i → each K (slots_from a (n - i)) ≡ true
each_range_end K a i n le = ap (each K) (row_end a i n le)

-- a row of slots is below the width, by its ends
pub row_below : (width a n : ℕ) → a + n ≤ width → are_below width (slots_from a n) ≡ true
row_below width a zero le = refl
row_below width a (suc n) le =
    ap (λ b. b && are_below width (slots_from (suc a) n)) (lt-ltb a width (omega (arith, le))) ∙ row_below width (suc a) n (omega (arith, le))

pub row_none : (width a n : ℕ) → n ≡ 0 → are_below width (slots_from a n) ≡ true
row_none width a n e = ap (λ m. are_below width (slots_from a m)) e

pub row_past : (width a n : ℕ) → 0 < n → width ≤ a → are_below width (slots_from a n) ≡ false
row_past width a zero lt le = absurd (omega (arith, lt))
row_past width a (suc n) lt le = ap (λ b. b && are_below width (slots_from (suc a) n)) (le-ltb a width le)

pub row_test : (width a n : ℕ) → 0 < n → a < width → nat_le n (width - a) ≡ are_below width (slots_from a n)
row_test width a n lt aw = by (nat_le n (width - a)) refl (are_below width (slots_from a n)) refl
  where
    by : (b : Bool) → nat_le n (width - a) ≡ b → (d : Bool) → are_below width (slots_from a n) ≡ d → b ≡ d
    by true e true f = refl
    by false e false f = refl
    by true e false f = sym (row_below width a n (let h : n ≤ width - a = leb-true n (width - a) e in omega (arith, h, aw))) ∙ f
    by false e true f =
        let h : width - a < n = leb-false n (width - a) e in
        let g : a + (n - 1) < width = row_within width a n (n - 1) f (omega (arith, lt)) in
        absurd (omega (arith, h, g, lt))

-- of slots in a row from a place on
pub each_up : (K : KnownSlots) (i n : ℕ) → i < n → each K (slots_from i (n - i)) ≡ (K i && each K (slots_from (i + 1) (n - (i + 1))))
each_up K i n lt =
    let e : n - i ≡ suc (n - (i + 1)) = omega (arith, lt) in
    let f : suc i ≡ i + 1 = omega arith in
    ap (λ m. each K (slots_from i m)) e ∙ ap (λ m. K i && each K (slots_from m (n - (i + 1)))) f

pub each_up_end : (K : KnownSlots) (i n : ℕ) → n ≤ i → each K (slots_from i (n - i)) ≡ true
each_up_end K i n le = ap (each K) (row_end i i n le)

-- each of them is below a greater width too
pub below_more : (width wider : ℕ) (ks : List ℕ) → width ≤ wider → IsTrue (are_below width ks) → IsTrue (are_below wider ks)
below_more width wider [] le h = h
below_more width wider (a ∷ ks) le h = by (nat_lt a width) refl h (below_more width wider ks le)
  where
    by : (b : Bool) → nat_lt a width ≡ b → IsTrue (b && are_below width ks) → (IsTrue (are_below width ks) → IsTrue (are_below wider ks)) → IsTrue (nat_lt a wider && are_below wider ks)
    by false e h more = absurd (let f : false ≡ true = h in cc)
    by true e h more = ap (λ b. b && are_below wider ks) (lt-ltb a wider (let l : a < width = ltb-true a width e in omega (arith, l, le))) ∙ more h

-- both of two tests
pub both : (a b : Bool) → IsTrue (a && b) → IsTrue a × IsTrue b
both true b h = (refl, h)
both false b h = absurd (let f : false ≡ true = h in cc)

pub after_same : (i : Instruction) (K L : KnownSlots) → ((k : ℕ) → K k ≡ L k) → (k : ℕ) → after_instruction i K k ≡ after_instruction i L k
after_same i K L h = noted_all_same true (written_by i) (noted_all false (emptied_by i) K) (noted_all false (emptied_by i) L) (noted_all_same false (emptied_by i) K L h)

pub past_same : (x : Exit) (K L : KnownSlots) → ((k : ℕ) → K k ≡ L k) → (k : ℕ) → known_past x K k ≡ known_past x L k
past_same x K L h = noted_all_same true (answered_at x) (noted_all false (emptied_at x) K) (noted_all false (emptied_at x) L) (noted_all_same false (emptied_at x) K L h)

pub known_after_same : (is : List Instruction) (K L : KnownSlots) → ((k : ℕ) → K k ≡ L k) → (k : ℕ) → known_after K is k ≡ known_after L is k
known_after_same [] K L h k = h k
known_after_same (i ∷ is) K L h k = known_after_same is (after_instruction i K) (after_instruction i L) (after_same i K L h) k

pub reads_known_same : (is : List Instruction) (K L : KnownSlots) → ((k : ℕ) → K k ≡ L k) → reads_known K is ≡ reads_known L is
reads_known_same [] K L h = refl
reads_known_same (i ∷ is) K L h =
    ap (λ b. b && reads_known (after_instruction i K) is) (each_same K L (read_by i) h)
    ∙ ap (λ b. each L (read_by i) && b) (reads_known_same is (after_instruction i K) (after_instruction i L) (after_same i K L h))

pub entry_slots_same : (s : Slots) (K L : KnownSlots) → ((k : ℕ) → K k ≡ L k) → are_entry_slots_known K s ≡ are_entry_slots_known L s
entry_slots_same s K L h = each_same (λ k. implies (has_slot s k) (K k)) (λ k. implies (has_slot s k) (L k)) (slots_from 0 s.below) (λ k. ap (implies (has_slot s k)) (h k))

pub targets_same : (C : CodeView) (ns : List ℕ) (K L : KnownSlots) → ((k : ℕ) → K k ≡ L k)
    → each (λ n. are_entry_slots_known K (block_at C n).entry) ns ≡ each (λ n. are_entry_slots_known L (block_at C n).entry) ns
targets_same C ns K L h = each_same (λ n. are_entry_slots_known K (block_at C n).entry) (λ n. are_entry_slots_known L (block_at C n).entry) ns (λ n. entry_slots_same (block_at C n).entry K L h)

-- the slots that an instruction in range names are below a greater width too
pub in_range_parts : (width wider : ℕ) (i : Instruction) → width ≤ wider → IsTrue (is_instruction_in_range width i)
    → IsTrue (are_below wider (read_by i)) × IsTrue (are_below wider (emptied_by i)) × IsTrue (are_below wider (written_by i))
in_range_parts width wider i le h =
    let counted = both (are_below width (read_by i) && are_below width (emptied_by i) && are_below width (written_by i)) (is_counted i) h in
    let writes = both (are_below width (read_by i) && are_below width (emptied_by i)) (are_below width (written_by i)) counted.0 in
    let reads = both (are_below width (read_by i)) (are_below width (emptied_by i)) writes.0 in
    (below_more width wider (read_by i) le reads.0, below_more width wider (emptied_by i) le reads.1, below_more width wider (written_by i) le writes.1)

pub drop_item : {A : Type 0} → (xs : List A) (i : ℕ) (x : A) → i < length xs → x ≡ get_or xs i x → drop i xs ≡ x ∷ drop (i + 1) xs
drop_item xs i x lt e = drop_first xs i x lt ∙ ap (λ y. y ∷ drop (i + 1) xs) (sym e)

pub none_at : {A B : Type 0} → (f : A → B) (xs : List A) (n : ℕ) (d : B) → slice_get xs n ≡ None → get_or (map f xs) n d ≡ d
none_at f [] n d e = refl
none_at f (x ∷ xs) zero d e = absurd (let g : Some x ≡ None = e in cc)
none_at f (x ∷ xs) (suc n) d e = none_at f xs n d e

pub some_at : {A B : Type 0} → (f : A → B) (xs : List A) (n : ℕ) (x : A) (d : B) → slice_get xs n ≡ Some x → get_or (map f xs) n d ≡ f x
some_at f [] n x d e = absurd (let g : None ≡ Some x = e in cc)
some_at f (y ∷ ys) zero x d e = let g : y ≡ x = cc in ap f g
some_at f (y ∷ ys) (suc n) x d e = some_at f ys n x d e

-- what it says of a block that it is in range
pub record RangeParts (C : CodeView) (b : BlockView) : Type 0 where
  pub wide : b.width ≤ C.width
  pub instrs : IsTrue (each (is_instruction_in_range b.width) b.instrs)
  pub reads : IsTrue (are_below b.width (read_at b.exit))
  pub empties : IsTrue (are_below b.width (emptied_at b.exit))
  pub answers : IsTrue (are_below b.width (answered_at b.exit))

pub range_parts : (C : CodeView) (b : BlockView) → IsTrue (is_in_range C b) → RangeParts C b
range_parts C b h =
    let four = both (nat_le b.width C.width && nat_le b.entry.below b.width && each (is_instruction_in_range b.width) b.instrs) (is_exit_in_range C b.width b.exit) h in
    let three = both (nat_le b.width C.width && nat_le b.entry.below b.width) (each (is_instruction_in_range b.width) b.instrs) four.0 in
    let two = both (nat_le b.width C.width) (nat_le b.entry.below b.width) three.0 in
    let taken = are_below b.width (read_at b.exit) && are_below b.width (emptied_at b.exit) in
    let targets = both (taken && are_below b.width (answered_at b.exit) && is_counted_exit C b.exit) (each (is_target C b.width) (targets b.exit)) four.1 in
    let counted = both (taken && are_below b.width (answered_at b.exit)) (is_counted_exit C b.exit) targets.0 in
    let slots = both taken (are_below b.width (answered_at b.exit)) counted.0 in
    let first = both (are_below b.width (read_at b.exit)) (are_below b.width (emptied_at b.exit)) slots.0 in
    record {
      wide = leb-true b.width C.width two.0;
      instrs = three.1;
      reads = first.0;
      empties = first.1;
      answers = slots.1;
    }

-- a test that fails decides what follows, and one that holds leaves the rest
pub first_fails : (r e t : Bool) → r ≡ false → false ≡ (r && e && t)
first_fails r e t h = ap (λ z. z && e && t) (sym h)

pub second_fails : (r e t : Bool) → e ≡ false → false ≡ (r && e && t)
second_fails true e t h = ap (λ z. z && t) (sym h)
second_fails false e t h = refl

pub third_decides : (r e t : Bool) → r ≡ true → e ≡ true → t ≡ (r && e && t)
third_decides r e t h k = ap₂ (λ y z. y && z && t) (sym h) (sym k)

-- the blocks from a place on
pub blocks_from : (C : CodeView) (xs : List Block) (n : ℕ) (b : Block) → slice_get xs n ≡ Some b
    → are_valid_blocks C n (drop n (map block_view xs)) ≡ (is_valid_block C n (block_view b) && are_valid_blocks C (n + 1) (drop (n + 1) (map block_view xs)))
blocks_from C xs n b e =
    let lt : n < length (map block_view xs) = within xs n e in
    let f : suc n ≡ n + 1 = omega arith in
    ap (are_valid_blocks C n) (drop_first (map block_view xs) n no_block lt)
    ∙ ap (λ x. is_valid_block C n x && are_valid_blocks C (suc n) (drop (n + 1) (map block_view xs))) (some_at block_view xs n b no_block e)
    ∙ ap (λ m. is_valid_block C n (block_view b) && are_valid_blocks C m (drop (n + 1) (map block_view xs))) f
  where
    within : (ys : List Block) (m : ℕ) → slice_get ys m ≡ Some b → m < length (map block_view ys)
    within [] m e = absurd (let g : None ≡ Some b = e in cc)
    within (y ∷ ys) zero e = omega arith
    within (y ∷ ys) (suc m) e = let r : m < length (map block_view ys) = within ys m e in omega (arith, r)

pub no_blocks_from : (C : CodeView) (xs : List Block) (n m : ℕ) → slice_get xs m ≡ None → are_valid_blocks C n (drop m (map block_view xs)) ≡ true
no_blocks_from C [] n zero e = refl
no_blocks_from C [] n (suc m) e = refl
no_blocks_from C (x ∷ xs) n zero e = absurd (let g : Some x ≡ None = e in cc)
no_blocks_from C (x ∷ xs) n (suc m) e = no_blocks_from C xs n m e

-- what the instructions of a block read and leave known, told by marks that say no more than its entry slots
pub block_reads : (T : KnownSlots) (e : Slots) (is js : List Instruction) (r : Bool) → ((k : ℕ) → T k ≡ has_slot e k) → is ≡ js → r ≡ reads_known T is → reads_known (has_slot e) js ≡ r
block_reads T e is js r t s h = sym (reads_known_same js T (has_slot e) t) ∙ ap (reads_known T) (sym s) ∙ sym h

pub known_at_exit : (T U : KnownSlots) (e : Slots) (is js : List Instruction) → ((k : ℕ) → T k ≡ has_slot e k) → is ≡ js → ((k : ℕ) → U k ≡ known_after T is k) → (k : ℕ) → U k ≡ known_after (has_slot e) js k
known_at_exit T U e is js t s h k = h k ∙ ap (λ z. known_after T z k) s ∙ known_after_same js T (has_slot e) t k

pub known_at_targets : (x : Exit) (U V K : KnownSlots) → ((k : ℕ) → U k ≡ K k) → ((k : ℕ) → V k ≡ known_past x U k) → (k : ℕ) → V k ≡ known_past x K k
known_at_targets x U V K u v k = v k ∙ past_same x U K u k
