-- What is known of slots in the rest of a block, and which rests are valid.
use Rattle.std.proofs.Common.{◌≡◌, ℕ, zero, suc, ◌+◌, ◌<◌, ◌≤◌, List, [], ◌∷◌, Bool, true, false, refl, sym, ap, ap₂, ◌∙◌, subst, arith, cond, ◌&&◌, not}
use Rattle.std.proofs.lemmas.Bool.{lt-ltb, le-leb, eq-eqb, eqb-true, eqb-false}
use Rattle.std.specs.Prelude.{◌==◌, nat_lt, nat_le}
use Rattle.ca_value.specs.Tree.{Tree}
use Rattle.ca_value.specs.Builtins.{admits_arguments}
use Rattle.ca_value.specs.declared.builtin.Builtin.{Builtin as BuiltinName}
use Rattle.ca_term.specs.declared.place.Place.{Place}
use Rattle.ca_term.specs.declared.head.Head.{Head}
use Rattle.ca_states.specs.declared.code.Exit.{Exit}
use Rattle.ca_states.specs.declared.code.Exit.TheVariants.{Jump, Branch, Return, Cut}
use Rattle.ca_states.specs.declared.code.Exit.TheVariants as exit
use Rattle.ca_states.specs.Code.{Slots, has_slot, Instruction, constant, copying, moving, many, CodeView, block_count, block_at}
use Rattle.ca_states.specs.Machine.{slots_from}
use Rattle.ca_states.specs.Touched.{read_by, emptied_by, written_by, read_at}
use Rattle.ca_states.specs.Valid.{KnownSlots as Tells, each, are_below, takes, is_operation, is_target, is_counted, is_instruction_in_range, is_exit_in_range, is_in_range, leads_forward, slot_noted, noted_all, after_instruction, known_after, reads_known, implies, are_entry_slots_known, targets_known, knows_slots, is_valid_block, are_just}
use Rattle.ca_states.proofs.RowLaws.{row_below}
use Rattle.ca_lower.specs.Implements.{moves}
use Rattle.ca_lower.specs.Emit.{block_of}

pub both_true : (a b : Bool) → a ≡ true → b ≡ true → (a && b) ≡ true
both_true true b h k = k
both_true false b h k = absurd cc

-- the slots below h are known
abbrev pub Up : ℕ → Tells → Type 0
Up h K = (k : ℕ) → k < h → K k ≡ true

pub up_less : (g h : ℕ) (K : Tells) → g ≤ h → Up h K → Up g K
up_less g h K le up k lt = up k (omega (arith, le, lt))

noted_case : (b o : Bool) (x : Bool) → (o ≡ true → b ≡ true) → (o ≡ false → x ≡ true) → cond o b x ≡ true
noted_case b true x f g = f refl
noted_case b false x f g = g refl

-- a slot that is written is known, and so are those that were
pub written_known : (a : ℕ) (K : Tells) (k : ℕ) → ((k ≡ a → ⊥) → K k ≡ true) → slot_noted true a K k ≡ true
written_known a K k h = noted_case true (k == a) (K k) (λ e. refl) (λ e. h (eqb-false k a e))

-- a slot whose value was taken out leaves the others known
pub emptied_known : (a : ℕ) (K : Tells) (k : ℕ) → (k ≡ a → ⊥) → K k ≡ true → slot_noted false a K k ≡ true
emptied_known a K k ne h = noted_case false (k == a) (K k) (λ e. absurd (ne (eqb-true k a e))) (λ e. h)

pub up_written : (h : ℕ) (K : Tells) → Up h K → Up (suc h) (slot_noted true h K)
up_written h K up k lt = written_known h K k (λ ne. up k (omega (arith, lt, ne)))

pub up_emptied : (h a n : ℕ) (K : Tells) → h ≤ a → Up h K → Up h (noted_all false (slots_from a n) K)
up_emptied h a zero K le up = up
up_emptied h a (suc n) K le up =
    up_emptied h (suc a) n (slot_noted false a K) (omega (arith, le)) (λ k lt. emptied_known a K k (λ e. omega (arith, le, lt, e)) (up k lt))

pub each_row : (f : ℕ → Bool) (a n : ℕ) → ((k : ℕ) → a ≤ k → k < a + n → f k ≡ true) → each f (slots_from a n) ≡ true
each_row f a zero h = refl
each_row f a (suc n) h =
    both_true (f a) (each f (slots_from (suc a) n)) (h a (omega arith) (omega arith)) (each_row f (suc a) n (λ k le lt. h k (omega (arith, le)) (omega (arith, lt))))

pub row_known : (h n : ℕ) (K : Tells) → Up (h + n) K → each K (slots_from h n) ≡ true
row_known h n K up = each_row K h n (λ k le lt. up k lt)

pub one_below : (w a : ℕ) → a < w → are_below w (a ∷ []) ≡ true
one_below w a lt = both_true (nat_lt a w) true (lt-ltb a w lt) refl

pub one_known : (K : Tells) (a : ℕ) → K a ≡ true → each K (a ∷ []) ≡ true
one_known K a h = both_true (K a) true h refl

-- the slots below a number, as entry slots
abbrev pub first_slots : ℕ → Slots
first_slots b = record { below = b; holes = [] }

pub up_first : (b : ℕ) → Up b (has_slot (first_slots b))
up_first b k lt = both_true (nat_lt k b) true (lt-ltb k b lt) refl

implied : (b x : Bool) → x ≡ true → cond b x true ≡ true
implied true x h = h
implied false x h = refl

pub entry_known : (K : Tells) (b : ℕ) → Up b K → are_entry_slots_known K (first_slots b) ≡ true
entry_known K b up = each_row (λ k. implies (has_slot (first_slots b) k) (K k)) 0 b (λ k le lt. implied (has_slot (first_slots b) k) (K k) (up k (omega (arith, lt))))

pub just_first : (b : ℕ) → are_just b (first_slots b) ≡ true
just_first b =
    both_true (nat_le b b) (each (λ k. cond (nat_lt k b) (has_slot (first_slots b) k) (not (has_slot (first_slots b) k))) (slots_from 0 b)) (le-leb b b (omega arith))
    (each_row (λ k. cond (nat_lt k b) (has_slot (first_slots b) k) (not (has_slot (first_slots b) k))) 0 b
    (λ k le lt. let l : k < b = omega (arith, lt) in ap (λ o. cond o (has_slot (first_slots b) k) (not (has_slot (first_slots b) k))) (lt-ltb k b l) ∙ up_first b k l))

-- a block of that text, which begins with the slots below b
pub record Begins (C : CodeView) (w n b : ℕ) : Type 0 where
  pub there : n < block_count C
  pub wide : (block_at C n).width ≡ w
  pub entry : (block_at C n).entry ≡ first_slots b

pub target_begins : (C : CodeView) (w n b : ℕ) → Begins C w n b → is_target C w n ≡ true
target_begins C w n b t = both_true (nat_lt n (block_count C)) ((block_at C n).width == w) (lt-ltb n (block_count C) t.there) (eq-eqb (block_at C n).width w t.wide)

pub entry_begins : (C : CodeView) (w n b : ℕ) (K : Tells) → Begins C w n b → Up b K → are_entry_slots_known K (block_at C n).entry ≡ true
entry_begins C w n b K t up = ap (are_entry_slots_known K) t.entry ∙ entry_known K b up

-- the rest of block n, in a text of that width, is valid where this is known
pub record Valid (C : CodeView) (w n : ℕ) (K : Tells) (is : List Instruction) (x : Exit) : Type 0 where
  pub instrs : each (is_instruction_in_range w) is ≡ true
  pub leads : is_exit_in_range C w x ≡ true
  pub forward : leads_forward n x ≡ true
  pub reads : reads_known K is ≡ true
  pub leaves : each (known_after K is) (read_at x) ≡ true
  pub goes : targets_known C (known_after K is) x ≡ true

pub valid_first : (C : CodeView) (w n : ℕ) (K : Tells) (i : Instruction) (is : List Instruction) (x : Exit) → is_instruction_in_range w i ≡ true → each K (read_by i) ≡ true → Valid C w n (after_instruction i K) is x → Valid C w n K (i ∷ is) x
valid_first C w n K i is x r k v = record {
  instrs = both_true (is_instruction_in_range w i) (each (is_instruction_in_range w) is) r v.instrs;
  leads = v.leads;
  forward = v.forward;
  reads = both_true (each K (read_by i)) (reads_known (after_instruction i K) is) k v.reads;
  leaves = v.leaves;
  goes = v.goes;
}

pub valid_block : (C : CodeView) (w b n : ℕ) (is : List Instruction) (x : Exit) → w ≤ C.width → b ≤ w → Valid C w n (has_slot (first_slots b)) is x → is_valid_block C n (block_of w b is x) ≡ true
valid_block C w b n is x le lb v =
    let blk = block_of w b is x in
    let K = has_slot (first_slots b) in
    let r1 = both_true (nat_le w C.width) (nat_le b w) (le-leb w C.width le) (le-leb b w lb) in
    let r2 = both_true (nat_le w C.width && nat_le b w) (each (is_instruction_in_range w) is) r1 v.instrs in
    let range : is_in_range C blk ≡ true = both_true (nat_le w C.width && nat_le b w && each (is_instruction_in_range w) is) (is_exit_in_range C w x) r2 v.leads in
    let k1 = both_true (reads_known K is) (each (known_after K is) (read_at x)) v.reads v.leaves in
    let knows : knows_slots C blk ≡ true = both_true (reads_known K is && each (known_after K is) (read_at x)) (targets_known C (known_after K is) x) k1 v.goes in
    both_true (is_in_range C blk && leads_forward n x) (knows_slots C blk) (both_true (is_in_range C blk) (leads_forward n x) range v.forward) knows

-- INSTRUCTIONS
pub valid_constant : (C : CodeView) (w n h : ℕ) (v : Tree) (K : Tells) (is : List Instruction) (x : Exit) → h < w → Valid C w n (slot_noted true h K) is x → Valid C w n K (constant h v ∷ is) x
valid_constant C w n h v K is x lt rest = valid_first C w n K (constant h v) is x (both_true (are_below w (h ∷ [])) true (one_below w h lt) refl) refl rest

pub valid_copying : (C : CodeView) (w n h a : ℕ) (K : Tells) (is : List Instruction) (x : Exit) → h < w → a < w → K a ≡ true → Valid C w n (slot_noted true h K) is x → Valid C w n K (copying h a ∷ is) x
valid_copying C w n h a K is x lt la ka rest =
    valid_first C w n K (copying h a) is x
    (both_true (are_below w (a ∷ []) && true && are_below w (h ∷ [])) true (both_true (are_below w (a ∷ []) && true) (are_below w (h ∷ [])) (both_true (are_below w (a ∷ [])) true (one_below w a la) refl) (one_below w h lt)) refl)
    (one_known K a ka) rest

pub valid_moving : (C : CodeView) (w n h a : ℕ) (K : Tells) (is : List Instruction) (x : Exit) → h < w → a < w → K a ≡ true → Valid C w n (slot_noted true h (slot_noted false a K)) is x → Valid C w n K (moving h a ∷ is) x
valid_moving C w n h a K is x lt la ka rest =
    valid_first C w n K (moving h a) is x
    (both_true (are_below w (a ∷ []) && are_below w (a ∷ []) && are_below w (h ∷ [])) true
    (both_true (are_below w (a ∷ []) && are_below w (a ∷ [])) (are_below w (h ∷ [])) (both_true (are_below w (a ∷ [])) (are_below w (a ∷ [])) (one_below w a la) (one_below w a la)) (one_below w h lt)) refl)
    (one_known K a ka) rest

-- a value moved down into slot h
pub valid_down : (C : CodeView) (w n h a : ℕ) (K : Tells) (is : List Instruction) (x : Exit) → h ≤ a → a < w → Up (suc a) K → ((L : Tells) → Up (suc h) L → Valid C w n L is x) → Valid C w n K (moving h a ∷ is) x
valid_down C w n h a K is x le la up go =
    valid_moving C w n h a K is x (omega (arith, le, la)) la (up a (omega arith))
    (go (slot_noted true h (slot_noted false a K)) (up_written h (slot_noted false a K) (λ k lt. emptied_known a K k (λ e. omega (arith, le, lt, e)) (up k (omega (arith, le, lt))))))

pub valid_many : (C : CodeView) (w n h k : ℕ) (b : BuiltinName) (p : Place) (K : Tells) (is : List Instruction) (x : Exit) → h < w → h + k ≤ w → admits_arguments b k ≡ true → Up (h + k) K → ((L : Tells) → Up (suc h) L → Valid C w n L is x) → Valid C w n K (many b h h k p ∷ is) x
valid_many C w n h k b p K is x lt le ad up go =
    let row = row_below w h k le in
    valid_first C w n K (many b h h k p) is x
    (both_true (are_below w (slots_from h k) && are_below w (slots_from h k) && are_below w (h ∷ [])) (admits_arguments b k)
    (both_true (are_below w (slots_from h k) && are_below w (slots_from h k)) (are_below w (h ∷ [])) (both_true (are_below w (slots_from h k)) (are_below w (slots_from h k)) row row) (one_below w h lt)) ad)
    (row_known h k K up)
    (go (slot_noted true h (noted_all false (slots_from h k) K)) (up_written h (noted_all false (slots_from h k) K) (up_emptied h h k K (omega arith) (up_less h (h + k) K (omega arith) up))))

abbrev pub AllBelow : ℕ → List ℕ → Type 0
AllBelow g [] = Unit {0}
AllBelow g (a ∷ ks) = (a < g) × AllBelow g ks

all_in_range : (w g : ℕ) (ks : List ℕ) → g ≤ w → AllBelow g ks → are_below w ks ≡ true
all_in_range w g [] le b = refl
all_in_range w g (a ∷ ks) le b = let lt = b.0 in both_true (nat_lt a w) (are_below w ks) (lt-ltb a w (omega (arith, lt, le))) (all_in_range w g ks le b.1)

all_known : (g : ℕ) (K : Tells) (ks : List ℕ) → AllBelow g ks → Up g K → each K ks ≡ true
all_known g K [] b up = refl
all_known g K (a ∷ ks) b up = both_true (K a) (each K ks) (up a b.0) (all_known g K ks b.1 up)

-- a builtin that reads slots below g: they stay, and its value is known
pub valid_reading : (C : CodeView) (w n h g : ℕ) (ks : List ℕ) (i : Instruction) (K : Tells) (is : List Instruction) (x : Exit) → read_by i ≡ ks → emptied_by i ≡ [] → written_by i ≡ h ∷ [] → is_counted i ≡ true
    → h < w → h ≤ g → g ≤ w → AllBelow g ks → Up g K → ((L : Tells) → Up (suc h) L → Valid C w n L is x) → Valid C w n K (i ∷ is) x
valid_reading C w n h g ks i K is x er ee ew ec lt le lg ab up go =
    let reads_below : are_below w (read_by i) ≡ true = ap (are_below w) er ∙ all_in_range w g ks lg ab in
    let empties_below : are_below w (emptied_by i) ≡ true = ap (are_below w) ee in
    let writes_below : are_below w (written_by i) ≡ true = ap (are_below w) ew ∙ one_below w h lt in
    let next : after_instruction i K ≡ slot_noted true h K = ap₂ (λ a b. noted_all true a (noted_all false b K)) ew ee in
    valid_first C w n K i is x
    (both_true (are_below w (read_by i) && are_below w (emptied_by i) && are_below w (written_by i)) (is_counted i)
    (both_true (are_below w (read_by i) && are_below w (emptied_by i)) (are_below w (written_by i)) (both_true (are_below w (read_by i)) (are_below w (emptied_by i)) reads_below empties_below) writes_below) ec)
    (ap (each K) er ∙ all_known g K ks ab up)
    (subst (λ L. Valid C w n L is x) (sym next) (go (slot_noted true h K) (up_written h K (up_less h g K le up))))

-- one that takes a collection out of slot h
pub valid_taking : (C : CodeView) (w n h g : ℕ) (ks : List ℕ) (i : Instruction) (K : Tells) (is : List Instruction) (x : Exit) → read_by i ≡ ks → emptied_by i ≡ h ∷ [] → written_by i ≡ h ∷ [] → is_counted i ≡ true
    → h < w → h ≤ g → g ≤ w → AllBelow g ks → Up g K → ((L : Tells) → Up (suc h) L → Valid C w n L is x) → Valid C w n K (i ∷ is) x
valid_taking C w n h g ks i K is x er ee ew ec lt le lg ab up go =
    let reads_below : are_below w (read_by i) ≡ true = ap (are_below w) er ∙ all_in_range w g ks lg ab in
    let empties_below : are_below w (emptied_by i) ≡ true = ap (are_below w) ee ∙ one_below w h lt in
    let writes_below : are_below w (written_by i) ≡ true = ap (are_below w) ew ∙ one_below w h lt in
    let next : after_instruction i K ≡ slot_noted true h (slot_noted false h K) = ap₂ (λ a b. noted_all true a (noted_all false b K)) ew ee in
    valid_first C w n K i is x
    (both_true (are_below w (read_by i) && are_below w (emptied_by i) && are_below w (written_by i)) (is_counted i)
    (both_true (are_below w (read_by i) && are_below w (emptied_by i)) (are_below w (written_by i)) (both_true (are_below w (read_by i)) (are_below w (emptied_by i)) reads_below empties_below) writes_below) ec)
    (ap (each K) er ∙ all_known g K ks ab up)
    (subst (λ L. Valid C w n L is x) (sym next)
    (go (slot_noted true h (slot_noted false h K)) (up_written h (slot_noted false h K) (λ j l. emptied_known h K j (λ e. omega (arith, l, e)) (up j (omega (arith, l, le)))))))

-- values moved to a loop's slots
pub valid_moves : (C : CodeView) (w m g d a n : ℕ) (K : Tells) (x : Exit) → d + n ≤ g → g ≤ a → a + n ≤ w → Up g K → ((k : ℕ) → a ≤ k → k < a + n → K k ≡ true) → ((L : Tells) → Up g L → Valid C w m L [] x) → Valid C w m K (moves d a n) x
valid_moves C w m g d a zero K x ld lg le up row go = go K up
valid_moves C w m g d a (suc n) K x ld lg le up row go =
    let L = slot_noted true d (slot_noted false a K) in
    valid_moving C w m d a K (moves (suc d) (suc a) n) x (omega (arith, ld, lg, le)) (omega (arith, le)) (row a (omega arith) (omega arith))
    (valid_moves C w m g (suc d) (suc a) n L x (omega (arith, ld)) (omega (arith, lg)) (omega (arith, le))
    (λ k lt. written_known d (slot_noted false a K) k (λ ne. emptied_known a K k (λ e. omega (arith, lt, lg, e)) (up k lt)))
    (λ k ge lt. written_known d (slot_noted false a K) k (λ ne. emptied_known a K k (λ e. omega (arith, ge, e)) (row k (omega (arith, ge)) (omega (arith, lt)))))
    go)

-- EXITS
-- an exit that reads one slot and does nothing else to slots
one_in_range : (w a : ℕ) → a < w → (are_below w (a ∷ []) && true && true && true) ≡ true
one_in_range w a lt =
    both_true (are_below w (a ∷ []) && true && true) true (both_true (are_below w (a ∷ []) && true) true (both_true (are_below w (a ∷ [])) true (one_below w a lt) refl) refl) refl

-- an exit that takes values out of a row of slots, and whose answer comes into another
row_in_range : (w h k : ℕ) (counted : Bool) → h < w → h + k ≤ w → counted ≡ true → (are_below w (slots_from h k) && are_below w (slots_from h k) && are_below w (h ∷ []) && counted) ≡ true
row_in_range w h k counted lt le op =
    let row = row_below w h k le in
    let rows = both_true (are_below w (slots_from h k)) (are_below w (slots_from h k)) row row in
    both_true (are_below w (slots_from h k) && are_below w (slots_from h k) && are_below w (h ∷ [])) counted (both_true (are_below w (slots_from h k) && are_below w (slots_from h k)) (are_below w (h ∷ [])) rows (one_below w h lt)) op

pub valid_jump : (C : CodeView) (w n to b : ℕ) (p : Place) (K : Tells) → Begins C w to b → Up b K → Valid C w n K [] (Jump to p)
valid_jump C w n to b p K t up = record {
  instrs = refl;
  leads = both_true (is_target C w to) true (target_begins C w to b t) refl;
  forward = refl;
  reads = refl;
  leaves = refl;
  goes = both_true (are_entry_slots_known K (block_at C to).entry) true (entry_begins C w to b K t up) refl;
}

pub valid_branch : (C : CodeView) (w n h yes_to no_to b : ℕ) (K : Tells) → h < w → K h ≡ true → n < yes_to → n < no_to → Begins C w yes_to b → Begins C w no_to b → Up b K → Valid C w n K [] (Branch h yes_to no_to)
valid_branch C w n h yes_to no_to b K lt kh ly ln ty tn up = record {
  instrs = refl;
  leads = both_true (are_below w (h ∷ []) && true && true && true) (is_target C w yes_to && (is_target C w no_to && true)) (one_in_range w h lt)
      (both_true (is_target C w yes_to) (is_target C w no_to && true) (target_begins C w yes_to b ty) (both_true (is_target C w no_to) true (target_begins C w no_to b tn) refl));
  forward = both_true (nat_lt n yes_to) (nat_lt n no_to) (lt-ltb n yes_to ly) (lt-ltb n no_to ln);
  reads = refl;
  leaves = one_known K h kh;
  goes = both_true (are_entry_slots_known K (block_at C yes_to).entry) (are_entry_slots_known K (block_at C no_to).entry && true) (entry_begins C w yes_to b K ty up)
      (both_true (are_entry_slots_known K (block_at C no_to).entry) true (entry_begins C w no_to b K tn up) refl);
}

pub valid_return : (C : CodeView) (w n a : ℕ) (K : Tells) → a < w → K a ≡ true → Valid C w n K [] (Return a)
valid_return C w n a K lt ka = record {
  instrs = refl;
  leads = both_true (are_below w (a ∷ []) && true && true && true) true (one_in_range w a lt) refl;
  forward = refl;
  reads = refl;
  leaves = one_known K a ka;
  goes = refl;
}

-- the slots behind an operation or a call over so many slots from h on
up_past : (h k : ℕ) (K : Tells) → Up (h + k) K → Up (suc h) (slot_noted true h (noted_all false (slots_from h k) K))
up_past h k K up = up_written h (noted_all false (slots_from h k) K) (up_emptied h h k K (omega arith) (up_less h (h + k) K (omega arith) up))

pub valid_cut : (C : CodeView) (w n h k to : ℕ) (f : Head) (p : Place) (K : Tells) → h < w → h + k ≤ w → is_operation C k f ≡ true → Begins C w to (suc h) → Up (h + k) K → Valid C w n K [] (Cut f h k h to p)
valid_cut C w n h k to f p K lt le op t up =
    let L = slot_noted true h (noted_all false (slots_from h k) K) in
    record {
      instrs = refl;
      leads = both_true (are_below w (slots_from h k) && are_below w (slots_from h k) && are_below w (h ∷ []) && is_operation C k f) (is_target C w to && true)
          (row_in_range w h k (is_operation C k f) lt le op)
          (both_true (is_target C w to) true (target_begins C w to (suc h) t) refl);
      forward = refl;
      reads = refl;
      leaves = row_known h k K up;
      goes = both_true (are_entry_slots_known L (block_at C to).entry) true (entry_begins C w to (suc h) L t (up_past h k K up)) refl;
    }

pub valid_call : (C : CodeView) (w n h k to f : ℕ) (p : Place) (K : Tells) → h < w → h + k ≤ w → takes C.functions f k ≡ true → Begins C w to (suc h) → Up (h + k) K → Valid C w n K [] (exit.Call f h k h to p)
valid_call C w n h k to f p K lt le op t up =
    let L = slot_noted true h (noted_all false (slots_from h k) K) in
    record {
      instrs = refl;
      leads = both_true (are_below w (slots_from h k) && are_below w (slots_from h k) && are_below w (h ∷ []) && takes C.functions f k) (is_target C w to && true)
          (row_in_range w h k (takes C.functions f k) lt le op)
          (both_true (is_target C w to) true (target_begins C w to (suc h) t) refl);
      forward = refl;
      reads = refl;
      leaves = row_known h k K up;
      goes = both_true (are_entry_slots_known L (block_at C to).entry) true (entry_begins C w to (suc h) L t (up_past h k K up)) refl;
    }
