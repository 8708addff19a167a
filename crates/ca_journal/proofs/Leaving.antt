-- What is left of a list from a place on.
use Rattle.std.proofs.Common.{◌≡◌, ℕ, zero, suc, ◌+◌, ◌-◌, ◌<◌, ◌≤◌, List, [], ◌∷◌, ◌++◌, length, get_or, drop, map, Option, Some, refl, sym, ◌∙◌, ap, append_assoc, drop-drop, arith}
use Rattle.std.proofs.lemmas.Grind.{common_steps}
use Rattle.std.proofs.lemmas.Option.{slice_get-map, slice_get_read}
use lib.Seq.{drop-append-add}
use Rattle.std.specs.Prelude.{option_map, slice_get}
use Rattle.std.specs.declared.vec.Vec.{Vec}
use Rattle.ca_journal.specs.declared.entry.Entry.{Entry}
use Rattle.ca_journal.specs.declared.entries.Entries.{Entries}
use Rattle.ca_journal.specs.declared.walk.Front.{Front}
use Rattle.ca_journal.specs.Left.{left_from, entries_waiting}
use Rattle.ca_journal.specs.Merge.{entries}
use Rattle.ca_journal.specs.Numbered.{Numbered, entry_view, joined, laid, piece_entries}
use Rattle.ca_journal.proofs.Pieces.{cut_at}
use Rattle.ca_journal.proofs.Saying.{length_map, map_push}

first_at : {A : Type 0} (xs : List A) (n : ℕ) → slice_get (drop n xs) 0 ≡ slice_get xs n
first_at {A} xs zero = refl
first_at {A} [] (suc n) = refl
first_at {A} (x ∷ xs) (suc n) = first_at xs n

within : {A : Type 0} (xs ys : List A) (n : ℕ) → n < length xs → slice_get (xs ++ ys) n ≡ slice_get xs n
within {A} [] ys n lt = absurd (omega arith)
within {A} (x ∷ xs) ys zero lt = refl
within {A} (x ∷ xs) ys (suc n) lt = within xs ys n (omega (arith, lt))

past : {A : Type 0} (xs ys : List A) (n : ℕ) → length xs ≤ n → drop n (xs ++ ys) ≡ drop (n - length xs) ys
past {A} xs ys n le = ap (λ (k : ℕ). drop k (xs ++ ys)) (let m : n ≡ length xs + (n - length xs) = omega (arith, le) in m) ∙ drop-append-add xs ys (n - length xs)

-- the piece there, and what lies behind it
pieces_from : {Z : Type 0} (full : List (Vec Entry Z)) (last : Vec Entry Z) (p : ℕ) (q : Vec Entry Z) → p < length full → q ≡ get_or full p q → laid (drop p full) last ≡ piece_entries q ++ laid (drop (p + 1) full) last
pieces_from {Z} full last p q lt is =
    ap (λ (ps : List (Vec Entry Z)). joined (map piece_entries ps) ++ piece_entries last) (cut_at full p q lt is) ∙ append_assoc (piece_entries q) (joined (map piece_entries (drop (p + 1) full))) (piece_entries last)

-- the entry at a place of a full piece comes next
pub in_full : {Z : Type 0} (full : List (Vec Entry Z)) (last : Vec Entry Z) (p i : ℕ) (q : Vec Entry Z) (e : Entry) → p < length full → q ≡ get_or full p q → i < length q.items → e ≡ get_or q.items i e → Some (entry_view e) ≡ slice_get (left_from full last (record { piece = p; place = i })) 0
in_full {Z} full last p i q e lt is there at =
    let long : i < length (piece_entries q) = (let n : length (piece_entries q) ≡ length q.items = length_map entry_view q.items in omega (arith, n, there)) in
    sym (first_at (laid (drop p full) last) i ∙ ap (λ (es : List Numbered). slice_get es i) (pieces_from full last p q lt is) ∙ within (piece_entries q) (laid (drop (p + 1) full) last) i long ∙ slice_get-map entry_view q.items i ∙ ap (λ (o : Option Entry). option_map entry_view o) (slice_get_read q.items (length q.items) i e refl there at))

-- behind a piece its successor goes on
pub next_piece : {Z : Type 0} (full : List (Vec Entry Z)) (last : Vec Entry Z) (p i : ℕ) (q : Vec Entry Z) → p < length full → q ≡ get_or full p q → length q.items ≤ i → left_from full last (record { piece = p + 1; place = i - length q.items }) ≡ left_from full last (record { piece = p; place = i })
next_piece {Z} full last p i q lt is le =
    let long : length (piece_entries q) ≡ length q.items = length_map entry_view q.items in
    sym (ap (λ (es : List Numbered). drop i es) (pieces_from full last p q lt is) ∙ past (piece_entries q) (laid (drop (p + 1) full) last) i (omega (arith, long, le)) ∙ ap (λ (k : ℕ). drop (i - k) (laid (drop (p + 1) full) last)) long)

-- the place behind an entry
pub behind : {Z : Type 0} (full : List (Vec Entry Z)) (last : Vec Entry Z) (p i : ℕ) → left_from full last (record { piece = p; place = i + 1 }) ≡ drop 1 (left_from full last (record { piece = p; place = i }))
behind {Z} full last p i = sym (drop-drop 1 i (laid (drop p full) last))

-- past the full pieces the last one is left
pub in_last : {Z : Type 0} (full : List (Vec Entry Z)) (last : Vec Entry Z) (p i : ℕ) → length full ≤ p → option_map entry_view (slice_get last.items i) ≡ slice_get (left_from full last (record { piece = p; place = i })) 0
in_last {Z} full last p i le =
    let none : drop p full ≡ [] = grind (arith, common_steps, le) in
    sym (first_at (laid (drop p full) last) i ∙ ap (λ (ps : List (Vec Entry Z)). slice_get (joined (map piece_entries ps) ++ piece_entries last) i) none ∙ slice_get-map entry_view last.items i)

-- the front of a list at its beginning
abbrev pub at_start : ℕ → Front
at_start k = record { list = k; spot = record { piece = 0; place = 0 } }

from_here : (ls : List Entries) (k : ℕ) → k < length ls → map entries (drop k ls) ≡ entries_waiting ls (at_start k) ∷ map entries (drop (suc k) ls)
from_here [] k lt = absurd (omega arith)
from_here (l ∷ ls) zero lt = refl
from_here (l ∷ ls) (suc k) lt = from_here ls k (omega (arith, lt))

-- one more list begins
pub started : (ls : List Entries) (fs new : List Front) (k : ℕ) → k < length ls → new ≡ fs ++ at_start k ∷ [] → map (entries_waiting ls) fs ++ map entries (drop k ls) ≡ map entries ls → map (entries_waiting ls) new ++ map entries (drop (k + 1) ls) ≡ map entries ls
started ls fs new k lt is h =
    let rest = map entries (drop (k + 1) ls) in
    let n : suc k ≡ k + 1 = omega arith in
    let here : map entries (drop k ls) ≡ entries_waiting ls (at_start k) ∷ rest = from_here ls k lt ∙ ap (λ (m : ℕ). entries_waiting ls (at_start k) ∷ map entries (drop m ls)) n in
    ap (λ (s : List Front). map (entries_waiting ls) s ++ rest) is ∙ ap (λ (s : List (List Numbered)). s ++ rest) (map_push (entries_waiting ls) fs (at_start k)) ∙ append_assoc (map (entries_waiting ls) fs) (entries_waiting ls (at_start k) ∷ []) rest ∙ ap (λ (s : List (List Numbered)). map (entries_waiting ls) fs ++ s) (sym here) ∙ h
