-- Where the events lie that a run writes or that end a task, as entries and pieces come.
use Rattle.std.proofs.Common.{◌≡◌, ℕ, suc, ◌+◌, List, [], ◌∷◌, ◌++◌, length, map, Bool, true, false, cond, refl, sym, ◌∙◌, ap, append_assoc, append-nil, arith}
use Rattle.std.specs.declared.vec.Vec.{Vec}
use Rattle.ca_journal.specs.declared.entry.Entry.{Entry}
use Rattle.ca_journal.specs.declared.entry.Spot.{Spot}
use Rattle.ca_journal.specs.Numbered.{Numbered, entry_view, piece_entries}
use Rattle.ca_journal.specs.Said.{is_said, spots_in, spots_of, said_spots}

-- the place of an entry, where it is said
abbrev pub spot_of : ℕ → ℕ → Numbered → List Spot
spot_of p i e = cond (is_said e.event) (record { piece = p; place = i } ∷ []) []

cond_append : {A : Type 0} (b : Bool) (x : A) (xs ys : List A) → cond b (x ∷ (xs ++ ys)) (xs ++ ys) ≡ cond b (x ∷ xs) xs ++ ys
cond_append {A} true x xs ys = refl
cond_append {A} false x xs ys = refl

cond_alone : {A : Type 0} (b : Bool) (x : A) → cond b (x ∷ []) [] ≡ [] ++ cond b (x ∷ []) []
cond_alone {A} b x = refl

-- with one entry more
pub spots_push : (p i : ℕ) (es : List Numbered) (e : Numbered) → spots_in p i (es ++ e ∷ []) ≡ spots_in p i es ++ spot_of p (i + length es) e
spots_push p i [] e = ap (λ (n : ℕ). spot_of p n e) (let h : i ≡ i + 0 = omega arith in h)
spots_push p i (x ∷ es) e =
    let h : spots_in p (suc i) (es ++ e ∷ []) ≡ spots_in p (suc i) es ++ spot_of p (suc i + length es) e = spots_push p (suc i) es e in
    let n : suc i + length es ≡ i + length (x ∷ es) = omega arith in
    let k : spots_in p (suc i) (es ++ e ∷ []) ≡ spots_in p (suc i) es ++ spot_of p (i + length (x ∷ es)) e = h ∙ ap (λ (m : ℕ). spots_in p (suc i) es ++ spot_of p m e) n in
    ap (λ (s : List Spot). cond (is_said x.event) (record { piece = p; place = i } ∷ s) s) k ∙ cond_append (is_said x.event) (record { piece = p; place = i }) (spots_in p (suc i) es) (spot_of p (i + length (x ∷ es)) e)

-- with one piece more
pub spots_piece : (p : ℕ) (ps : List (List Numbered)) (q : List Numbered) → spots_of p (ps ++ q ∷ []) ≡ spots_of p ps ++ spots_in (p + length ps) 0 q
spots_piece p [] q = append-nil (spots_in p 0 q) ∙ ap (λ (n : ℕ). spots_in n 0 q) (let h : p ≡ p + 0 = omega arith in h)
spots_piece p (x ∷ ps) q =
    let h : spots_of (suc p) (ps ++ q ∷ []) ≡ spots_of (suc p) ps ++ spots_in (suc p + length ps) 0 q = spots_piece (suc p) ps q in
    let n : suc p + length ps ≡ p + length (x ∷ ps) = omega arith in
    ap (λ (s : List Spot). spots_in p 0 x ++ s) (h ∙ ap (λ (m : ℕ). spots_of (suc p) ps ++ spots_in m 0 q) n) ∙ sym (append_assoc (spots_in p 0 x) (spots_of (suc p) ps) (spots_in (p + length (x ∷ ps)) 0 q))

pub map_push : {A B : Type 0} (f : A → B) (xs : List A) (x : A) → map f (xs ++ x ∷ []) ≡ map f xs ++ f x ∷ []
map_push {A} {B} f [] x = refl
map_push {A} {B} f (y ∷ xs) x = ap (λ (s : List B). f y ∷ s) (map_push f xs x)

pub length_map : {A B : Type 0} (f : A → B) (xs : List A) → length (map f xs) ≡ length xs
length_map {A} {B} f [] = refl
length_map {A} {B} f (x ∷ xs) = ap suc (length_map f xs)

pub said_push : {Z : Type 0} (full : List (Vec Entry Z)) (last new : Vec Entry Z) (e : Entry) → new.items ≡ last.items ++ e ∷ [] → said_spots full new ≡ said_spots full last ++ spot_of (length full) (length last.items) (entry_view e)
said_push {Z} full last new e h =
    let grown : piece_entries new ≡ piece_entries last ++ entry_view e ∷ [] = ap (λ (es : List Entry). map entry_view es) h ∙ map_push entry_view last.items e in
    let here : spots_in (length full) 0 (piece_entries new) ≡ spots_in (length full) 0 (piece_entries last) ++ spot_of (length full) (0 + length (piece_entries last)) (entry_view e) = ap (λ (es : List Numbered). spots_in (length full) 0 es) grown ∙ spots_push (length full) 0 (piece_entries last) (entry_view e) in
    let n : 0 + length (piece_entries last) ≡ length last.items = (let k : length (piece_entries last) ≡ length last.items = length_map entry_view last.items in omega (arith, k)) in
    ap (λ (s : List Spot). spots_of 0 (map piece_entries full) ++ s) (here ∙ ap (λ (m : ℕ). spots_in (length full) 0 (piece_entries last) ++ spot_of (length full) m (entry_view e)) n) ∙ sym (append_assoc (spots_of 0 (map piece_entries full)) (spots_in (length full) 0 (piece_entries last)) (spot_of (length full) (length last.items) (entry_view e)))

-- a full piece counts among the others, and the new last one is empty
pub said_piece : {Z : Type 0} (full new : List (Vec Entry Z)) (last next : Vec Entry Z) → new ≡ full ++ last ∷ [] → next.items ≡ [] → said_spots new next ≡ said_spots full last
said_piece {Z} full new last next grown none =
    let nothing : piece_entries next ≡ [] = ap (λ (es : List Entry). map entry_view es) none in
    let pieces : map piece_entries new ≡ map piece_entries full ++ piece_entries last ∷ [] = ap (λ (ps : List (Vec Entry Z)). map piece_entries ps) grown ∙ map_push piece_entries full last in
    let behind : spots_in (length new) 0 (piece_entries next) ≡ [] = ap (λ (es : List Numbered). spots_in (length new) 0 es) nothing in
    let n : 0 + length (map piece_entries full) ≡ length full = (let k : length (map piece_entries full) ≡ length full = length_map piece_entries full in omega (arith, k)) in
    ap (λ (s : List Spot). spots_of 0 (map piece_entries new) ++ s) behind ∙ append-nil (spots_of 0 (map piece_entries new)) ∙ ap (λ (ps : List (List Numbered)). spots_of 0 ps) pieces ∙ spots_piece 0 (map piece_entries full) (piece_entries last) ∙ ap (λ (m : ℕ). spots_of 0 (map piece_entries full) ++ spots_in m 0 (piece_entries last)) n
