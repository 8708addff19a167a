-- What a run writes stands in what is said.
use Rattle.std.proofs.Common.{◌≡◌, ℕ, suc, ◌+◌, ◌<◌, List, [], ◌∷◌, ◌++◌, length, map, Bool, true, false, cond, Option, refl, sym, ◌∙◌, ap, append_assoc, arith}
use Rattle.std.specs.Prelude.{nat_lt, slice_get, slice_index_or}
use Rattle.std.specs.declared.vec.Vec.{Vec}
use Rattle.std.proofs.lemmas.Bool.Decides.{nat_tests}
use Rattle.ca_term.specs.Event.{EventView, printed, over}
use Rattle.ca_meaning.specs.Texts.{output, output_of}
use Rattle.ca_journal.specs.declared.entry.Entry.{Entry}
use Rattle.ca_journal.specs.declared.entry.Spot.{Spot}
use Rattle.ca_journal.specs.Numbered.{Numbered, events_of, joined, laid, piece_entries}
use Rattle.ca_journal.specs.Said.{is_said, spots_in, spots_of, said_spots}
use Rattle.ca_journal.specs.Spoken.{found_at, text_at, said_text}
use Rattle.ca_journal.proofs.Saying.{length_map}
use Rattle.ca_journal.proofs.Spending.{events_append}

unsaid : (e : EventView) → is_said e ≡ false → output_of e ≡ []
unsaid (printed t line) h = absurd (let q : true ≡ false = h in cc)
unsaid (over t how) h = absurd (let q : true ≡ false = h in cc)
unsaid e h = refl

pub output_append : (xs ys : List EventView) → output (xs ++ ys) ≡ output xs ++ output ys
output_append [] ys = refl
output_append (x ∷ xs) ys = ap (λ (s : List ℕ). output_of x ++ s) (output_append xs ys) ∙ sym (append_assoc (output_of x) (output xs) (output ys))

pub text_append : (f : Spot → Option Numbered) (xs ys : List Spot) → said_text f (xs ++ ys) ≡ said_text f xs ++ said_text f ys
text_append f [] ys = refl
text_append f (x ∷ xs) ys = ap (λ (s : List ℕ). text_at (f x) ++ s) (text_append f xs ys) ∙ sym (append_assoc (text_at (f x)) (said_text f xs) (said_text f ys))

in_piece : (f : Spot → Option Numbered) (p i : ℕ) (es : List Numbered) → ((j : ℕ) → f (record { piece = p; place = i + j }) ≡ slice_get es j) → said_text f (spots_in p i es) ≡ output (events_of es)
in_piece f p i [] at = refl
in_piece f p i (e ∷ es) at = by (is_said e.event) refl (in_piece f p (suc i) es next) where
  next : (j : ℕ) → f (record { piece = p; place = suc i + j }) ≡ slice_get es j
  next j = let n : suc i + j ≡ i + suc j = omega arith in ap (λ (k : ℕ). f (record { piece = p; place = k })) n ∙ at (suc j)

  here : text_at (f (record { piece = p; place = i })) ≡ output_of e.event
  here = let n : i ≡ i + 0 = omega arith in ap text_at (ap (λ (k : ℕ). f (record { piece = p; place = k })) n ∙ at 0)

  by : (b : Bool) → is_said e.event ≡ b → said_text f (spots_in p (suc i) es) ≡ output (events_of es) → said_text f (cond b (record { piece = p; place = i } ∷ spots_in p (suc i) es) (spots_in p (suc i) es)) ≡ output_of e.event ++ output (events_of es)
  by true k h = ap (λ (s : List ℕ). s ++ said_text f (spots_in p (suc i) es)) here ∙ ap (λ (s : List ℕ). output_of e.event ++ s) h
  by false k h = h ∙ ap (λ (s : List ℕ). s ++ output (events_of es)) (sym (unsaid e.event k))

in_pieces : (f : Spot → Option Numbered) (p : ℕ) (ps : List (List Numbered)) → ((k j : ℕ) → k < length ps → f (record { piece = p + k; place = j }) ≡ slice_get (slice_index_or ps k []) j) → said_text f (spots_of p ps) ≡ output (events_of (joined ps))
in_pieces f p [] at = refl
in_pieces f p (es ∷ ps) at =
    let first : said_text f (spots_in p 0 es) ≡ output (events_of es) = in_piece f p 0 es (λ j. let m : p ≡ p + 0 = omega arith in let n : 0 + j ≡ j = omega arith in ap (λ (k : ℕ). f (record { piece = k; place = 0 + j })) m ∙ ap (λ (k : ℕ). f (record { piece = p + 0; place = k })) n ∙ at 0 j (omega arith)) in
    let rest : said_text f (spots_of (suc p) ps) ≡ output (events_of (joined ps)) = in_pieces f (suc p) ps (λ k j lt. let n : suc p + k ≡ p + suc k = omega arith in ap (λ (m : ℕ). f (record { piece = m; place = j })) n ∙ at (suc k) j (omega (arith, lt))) in
    text_append f (spots_in p 0 es) (spots_of (suc p) ps) ∙ ap (λ (s : List ℕ). s ++ said_text f (spots_of (suc p) ps)) first ∙ ap (λ (s : List ℕ). output (events_of es) ++ s) rest ∙ sym (output_append (events_of es) (events_of (joined ps))) ∙ ap output (sym (events_append es (joined ps)))

in_last : {Z : Type 0} (full : List (Vec Entry Z)) (last : Vec Entry Z) (j : ℕ) → found_at full last (record { piece = length full; place = 0 + j }) ≡ slice_get (piece_entries last) j
in_last {Z} full last j = by (nat_lt (length full) (length full)) test where
  test : nat_lt (length full) (length full) ≡ false
  test = grind (arith, nat_tests)

  by : (b : Bool) → b ≡ false → cond b (slice_get (slice_index_or (map piece_entries full) (length full) []) (0 + j)) (slice_get (piece_entries last) (0 + j)) ≡ slice_get (piece_entries last) j
  by false k = let n : 0 + j ≡ j = omega arith in ap (λ (m : ℕ). slice_get (piece_entries last) m) n
  by true k = absurd (let q : true ≡ false = k in cc)

in_full : {Z : Type 0} (full : List (Vec Entry Z)) (last : Vec Entry Z) (k j : ℕ) → k < length (map piece_entries full) → found_at full last (record { piece = 0 + k; place = j }) ≡ slice_get (slice_index_or (map piece_entries full) k []) j
in_full {Z} full last k j lt = ap (λ (m : ℕ). found_at full last (record { piece = m; place = j })) (let n : 0 + k ≡ k = omega arith in n) ∙ by (nat_lt k (length full)) test where
  test : nat_lt k (length full) ≡ true
  test = let n : length (map piece_entries full) ≡ length full = length_map piece_entries full in let less : k < length full = omega (arith, n, lt) in grind (arith, nat_tests)

  by : (b : Bool) → b ≡ true → cond b (slice_get (slice_index_or (map piece_entries full) k []) j) (slice_get (piece_entries last) j) ≡ slice_get (slice_index_or (map piece_entries full) k []) j
  by true h = refl
  by false h = absurd (let q : false ≡ true = h in cc)

-- the texts of what is said are the output of all entries
pub said_output : {Z : Type 0} (full : List (Vec Entry Z)) (last : Vec Entry Z) → said_text (found_at full last) (said_spots full last) ≡ output (events_of (laid full last))
said_output {Z} full last =
    let f = found_at full last in
    let before : said_text f (spots_of 0 (map piece_entries full)) ≡ output (events_of (joined (map piece_entries full))) = in_pieces f 0 (map piece_entries full) (λ k j lt. in_full full last k j lt) in
    let behind : said_text f (spots_in (length full) 0 (piece_entries last)) ≡ output (events_of (piece_entries last)) = in_piece f (length full) 0 (piece_entries last) (λ j. in_last full last j) in
    text_append f (spots_of 0 (map piece_entries full)) (spots_in (length full) 0 (piece_entries last)) ∙ ap (λ (s : List ℕ). s ++ said_text f (spots_in (length full) 0 (piece_entries last))) before ∙ ap (λ (s : List ℕ). output (events_of (joined (map piece_entries full))) ++ s) behind ∙ sym (output_append (events_of (joined (map piece_entries full))) (events_of (piece_entries last))) ∙ ap output (sym (events_append (joined (map piece_entries full)) (piece_entries last)))
