-- Entries in pieces.
use Rattle.std.proofs.Common.{◌≡◌, ℕ, ◌+◌, ◌<◌, List, [], ◌∷◌, ◌++◌, length, get_or, drop, map, sym, ◌∙◌, ap, append_assoc, append-nil, arith}
use Rattle.std.proofs.lemmas.Grind.{common_steps}
use Rattle.std.specs.declared.vec.Vec.{Vec}
use Rattle.ca_journal.specs.declared.entry.Entry.{Entry}
use Rattle.ca_journal.specs.Numbered.{entry_view, Numbered, joined, laid, piece_entries}
use Rattle.ca_journal.proofs.Saying.{map_push}

-- one more piece stands behind the others
pub joined_piece : {Z : Type 0} (ps : List (Vec Entry Z)) (p : Vec Entry Z) → joined (map piece_entries (ps ++ p ∷ [])) ≡ joined (map piece_entries ps) ++ piece_entries p
joined_piece {Z} [] p = append-nil (piece_entries p)
joined_piece {Z} (q ∷ ps) p = ap (λ es. piece_entries q ++ es) (joined_piece ps p) ∙ sym (append_assoc (piece_entries q) (joined (map piece_entries ps)) (piece_entries p))

-- a full piece counts among the others, and the new last one is empty
pub piece_added : {Z : Type 0} (old new : List (Vec Entry Z)) (last next : Vec Entry Z) → new ≡ old ++ last ∷ [] → next.items ≡ [] → laid new next ≡ laid old last
piece_added {Z} old new last next grown none =
    ap (λ es. joined (map piece_entries new) ++ map entry_view es) none ∙ append-nil (joined (map piece_entries new)) ∙ ap (λ ps. joined (map piece_entries ps)) grown ∙ joined_piece old last

-- one more entry stands behind the others
pub laid_push : {Z : Type 0} (full : List (Vec Entry Z)) (last new : Vec Entry Z) (e : Entry) → new.items ≡ last.items ++ e ∷ [] → laid full new ≡ laid full last ++ entry_view e ∷ []
laid_push {Z} full last new e h = ap (λ (es : List Entry). joined (map piece_entries full) ++ map entry_view es) h ∙ ap (λ (es : List Numbered). joined (map piece_entries full) ++ es) (map_push entry_view last.items e) ∙ sym (append_assoc (joined (map piece_entries full)) (piece_entries last) (entry_view e ∷ []))

-- the pieces from a place on begin with the one there
pub cut_at : {Z : Type 0} (ps : List (Vec Entry Z)) (i : ℕ) (p : Vec Entry Z) → i < length ps → p ≡ get_or ps i p → drop i ps ≡ p ∷ drop (i + 1) ps
cut_at {Z} ps i p lt is = grind (arith, common_steps, is)
