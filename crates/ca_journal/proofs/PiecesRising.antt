-- The test of a list's order, piece by piece.
use Rattle.std.proofs.Common.{◌≡◌, ℕ, ◌+◌, ◌<◌, List, [], ◌∷◌, ◌++◌, length, get_or, drop, map, Bool, true, false, cond, ◌&&◌, Option, Some, None, refl, sym, ◌∙◌, ap, append_assoc}
use Rattle.std.specs.Prelude.{nat_le, is_some}
use Rattle.std.specs.declared.vec.Vec.{Vec}
use Rattle.ca_journal.specs.declared.entry.Entry.{Entry}
use Rattle.ca_journal.specs.Merge.{Numbered, joined, piece_entries}
use Rattle.ca_journal.specs.Rising.{rises_from, risen, risen_from}
use Rattle.ca_journal.proofs.Pieces.{cut_at}

-- a list that is walked in two pieces
pub risen_append : (n : ℕ) (xs ys : List Numbered) → risen n (xs ++ ys) ≡ risen_from (risen n xs) ys
risen_append n [] ys = refl
risen_append n (x ∷ xs) ys = by (nat_le n x.number) (risen_append x.number xs ys) where
  by : (b : Bool) → risen x.number (xs ++ ys) ≡ risen_from (risen x.number xs) ys → cond b (risen x.number (xs ++ ys)) None ≡ risen_from (cond b (risen x.number xs) None) ys
  by true h = h
  by false h = refl

pub risen_from_append : (o : Option ℕ) (xs ys : List Numbered) → risen_from o (xs ++ ys) ≡ risen_from (risen_from o xs) ys
risen_from_append None xs ys = refl
risen_from_append (Some n) xs ys = risen_append n xs ys

pub rises_risen : (n : ℕ) (es : List Numbered) → is_some (risen n es) ≡ rises_from n es
rises_risen n [] = refl
rises_risen n (e ∷ es) = by (nat_le n e.number) (rises_risen e.number es) where
  by : (b : Bool) → is_some (risen e.number es) ≡ rises_from e.number es → is_some (cond b (risen e.number es) None) ≡ (b && rises_from e.number es)
  by true h = h
  by false h = refl

-- the walk goes on behind the piece at this place
pub risen_step : {Z : Type 0} (o o2 : Option ℕ) (ps : List (Vec Entry Z)) (i : ℕ) (p : Vec Entry Z) (behind : List Numbered) (r : Option ℕ) → i < length ps → p ≡ get_or ps i p → o2 ≡ risen_from o (piece_entries p) → risen_from o (joined (map piece_entries (drop i ps)) ++ behind) ≡ r → risen_from o2 (joined (map piece_entries (drop (i + 1) ps)) ++ behind) ≡ r
risen_step {Z} o o2 ps i p behind r lt is went h =
    let rest = joined (map piece_entries (drop (i + 1) ps)) in
    ap (λ q. risen_from q (rest ++ behind)) went ∙ sym (risen_from_append o (piece_entries p) (rest ++ behind)) ∙ ap (λ es. risen_from o es) (sym (append_assoc (piece_entries p) rest behind)) ∙ sym (ap (λ qs. risen_from o (joined (map piece_entries qs) ++ behind)) (cut_at ps i p lt is)) ∙ h
