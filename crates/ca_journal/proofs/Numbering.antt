-- What holds of each entry of a journal's lists holds of each of its events.
use Rattle.std.proofs.Common.{◌≡◌, ℕ, suc, zero, ◌+◌, ◌<◌, Bool, true, false, List, [], ◌∷◌, ◌++◌, length, get_or, map, Option, Some, None, take, drop, subst, arith}
use Rattle.std.proofs.Math.Numerals.{add-one}
use Rattle.std.specs.Prelude.{cond, nat_le}
use Rattle.std.specs.declared.vec.Vec.{Vec}
use Rattle.ca_meaning.specs.Shown.{IsEventNumbered}
use Rattle.ca_meaning.specs.Sound.{Each}
use Rattle.ca_journal.specs.declared.entries.Entries.{Entries}
use Rattle.ca_journal.specs.declared.entry.Entry.{Entry}
use Rattle.ca_journal.specs.declared.journal.Journal.{Journal}
use Rattle.ca_journal.specs.Events.{events}
use Rattle.ca_journal.specs.Kept.{upto}
use Rattle.ca_journal.specs.Merge.{Numbered, entries, events_of, in_order, joined, laid, piece_entries, placed}

abbrev pub AllNumbered : List Numbered → Type 0
AllNumbered = Each (λ (e : Numbered). IsEventNumbered e.event)

abbrev pub PieceNumbered : {Z : Type 0} → Vec Entry Z → Type 0
PieceNumbered p = AllNumbered (piece_entries p)

abbrev pub ListNumbered : Entries → Type 0
ListNumbered l = AllNumbered (entries l)

each_next : {A : Type 0} (P : A → Type 0) (xs : List A) (i : ℕ) (d : A) → i < length xs → P (get_or xs i d) → Each P (drop (suc i) xs) → Each P (drop i xs)
each_next P [] i d h p k = absurd (omega arith)
each_next P (x ∷ xs) zero d h p k = (p, k)
each_next P (x ∷ xs) (suc i) d h p k = each_next P xs i d (omega arith) p k

pub each_on : {A : Type 0} (P : A → Type 0) (xs : List A) (i : ℕ) (x : A) → i < length xs → x ≡ get_or xs i x → P x → Each P (drop (i + 1) xs) → Each P (drop i xs)
each_on P xs i x h e p k = each_next P xs i x h (subst P e p) (subst (λ n. Each P (drop n xs)) (add-one i) k)

each-append : {A : Type 0} (P : A → Type 0) (xs ys : List A) → Each P xs → Each P ys → Each P (xs ++ ys)
each-append P [] ys h k = k
each-append P (x ∷ xs) ys h k = (h.0, each-append P xs ys h.1 k)

pieces_joined : {Z : Type 0} (full : List (Vec Entry Z)) → Each PieceNumbered full → AllNumbered (joined (map piece_entries full))
pieces_joined [] h = tt
pieces_joined (p ∷ full) h = each-append _ (piece_entries p) (joined (map piece_entries full)) h.0 (pieces_joined full h.1)

pub laid_numbered : {Z : Type 0} (full : List (Vec Entry Z)) (last : Vec Entry Z) → Each PieceNumbered full → PieceNumbered last → AllNumbered (laid full last)
laid_numbered full last h k = each-append _ (joined (map piece_entries full)) (piece_entries last) (pieces_joined full h) k

lists_joined : (lists : List Entries) → Each ListNumbered lists → AllNumbered (joined (map entries lists))
lists_joined [] h = tt
lists_joined (l ∷ lists) h = each-append _ (entries l) (joined (map entries lists)) h.0 (lists_joined lists h.1)

placed_numbered : (e : Numbered) (es : List Numbered) → IsEventNumbered e.event → AllNumbered es → AllNumbered (placed e es)
placed_numbered e [] h k = (h, tt)
placed_numbered e (f ∷ es) h k =
    elim (nat_le e.number f.number) as (λ (b : Bool). AllNumbered (cond b (e ∷ f ∷ es) (f ∷ placed e es))) [
      | true ↦ (h, k)
      | false ↦ (k.0, placed_numbered e es h k.1)
    ]

in_order_numbered : (es : List Numbered) → AllNumbered es → AllNumbered (in_order es)
in_order_numbered [] h = tt
in_order_numbered (e ∷ es) h = placed_numbered e (in_order es) h.0 (in_order_numbered es h.1)

events_numbered : (es : List Numbered) → AllNumbered es → Each IsEventNumbered (events_of es)
events_numbered [] h = tt
events_numbered (e ∷ es) h = (h.0, events_numbered es h.1)

each-take : {A : Type 0} (P : A → Type 0) (n : ℕ) (xs : List A) → Each P xs → Each P (take n xs)
each-take P zero xs h = tt
each-take P (suc n) [] h = tt
each-take P (suc n) (x ∷ xs) h = (h.0, each-take P n xs h.1)

each-upto : {A : Type 0} (P : A → Type 0) (k : Option ℕ) (xs : List A) → Each P xs → Each P (upto k xs)
each-upto P None xs h = h
each-upto P (Some n) xs h = each-take P n xs h

pub journal_numbered : (j : Journal) → Each ListNumbered j.lists.items → Each IsEventNumbered (events j)
journal_numbered j h =
    each-upto _ j.kept _ (events_numbered (in_order (joined (map entries j.lists.items))) (in_order_numbered _ (lists_joined j.lists.items h)))
