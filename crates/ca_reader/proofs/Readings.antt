-- A script piece by piece, from a place on.
use Rattle.std.proofs.Common.{◌≡◌, ℕ, zero, suc, ◌-◌, ◌<◌, ◌≤◌, Bool, true, false, List, [], ◌∷◌, length, take, drop, sym, ◌∙◌, ap, refl, arith, None, Some, Result, Ok, Err, length-drop, subst}
use borrow.Author.Tests.{eqb-true}
use Rattle.std.specs.Prelude.{◌==◌, if◌then◌else◌, not}
use Rattle.std.specs.List.{prefix_len}
use Rattle.std.proofs.lemmas.Grind.{common_steps}
use Rattle.std.proofs.lemmas.List.Sums.{prefix_len-le-length}
use Rattle.ca_term.specs.declared.place.Place.{Place}
use Rattle.ca_reader.specs.declared.error.ReadErrorKind.{ReadErrorKind}
use Rattle.ca_reader.specs.Form.{Atom}
use Rattle.ca_reader.specs.Bytes.{past, is_separator, is_token_byte}
use Rattle.ca_reader.specs.Tokens.{meaning}
use Rattle.ca_reader.specs.Texts.{Letter, says, quote, missing, bad, letter, TextCut, closed, unclosed, broken, with_letter, text_step, text_within, text_cut}
use Rattle.ca_reader.specs.PieceView.{LetterFits, FirstFits}
use Rattle.ca_reader.specs.Pieces.{Piece, First, over, blank, found, wrong, first, text_first, token_first, bracket_first, token, Pieces, piece, pieces_step, pieces_within, pieces_from}
use Rattle.ca_reader.specs.Reads.{Context, end_fault, piece_fault}
use Rattle.ca_reader.specs.Steps.{next, innermost}
use Rattle.ca_reader.proofs.Nesting.{unless, go}
use Rattle.ca_reader.proofs.Cuts.{letter_fits, text_within_step}

abbrev pub TextFits : ℕ → TextCut → Type 0
TextFits most (closed s n) = n ≤ most
TextFits most unclosed = Unit {0}
TextFits most (broken k n) = n ≤ most

pub further_fits : (most : ℕ) (x : List ℕ) (m : ℕ) (t : TextCut) → m ≤ most → TextFits (most - m) t → TextFits most (with_letter x m t)
further_fits most x m (closed s n) h k = omega arith
further_fits most x m unclosed h k = tt
further_fits most x m (broken j n) h k = omega arith

pub text_step_fits : (more : List ℕ → TextCut) (bs : List ℕ) (l : Letter) → LetterFits (length bs) l → ((m : ℕ) → TextFits (length bs - m) (more (drop m bs))) → TextFits (length bs) (text_step more bs l)
text_step_fits more bs (says x m) h k = further_fits (length bs) x m (more (drop m bs)) h.1 (k m)
text_step_fits more bs quote h k = h
text_step_fits more bs missing h k = tt
text_step_fits more bs (bad j) h k = omega arith

pub text_within_fits : (n : ℕ) (bs : List ℕ) → TextFits (length bs) (text_within n bs)
unfolding text_within
text_within_fits zero bs = tt
text_within_fits (suc n) bs =
    rw (text_within_step n bs) (text_step_fits (text_within n) bs (letter bs) (letter_fits bs)
    (λ m. rw (sym (length-drop m bs)) (text_within_fits n (drop m bs))))

pub text_first_fits : (most : ℕ) (t : TextCut) → TextFits most t → FirstFits (suc most) (text_first t)
text_first_fits most (closed s n) h = (omega arith, omega arith)
text_first_fits most unclosed h = omega arith
text_first_fits most (broken k n) h = omega arith

pub token_first_fits : (most n : ℕ) (r : Result Atom ReadErrorKind) → 0 < n → n ≤ most → FirstFits most (token_first n r)
token_first_fits most n (Ok a) h k = (h, k)
token_first_fits most n (Err j) h k = omega arith

pub if_first_fits : (b : Bool) (most : ℕ) (x y : First) → (b ≡ true → FirstFits most x) → (b ≡ false → FirstFits most y) → FirstFits most (if b then x else y)
if_first_fits true most x y h k = h refl
if_first_fits false most x y h k = k refl

pub bracket_first_fits : (most b : ℕ) → 0 < most → FirstFits most (bracket_first b)
bracket_first_fits most b l =
    if_first_fits (b == 40) most _ _ (λ e. (omega arith, omega arith)) (λ e.
    if_first_fits (b == 41) most _ _ (λ e. (omega arith, omega arith)) (λ e.
    if_first_fits (b == 91) most _ _ (λ e. (omega arith, omega arith)) (λ e.
    if_first_fits (b == 93) most _ _ (λ e. (omega arith, omega arith)) (λ e.
    if_first_fits (b == 123) most _ _ (λ e. (omega arith, omega arith)) (λ e.
    if_first_fits (b == 125) most _ _ (λ e. (omega arith, omega arith)) (λ e. omega arith))))))

pub prefix_some : (p : ℕ → Bool) (b : ℕ) (bs : List ℕ) → p b ≡ true → 0 < prefix_len p (b ∷ bs)
prefix_some p b bs e = rw e (omega arith)

pub not_line_feed : (b : ℕ) → (b == 59) ≡ true → not (b == 10) ≡ true
not_line_feed b e = let h : b ≡ 59 = eqb-true b 59 e in subst (λ (n : ℕ). not (n == 10) ≡ true) (sym h) refl

pub first_fits : (bs : List ℕ) → FirstFits (length bs) (first bs)
unfolding first
first_fits [] = tt
first_fits (b ∷ bs) =
    if_first_fits (is_separator b) (suc (length bs)) _ _ (λ e. (omega arith, omega arith)) (λ e.
    if_first_fits (b == 59) (suc (length bs)) _ _ (λ e. (prefix_some (λ c. not (c == 10)) b bs (not_line_feed b e), prefix_len-le-length (λ c. not (c == 10)) (b ∷ bs))) (λ e.
    if_first_fits (b == 34) (suc (length bs)) _ _ (λ e. text_first_fits (length bs) (text_cut bs) (text_within_fits (suc (length bs)) bs)) (λ e.
    if_first_fits (is_token_byte b) (suc (length bs)) _ _
    (λ e. let h = prefix_some is_token_byte b bs e in let k = prefix_len-le-length is_token_byte (b ∷ bs) in
    let l : length (token (b ∷ bs)) ≡ prefix_len is_token_byte (b ∷ bs) = grind (arith, common_steps) in
    token_first_fits (suc (length bs)) (length (token (b ∷ bs))) (meaning (token (b ∷ bs))) (omega arith) (omega arith))
    (λ e. bracket_first_fits (suc (length bs)) b (omega arith)))))

pub pieces_within_step : (n : ℕ) (p : Place) (bs : List ℕ) → pieces_within (suc n) p bs ≡ pieces_step (pieces_within n) p bs (first bs)
unfolding pieces_within
pieces_within_step n p bs = refl

pub pieces_step_same : (f g : Place → List ℕ → Pieces) (p : Place) (bs : List ℕ) (x : First) → FirstFits (length bs) x → ((q : Place) (m : ℕ) → 0 < m → m ≤ length bs → f q (drop m bs) ≡ g q (drop m bs)) → pieces_step f p bs x ≡ pieces_step g p bs x
pieces_step_same f g p bs over h same = refl
pieces_step_same f g p bs (blank m) h same = same (past p (take m bs)) m h.0 h.1
pieces_step_same f g p bs (found x m) h same = ap (piece x p) (same (past p (take m bs)) m h.0 h.1)
pieces_step_same f g p bs (wrong k m) h same = refl

pub pieces_enough : (n m : ℕ) (p : Place) (bs : List ℕ) → length bs < n → length bs < m → pieces_within n p bs ≡ pieces_within m p bs
pieces_enough zero m p bs h k = absurd (omega arith)
pieces_enough (suc n) zero p bs h k = absurd (omega arith)
pieces_enough (suc n) (suc m) p bs h k =
    pieces_within_step n p bs
    ∙ pieces_step_same (pieces_within n) (pieces_within m) p bs (first bs) (first_fits bs)
    (λ q i l w. pieces_enough n m q (drop i bs) (omega (arith, length-drop i bs)) (omega (arith, length-drop i bs)))
    ∙ sym (pieces_within_step m p bs)

pub pieces_from_step : (p : Place) (bs : List ℕ) → pieces_from p bs ≡ pieces_step pieces_from p bs (first bs)
pieces_from_step p bs =
    pieces_within_step (length bs) p bs
    ∙ pieces_step_same (pieces_within (length bs)) pieces_from p bs (first bs) (first_fits bs)
    (λ q i l w. pieces_enough (length bs) (suc (length (drop i bs))) q (drop i bs) (omega (arith, length-drop i bs)) (omega arith))

pub pieces_from_is : (p : Place) (bs : List ℕ) (f : First) → f ≡ first bs → pieces_from p bs ≡ pieces_step pieces_from p bs f
pieces_from_is p bs f e = pieces_from_step p bs ∙ ap (pieces_step pieces_from p bs) (sym e)

-- one step of a reading that stands in c at p, before bs
pub go_over : (p : Place) (bs : List ℕ) (c : Context) → over ≡ first bs → go (pieces_from p bs) c ≡ unless (end_fault c) (Ok (innermost c))
unfolding go
go_over p bs c e = ap (λ (x : Pieces). go x c) (pieces_from_is p bs over e)

pub go_blank : (p : Place) (bs : List ℕ) (c : Context) (m : ℕ) → blank m ≡ first bs → go (pieces_from p bs) c ≡ go (pieces_from (past p (take m bs)) (drop m bs)) c
go_blank p bs c m e = ap (λ (x : Pieces). go x c) (pieces_from_is p bs (blank m) e)

pub go_wrong : (p : Place) (bs : List ℕ) (c : Context) (k : ReadErrorKind) (m : ℕ) → wrong k m ≡ first bs → go (pieces_from p bs) c ≡ Err (k, past p (take m bs))
unfolding go
go_wrong p bs c k m e = ap (λ (x : Pieces). go x c) (pieces_from_is p bs (wrong k m) e)

pub go_found : (p : Place) (bs : List ℕ) (c : Context) (x : Piece) (m : ℕ) → found x m ≡ first bs → piece_fault c x p ≡ None → go (pieces_from p bs) c ≡ go (pieces_from (past p (take m bs)) (drop m bs)) (next c x p)
unfolding go
go_found p bs c x m e h = ap (λ (y : Pieces). go y c) (pieces_from_is p bs (found x m) e) ∙ rw h refl

pub go_refused : (p : Place) (bs : List ℕ) (c : Context) (x : Piece) (m : ℕ) (f : ReadErrorKind × Place) → found x m ≡ first bs → piece_fault c x p ≡ Some f → go (pieces_from p bs) c ≡ Err f
unfolding go
go_refused p bs c x m f e h = ap (λ (y : Pieces). go y c) (pieces_from_is p bs (found x m) e) ∙ rw h refl
