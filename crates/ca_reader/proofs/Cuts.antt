-- Letters and pieces, one at a time.
use Rattle.std.proofs.Common.{◌≡◌, ℕ, zero, suc, ◌+◌, ◌-◌, ◌<◌, ◌≤◌, Bool, true, false, List, [], ◌∷◌, ◌++◌, length, get_or, take, drop, sym, ◌∙◌, ap, refl, arith, Option, None, Some, append_assoc, add-zero, length-drop, drop-drop, append-nil, inl, inr}
use Rattle.std.specs.Prelude.{◌&&◌, ◌==◌, if◌then◌else◌}
use Rattle.std.specs.Int.{is_in_range}
use Rattle.std.proofs.lemmas.Bool.Decides.{nat_tests}
use Rattle.std.proofs.lemmas.Bool.{cases_lt}
use Rattle.std.proofs.lemmas.List.{get_or_past}
use Rattle.std.proofs.lemmas.Grind.{common_steps}
use Rattle.ca_reader.specs.declared.error.ReadErrorKind.{ReadErrorKind}
use Rattle.ca_reader.specs.declared.error.ReadErrorKind.TheVariants.{UnclosedText, BadByte}
use Rattle.ca_reader.specs.Form.{text}
use Rattle.ca_reader.specs.Texts.{Letter, says, quote, missing, bad, byte_meant, escape_of, escape, character, letter, char_len, is_continuation, may_follow, TextCut, closed, unclosed, broken, with_letter, text_step, text_within, text_cut}
use Rattle.ca_reader.specs.PieceView.{LetterFits}
use Rattle.ca_reader.specs.Pieces.{one, First, found, wrong, text_first}

pub not_zero : (n : ℕ) → (n == 0) ≡ false → 0 < n
not_zero n e = grind (arith, nat_tests)

pub past_end : (p : ℕ → Bool) → p 0 ≡ false → (bs : List ℕ) (i : ℕ) → p (get_or bs i 0) ≡ true → i < length bs
past_end p none bs i e = elim (cases_lt i (length bs)) [
  | inl l ↦ l
  | inr g ↦
      let z : get_or bs i 0 ≡ 0 = get_or_past bs i 0 g in
      let f : p (get_or bs i 0) ≡ p 0 = ap p z in
      absurd (cc)
]

pub in_range_not_zero : (x y : Bool) (most : ℕ) → is_in_range (if x then 0xA0 else (if y then 0x90 else 0x80)) most 0 ≡ false
in_range_not_zero true y most = refl
in_range_not_zero false true most = refl
in_range_not_zero false false most = refl

pub may_follow_not_zero : (b : ℕ) → may_follow b 0 ≡ false
may_follow_not_zero b = in_range_not_zero (b == 0xE0) (b == 0xF0) _

pub chain_fits : (s t u v : Bool) (most : ℕ) → 0 < most → (t ≡ true → 2 ≤ most) → (u ≡ true → 3 ≤ most) → (v ≡ true → 4 ≤ most) → (if s then 1 else (if t then 2 else (if u then 3 else (if v then 4 else 0)))) ≤ most
chain_fits true t u v most a b c d = a
chain_fits false true u v most a b c d = b refl
chain_fits false false true v most a b c d = c refl
chain_fits false false false true most a b c d = d refl
chain_fits false false false false most a b c d = omega arith

pub last_of : (a b : Bool) → (a && b) ≡ true → b ≡ true
last_of true true e = refl
last_of true false e = cc
last_of false b e = cc

pub char_len_fits : (bs : List ℕ) → 0 < length bs → char_len bs ≤ length bs
unfolding char_len
char_len_fits bs l =
    chain_fits _ _ _ _ (length bs) l
    (λ e. past_end is_continuation refl bs 1 (last_of _ _ e))
    (λ e. past_end is_continuation refl bs 2 (last_of _ _ e))
    (λ e. past_end is_continuation refl bs 3 (last_of _ _ e))

pub if_fits : (b : Bool) (most : ℕ) (x y : Letter) → LetterFits most x → LetterFits most y → LetterFits most (if b then x else y)
if_fits true most x y h k = h
if_fits false most x y h k = k

pub escape_of_fits : (most : ℕ) (o : Option ℕ) → 2 ≤ most → LetterFits most (escape_of o)
escape_of_fits most (Some b) h = (omega arith, h)
escape_of_fits most None h = omega arith

pub escape_fits : (bs : List ℕ) → LetterFits (suc (length bs)) (escape bs)
escape_fits [] = tt
escape_fits (c ∷ bs) = escape_of_fits (suc (suc (length bs))) (byte_meant c) (omega arith)

pub character_fits : (bs : List ℕ) (n : ℕ) → 0 < length bs → n ≤ length bs → LetterFits (length bs) (character bs n)
character_fits bs n l h =
    let by : (t : Bool) → (n == 0) ≡ t → LetterFits (length bs) (if t then bad BadByte else says (take n bs) n) =
    λ t. elim t as (λ t. (n == 0) ≡ t → LetterFits (length bs) (if t then bad BadByte else says (take n bs) n)) [
      | true ↦ λ e. l
      | false ↦ λ e. (not_zero n e, h)
    ]
    in by (n == 0) refl

pub letter_fits : (bs : List ℕ) → LetterFits (length bs) (letter bs)
unfolding letter
letter_fits [] = tt
letter_fits (b ∷ bs) =
    if_fits (b == 34) (suc (length bs)) quote _ (omega arith)
    (if_fits (b == 92) (suc (length bs)) (escape bs) (character (b ∷ bs) (char_len (b ∷ bs))) (escape_fits bs)
    (character_fits (b ∷ bs) (char_len (b ∷ bs)) (omega arith) (char_len_fits (b ∷ bs) (omega arith))))

pub text_within_step : (n : ℕ) (bs : List ℕ) → text_within (suc n) bs ≡ text_step (text_within n) bs (letter bs)
unfolding text_within
text_within_step n bs = refl

pub text_step_same : (f g : List ℕ → TextCut) (bs : List ℕ) (l : Letter) → LetterFits (length bs) l → ((m : ℕ) → 0 < m → m ≤ length bs → f (drop m bs) ≡ g (drop m bs)) → text_step f bs l ≡ text_step g bs l
text_step_same f g bs (says x m) h same = ap (with_letter x m) (same m h.0 h.1)
text_step_same f g bs quote h same = refl
text_step_same f g bs missing h same = refl
text_step_same f g bs (bad k) h same = refl

pub text_enough : (n m : ℕ) (bs : List ℕ) → length bs < n → length bs < m → text_within n bs ≡ text_within m bs
text_enough zero m bs h k = absurd (omega arith)
text_enough (suc n) zero bs h k = absurd (omega arith)
text_enough (suc n) (suc m) bs h k =
    text_within_step n bs
    ∙ text_step_same (text_within n) (text_within m) bs (letter bs) (letter_fits bs)
    (λ i p q. text_enough n m (drop i bs) (omega (arith, length-drop i bs)) (omega (arith, length-drop i bs)))
    ∙ sym (text_within_step m bs)

pub text_cut_step : (bs : List ℕ) → text_cut bs ≡ text_step text_cut bs (letter bs)
text_cut_step bs =
    text_within_step (length bs) bs
    ∙ text_step_same (text_within (length bs)) text_cut bs (letter bs) (letter_fits bs)
    (λ i p q. text_enough (length bs) (suc (length (drop i bs))) (drop i bs) (omega (arith, length-drop i bs)) (omega arith))

-- the first piece of a script, where its text so far says s in m bytes and goes on so
abbrev pub so_far : List ℕ → ℕ → TextCut → First
so_far s m (closed xs n) = found (one (text (s ++ xs))) (m + n)
so_far s m unclosed = wrong UnclosedText 0
so_far s m (broken k n) = wrong k (m + n)

pub so_far_start : (t : TextCut) → so_far [] 1 t ≡ text_first t
so_far_start (closed s n) = let e : 1 + n ≡ suc n = omega arith in ap (found (one (text s))) e
so_far_start unclosed = refl
so_far_start (broken k n) = let e : 1 + n ≡ suc n = omega arith in ap (wrong k) e

pub so_far_further : (s x : List ℕ) (m i : ℕ) (t : TextCut) → so_far s m (with_letter x i t) ≡ so_far (s ++ x) (m + i) t
so_far_further s x m i (closed xs n) =
    let e = append_assoc s x xs in let f : m + (i + n) ≡ (m + i) + n = omega arith in cc
so_far_further s x m i unclosed = refl
so_far_further s x m i (broken k n) = let f : m + (i + n) ≡ (m + i) + n = omega arith in ap (wrong k) f

-- `&rest[m..]` and `&rest[m..m + i]`, as the code slices them
abbrev pub slice_from : List ℕ → ℕ → List ℕ
slice_from rest m = take (length rest - m) (drop m rest)

pub slice_from_is : (rest : List ℕ) (m : ℕ) → slice_from rest m ≡ drop m rest
slice_from_is rest m = grind (arith, common_steps)

pub slice_of_is : (rest : List ℕ) (m i : ℕ) → take (m + i - m) (drop m rest) ≡ take i (slice_from rest m)
slice_of_is rest m i =
    let e : m + i - m ≡ i = omega arith in
    ap (λ (j : ℕ). take j (drop m rest)) e ∙ ap (take i) (sym (slice_from_is rest m))

pub so_far_step : (rest s : List ℕ) (m : ℕ) (l : Letter) → l ≡ letter (slice_from rest m) → so_far s m (text_cut (drop m rest)) ≡ so_far s m (text_step text_cut (drop m rest) l)
so_far_step rest s m l e =
    ap (so_far s m) (text_cut_step (drop m rest) ∙ ap (text_step text_cut (drop m rest)) (sym (e ∙ ap letter (slice_from_is rest m))))

pub so_far_says : (rest s x : List ℕ) (m i : ℕ) → says x i ≡ letter (slice_from rest m) → so_far s m (text_cut (drop m rest)) ≡ so_far (s ++ x) (m + i) (text_cut (drop (m + i) rest))
so_far_says rest s x m i e =
    so_far_step rest s m (says x i) e
    ∙ so_far_further s x m i (text_cut (drop i (drop m rest)))
    ∙ ap (λ (bs : List ℕ). so_far (s ++ x) (m + i) (text_cut bs)) (drop-drop i m rest)

pub so_far_quote : (rest s : List ℕ) (m : ℕ) → quote ≡ letter (slice_from rest m) → so_far s m (text_cut (drop m rest)) ≡ found (one (text s)) (m + 1)
so_far_quote rest s m e =
    so_far_step rest s m quote e ∙ ap (λ (xs : List ℕ). found (one (text xs)) (m + 1)) (append-nil s)

pub so_far_missing : (rest s : List ℕ) (m : ℕ) → missing ≡ letter (slice_from rest m) → so_far s m (text_cut (drop m rest)) ≡ wrong UnclosedText 0
so_far_missing rest s m e = so_far_step rest s m missing e

pub so_far_bad : (rest s : List ℕ) (m : ℕ) (k : ReadErrorKind) → bad k ≡ letter (slice_from rest m) → so_far s m (text_cut (drop m rest)) ≡ wrong k m
so_far_bad rest s m k e = so_far_step rest s m (bad k) e ∙ ap (wrong k) (add-zero m)
