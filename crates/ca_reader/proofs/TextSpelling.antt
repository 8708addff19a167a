-- What a text says is characters one after another, and so it is read from what printing writes.
use Rattle.std.proofs.Common.{◌≡◌, ℕ, zero, suc, ◌+◌, ◌<◌, ◌≤◌, Bool, true, false, List, [], ◌∷◌, ◌++◌, length, take, drop, sym, ◌∙◌, ap, refl, subst, arith, Option, Some, inr, append_assoc, append-nil}
use Rattle.std.specs.Prelude.{◌==◌, ◌&&◌, if◌then◌else◌, nat_le, nat_lt, slice_index, cond}
use Rattle.std.specs.Int.{is_in_range}
use Rattle.std.proofs.lemmas.List.{take_at, drop_at, length-append}
use Rattle.std.proofs.lemmas.Grind.{common_steps}
use borrow.Author.Tests.{eqb-true, leb-true, ltb-true}
use Rattle.ca_value.specs.Printed.{escaped as written, all_escaped, quoted}
use Rattle.ca_reader.specs.declared.error.ReadErrorKind.TheVariants.{BadByte}
use Rattle.ca_reader.specs.Form.{text}
use Rattle.ca_reader.specs.Texts.{Letter, says, quote, missing, bad, byte_meant, escape_of, escape, character, letter, char_len, is_continuation, may_follow, TextCut, closed, unclosed, broken, with_letter, text_step, text_within, text_cut}
use Rattle.ca_reader.specs.Pieces.{one, found, first, text_first}
use Rattle.ca_reader.proofs.Cuts.{text_within_step, text_cut_step, char_len_fits, not_zero}
use Rattle.ca_reader.proofs.Spelling.{IsSpelt, passed_over, eqb_apart}
use Rattle.ca_reader.proofs.Numbers.{both}

-- one character of UTF-8
abbrev pub IsCharacter : List ℕ → Type 0
IsCharacter c = (0 < length c) × (char_len c ≡ length c)

-- characters one after another
abbrev pub AreCharacters : List (List ℕ) → Type 0
AreCharacters [] = Unit {0}
AreCharacters (c ∷ cs) = IsCharacter c × AreCharacters cs

abbrev pub concat : List (List ℕ) → List ℕ
concat [] = []
concat (c ∷ cs) = c ++ concat cs

abbrev pub IsText : List ℕ → Type 0
IsText s = (cs : List (List ℕ)) × (s ≡ concat cs) × AreCharacters cs

-- the length by the four tests, in order
abbrev pub pick : Bool → Bool → Bool → Bool → ℕ
pick s t u v = if s then 1 else (if t then 2 else (if u then 3 else (if v then 4 else 0)))

abbrev pub second_test : List ℕ → Bool
second_test bs = is_in_range 0xC2 0xDF (slice_index bs 0) && is_continuation (slice_index bs 1)

abbrev pub third_test : List ℕ → Bool
third_test bs = is_in_range 0xE0 0xEF (slice_index bs 0) && may_follow (slice_index bs 0) (slice_index bs 1) && is_continuation (slice_index bs 2)

abbrev pub fourth_test : List ℕ → Bool
fourth_test bs = is_in_range 0xF0 0xF4 (slice_index bs 0) && may_follow (slice_index bs 0) (slice_index bs 1) && is_continuation (slice_index bs 2) && is_continuation (slice_index bs 3)

pub char_len_is : (bs : List ℕ) → char_len bs ≡ pick (nat_lt (slice_index bs 0) 0x80) (second_test bs) (third_test bs) (fourth_test bs)
unfolding char_len
char_len_is bs = refl

pub pick_same : (s t u v s' t' u' v' : Bool) (n : ℕ) → pick s t u v ≡ n → 0 < n → (0 < n → s ≡ s') → (1 < n → t ≡ t') → (2 < n → u ≡ u') → (3 < n → v ≡ v') → pick s' t' u' v' ≡ n
pick_same true t u v s' t' u' v' n e l a b c d = rw (sym (a l)) e
pick_same false true u v s' t' u' v' n e l a b c d = rw (sym (a l), sym (b (omega arith))) e
pick_same false false true v s' t' u' v' n e l a b c d = rw (sym (a l), sym (b (omega arith)), sym (c (omega arith))) e
pick_same false false false true s' t' u' v' n e l a b c d = rw (sym (a l), sym (b (omega arith)), sym (c (omega arith)), sym (d (omega arith))) e
pick_same false false false false s' t' u' v' n e l a b c d = absurd (omega arith)

-- a character's length is seen in its own bytes
pub char_len_same : (bs ds : List ℕ) (n : ℕ) → char_len bs ≡ n → 0 < n → ((i : ℕ) → i < n → slice_index bs i ≡ slice_index ds i) → char_len ds ≡ n
char_len_same bs ds n e l same =
    char_len_is ds ∙ pick_same (nat_lt (slice_index bs 0) 0x80) (second_test bs) (third_test bs) (fourth_test bs) _ _ _ _ n (sym (char_len_is bs) ∙ e) l
    (λ h. ap (λ a. nat_lt a 0x80) (same 0 h))
    (λ h. let a = same 0 l in let b = same 1 h in cc)
    (λ h. let a = same 0 l in let b = same 1 (omega arith) in let c = same 2 h in cc)
    (λ h. let a = same 0 l in let b = same 1 (omega arith) in let c = same 2 (omega arith) in let d = same 3 h in cc)

pub take_is_character : (bs : List ℕ) (n : ℕ) → char_len bs ≡ n → 0 < n → n ≤ length bs → IsCharacter (take n bs)
take_is_character bs n e l h =
    let k : length (take n bs) ≡ n = grind (arith, common_steps) in
    (omega arith, char_len_same bs (take n bs) n e l (λ i j. grind (arith, common_steps)) ∙ sym k)

pub append_is_character : (c rest : List ℕ) → IsCharacter c → char_len (c ++ rest) ≡ length c
append_is_character c rest h = char_len_same c (c ++ rest) (length c) h.1 h.0 (λ i j. grind (arith, common_steps))

-- a character of several bytes has none below 128
pub in_range_low : (lo hi b : ℕ) → is_in_range lo hi b ≡ true → lo ≤ b
in_range_low lo hi b h = leb-true lo b (both (nat_le lo b) (nat_le b hi) h).0

pub may_follow_low : (b c : ℕ) → may_follow b c ≡ true → 128 ≤ c
may_follow_low b c h =
    let k = in_range_low _ _ c h in
    let by : (x y : Bool) → (if x then 0xA0 else (if y then 0x90 else 0x80)) ≤ c → 128 ≤ c = λ x y. elim x as (λ x. (if x then 0xA0 else (if y then 0x90 else 0x80)) ≤ c → 128 ≤ c) [
      | true ↦ λ l. omega arith
      | false ↦ elim y as (λ y. (if false then 0xA0 else (if y then 0x90 else 0x80)) ≤ c → 128 ≤ c) [ true ↦ λ l. omega arith | false ↦ λ l. l ]
    ]
    in by (b == 0xE0) (b == 0xF0) k

pub pick_two : (s t u v : Bool) → pick s t u v ≡ 2 → t ≡ true
pick_two true t u v e = absurd (omega arith)
pick_two false true u v e = refl
pick_two false false true v e = absurd (omega arith)
pick_two false false false true e = absurd (omega arith)
pick_two false false false false e = absurd (omega arith)

pub pick_three : (s t u v : Bool) → pick s t u v ≡ 3 → u ≡ true
pick_three true t u v e = absurd (omega arith)
pick_three false true u v e = absurd (omega arith)
pick_three false false true v e = refl
pick_three false false false true e = absurd (omega arith)
pick_three false false false false e = absurd (omega arith)

pub pick_four : (s t u v : Bool) → 4 ≤ pick s t u v → (v ≡ true) × (pick s t u v ≡ 4)
pick_four true t u v e = absurd (omega arith)
pick_four false true u v e = absurd (omega arith)
pick_four false false true v e = absurd (omega arith)
pick_four false false false true e = (refl, refl)
pick_four false false false false e = absurd (omega arith)

pub written_high : (b : ℕ) → 128 ≤ b → written b ≡ b ∷ []
written_high b h =
    rw (eqb_apart b 34 (inr (omega arith)), eqb_apart b 92 (inr (omega arith)), eqb_apart b 10 (inr (omega arith)), eqb_apart b 9 (inr (omega arith)), eqb_apart b 13 (inr (omega arith))) refl

abbrev pub AllHigh : List ℕ → Type 0
AllHigh [] = Unit {0}
AllHigh (b ∷ bs) = (128 ≤ b) × AllHigh bs

pub all_written_high : (c : List ℕ) → AllHigh c → all_escaped c ≡ c
all_written_high [] h = refl
all_written_high (b ∷ c) h = ap (λ (x : List ℕ). x ++ all_escaped c) (written_high b h.0) ∙ ap (λ (x : List ℕ). b ∷ x) (all_written_high c h.1)

pub q_bound : (p n : ℕ) → p ≡ suc (suc (suc (suc n))) → 4 ≤ p
q_bound p n e = omega arith

pub q_none : (p n : ℕ) → p ≡ suc (suc (suc (suc n))) → p ≡ 4 → n ≡ 0
q_none p n e f = omega arith

pub none_high : (f : List ℕ) → length f ≡ 0 → AllHigh f
none_high [] e = tt
none_high (b ∷ f) e = absurd (omega arith)

pub not_alone : (t u v : Bool) → pick false t u v ≡ 1 → ⊥
not_alone true u v e = omega arith
not_alone false true v e = omega arith
not_alone false false true e = omega arith
not_alone false false false e = omega arith

pub character_high : (a b : ℕ) (c : List ℕ) → IsCharacter (a ∷ b ∷ c) → AllHigh (a ∷ b ∷ c)
character_high a b [] h =
    let t = pick_two _ _ _ _ (sym (char_len_is (a ∷ b ∷ [])) ∙ h.1) in
    let k = both _ _ t in
    let l = in_range_low _ _ a k.0 in
    (omega arith, (in_range_low _ _ b k.1, tt))
character_high a b (d ∷ []) h =
    let t = pick_three _ _ _ _ (sym (char_len_is (a ∷ b ∷ d ∷ [])) ∙ h.1) in
    let k = both _ _ t in
    let m = both _ _ k.0 in
    let l = in_range_low _ _ a m.0 in
    (omega arith, (may_follow_low a b m.1, (in_range_low _ _ d k.1, tt)))
character_high a b (d ∷ e ∷ f) h =
    let q : pick (nat_lt a 0x80) (second_test (a ∷ b ∷ d ∷ e ∷ f)) (third_test (a ∷ b ∷ d ∷ e ∷ f)) (fourth_test (a ∷ b ∷ d ∷ e ∷ f)) ≡ suc (suc (suc (suc (length f)))) =
    sym (char_len_is (a ∷ b ∷ d ∷ e ∷ f)) ∙ h.1 in
    let v = pick_four _ _ _ _ (q_bound _ (length f) q) in
    let k = both _ _ v.0 in
    let m = both _ _ k.0 in
    let n = both _ _ m.0 in
    let l = in_range_low _ _ a n.0 in
    let z : length f ≡ 0 = q_none _ (length f) q v.1 in
    (omega arith, (may_follow_low a b n.1, (in_range_low _ _ d m.1, (in_range_low _ _ e k.1, none_high f z))))

pub byte_low : (b : ℕ) → IsCharacter (b ∷ []) → b < 128
byte_low b h =
    let by : (t : Bool) → nat_lt b 0x80 ≡ t → b < 128 = λ t. elim t as (λ t. nat_lt b 0x80 ≡ t → b < 128) [
      | true ↦ λ e. ltb-true b 128 e
      | false ↦ λ e. absurd (not_alone (second_test (b ∷ [])) (third_test (b ∷ [])) (fourth_test (b ∷ []))
          (ap (λ x. pick x (second_test (b ∷ [])) (third_test (b ∷ [])) (fourth_test (b ∷ []))) (sym e) ∙ sym (char_len_is (b ∷ [])) ∙ h.1))
    ]
    in by (nat_lt b 0x80) refl

pub letter_plain : (b : ℕ) (bs : List ℕ) (n : ℕ) → (b == 34) ≡ false → (b == 92) ≡ false → char_len (b ∷ bs) ≡ n → (n == 0) ≡ false → letter (b ∷ bs) ≡ says (take n (b ∷ bs)) n
unfolding letter
letter_plain b bs n h k e z =
    passed_over (b == 34) _ _ h ∙ passed_over (b == 92) _ _ k ∙ ap (character (b ∷ bs)) e ∙ passed_over (n == 0) _ _ z

pub letter_escape : (c b : ℕ) (bs : List ℕ) → byte_meant c ≡ Some b → letter (92 ∷ c ∷ bs) ≡ says (b ∷ []) 2
unfolding letter
letter_escape c b bs h = ap escape_of h

pub byte_case : (b : ℕ) (rest : List ℕ) (t : Bool) (x y : List ℕ) → (t ≡ true → letter (x ++ rest) ≡ says (b ∷ []) (length x)) → (t ≡ false → letter (y ++ rest) ≡ says (b ∷ []) (length y)) → letter (cond t x y ++ rest) ≡ says (b ∷ []) (length (cond t x y))
byte_case b rest true x y h k = h refl
byte_case b rest false x y h k = k refl

-- each character is read from what printing writes for it
pub letter_byte : (b : ℕ) (rest : List ℕ) → IsCharacter (b ∷ []) → letter (written b ++ rest) ≡ says (b ∷ []) (length (written b))
letter_byte b rest h =
    byte_case b rest (b == 34) _ _ (λ e. letter_escape 34 b rest (ap Some (sym (eqb-true b 34 e)))) (λ q.
    byte_case b rest (b == 92) _ _ (λ e. letter_escape 92 b rest (ap Some (sym (eqb-true b 92 e)))) (λ k.
    byte_case b rest (b == 10) _ _ (λ e. letter_escape 110 b rest (ap Some (sym (eqb-true b 10 e)))) (λ l.
    byte_case b rest (b == 9) _ _ (λ e. letter_escape 116 b rest (ap Some (sym (eqb-true b 9 e)))) (λ m.
    byte_case b rest (b == 13) _ _ (λ e. letter_escape 114 b rest (ap Some (sym (eqb-true b 13 e)))) (λ n.
    letter_plain b rest 1 q k (append_is_character (b ∷ []) rest h) refl)))))

pub letter_written : (c rest : List ℕ) → IsCharacter c → letter (all_escaped c ++ rest) ≡ says c (length (all_escaped c))
letter_written [] rest h = absurd (omega (arith, h.0))
letter_written (b ∷ []) rest h =
    subst (λ (w : List ℕ). letter (w ++ rest) ≡ says (b ∷ []) (length w)) (sym (append-nil (written b))) (letter_byte b rest h)
letter_written (a ∷ b ∷ c) rest h =
    let high = character_high a b c h in
    let e = all_written_high (a ∷ b ∷ c) high in
    rw e (letter_plain a (b ∷ (c ++ rest)) (length (a ∷ b ∷ c)) (eqb_apart a 34 (inr (omega (arith, high.0)))) (eqb_apart a 92 (inr (omega (arith, high.0))))
    (append_is_character (a ∷ b ∷ c) rest h) (eqb_apart _ 0 (inr (omega arith)))
    ∙ ap (λ (x : List ℕ). says x (length (a ∷ b ∷ c))) (take_at (a ∷ b ∷ c) rest (length (a ∷ b ∷ c)) refl))

pub all_escaped_append : (s t : List ℕ) → all_escaped (s ++ t) ≡ all_escaped s ++ all_escaped t
all_escaped_append [] t = refl
all_escaped_append (b ∷ s) t = ap (λ (x : List ℕ). written b ++ x) (all_escaped_append s t) ∙ sym (append_assoc (written b) (all_escaped s) (all_escaped t))

pub text_quote : (tail : List ℕ) → text_cut (34 ∷ tail) ≡ closed [] 1
unfolding letter
text_quote tail = text_cut_step (34 ∷ tail)

pub text_written : (cs : List (List ℕ)) (tail : List ℕ) → AreCharacters cs → text_cut (all_escaped (concat cs) ++ 34 ∷ tail) ≡ closed (concat cs) (length (all_escaped (concat cs)) + 1)
text_written [] tail h = text_quote tail
text_written (c ∷ cs) tail h =
    let rest = all_escaped (concat cs) ++ 34 ∷ tail in
    let e : all_escaped (c ++ concat cs) ++ 34 ∷ tail ≡ all_escaped c ++ rest =
    ap (λ (x : List ℕ). x ++ 34 ∷ tail) (all_escaped_append c (concat cs)) ∙ append_assoc (all_escaped c) (all_escaped (concat cs)) (34 ∷ tail) in
    let l : length (all_escaped c) + (length (all_escaped (concat cs)) + 1) ≡ length (all_escaped (c ++ concat cs)) + 1 =
    omega (arith, ap length (all_escaped_append c (concat cs)), length-append (all_escaped c) (all_escaped (concat cs))) in
    ap text_cut e
    ∙ text_cut_step (all_escaped c ++ rest)
    ∙ ap (text_step text_cut (all_escaped c ++ rest)) (letter_written c rest h.0)
    ∙ ap (λ (x : List ℕ). with_letter c (length (all_escaped c)) (text_cut x)) (drop_at (all_escaped c) rest (length (all_escaped c)) refl)
    ∙ ap (with_letter c (length (all_escaped c))) (text_written cs tail h.1)
    ∙ ap (closed (c ++ concat cs)) l

-- what a text says is characters
abbrev pub SaysText : TextCut → Type 0
SaysText (closed s n) = IsText s
SaysText unclosed = Unit {0}
SaysText (broken k n) = Unit {0}

abbrev pub SaysCharacter : Letter → Type 0
SaysCharacter (says x m) = IsCharacter x
SaysCharacter quote = Unit {0}
SaysCharacter missing = Unit {0}
SaysCharacter (bad k) = Unit {0}

pub if_says : (b : Bool) (x y : Letter) → (b ≡ true → SaysCharacter x) → (b ≡ false → SaysCharacter y) → SaysCharacter (if b then x else y)
if_says true x y h k = h refl
if_says false x y h k = k refl

pub escape_of_if_says : (b : Bool) (n : ℕ) (o : Option ℕ) → IsCharacter (n ∷ []) → SaysCharacter (escape_of o) → SaysCharacter (escape_of (if b then Some n else o))
escape_of_if_says true n o h k = h
escape_of_if_says false n o h k = k

pub escaped_says : (c : ℕ) → SaysCharacter (escape_of (byte_meant c))
unfolding char_len
escaped_says c =
    escape_of_if_says (c == 34) 34 _ (omega arith, refl)
    (escape_of_if_says (c == 92) 92 _ (omega arith, refl)
    (escape_of_if_says (c == 110) 10 _ (omega arith, refl)
    (escape_of_if_says (c == 116) 9 _ (omega arith, refl)
    (escape_of_if_says (c == 114) 13 _ (omega arith, refl) tt))))

pub escape_says : (bs : List ℕ) → SaysCharacter (escape bs)
escape_says [] = tt
escape_says (c ∷ bs) = escaped_says c

pub letter_says : (bs : List ℕ) → SaysCharacter (letter bs)
unfolding letter
letter_says [] = tt
letter_says (b ∷ bs) =
    if_says (b == 34) quote _ (λ e. tt) (λ e.
    if_says (b == 92) (escape bs) _ (λ f. escape_says bs) (λ f.
    if_says (char_len (b ∷ bs) == 0) (bad BadByte) _ (λ g. tt) (λ g.
    take_is_character (b ∷ bs) (char_len (b ∷ bs)) refl (not_zero (char_len (b ∷ bs)) g) (char_len_fits (b ∷ bs) (omega arith)))))

pub further_says : (x : List ℕ) (m : ℕ) (t : TextCut) → IsCharacter x → SaysText t → SaysText (with_letter x m t)
further_says x m (closed s n) h k = (x ∷ k.0, ap (λ (y : List ℕ). x ++ y) k.1, (h, k.2))
further_says x m unclosed h k = tt
further_says x m (broken j n) h k = tt

pub text_step_says : (more : List ℕ → TextCut) (bs : List ℕ) (l : Letter) → SaysCharacter l → ((m : ℕ) → SaysText (more (drop m bs))) → SaysText (text_step more bs l)
text_step_says more bs (says x m) h k = further_says x m (more (drop m bs)) h (k m)
text_step_says more bs quote h k = ([], refl, tt)
text_step_says more bs missing h k = tt
text_step_says more bs (bad j) h k = tt

pub text_says : (n : ℕ) (bs : List ℕ) → SaysText (text_within n bs)
unfolding text_within
text_says zero bs = tt
text_says (suc n) bs = rw (text_within_step n bs) (text_step_says (text_within n) bs (letter bs) (letter_says bs) (λ m. text_says n (drop m bs)))

pub first_text : (s tail : List ℕ) → IsText s → first (quoted s ++ tail) ≡ found (one (text s)) (length (quoted s))
unfolding first
first_text s tail h =
    let e = append_assoc (all_escaped s) (34 ∷ []) tail in
    let w : text_cut (all_escaped s ++ 34 ∷ tail) ≡ closed s (length (all_escaped s) + 1) =
    subst (λ (x : List ℕ). text_cut (all_escaped x ++ 34 ∷ tail) ≡ closed x (length (all_escaped x) + 1)) (sym h.1) (text_written h.0 tail h.2) in
    let l : length (all_escaped s) + 1 ≡ length (all_escaped s ++ 34 ∷ []) = omega (arith, length-append (all_escaped s) (34 ∷ [])) in
    ap (λ (x : List ℕ). text_first (text_cut x)) e ∙ ap text_first w ∙ ap (λ (n : ℕ). found (one (text s)) (suc n)) l

pub spelt_text : (s : List ℕ) → IsText s → IsSpelt (text s)
spelt_text s h = λ tail apart. first_text s tail h
