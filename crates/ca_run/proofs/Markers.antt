-- Where lines begin in an input, and which of them is the first marker line.
use Rattle.std.proofs.Common.{◌≡◌, ℕ, zero, suc, ◌+◌, ◌-◌, ◌<◌, ◌≤◌, List, [], ◌∷◌, ◌++◌, length, take, drop, get_or, Bool, true, false, not, refl, sym, ap, subst, ◌∙◌, arith, inl, inr, append_assoc, length-append, length-drop, ◌⊎◌}
use Rattle.std.specs.Prelude.{nat_eq}
use Rattle.std.specs.List.{list_all}
use Rattle.std.proofs.lemmas.Bool.{cases_eq, cases_lt}
use Rattle.std.proofs.lemmas.List.{get_or-drop, get_or_append_left, append_cancel_left, take-append-drop, length-take-le, take_more}
use Rattle.std.proofs.Math.Seq.{get_or-append_seam, take-append_seam, take-append-add, take-length, drop-append_seam}
use Rattle.ca_run.specs.Marker.{marker, EndsLine, IsMarked, IsParted, IsUnparted}

-- a line that doesn't begin at the front of a text begins behind a line feed
feed_before : (input front behind : List ℕ) → IsMarked input front behind → 0 < length front → get_or input (length front - 1) 0 ≡ 10
feed_before input front behind (inl e, text) some = absurd (let n : length front ≡ 0 = ap length e in omega (arith, n, some))
feed_before input front behind (inr (line, e), text) some =
    let long : length front ≡ length line + 1 = ap length e ∙ length-append line (10 ∷ []) in
    let place : length line ≡ length front - 1 = omega (arith, long) in
    let whole : input ≡ line ++ 10 ∷ (marker ++ behind) = text ∙ ap (λ z. z ++ (marker ++ behind)) e ∙ append_assoc line (10 ∷ []) (marker ++ behind) in
    subst (λ n. get_or input n 0 ≡ 10) place (ap (λ z. get_or z (length line) 0) whole ∙ get_or-append_seam line 10 (marker ++ behind) 0)

-- the marker line that stands where a line begins
at_start : (input front behind : List ℕ) (start : ℕ) → IsMarked input front behind → length front ≡ start → drop start input ≡ marker ++ behind
at_start input front behind start (ends, text) e = subst (λ n. drop n input ≡ marker ++ behind) e (ap (drop (length front)) text ∙ drop-append_seam front (marker ++ behind))

shorter : (input front behind : List ℕ) → IsMarked input front behind → length front < length input
shorter input front behind (ends, text) =
    let a : length input ≡ length front + length (marker ++ behind) = ap length text ∙ length-append front (marker ++ behind) in
    let b : length (marker ++ behind) ≡ 12 + length behind = length-append marker behind in
    omega (arith, a, b)

-- a line begins here, and no marker line stands before
pub record NoneBefore (input : List ℕ) (start : ℕ) : Type 0 where
  pub within : start ≤ length input
  pub begins : EndsLine (take start input)
  pub later : (front behind : List ℕ) → IsMarked input front behind → start ≤ length front

pub none_at_first : (input : List ℕ) → NoneBefore input 0
none_at_first input = record { within = omega arith; begins = inl refl; later = λ front behind m. omega arith }

pub found : (input journal : List ℕ) (start : ℕ) → NoneBefore input start → drop start input ≡ marker ++ journal → IsParted input (take start input) journal
found input journal start h e = record {
  marked = (h.begins, sym (take-append-drop start input) ∙ ap (λ z. take start input ++ z) e);
  first = λ front behind m. let n : length (take start input) ≡ start = length-take-le start input h.within in let l = h.later front behind m in omega (arith, n, l);
}

-- where a marker line stands further on, a line feed stands before it
feed_behind : (input front behind : List ℕ) (start : ℕ) → start < length front → IsMarked input front behind → get_or (drop start input) (length front - 1 - start) 0 ≡ 10
feed_behind input front behind start lt m =
    get_or-drop start input (length front - 1 - start) 0
    ∙ ap (λ n. get_or input n 0) (let i : start + (length front - 1 - start) ≡ length front - 1 = omega (arith, lt) in i)
    ∙ feed_before input front behind m (omega (arith, lt))

pub next : (input : List ℕ) (start i : ℕ) → NoneBefore input start → ((j : List ℕ) → drop start input ≡ marker ++ j → ⊥) → i < length (drop start input) → get_or (drop start input) i 0 ≡ 10
    → ((k : ℕ) → k < i → get_or (drop start input) k 0 ≡ 10 → ⊥) → NoneBefore input (start + (i + 1))
next input start i h none lt feed first = record {
  within = (let l = length-drop start input in omega (arith, l, lt));
  begins = inr (take (start + i) input, more);
  later = later;
}
  where
    within_input : start + i < length input
    within_input = let l = length-drop start input in omega (arith, l, lt)

    more : take (start + (i + 1)) input ≡ take (start + i) input ++ 10 ∷ []
    more =
        ap (λ n. take n input) (let e : start + (i + 1) ≡ start + i + 1 = omega arith in e)
        ∙ take_more input (start + i) 0 within_input
        ∙ ap (λ b. take (start + i) input ++ b ∷ []) (sym (get_or-drop start input i 0) ∙ feed)

    later : (front behind : List ℕ) → IsMarked input front behind → start + (i + 1) ≤ length front
    later front behind m = by (cases_lt (length front) (start + (i + 1))) (cases_eq (length front) start)
      where
        by : (length front < start + (i + 1)) ⊎ (start + (i + 1) ≤ length front) → (length front ≡ start) ⊎ (length front ≡ start → ⊥) → start + (i + 1) ≤ length front
        by (inr le) c = le
        by (inl less) (inl e) = absurd (none behind (at_start input front behind start m e))
        by (inl less) (inr ne) =
            let l = h.later front behind m in
            let past : start < length front = omega (arith, l, ne) in
            absurd (first (length front - 1 - start) (omega (arith, past, less)) (feed_behind input front behind start past m))

pub none_behind : (input : List ℕ) (start : ℕ) → NoneBefore input start → ((j : List ℕ) → drop start input ≡ marker ++ j → ⊥)
    → ((k : ℕ) → k < length (drop start input) → get_or (drop start input) k 0 ≡ 10 → ⊥) → IsUnparted input
none_behind input start h none no_feed front behind m = by (cases_eq (length front) start)
  where
    by : (length front ≡ start) ⊎ (length front ≡ start → ⊥) → ⊥
    by (inl e) = none behind (at_start input front behind start m e)
    by (inr ne) =
        let l = h.later front behind m in
        let past : start < length front = omega (arith, l, ne) in
        let short = shorter input front behind m in
        let n = length-drop start input in
        no_feed (length front - 1 - start) (omega (arith, past, short, n)) (feed_behind input front behind start past m)

pub none_left : (input : List ℕ) (start : ℕ) → NoneBefore input start → length input ≤ start → IsUnparted input
none_left input start h over front behind m = let l = h.later front behind m in let s = shorter input front behind m in omega (arith, l, s, over)

-- the same of the rest of the input, as `&input[start..]` is
rest_is : (input : List ℕ) (start : ℕ) → take (length input - start) (drop start input) ≡ drop start input
rest_is input start = rw (← length-drop start input) (take-length (drop start input))

abbrev pub rest_of : List ℕ → ℕ → List ℕ
rest_of input start = take (length input - start) (drop start input)

pub found_at : (input journal : List ℕ) (start : ℕ) → NoneBefore input start → rest_of input start ≡ marker ++ journal → IsParted input (take start input) journal
found_at input journal start h e = found input journal start h (sym (rest_is input start) ∙ e)

pub next_at : (input : List ℕ) (start i : ℕ) → NoneBefore input start → ((j : List ℕ) → rest_of input start ≡ marker ++ j → ⊥) → i < length (rest_of input start) → get_or (rest_of input start) i 0 ≡ 10
    → ((k : ℕ) → k < i → get_or (rest_of input start) k 0 ≡ 10 → ⊥) → NoneBefore input (start + (i + 1))
next_at input start i h none lt feed first =
    let e = rest_is input start in
    next input start i h (λ j f. none j (e ∙ f)) (subst (λ (z : List ℕ). i < length z) e lt) (ap (λ z. get_or z i 0) (sym e) ∙ feed) (λ k l f. first k l (ap (λ z. get_or z k 0) e ∙ f))

pub none_at : (input : List ℕ) (start : ℕ) → NoneBefore input start → ((j : List ℕ) → rest_of input start ≡ marker ++ j → ⊥)
    → ((k : ℕ) → k < length (rest_of input start) → get_or (rest_of input start) k 0 ≡ 10 → ⊥) → IsUnparted input
none_at input start h none no_feed =
    let e = rest_is input start in
    none_behind input start h (λ j f. none j (e ∙ f)) (λ k l f. no_feed k (subst (λ (z : List ℕ). k < length z) (sym e) l) (ap (λ z. get_or z k 0) e ∙ f))

-- ---- an input is parted in one way

pub one_script : (input script journal other behind : List ℕ) → IsParted input script journal → IsParted input other behind → script ≡ other
one_script input script journal other behind p q =
    let a = p.first other behind q.marked in
    let b = q.first script journal p.marked in
    let same : length script ≡ length other = omega (arith, a, b) in
    sym (take-append_seam script (marker ++ journal)) ∙ ap (take (length script)) (sym p.marked.1) ∙ ap (λ n. take n input) same ∙ ap (take (length other)) q.marked.1 ∙ take-append_seam other (marker ++ behind)

pub one_journal : (input script journal other behind : List ℕ) → IsParted input script journal → IsParted input other behind → journal ≡ behind
one_journal input script journal other behind p q =
    let same : length other ≡ length script = ap length (sym (one_script input script journal other behind p q)) in
    append_cancel_left marker journal behind (sym (at_start input script journal (length script) p.marked refl) ∙ at_start input other behind (length script) q.marked same)

pub not_both : (input script journal : List ℕ) → IsParted input script journal → IsUnparted input → ⊥
not_both input script journal p none = none script journal p.marked

-- what stands behind the marker line is no longer than the input
pub journal_within : (input script journal : List ℕ) → IsParted input script journal → length journal ≤ length input
journal_within input script journal p =
    let a : length input ≡ length script + length (marker ++ journal) = ap length p.marked.1 ∙ length-append script (marker ++ journal) in
    let b : length (marker ++ journal) ≡ 12 + length journal = length-append marker journal in
    omega (arith, a, b)

-- ---- a script without a marker line, in front of one

first_not_ten : (x : ℕ) (xs : List ℕ) → list_all (λ b. not (nat_eq b 10)) (x ∷ xs) ≡ true → (nat_eq x 10 ≡ false) × (list_all (λ b. not (nat_eq b 10)) xs ≡ true)
first_not_ten x xs all = by (nat_eq x 10) refl
  where
    by : (b : Bool) → nat_eq x 10 ≡ b → (nat_eq x 10 ≡ false) × (list_all (λ b. not (nat_eq b 10)) xs ≡ true)
    by true is = absurd (let z : false ≡ true = rw is at all in cc)
    by false is = (is, rw is at all)

not_ten : (xs : List ℕ) (k : ℕ) → list_all (λ b. not (nat_eq b 10)) xs ≡ true → k < length xs → get_or xs k 0 ≡ 10 → ⊥
not_ten [] k all lt e = omega (arith, lt)
not_ten (x ∷ xs) zero all lt e = let z : false ≡ true = sym (first_not_ten x xs all).0 ∙ ap (λ y. nat_eq y 10) e in cc
not_ten (x ∷ xs) (suc k) all lt e = not_ten xs k (first_not_ten x xs all).1 (omega (arith, lt)) e

-- the line feed of a marker line is its last byte
no_feed_within : (behind : List ℕ) (k : ℕ) → k < 11 → get_or (marker ++ behind) k 0 ≡ 10 → ⊥
no_feed_within behind k lt e = not_ten (take 11 marker) k refl lt (sym (get_or_append_left (take 11 marker) (10 ∷ behind) 0 k lt) ∙ e)

-- a marker line that stands before the script's end
before_end : (script journal front behind : List ℕ) (n : ℕ) → length script ≡ length front + (12 + n) → script ++ (marker ++ journal) ≡ front ++ (marker ++ behind) → script ≡ front ++ (marker ++ take n behind)
before_end script journal front behind n long e =
    sym (take-append_seam script (marker ++ journal)) ∙ ap (λ z. take (length script) z) e ∙ ap (λ m. take m (front ++ (marker ++ behind))) long
    ∙ take-append-add front (marker ++ behind) (12 + n) ∙ ap (λ z. front ++ z) (take-append-add marker behind n)

pub parted_again : (script journal : List ℕ) → EndsLine script → IsUnparted script → IsParted (script ++ (marker ++ journal)) script journal
parted_again script journal ends none = record { marked = (ends, refl); first = first }
  where
    first : (front behind : List ℕ) → IsMarked (script ++ (marker ++ journal)) front behind → length script ≤ length front
    first front behind m = by (cases_lt (length front) (length script)) (cases_lt (length script) (length front + 12))
      where
        by : (length front < length script) ⊎ (length script ≤ length front) → (length script < length front + 12) ⊎ (length front + 12 ≤ length script) → length script ≤ length front
        by (inr le) c = le
        by (inl less) (inr all) =
            absurd (none front (take (length script - length front - 12) behind) (m.0, before_end script journal front behind (length script - length front - 12) (omega (arith, all)) m.1))
        by (inl less) (inl over) =
            let last : get_or (script ++ (marker ++ journal)) (length script - 1) 0 ≡ 10 = feed_before (script ++ (marker ++ journal)) script journal (ends, refl) (omega (arith, less)) in
            let within : length script - 1 - length front < 11 = omega (arith, over, less) in
            let at : get_or (script ++ (marker ++ journal)) (length script - 1) 0 ≡ get_or (marker ++ behind) (length script - 1 - length front) 0
            = ap (λ n. get_or (script ++ (marker ++ journal)) n 0) (let i : length script - 1 ≡ length front + (length script - 1 - length front) = omega (arith, less) in i)
            ∙ sym (get_or-drop (length front) (script ++ (marker ++ journal)) (length script - 1 - length front) 0)
            ∙ ap (λ z. get_or z (length script - 1 - length front) 0) (at_start (script ++ (marker ++ journal)) front behind (length front) m refl) in
            absurd (no_feed_within behind (length script - 1 - length front) within (sym at ∙ last))
