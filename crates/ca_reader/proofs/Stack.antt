-- The stack of open brackets as a context.
use Rattle.std.proofs.Common.{◌≡◌, ℕ, suc, ◌+◌, ◌-◌, ◌<◌, ◌≤◌, true, false, List, [], ◌∷◌, ◌++◌, length, take, drop, sym, ◌∙◌, ap, refl, arith, None, Some, lt-ltb, le-ltb, length-drop, drop-drop}
use Rattle.std.proofs.lemmas.Grind.{common_steps}
use Rattle.std.proofs.lemmas.List.{take-append-le, drop-append-le, drop-take}
use Rattle.ca_term.specs.declared.place.Place.{Place}
use Rattle.ca_reader.specs.declared.form.Form.{Form}
use Rattle.ca_reader.specs.declared.form.Bracket.{Bracket}
use Rattle.ca_reader.specs.declared.nest.Opened.{Opened}
use Rattle.ca_reader.specs.declared.error.ReadErrorKind.TheVariants.{TooDeep, StrayClose, OddMap, UnclosedList}
use Rattle.ca_reader.specs.Form.{FormTree, form, group, none, item}
use Rattle.ca_reader.specs.View.{form_tree, form_trees}
use Rattle.ca_reader.specs.Pieces.{opener}
use Rattle.ca_reader.specs.Reads.{Context, outside, inside, depth, piece_fault, closing_fault, end_fault, same_bracket, is_paired, form_count}
use Rattle.ca_reader.specs.Steps.{with_last, with_form, bracket_shut}
use Rattle.ca_reader.specs.NestView.{around, base_of}
use Rattle.ca_reader.proofs.Nesting.{same_is}

pub count_is : (fs : List Form) → form_count (form_trees fs) ≡ length fs
count_is [] = refl
count_is (f ∷ fs) = ap suc (count_is fs)

pub trees_last : (fs : List Form) (f : Form) → form_trees (fs ++ f ∷ []) ≡ with_last (form_trees fs) (form_tree f)
trees_last [] f = refl
trees_last (g ∷ fs) f = ap (item (form_tree g)) (trees_last fs f)

pub base_last : (os : List Opened) (o : Opened) → base_of (os ++ o ∷ []) ≡ base_of os + o.before
base_last [] o = omega arith
base_last (q ∷ os) o = let e = base_last os o in omega arith

-- cuts of a list at m + n
pub take_less : {X : Type 0} (m n : ℕ) (xs : List X) → take m (take (m + n) xs) ≡ take m xs
take_less m n xs = grind (arith, common_steps)

pub around_last : (k : List Form → Context) (os : List Opened) (o : Opened) (fs : List Form) → around k (os ++ o ∷ []) fs ≡ inside (around k os (take (base_of os + o.before) fs)) o.bracket o.place (form_trees (drop (base_of os + o.before) fs))
around_last k [] o fs =
    let e : o.before ≡ 0 + o.before = omega arith in
    ap (λ (n : ℕ). inside (k (take n fs)) o.bracket o.place (form_trees (drop n fs))) e
around_last k (q ∷ os) o fs =
    let n = base_of os + o.before in
    let e : q.before + n ≡ (q.before + base_of os) + o.before = omega arith in
    around_last (λ gs. inside (k (take q.before fs)) q.bracket q.place (form_trees gs)) os o (drop q.before fs)
    ∙ ap (λ (t : List Form). inside (around (λ gs. inside (k t) q.bracket q.place (form_trees gs)) os (take n (drop q.before fs))) o.bracket o.place (form_trees (drop n (drop q.before fs)))) (sym (take_less q.before n fs))
    ∙ ap (λ (t : List Form). inside (around (λ gs. inside (k (take q.before (take (q.before + n) fs))) q.bracket q.place (form_trees gs)) os t) o.bracket o.place (form_trees (drop n (drop q.before fs)))) (sym (drop-take q.before n fs))
    ∙ ap (λ (t : List Form). inside (around (λ gs. inside (k (take q.before (take (q.before + n) fs))) q.bracket q.place (form_trees gs)) os (drop q.before (take (q.before + n) fs))) o.bracket o.place (form_trees t)) (drop-drop n q.before fs)
    ∙ ap (λ (m : ℕ). inside (around (λ gs. inside (k (take q.before (take m fs))) q.bracket q.place (form_trees gs)) os (drop q.before (take m fs))) o.bracket o.place (form_trees (drop m fs))) e

pub around_with : (k : List Form → Context) (os : List Opened) (fs : List Form) (f : Form) → base_of os ≤ length fs → ((gs : List Form) → with_form (k gs) (form_tree f) ≡ k (gs ++ f ∷ [])) → with_form (around k os fs) (form_tree f) ≡ around k os (fs ++ f ∷ [])
around_with k [] fs f l h = h fs
around_with k (o ∷ os) fs f l h =
    let m : base_of os ≤ length (drop o.before fs) = omega (arith, length-drop o.before fs) in
    let a : take o.before (fs ++ f ∷ []) ≡ take o.before fs = take-append-le o.before fs (f ∷ []) (omega arith) in
    let b : drop o.before (fs ++ f ∷ []) ≡ drop o.before fs ++ f ∷ [] = drop-append-le o.before fs (f ∷ []) (omega arith) in
    around_with (λ gs. inside (k (take o.before fs)) o.bracket o.place (form_trees gs)) os (drop o.before fs) f m
    (λ gs. ap (inside (k (take o.before fs)) o.bracket o.place) (sym (trees_last gs f)))
    ∙ ap (λ (t : List Form). around (λ gs. inside (k (take o.before fs)) o.bracket o.place (form_trees gs)) os t) (sym b)
    ∙ ap (λ (t : List Form). around (λ gs. inside (k t) o.bracket o.place (form_trees gs)) os (drop o.before (fs ++ f ∷ []))) (sym a)

pub around_depth : (k : List Form → Context) (os : List Opened) (fs : List Form) (n : ℕ) → ((gs : List Form) → depth (k gs) ≡ n) → depth (around k os fs) ≡ n + length os
around_depth k [] fs n h = h fs ∙ omega arith
around_depth k (o ∷ os) fs n h =
    around_depth (λ gs. inside (k (take o.before fs)) o.bracket o.place (form_trees gs)) os (drop o.before fs) (suc n) (λ gs. ap suc (h (take o.before fs)))
    ∙ omega arith

-- the forms outside all brackets
abbrev pub top : List Form → Context
top fs = outside (form_trees fs)

pub depth_is : (os : List Opened) (fs : List Form) → depth (around top os fs) ≡ length os
depth_is os fs = around_depth top os fs 0 (λ gs. refl) ∙ omega arith

-- one more form on the level of the last bracket
pub pushed : (os : List Opened) (fs gs : List Form) (f : Form) → base_of os ≤ length fs → gs ≡ fs ++ f ∷ [] → around top os gs ≡ with_form (around top os fs) (form_tree f)
pushed os fs gs f l e = ap (around top os) e ∙ sym (around_with top os fs f l (λ hs. ap outside (sym (trees_last hs f))))

pub deep : (os : List Opened) (fs : List Form) (b : Bracket) (p : Place) → 200 ≤ length os → piece_fault (around top os fs) (opener b) p ≡ Some (TooDeep, p)
deep os fs b p h = rw (depth_is os fs, le-ltb (length os) 200 h) refl

pub not_deep : (os : List Opened) (fs : List Form) (b : Bracket) (p : Place) → length os < 200 → piece_fault (around top os fs) (opener b) p ≡ None
not_deep os fs b p h = rw (depth_is os fs, lt-ltb (length os) 200 h) refl

pub take_whole : {X : Type 0} (xs : List X) (n : ℕ) → n ≡ length xs → (take n xs ≡ xs) × (drop n xs ≡ [])
take_whole xs n e = (grind (arith, common_steps), grind (arith, common_steps))

pub opened : (os qs : List Opened) (o : Opened) (fs : List Form) → qs ≡ os ++ o ∷ [] → base_of os + o.before ≡ length fs → around top qs fs ≡ inside (around top os fs) o.bracket o.place none
opened os qs o fs e h =
    let w = take_whole fs (base_of os + o.before) h in
    ap (λ (x : List Opened). around top x fs) e
    ∙ around_last top os o fs
    ∙ ap (λ (t : List Form). inside (around top os t) o.bracket o.place (form_trees (drop (base_of os + o.before) fs))) w.0
    ∙ ap (λ (t : List Form). inside (around top os fs) o.bracket o.place (form_trees t)) w.1

-- the context with its last bracket in sight, behind n forms of all levels
pub last_is : (os qs : List Opened) (o : Opened) (fs : List Form) (n : ℕ) → qs ≡ os ++ o ∷ [] → n ≡ base_of qs → around top qs fs ≡ inside (around top os (take n fs)) o.bracket o.place (form_trees (drop n fs))
last_is os qs o fs n e h =
    let m : base_of os + o.before ≡ n = sym (h ∙ ap base_of e ∙ base_last os o) in
    ap (λ (x : List Opened). around top x fs) e
    ∙ around_last top os o fs
    ∙ ap (λ (i : ℕ). inside (around top os (take i fs)) o.bracket o.place (form_trees (drop i fs))) m

pub end_inside : (os qs : List Opened) (o : Opened) (fs : List Form) → qs ≡ os ++ o ∷ [] → end_fault (around top qs fs) ≡ Some (UnclosedList, o.place)
end_inside os qs o fs e = ap end_fault (last_is os qs o fs (base_of qs) e refl)

pub stray : (os qs : List Opened) (o : Opened) (fs : List Form) (b : Bracket) (p : Place) → qs ≡ os ++ o ∷ [] → same_bracket o.bracket b ≡ false → closing_fault (around top qs fs) b p ≡ Some (StrayClose, p)
stray os qs o fs b p e h = ap (λ c. closing_fault c b p) (last_is os qs o fs (base_of qs) e refl) ∙ rw h refl

pub odd : (os qs : List Opened) (o : Opened) (fs : List Form) (n : ℕ) (b : Bracket) (p : Place) → qs ≡ os ++ o ∷ [] → n ≡ base_of qs → same_bracket o.bracket b ≡ true → is_paired b (form_trees (drop n fs)) ≡ false → closing_fault (around top qs fs) b p ≡ Some (OddMap, o.place)
odd os qs o fs n b p e m h k = ap (λ c. closing_fault c b p) (last_is os qs o fs n e m) ∙ rw (h, k) refl

pub closes : (os qs : List Opened) (o : Opened) (fs : List Form) (n : ℕ) (b : Bracket) (p : Place) → qs ≡ os ++ o ∷ [] → n ≡ base_of qs → same_bracket o.bracket b ≡ true → is_paired b (form_trees (drop n fs)) ≡ true → closing_fault (around top qs fs) b p ≡ None
closes os qs o fs n b p e m h k = ap (λ c. closing_fault c b p) (last_is os qs o fs n e m) ∙ rw (h, k) refl

pub count_from : (fs : List Form) (n : ℕ) → form_count (form_trees (drop n fs)) ≡ length fs - n
count_from fs n = count_is (drop n fs) ∙ length-drop n fs

pub shut_pushed : (os qs : List Opened) (o : Opened) (fs gs hs : List Form) (n : ℕ) (b : Bracket) (f : FormTree) → qs ≡ os ++ o ∷ [] → n ≡ base_of qs → same_bracket o.bracket b ≡ true → gs ≡ drop n fs → hs ≡ take n fs → f ≡ form (group b (form_trees gs)) o.place → with_form (around top os hs) f ≡ bracket_shut (around top qs fs)
shut_pushed os qs o fs gs hs n b f e m h g k i =
    let s = same_is o.bracket b h in
    let j : form (group b (form_trees gs)) o.place ≡ form (group o.bracket (form_trees (drop n fs))) o.place = cc in
    ap (with_form (around top os hs)) (i ∙ j)
    ∙ ap (λ (x : List Form). with_form (around top os x) (form (group o.bracket (form_trees (drop n fs))) o.place)) k
    ∙ sym (ap bracket_shut (last_is os qs o fs n e m))

-- the base behind a bracket that was opened, and that which is left when it closes
pub base_opened : (os qs : List Opened) (o : Opened) → qs ≡ os ++ o ∷ [] → base_of qs ≡ base_of os + o.before
base_opened os qs o e = ap base_of e ∙ base_last os o
