-- The arguments of a command, and words that use them: what the rows say of each argument once words are taken, and
-- that words with room for what they give are taken.
use Rattle.std.proofs.Common.{◌≡◌, ◌∙◌, ◌⊎◌, ℕ, Bool, true, false, refl, sym, ap, List, [], ◌∷◌, map, Option, Some, None, is_some, inl, inr, true≢false}
use Rattle.std.specs.Prelude.{filter_map, option_and_then, if◌then◌else◌}
use Rattle.std.specs.List.{list_all}
use Rattle.std.specs.Str.{bytes_eq}
use Rattle.clap.specs.Walk.{Row, Rule, has_row, with_values, without}
use Rattle.clap.specs.declared.builder.value_parser.Reading.{Reading}
use Rattle.clap.specs.declared.parser.matches.ValueSource.TheVariants.{CommandLine}
use Rattle.clap.proofs.WalkLemmas.{both}
use Rattle.ca_words.specs.Words.{Text}
use Rattle.ca_words.proofs.Rules.{is_bare}
use Rattle.ca_words.proofs.LongWords.{inside, some≢none}
use Rattle.ca_words.proofs.OpenWords.{is_fine}
use Rattle.ca_words.proofs.Taken.{all_taken, any, taken}
use Rattle.ca_words.proofs.Rows.{HasRoom, Says, found, new_found, new_row, not_there, old_found, room_here, room_other, says_here, says_other, there_not}

-- an argument: its name, what a joined word gives of it, the row of that, and which values clap reads where the word
-- stands apart from them
pub record Argument : Type 0 where
  pub id : Text
  pub value_in : Text → Option Text
  pub row : Text → Row
  pub fits : Text → Bool

-- what joined words say of each argument, from rows `a` on, where rows `b` are come to
abbrev pub AllSay : List Argument → List Text → List Row → List Row → Type 0
AllSay [] js a b = Unit {0}
AllSay (p ∷ ps) js a b = Says p.id (map p.row (filter_map p.value_in js)) a b × AllSay ps js a b

-- what they give has room beside rows `a`
abbrev pub Fits : Argument → List Text → List Row → Type 0
Fits p js a = HasRoom p.id (filter_map p.value_in js) a × (list_all p.fits (filter_map p.value_in js) ≡ true)

abbrev pub AllFit : List Argument → List Text → List Row → Type 0
AllFit [] js a = Unit {0}
AllFit (p ∷ ps) js a = Fits p js a × AllFit ps js a

-- ---- one word

-- the word gives this argument the row `r`, or it is of another argument, named `n`
abbrev pub Falls : Argument → Text → Text → Row → Type 0
Falls p x n r = ((v : Text) × (p.value_in x ≡ Some v) × (p.row v ≡ r) × (n ≡ p.id)) ⊎ ((p.value_in x ≡ None) × (bytes_eq n p.id ≡ false))

abbrev pub AllFall : List Argument → Text → Text → Row → Type 0
AllFall [] x n r = Unit {0}
AllFall (p ∷ ps) x n r = Falls p x n r × AllFall ps x n r

-- an argument is used for the first time
pub record FirstUse (n : Text) (r : Row) (a c : List Row) : Type 0 where
  pub before : found n a ≡ None
  pub now : found n c ≡ Some r
  pub others : (i : Text) → bytes_eq n i ≡ false → found i c ≡ found i a

abbrev pub with_use : Text → Reading → List Text → List Row → List Row
with_use n how vs a = with_values n how CommandLine vs (without n a)

abbrev pub use_row : Text → Reading → List Text → Row
use_row n how vs = new_row n how CommandLine vs

pub first_use : (n : Text) (how : Reading) (vs : List Text) (a : List Row) → has_row n a ≡ false → FirstUse n (use_row n how vs) a (with_use n how vs a)
first_use n how vs a e = record {
  before = not_there n a e;
  now = new_found n how CommandLine vs a e;
  others = λ i other. old_found i n how CommandLine vs a other e;
}

module _ (x : Text) (xs : List Text) (r : Row) (n : Text) (a c : List Row) (u : FirstUse n r a c) where
  says_one : (p : Argument) (b : List Row) → Falls p x n r → Says p.id (map p.row (filter_map p.value_in xs)) c b
      → Says p.id (map p.row (filter_map p.value_in (x ∷ xs))) a b
  says_one p b (inl g) s =
      rw g.1 (says_here p.id (p.row g.0) _ a c b (ap (λ i. found i a) (sym g.3) ∙ u.before) (ap (λ i. found i c) (sym g.3) ∙ u.now ∙ ap Some (sym g.2)) s)
  says_one p b (inr o) s = rw o.0 (says_other p.id _ a c b (u.others p.id o.1) s)

  fits_one : (p : Argument) → Falls p x n r → Fits p (x ∷ xs) a → Fits p xs c
  fits_one p (inl g) f =
      let room : HasRoom p.id (g.0 ∷ filter_map p.value_in xs) a = rw g.1 at f.0 in
      let values : list_all p.fits (g.0 ∷ filter_map p.value_in xs) ≡ true = rw g.1 at f.1 in
      ((room_here p.id g.0 _ a room).1 c, (both (p.fits g.0) _ values).1)
  fits_one p (inr o) f =
      let room : HasRoom p.id (filter_map p.value_in xs) a = rw o.0 at f.0 in
      (room_other p.id _ a c (u.others p.id o.1) room, rw o.0 at f.1)

  pub all_say : (ps : List Argument) (b : List Row) → AllFall ps x n r → AllSay ps xs c b → AllSay ps (x ∷ xs) a b
  all_say [] b f s = tt
  all_say (p ∷ ps) b f s = (says_one p b f.0 s.0, all_say ps b f.1 s.1)

  pub all_fit : (ps : List Argument) → AllFall ps x n r → AllFit ps (x ∷ xs) a → AllFit ps xs c
  all_fit [] f s = tt
  all_fit (p ∷ ps) f s = (fits_one p f.0 s.0, all_fit ps f.1 s.1)

-- what a word gives has room of its own
pub ready : (p : Argument) (x v : Text) (xs : List Text) (a : List Row) → p.value_in x ≡ Some v → Fits p (x ∷ xs) a → (found p.id a ≡ None) × (p.fits v ≡ true)
ready p x v xs a is f =
    let room : HasRoom p.id (v ∷ filter_map p.value_in xs) a = rw is at f.0 in
    let values : list_all p.fits (v ∷ filter_map p.value_in xs) ≡ true = rw is at f.1 in
    ((room_here p.id v _ a room).0, (both (p.fits v) _ values).0)

-- ---- values by themselves

abbrev pub AllValues : List Argument → List Text → Type 0
AllValues [] js = Unit {0}
AllValues (p ∷ ps) js = (list_all p.fits (filter_map p.value_in js) ≡ true) × AllValues ps js

pub values_of : (ps : List Argument) (js : List Text) (a : List Row) → AllFit ps js a → AllValues ps js
values_of [] js a f = tt
values_of (p ∷ ps) js a f = (f.0.1, values_of ps js a f.1)

values_split : (p : Argument) (x : Text) (xs : List Text) → list_all p.fits (filter_map p.value_in (x ∷ xs)) ≡ true
    → (list_all p.fits (filter_map p.value_in (x ∷ [])) ≡ true) × (list_all p.fits (filter_map p.value_in xs) ≡ true)
values_split p x xs e = go (p.value_in x) refl
  where
    go : (o : Option Text) → p.value_in x ≡ o → (list_all p.fits (filter_map p.value_in (x ∷ [])) ≡ true) × (list_all p.fits (filter_map p.value_in xs) ≡ true)
    go None h = (rw h refl, rw h at e)
    go (Some v) h =
        let values : list_all p.fits (v ∷ filter_map p.value_in xs) ≡ true = rw h at e in
        let parts = both (p.fits v) _ values in
        (rw (h, parts.0) refl, parts.1)

split_all : (ps : List Argument) (x : Text) (xs : List Text) → AllValues ps (x ∷ xs) → AllValues ps (x ∷ []) × AllValues ps xs
split_all [] x xs v = (tt, tt)
split_all (p ∷ ps) x xs v =
    let one = values_split p x xs v.0 in
    let rest = split_all ps x xs v.1 in
    ((one.0, rest.0), (one.1, rest.1))

-- ---- the words of a command

-- A word that uses an argument: `passes` says whether it does so at place k, where values are judged by `ok`, and
-- `Stands` is what holds of places and rows between words.
pub record Use (c : List Rule) (ps : List Argument) (Stands : ℕ → List Row → Type 0) (x : Text) : Type 0 where
  pub id : Text
  pub reading : Reading
  pub values : List Text
  pub passes : (Text → Bool) → ℕ → Bool
  pub next : ℕ → ℕ
  pub falls : AllFall ps x id (use_row id reading values)
  pub takes : (ok : Text → Bool) (k : ℕ) (a : List Row)
      → taken ok c (k, a) x ≡ (if passes ok k then (if has_row id a then None else Some (next k, with_use id reading values a)) else None)
  pub opens : (xs : List Text) (k : ℕ) (a : List Row) → AllFit ps (x ∷ xs) a → Stands k a → (found id a ≡ None) × (passes is_bare k ≡ true)
  pub fine : AllValues ps (x ∷ []) → is_fine x ≡ true
  pub keeps : (k : ℕ) (a b : List Row) → FirstUse id (use_row id reading values) a b → Stands k a → Stands (next k) b

pub data Word (c : List Rule) (ps : List Argument) (is_word : Text → Bool) (Stands : ℕ → List Row → Type 0) (x : Text) : Type 0 where
  uses : is_word x ≡ true → Use c ps Stands x → Word c ps is_word Stands x
  other : is_word x ≡ false → ((ok : Text → Bool) (k : ℕ) (a : List Row) → taken ok c (k, a) x ≡ None) → Word c ps is_word Stands x

passed : {X Y : Type 0} (b : Bool) (q : Option X) (f : X → Option Y) (y : Y) → option_and_then f (if b then q else None) ≡ Some y → option_and_then f q ≡ Some y
passed true q f y e = e
passed false q f y e = absurd (some≢none y e)

fresh_in : {X Y : Type 0} (b : Bool) (x : X) (f : X → Option Y) (y : Y) → option_and_then f (if b then None else Some x) ≡ Some y → (b ≡ false) × (f x ≡ Some y)
fresh_in false x f y e = (refl, e)
fresh_in true x f y e = absurd (some≢none y e)

none_said : (ps : List Argument) (a b : List Row) → a ≡ b → AllSay ps [] a b
none_said [] a b e = tt
none_said (p ∷ ps) a b e = (ap (found p.id) (sym e), none_said ps a b e)

module _ (c : List Rule) (ps : List Argument) (is_word : Text → Bool) (Stands : ℕ → List Row → Type 0) (words : (x : Text) → Word c ps is_word Stands x) where
  abbrev pub AreTold : List Text → List Row → List Row → Type 0
  AreTold js a b = (list_all is_word js ≡ true) × AllSay ps js a b

  back_word : (x : Text) (xs : List Text) (k : ℕ) (a : List Row) (st : ℕ × List Row) → Word c ps is_word Stands x
      → ((l : ℕ) (b : List Row) → all_taken any c (l, b) xs ≡ Some st → AreTold xs b st.1) → all_taken any c (k, a) (x ∷ xs) ≡ Some st → AreTold (x ∷ xs) a st.1
  back_word x xs k a st (other strange untaken) rec e = absurd (some≢none st (rw (untaken any k a) at e))
  back_word x xs k a st (uses is u) rec e =
      let b = with_use u.id u.reading u.values a in
      let onward = λ (t : ℕ × List Row). all_taken any c t xs in
      let e2 = passed (u.passes any k) _ onward st (ap (option_and_then onward) (sym (u.takes any k a)) ∙ e) in
      let parts = fresh_in (has_row u.id a) (u.next k, b) onward st e2 in
      let r = rec (u.next k) b parts.1 in
      (rw is r.0, all_say x xs _ u.id a b (first_use u.id u.reading u.values a parts.0) ps st.1 u.falls r.1)

  -- where the words are taken, they are words of the command, and the rows say what they give
  pub all_back : (js : List Text) (k : ℕ) (a : List Row) (st : ℕ × List Row) → all_taken any c (k, a) js ≡ Some st → AreTold js a st.1
  all_back [] k a st e = (refl, none_said ps a st.1 (ap (λ (s : ℕ × List Row). s.1) (inside (k, a) st e)))
  all_back (x ∷ xs) k a st e = back_word x xs k a st (words x) (λ l b. all_back xs l b st) e

  on_word : (x : Text) (xs : List Text) (k : ℕ) (a : List Row) → Word c ps is_word Stands x
      → ((l : ℕ) (b : List Row) → list_all is_word xs ≡ true → AllFit ps xs b → Stands l b → is_some (all_taken is_bare c (l, b) xs) ≡ true)
      → list_all is_word (x ∷ xs) ≡ true → AllFit ps (x ∷ xs) a → Stands k a → is_some (all_taken is_bare c (k, a) (x ∷ xs)) ≡ true
  on_word x xs k a (other strange untaken) rec w f s = absurd (true≢false (sym (both _ _ w).0 ∙ strange))
  on_word x xs k a (uses is u) rec w f s =
      let open_now = u.opens xs k a f s in
      let fresh = there_not u.id a open_now.0 in
      let b = with_use u.id u.reading u.values a in
      let first = first_use u.id u.reading u.values a fresh in
      rw (u.takes is_bare k a, open_now.1, fresh) (rec (u.next k) b (both _ _ w).1 (all_fit x xs _ u.id a b first ps u.falls f) (u.keeps k a b first s))

  -- words of the command, with room for what they give, are taken
  pub all_on : (js : List Text) (k : ℕ) (a : List Row) → list_all is_word js ≡ true → AllFit ps js a → Stands k a → is_some (all_taken is_bare c (k, a) js) ≡ true
  all_on [] k a w f s = refl
  all_on (x ∷ xs) k a w f s = on_word x xs k a (words x) (all_on xs) w f s

  fine_word : (x : Text) → Word c ps is_word Stands x → is_word x ≡ true → AllValues ps (x ∷ []) → is_fine x ≡ true
  fine_word x (uses is u) w v = u.fine v
  fine_word x (other strange untaken) w v = absurd (true≢false (sym w ∙ strange))

  -- and they are such as are given to clap
  pub all_fine : (js : List Text) → list_all is_word js ≡ true → AllValues ps js → list_all is_fine js ≡ true
  all_fine [] w v = refl
  all_fine (x ∷ xs) w v =
      let parts = split_all ps x xs v in
      rw (fine_word x (words x) (both _ _ w).0 parts.0) (all_fine xs (both _ _ w).1 parts.1)
