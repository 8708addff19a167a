-- Words that are given to clap: all but `--` and those that begin with a single `-`. What the definition takes is such.
use Rattle.std.proofs.Common.{◌≡◌, ◌∙◌, ◌&&◌, ℕ, Bool, true, false, not, codes, refl, sym, ap, subst, arith, List, [], ◌∷◌, ◌++◌, Option, Some, None, true≢false}
use Rattle.std.specs.Prelude.{nat_eq, option_to_list}
use Rattle.std.specs.List.{list_all}
use Rattle.std.specs.Str.{bytes_eq}
use Rattle.std.proofs.lemmas.Slice.Eq.{bytes_eq-Decides}
use Rattle.clap.proofs.WalkLemmas.{both}
use Rattle.ca_words.specs.Reading.{is_open_word}
use Rattle.ca_words.specs.Words.{Text, behind_start, budget_in, options_joined, wants_value, workers_in}
use Rattle.ca_words.proofs.Rules.{IsOpen, is_bare}
use Rattle.ca_words.proofs.LongWords.{after_is, joined_apart, joined_whole, some≢none}
use Rattle.ca_words.proofs.Walks.{Opens}

no_dash : (y : ℕ) → nat_eq 45 y ≡ false → nat_eq y 45 ≡ false
no_dash y e = grind arith

bare_opens : (x : Text) → is_bare x ≡ true → IsOpen x
bare_opens [] e = (refl, refl, λ h. refl)
bare_opens (y ∷ ys) e = go (nat_eq 45 y) refl
  where
    go : (b : Bool) → nat_eq 45 y ≡ b → IsOpen (y ∷ ys)
    go true h = absurd (true≢false (sym (rw h at e)))
    go false h = (rw (no_dash y h) refl, rw (no_dash y h) refl, λ l. e)

dashes_open : (r : Text) → not (bytes_eq (45 ∷ 45 ∷ r) (codes "--")) ≡ true → IsOpen (45 ∷ 45 ∷ r)
dashes_open [] e = absurd (true≢false (sym e))
dashes_open (y ∷ ys) e = (refl, refl, λ h. absurd (some≢none _ (sym h)))

open_is : (x : Text) → is_open_word x ≡ true → IsOpen x
open_is x e = go (is_bare x) (behind_start (codes "--") x) refl refl
  where
    go : (b : Bool) (o : Option Text) → is_bare x ≡ b → behind_start (codes "--") x ≡ o → IsOpen x
    go true o h k = bare_opens x h
    go false None h k = absurd (true≢false (sym (rw (h, k) at e)))
    go false (Some r) h k =
        let is = after_is (codes "--") x r k in
        let long : not (bytes_eq x (codes "--")) ≡ true = rw (h, k) at e in
        subst IsOpen (sym is) (dashes_open r (subst (λ z. not (bytes_eq z (codes "--")) ≡ true) is long))

pub opens : (ws : List Text) → list_all is_open_word ws ≡ true → Opens ws
opens [] e = tt
opens (x ∷ ws) e =
    let parts = both (is_open_word x) (list_all is_open_word ws) e in
    (open_is x parts.0, opens ws parts.1)

-- ---- the words that the definition takes are such words

abbrev pub is_fine : Text → Bool
is_fine j = is_open_word j && (list_all is_bare (option_to_list (workers_in j)) && list_all is_bare (option_to_list (budget_in j)))

pub bare_open : (v : Text) → is_bare v ≡ true → is_open_word v ≡ true
bare_open v e = rw e refl

-- the value of an option that stands apart
fine_value : (x v : Text) → wants_value x ≡ true → is_fine (x ++ 61 ∷ v) ≡ true → (is_open_word x ≡ true) × (is_open_word v ≡ true)
fine_value x v w e = go (bytes_eq x (codes "--workers")) (bytes_eq x (codes "--budget")) refl refl
  where
    go : (a b : Bool) → bytes_eq x (codes "--workers") ≡ a → bytes_eq x (codes "--budget") ≡ b → (is_open_word x ≡ true) × (is_open_word v ≡ true)
    go true b h k =
        let is = (bytes_eq-Decides x (codes "--workers")).0 h in
        let value : ((is_bare v && true) && true) ≡ true = subst (λ z. is_fine (z ++ 61 ∷ v) ≡ true) is e in
        (ap is_open_word is, bare_open v (both (is_bare v) true (both (is_bare v && true) true value).0).0)
    go false true h k =
        let is = (bytes_eq-Decides x (codes "--budget")).0 k in
        let value : (is_bare v && true) ≡ true = subst (λ z. is_fine (z ++ 61 ∷ v) ≡ true) is e in
        (ap is_open_word is, bare_open v (both (is_bare v) true value).0)
    go false false h k = absurd (true≢false (sym (rw (h, k) at w)))

pub all_open : (ws : List Text) → list_all is_fine (options_joined ws) ≡ true → list_all is_open_word ws ≡ true
all_open [] e = refl
all_open (x ∷ []) e = rw (both (is_open_word x) _ (both (is_fine x) true e).0).0 refl
all_open (x ∷ v ∷ ws) e = go (wants_value x) refl (all_open (v ∷ ws)) (all_open ws)
  where
    go : (b : Bool) → wants_value x ≡ b → (list_all is_fine (options_joined (v ∷ ws)) ≡ true → list_all is_open_word (v ∷ ws) ≡ true) → (list_all is_fine (options_joined ws) ≡ true → list_all is_open_word ws ≡ true)
        → list_all is_open_word (x ∷ v ∷ ws) ≡ true
    go true h one two =
        let parts = both (is_fine (x ++ 61 ∷ v)) (list_all is_fine (options_joined ws)) (ap (list_all is_fine) (sym (joined_apart x v ws h)) ∙ e) in
        let open_both = fine_value x v h parts.0 in
        rw (open_both.0, open_both.1) (two parts.1)
    go false h one two =
        let parts = both (is_fine x) (list_all is_fine (options_joined (v ∷ ws))) (ap (list_all is_fine) (sym (joined_whole x v ws h)) ∙ e) in
        let open_x = (both (is_open_word x) _ parts.0).0 in
        rw open_x (one parts.1)
