-- The words of `load`: those of the definition are those that clap takes by its rules.
use Rattle.std.proofs.Common.{◌≡◌, ◌∙◌, ℕ, Bool, true, false, codes, refl, sym, ap, subst, List, [], ◌∷◌, ◌++◌, Option, Some, None, is_some, inl, inr, true≢false, eqb-true}
use Rattle.std.specs.Prelude.{nat_eq, if◌then◌else◌}
use Rattle.std.specs.Str.{bytes_eq}
use Rattle.clap.specs.Lexer.{long_of}
use Rattle.clap.specs.Walk.{Row, Rule, has_row, reading_by}
use Rattle.clap.proofs.WalkLemmas.{both}
use Rattle.ca_words.specs.Words.{Text, behind_start, bare_word, budget_in, is_load_word, workers_in}
use Rattle.ca_words.proofs.Rules.{is_bare, load_rules, next_place, place, valued}
use Rattle.ca_words.proofs.LongWords.{after_is, bare_is_open, long_value, same_text, some≢none}
use Rattle.ca_words.proofs.OpenWords.{bare_open}
use Rattle.ca_words.proofs.Taken.{IsLong, IsPlace, Served, any, taken}
use Rattle.ca_words.proofs.Rows.{found}
use Rattle.ca_words.proofs.Arguments.{Argument, Use, Word, ready, use_row, with_use, uses, other}
use Rattle.ca_words.proofs.RunWords.{workers}

abbrev pub number_rule : Rule
number_rule = place (codes "n") 1

-- ---- the rules of `load` are served

pub load_served : Served load_rules
load_served = record { longs = longs; places = places }
  where
    longs : (n : Text) → IsLong load_rules n
    longs n = go (bytes_eq (codes "workers") n) refl
      where
        go : (a : Bool) → bytes_eq (codes "workers") n ≡ a → IsLong load_rules n
        go true h = subst (IsLong load_rules) (sym (same_text (codes "workers") n h)) (inr (inl (refl, refl, refl)))
        go false h = inl (rw h refl)

    places : (k : ℕ) → IsPlace load_rules k
    places k = go (nat_eq 1 k) refl
      where
        go : (b : Bool) → nat_eq 1 k ≡ b → IsPlace load_rules k
        go true h = subst (IsPlace load_rules) (eqb-true 1 k h) (inr (codes "n", refl, refl))
        go false h = inl (rw h refl)

-- ---- a word without a `-`

-- a word that does not begin with `-` is itself, and no option
bare_is : (x : Text) → is_bare x ≡ true → bare_word x ≡ Some x
bare_is x e = go (is_some (behind_start (codes "-") x)) refl
  where
    go : (b : Bool) → is_some (behind_start (codes "-") x) ≡ b → bare_word x ≡ Some x
    go true h = absurd (true≢false (sym (rw h at e)))
    go false h = rw h refl

bare_no_workers : (x : Text) → is_bare x ≡ true → workers_in x ≡ None
bare_no_workers x e = go (workers_in x) refl
  where
    go : (o : Option Text) → workers_in x ≡ o → workers_in x ≡ None
    go None h = h
    go (Some v) h = absurd (true≢false (sym e ∙ ap is_bare (after_is (codes "--workers=") x v h)))

bare_no_budget : (x : Text) → is_bare x ≡ true → budget_in x ≡ None
bare_no_budget x e = go (budget_in x) refl
  where
    go : (o : Option Text) → budget_in x ≡ o → budget_in x ≡ None
    go None h = h
    go (Some v) h = absurd (true≢false (sym e ∙ ap is_bare (after_is (codes "--budget=") x v h)))

-- ---- the arguments

abbrev pub number : Argument
number = record { id = codes "n"; value_in = bare_word; row = λ v. use_row (codes "n") (reading_by number_rule) (v ∷ []); fits = any }

abbrev pub load_arguments : List Argument
load_arguments = number ∷ workers ∷ []

-- the first place is free until the number is there
abbrev pub AtFirst : ℕ → List Row → Type 0
AtFirst k a = found (codes "n") a ≡ None → k ≡ 1

abbrev pub LoadUse : Text → Type 0
LoadUse = Use load_rules load_arguments AtFirst

workers_use : (v : Text) → LoadUse (codes "--workers=" ++ v)
workers_use v = record {
  id = codes "workers";
  reading = reading_by (valued (codes "workers"));
  values = v ∷ [];
  passes = λ ok k. ok v;
  next = λ k. k;
  falls = (inr (refl, refl), (inl (v, refl, refl, refl), tt));
  takes = λ ok k a. refl;
  opens = λ xs k a f s. ready workers (codes "--workers=" ++ v) v xs a refl f.1.0;
  fine = λ vs. rw (both (is_bare v) true vs.1.0).0 refl;
  keeps = λ k a b u s h. s (sym (u.others (codes "n") refl) ∙ h);
}

number_takes : (x : Text) → is_bare x ≡ true → (ok : Text → Bool) (k : ℕ) (a : List Row)
    → taken ok load_rules (k, a) x ≡ (if nat_eq 1 k then (if has_row (codes "n") a then None else Some (next_place k, with_use (codes "n") (reading_by number_rule) (x ∷ []) a)) else None)
number_takes x d ok k a = go (nat_eq 1 k) refl
  where
    go : (b : Bool) → nat_eq 1 k ≡ b
        → taken ok load_rules (k, a) x ≡ (if nat_eq 1 k then (if has_row (codes "n") a then None else Some (next_place k, with_use (codes "n") (reading_by number_rule) (x ∷ []) a)) else None)
    go true h = rw (bare_is_open x d, h, d) refl
    go false h = rw (bare_is_open x d, h) refl

number_use : (x : Text) → is_bare x ≡ true → LoadUse x
number_use x d = record {
  id = codes "n";
  reading = reading_by number_rule;
  values = x ∷ [];
  passes = λ ok k. nat_eq 1 k;
  next = next_place;
  falls = (inl (x, bare_is x d, refl, refl), (inr (bare_no_workers x d, refl), tt));
  takes = number_takes x d;
  opens = λ xs k a f s.
      let none = (ready number x x xs a (bare_is x d) f.0).0 in
      (none, ap (nat_eq 1) (s none));
  fine = λ vs. rw (bare_open x d, bare_no_workers x d, bare_no_budget x d) refl;
  keeps = λ k a b u s h. absurd (some≢none _ (sym h ∙ u.now));
}

-- ---- a word

other_taken : (x : Text) → workers_in x ≡ None → is_bare x ≡ false → (ok : Text → Bool) (k : ℕ) (rows : List Row) → taken ok load_rules (k, rows) x ≡ None
other_taken x w d ok k rows = go (long_of x) refl
  where
    go : (q : Option (Text × Option Text)) → long_of x ≡ q → taken ok load_rules (k, rows) x ≡ None
    go None is = by (nat_eq 1 k) refl
      where
        by : (b : Bool) → nat_eq 1 k ≡ b → taken ok load_rules (k, rows) x ≡ None
        by true h = rw (is, h, d) refl
        by false h = rw (is, h) refl
    go (Some q) is = by (bytes_eq (codes "workers") q.0) q.1 refl refl
      where
        by : (s : Bool) (v : Option Text) → bytes_eq (codes "workers") q.0 ≡ s → q.1 ≡ v → taken ok load_rules (k, rows) x ≡ None
        by false v h e = rw (is, h) refl
        by true None h e = rw (is, h, e) refl
        by true (Some v) h e = absurd (some≢none v (sym w ∙ ap workers_in (long_value x (codes "workers") v (is ∙ ap Some (λ z. (same_text (codes "workers") q.0 h z, e z))))))

abbrev pub LoadWord : Text → Type 0
LoadWord = Word load_rules load_arguments is_load_word AtFirst

pub load_word : (x : Text) → LoadWord x
load_word x = go (workers_in x) (is_bare x) refl refl
  where
    go : (w : Option Text) (d : Bool) → workers_in x ≡ w → is_bare x ≡ d → LoadWord x
    go (Some v) d h k = subst LoadWord (sym (after_is (codes "--workers=") x v h)) (uses refl (workers_use v))
    go None true h k = uses (rw (h, k) refl) (number_use x k)
    go None false h k = other (rw (h, k) refl) (other_taken x h k)
