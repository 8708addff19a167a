-- The words of `run`: those of the definition are those that clap takes by its rules.
use Rattle.std.proofs.Common.{◌≡◌, ◌∙◌, Bool, true, false, codes, refl, sym, ap, subst, ℕ, List, [], ◌∷◌, ◌++◌, Option, Some, None, inl, inr, true≢false}
use Rattle.std.specs.Prelude.{filter, filter_map, if◌then◌else◌}
use Rattle.std.specs.Str.{bytes_eq}
use Rattle.std.proofs.lemmas.Slice.Eq.{bytes_eq-Decides}
use Rattle.clap.specs.Lexer.{long_of}
use Rattle.clap.specs.Walk.{Row, reading_by}
use Rattle.clap.proofs.WalkLemmas.{both}
use Rattle.ca_words.specs.Words.{Text, budget_in, is_journal, is_run_word, workers_in}
use Rattle.ca_words.proofs.Rules.{flag, is_bare, run_rules, valued}
use Rattle.ca_words.proofs.LongWords.{after_is, long_value, long_word, same_text, some≢none}
use Rattle.ca_words.proofs.Taken.{IsLong, Served, any, taken}
use Rattle.ca_words.proofs.Arguments.{Argument, Use, Word, ready, use_row, uses, other}

pub run_served : Served run_rules
run_served = record { longs = longs; places = λ k. inl refl }
  where
    longs : (n : Text) → IsLong run_rules n
    longs n = go (bytes_eq (codes "workers") n) (bytes_eq (codes "budget") n) (bytes_eq (codes "journal") n) refl refl refl
      where
        go : (a b d : Bool) → bytes_eq (codes "workers") n ≡ a → bytes_eq (codes "budget") n ≡ b → bytes_eq (codes "journal") n ≡ d → IsLong run_rules n
        go true b d h k l = subst (IsLong run_rules) (sym (same_text (codes "workers") n h)) (inr (inl (refl, refl, refl)))
        go false true d h k l = subst (IsLong run_rules) (sym (same_text (codes "budget") n k)) (inr (inl (refl, refl, refl)))
        go false false true h k l = subst (IsLong run_rules) (sym (same_text (codes "journal") n l)) (inr (inr (refl, refl)))
        go false false false h k l = inl (rw (h, k, l) refl)

-- ---- the arguments

abbrev pub workers : Argument
workers = record { id = codes "workers"; value_in = workers_in; row = λ v. use_row (codes "workers") (reading_by (valued (codes "workers"))) (v ∷ []); fits = is_bare }

abbrev pub budget : Argument
budget = record { id = codes "budget"; value_in = budget_in; row = λ v. use_row (codes "budget") (reading_by (valued (codes "budget"))) (v ∷ []); fits = is_bare }

abbrev pub journal_in : Text → Option Text
journal_in x = if is_journal x then Some x else None

abbrev pub journal : Argument
journal = record { id = codes "journal"; value_in = journal_in; row = λ x. use_row (codes "journal") (reading_by (flag (codes "journal"))) (codes "true" ∷ []); fits = any }

abbrev pub run_arguments : List Argument
run_arguments = workers ∷ budget ∷ journal ∷ []

-- nothing need hold between words
abbrev pub Anywhere : ℕ → List Row → Type 0
Anywhere k a = Unit {0}

abbrev pub RunUse : Text → Type 0
RunUse = Use run_rules run_arguments Anywhere

workers_use : (v : Text) → RunUse (codes "--workers=" ++ v)
workers_use v = record {
  id = codes "workers";
  reading = reading_by (valued (codes "workers"));
  values = v ∷ [];
  passes = λ ok k. ok v;
  next = λ k. k;
  falls = (inl (v, refl, refl, refl), (inr (refl, refl), (inr (refl, refl), tt)));
  takes = λ ok k a. refl;
  opens = λ xs k a f s. ready workers (codes "--workers=" ++ v) v xs a refl f.0;
  fine = λ vs. rw (both (is_bare v) true vs.0).0 refl;
  keeps = λ k a b u s. tt;
}

budget_use : (v : Text) → RunUse (codes "--budget=" ++ v)
budget_use v = record {
  id = codes "budget";
  reading = reading_by (valued (codes "budget"));
  values = v ∷ [];
  passes = λ ok k. ok v;
  next = λ k. k;
  falls = (inr (refl, refl), (inl (v, refl, refl, refl), (inr (refl, refl), tt)));
  takes = λ ok k a. refl;
  opens = λ xs k a f s. ready budget (codes "--budget=" ++ v) v xs a refl f.1.0;
  fine = λ vs. rw (both (is_bare v) true vs.1.0).0 refl;
  keeps = λ k a b u s. tt;
}

journal_use : RunUse (codes "--journal")
journal_use = record {
  id = codes "journal";
  reading = reading_by (flag (codes "journal"));
  values = codes "true" ∷ [];
  passes = λ ok k. true;
  next = λ k. k;
  falls = (inr (refl, refl), (inr (refl, refl), (inl (codes "--journal", refl, refl, refl), tt)));
  takes = λ ok k a. refl;
  opens = λ xs k a f s. ready journal (codes "--journal") (codes "--journal") xs a refl f.1.1.0;
  fine = λ vs. refl;
  keeps = λ k a b u s. tt;
}

-- ---- a word

other_taken : (x : Text) → workers_in x ≡ None → budget_in x ≡ None → is_journal x ≡ false
    → (ok : Text → Bool) (k : ℕ) (rows : List Row) → taken ok run_rules (k, rows) x ≡ None
other_taken x w b j ok k rows = go (long_of x) refl
  where
    go : (q : Option (Text × Option Text)) → long_of x ≡ q → taken ok run_rules (k, rows) x ≡ None
    go None is = rw is refl
    go (Some q) is = by (bytes_eq (codes "workers") q.0) (bytes_eq (codes "budget") q.0) (bytes_eq (codes "journal") q.0) q.1 refl refl refl refl
      where
        by : (s t u : Bool) (v : Option Text) → bytes_eq (codes "workers") q.0 ≡ s → bytes_eq (codes "budget") q.0 ≡ t → bytes_eq (codes "journal") q.0 ≡ u → q.1 ≡ v
            → taken ok run_rules (k, rows) x ≡ None
        by false false false v h i l e = rw (is, h, i, l) refl
        by true t u None h i l e = rw (is, h, e) refl
        by true t u (Some v) h i l e = absurd (some≢none v (sym w ∙ ap workers_in (long_value x (codes "workers") v (is ∙ ap Some (λ z. (same_text (codes "workers") q.0 h z, e z))))))
        by false true u None h i l e = rw (is, h, i, e) refl
        by false true u (Some v) h i l e = absurd (some≢none v (sym b ∙ ap budget_in (long_value x (codes "budget") v (is ∙ ap Some (λ z. (same_text (codes "budget") q.0 i z, e z))))))
        by false false true (Some v) h i l e = rw (is, h, i, l, e) refl
        by false false true None h i l e = absurd (true≢false (sym (ap is_journal (long_word x (codes "journal") (is ∙ ap Some (λ z. (same_text (codes "journal") q.0 l z, e z))))) ∙ j))

abbrev pub RunWord : Text → Type 0
RunWord = Word run_rules run_arguments is_run_word Anywhere

pub run_word : (x : Text) → RunWord x
run_word x = go (workers_in x) (budget_in x) (is_journal x) refl refl refl
  where
    go : (w b : Option Text) (j : Bool) → workers_in x ≡ w → budget_in x ≡ b → is_journal x ≡ j → RunWord x
    go (Some v) b j h k l = subst RunWord (sym (after_is (codes "--workers=") x v h)) (uses refl (workers_use v))
    go None (Some v) j h k l = subst RunWord (sym (after_is (codes "--budget=") x v k)) (uses refl (budget_use v))
    go None None true h k l = subst RunWord (sym ((bytes_eq-Decides x (codes "--journal")).0 l)) (uses refl journal_use)
    go None None false h k l = other (rw (h, k, l) refl) (other_taken x h k l)

-- ---- words that are kept are words that give themselves

pub journals : (js : List Text) → filter is_journal js ≡ filter_map journal_in js
journals [] = refl
journals (x ∷ xs) = go (is_journal x) refl (journals xs)
  where
    go : (b : Bool) → is_journal x ≡ b → filter is_journal xs ≡ filter_map journal_in xs → filter is_journal (x ∷ xs) ≡ filter_map journal_in (x ∷ xs)
    go true h rec = rw h (ap (λ ys. x ∷ ys) rec)
    go false h rec = rw h rec
