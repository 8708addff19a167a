-- `run` with its words: the definition, and what clap makes of them.
use Rattle.std.proofs.Common.{◌≡◌, ◌∙◌, ◌||◌, ℕ, Bool, cond, true, false, codes, refl, sym, ap, List, [], ◌∷◌, ◌++◌, map, Option, Some, None, is_some, true≢false}
use Rattle.std.specs.Prelude.{filter, filter_map, fold, option_and_then, option_to_list, slice_get}
use Rattle.std.specs.List.{list_all}
use Rattle.std.specs.Str.{bytes_eq}
use Rattle.clap.specs.Faults.{default_fault, defaults_fault}
use Rattle.clap.specs.Walk.{row_text, Row, first_of, has_row, one_of, reading_by, rows_after, with_default, with_values}
use Rattle.clap.specs.declared.parser.matches.ValueSource.TheVariants.{DefaultValue}
use Rattle.ca_words.specs.Reading.{flag_text, is_open_word}
use Rattle.ca_words.specs.Words.{Text, budget_in, is_journal, is_run_word, options_joined, once, run_with, run_words, setting, workers_in}
use Rattle.ca_words.proofs.Rules.{flag, leaf, run_rules, valued}
use Rattle.ca_words.proofs.Steps.{both_none}
use Rattle.ca_words.proofs.Walks.{Opens, back, on}
use Rattle.ca_words.proofs.Rows.{HasRoom, Says, default_row, found, found_before, found_last, has_found, new_row, there_not}
use Rattle.ca_words.proofs.OpenWords.{all_open}
use Rattle.ca_words.proofs.Arguments.{AllFit, Argument, all_back, all_fine, all_on, values_of}
use Rattle.ca_words.proofs.RunWords.{Anywhere, budget, journal, journal_in, journals, run_arguments, run_served, run_word, workers}
use Rattle.ca_words.proofs.Settings.{any_fits, same, setting_fits, valued_default, values_said}
use Rattle.ca_words.proofs.Program.{below, below_passes, passes_below}

-- ---- what the rows say once defaults are in

abbrev pub end : List Row → List Row
end rows = fold with_default rows run_rules

abbrev defaulted : List Row → List Row
defaulted rows = with_values (codes "journal") (reading_by (flag (codes "journal"))) DefaultValue (codes "false" ∷ []) rows

end_is : (rows : List Row) → end rows ≡ cond (has_row (codes "journal") rows) rows (defaulted rows)
end_is rows = rw (same (has_row (codes "workers") rows) rows, same (has_row (codes "budget") rows) rows) refl

end_with : (b : Bool) (rows : List Row) → has_row (codes "journal") rows ≡ b → end rows ≡ cond b rows (defaulted rows)
end_with b rows h = end_is rows ∙ ap (λ t. cond t rows (defaulted rows)) h

abbrev default_journal : Row
default_journal = new_row (codes "journal") (reading_by (flag (codes "journal"))) DefaultValue (codes "false" ∷ [])

defaulted_is : (rows : List Row) → has_row (codes "journal") rows ≡ false → defaulted rows ≡ rows ++ default_journal ∷ []
defaulted_is rows h = default_row (codes "journal") (reading_by (flag (codes "journal"))) DefaultValue (codes "false" ∷ []) rows h

found_other : (i : Text) (rows : List Row) → bytes_eq (codes "journal") i ≡ false → found i (end rows) ≡ found i rows
found_other i rows other = go (has_row (codes "journal") rows) refl
  where
    go : (b : Bool) → has_row (codes "journal") rows ≡ b → found i (end rows) ≡ found i rows
    go true h = ap (found i) (end_with true rows h)
    go false h = ap (found i) (end_with false rows h ∙ defaulted_is rows h) ∙ found_before i default_journal rows other

-- the values of an option that the definition sees are those that clap gives
said : (p : Argument) (js : List Text) (rows : List Row) → bytes_eq (codes "journal") p.id ≡ false → ((v : Text) → slice_get (p.row v).values 0 ≡ Some v)
    → Says p.id (map p.row (filter_map p.value_in js)) [] rows → option_to_list (first_of p.id (end rows)) ≡ filter_map p.value_in js
said p js rows other first s = ap (λ (o : Option Row). option_to_list (option_and_then (λ (r : Row). slice_get r.values 0) o)) (found_other p.id rows other)
    ∙ values_said p.id p.row (filter_map p.value_in js) rows first s

abbrev pub Flagged : List Text → List Row → Type 0
Flagged ws rows = (b : Bool) × (once ws ≡ Some b) × (one_of (codes "journal") rows ≡ Some (flag_text b))

abbrev one_text_of : Option Row → Option Text
one_text_of o = option_and_then row_text o

journal_said : (ws : List Text) (rows : List Row) → Says (codes "journal") (map journal.row ws) [] rows → Flagged ws (end rows)
journal_said [] rows h =
    let none = there_not (codes "journal") rows h in (
      false,
      refl,
      ap (λ (rs : List Row). one_text_of (found (codes "journal") rs)) (end_with false rows none ∙ defaulted_is rows none)
          ∙ ap one_text_of (found_last (codes "journal") default_journal rows h),
    )
journal_said (w ∷ []) rows h =
    let there : has_row (codes "journal") rows ≡ true = has_found (codes "journal") rows ∙ ap is_some h.1 in (
      true,
      refl,
      ap (λ (rs : List Row). one_text_of (found (codes "journal") rs)) (end_with true rows there) ∙ ap one_text_of h.1,
    )
journal_said (w ∷ v ∷ ws) rows h = absurd h

-- ---- where clap takes the words, they ask for what it read

pub run_taken : (ws : List Text) → Opens ws → below (leaf (codes "run") run_rules) ws ≡ []
    → (b : Bool) × (one_of (codes "journal") (rows_after run_rules [] ws) ≡ Some (flag_text b))
    × (run_words (options_joined ws) ≡ run_with (setting 1 1 16 (option_to_list (first_of (codes "workers") (rows_after run_rules [] ws))))
    (setting 1000000 1 4000000 (option_to_list (first_of (codes "budget") (rows_after run_rules [] ws)))) (Some b))
run_taken ws o e =
    let r = back (codes "run") run_rules run_served ws o [] None 1 (below_passes ws (codes "run") run_rules e) in
    let s = all_back run_rules run_arguments is_run_word Anywhere run_word (options_joined ws) 1 [] r.0 r.1 in
    let rows_is : rows_after run_rules [] ws ≡ end r.0.1 = ap end r.2 in
    let j = journal_said (filter_map journal_in (options_joined ws)) r.0.1 s.1.1.1.0 in
    let w = ap (λ (rs : List Row). option_to_list (first_of (codes "workers") rs)) rows_is ∙ said workers (options_joined ws) r.0.1 refl (λ v. refl) s.1.0 in
    let b = ap (λ (rs : List Row). option_to_list (first_of (codes "budget") rs)) rows_is ∙ said budget (options_joined ws) r.0.1 refl (λ v. refl) s.1.1.0 in (
      j.0,
      ap (one_of (codes "journal")) rows_is ∙ j.2,
      rw s.0 (λ i. run_with (setting 1 1 16 (sym w i)) (setting 1000000 1 4000000 (sym b i)) ((ap once (journals (options_joined ws)) ∙ j.1) i)),
    )

-- ---- what the definition takes, clap takes

once_fits : (i : Text) (vs : List Text) → is_some (once vs) ≡ true → HasRoom i vs []
once_fits i [] e = tt
once_fits i (v ∷ []) e = refl
once_fits i (v ∷ w ∷ vs) e = absurd (true≢false (sym e))

parts_of : (w b : Option ℕ) (j : Option Bool) → is_some (run_with w b j) ≡ true → (is_some w ≡ true) × (is_some b ≡ true) × (is_some j ≡ true)
parts_of (Some w) (Some b) (Some j) e = (refl, refl, refl)
parts_of (Some w) (Some b) None e = absurd (true≢false (sym e))
parts_of (Some w) None j e = absurd (true≢false (sym e))
parts_of None b j e = absurd (true≢false (sym e))

fits : (js : List Text) → is_some (run_words js) ≡ true → (list_all is_run_word js ≡ true) × AllFit run_arguments js []
fits js e = go (list_all is_run_word js) refl
  where
    go : (t : Bool) → list_all is_run_word js ≡ t → (list_all is_run_word js ≡ true) × AllFit run_arguments js []
    go false h = absurd (true≢false (sym (rw h at e)))
    go true h =
        let parts = parts_of (setting 1 1 16 (filter_map workers_in js)) (setting 1000000 1 4000000 (filter_map budget_in js)) (once (filter is_journal js)) (rw h at e) in
        let j = once_fits (codes "journal") (filter_map journal_in js) (ap (λ vs. is_some (once vs)) (sym (journals js)) ∙ parts.2) in (
          h,
          (setting_fits workers 1 1 16 js refl parts.0, (setting_fits budget 1000000 1 4000000 js refl parts.1, ((j, any_fits (filter_map journal_in js)), tt))),
        )

flag_default : (n : Text) (rows : List Row) → default_fault rows (flag n) ≡ []
flag_default n rows = same (has_row n rows || false) []

no_defaults : (rows : List Row) → defaults_fault rows run_rules ≡ []
unfolding defaults_fault
no_defaults rows =
    let one = with_default rows (valued (codes "workers")) in
    both_none _ _ (valued_default (codes "workers") rows) (both_none _ _ (valued_default (codes "budget") one)
    (both_none _ _ (flag_default (codes "journal") (with_default one (valued (codes "budget")))) refl))

pub run_takes : (ws : List Text) → Opens ws → is_some (run_words (options_joined ws)) ≡ true → below (leaf (codes "run") run_rules) ws ≡ []
run_takes ws o e =
    let f = fits (options_joined ws) e in
    passes_below ws (codes "run") run_rules no_defaults (λ rows. refl)
    (on (codes "run") run_rules run_served ws o [] None 1 refl (all_on run_rules run_arguments is_run_word Anywhere run_word (options_joined ws) 1 [] f.0 f.1 tt))

-- and such words are given to clap
pub run_open : (ws : List Text) → is_some (run_words (options_joined ws)) ≡ true → list_all is_open_word ws ≡ true
run_open ws e =
    let f = fits (options_joined ws) e in
    all_open ws (all_fine run_rules run_arguments is_run_word Anywhere run_word (options_joined ws) f.0 (values_of run_arguments (options_joined ws) [] f.1))
