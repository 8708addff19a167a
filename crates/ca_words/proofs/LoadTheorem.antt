-- `load` with its words: the definition, and what clap makes of them.
use Rattle.std.proofs.Common.{◌≡◌, ◌∙◌, ℕ, Bool, true, false, codes, refl, sym, ap, List, [], ◌∷◌, Option, Some, None, is_some, true≢false}
use Rattle.std.specs.Prelude.{filter_map, fold, option_to_list}
use Rattle.std.specs.List.{list_all}
use Rattle.clap.specs.Faults.{defaults_fault}
use Rattle.clap.specs.Walk.{Row, first_of, has_row, rows_after, with_default}
use Rattle.ca_words.specs.Reading.{is_open_word}
use Rattle.ca_words.specs.Words.{Text, bare_word, is_load_word, options_joined, load_with, load_words, one_number, setting, workers_in}
use Rattle.ca_words.proofs.Rules.{leaf, load_rules}
use Rattle.ca_words.proofs.Steps.{both_none}
use Rattle.ca_words.proofs.Walks.{Opens, back, on}
use Rattle.ca_words.proofs.OpenWords.{all_open}
use Rattle.ca_words.proofs.Rows.{HasRoom}
use Rattle.ca_words.proofs.Arguments.{AllFit, all_back, all_fine, all_on, values_of}
use Rattle.ca_words.proofs.RunWords.{workers}
use Rattle.ca_words.proofs.LoadWords.{AtFirst, load_arguments, load_served, load_word, number, number_rule}
use Rattle.ca_words.proofs.Settings.{any_fits, or_true, same, setting_fits, valued_default, values_said}
use Rattle.ca_words.proofs.Program.{below, below_passes, passes_below}

end_is : (rows : List Row) → fold with_default rows load_rules ≡ rows
end_is rows = rw (same (has_row (codes "n") rows) rows, same (has_row (codes "workers") rows) rows) refl

pub load_taken : (ws : List Text) → Opens ws → below (leaf (codes "load") load_rules) ws ≡ []
    → load_words (options_joined ws) ≡ load_with (one_number 1 20000 (option_to_list (first_of (codes "n") (rows_after load_rules [] ws))))
    (setting 1 1 16 (option_to_list (first_of (codes "workers") (rows_after load_rules [] ws))))
load_taken ws o e =
    let r = back (codes "load") load_rules load_served ws o [] None 1 (below_passes ws (codes "load") load_rules e) in
    let s = all_back load_rules load_arguments is_load_word AtFirst load_word (options_joined ws) 1 [] r.0 r.1 in
    let rows_is : rows_after load_rules [] ws ≡ r.0.1 = ap (λ (rs : List Row). fold with_default rs load_rules) r.2 ∙ end_is r.0.1 in
    let w = ap (λ (rs : List Row). option_to_list (first_of (codes "workers") rs)) rows_is
    ∙ values_said (codes "workers") workers.row (filter_map workers_in (options_joined ws)) r.0.1 (λ v. refl) s.1.1.0 in
    let n = ap (λ (rs : List Row). option_to_list (first_of (codes "n") rs)) rows_is
    ∙ values_said (codes "n") number.row (filter_map bare_word (options_joined ws)) r.0.1 (λ v. refl) s.1.0 in
    rw s.0 (λ i. load_with (one_number 1 20000 (sym n i)) (setting 1 1 16 (sym w i)))

one_fits : (vs : List Text) → is_some (one_number 1 20000 vs) ≡ true → HasRoom (codes "n") vs []
one_fits [] e = absurd (true≢false (sym e))
one_fits (v ∷ []) e = refl
one_fits (v ∷ w ∷ vs) e = absurd (true≢false (sym e))

parts_of : (n w : Option ℕ) → is_some (load_with n w) ≡ true → (is_some n ≡ true) × (is_some w ≡ true)
parts_of (Some n) (Some w) e = (refl, refl)
parts_of (Some n) None e = absurd (true≢false (sym e))
parts_of None w e = absurd (true≢false (sym e))

fits : (js : List Text) → is_some (load_words js) ≡ true → (list_all is_load_word js ≡ true) × AllFit load_arguments js []
fits js e = go (list_all is_load_word js) refl
  where
    go : (t : Bool) → list_all is_load_word js ≡ t → (list_all is_load_word js ≡ true) × AllFit load_arguments js []
    go false h = absurd (true≢false (sym (rw h at e)))
    go true h =
        let parts = parts_of (one_number 1 20000 (filter_map bare_word js)) (setting 1 1 16 (filter_map workers_in js)) (rw h at e) in
        (h, ((one_fits (filter_map bare_word js) parts.0, any_fits (filter_map bare_word js)), (setting_fits workers 1 1 16 js refl parts.1, tt)))

no_defaults : (rows : List Row) → defaults_fault rows load_rules ≡ []
unfolding defaults_fault
no_defaults rows = both_none _ _ (rw (or_true (has_row (codes "n") rows)) refl) (both_none _ _ (valued_default (codes "workers") (with_default rows number_rule)) refl)

pub load_takes : (ws : List Text) → Opens ws → is_some (load_words (options_joined ws)) ≡ true → below (leaf (codes "load") load_rules) ws ≡ []
load_takes ws o e =
    let f = fits (options_joined ws) e in
    passes_below ws (codes "load") load_rules no_defaults (λ rows. refl)
    (on (codes "load") load_rules load_served ws o [] None 1 refl (all_on load_rules load_arguments is_load_word AtFirst load_word (options_joined ws) 1 [] f.0 f.1 (λ h. refl)))

-- and such words are given to clap
pub load_open : (ws : List Text) → is_some (load_words (options_joined ws)) ≡ true → list_all is_open_word ws ≡ true
load_open ws e =
    let f = fits (options_joined ws) e in
    all_open ws (all_fine load_rules load_arguments is_load_word AtFirst load_word (options_joined ws) f.0 (values_of load_arguments (options_joined ws) [] f.1))
