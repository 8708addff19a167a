-- A command that has no words of its own.
use Rattle.std.proofs.Common.{◌≡◌, ℕ, true, refl, sym, List, [], ◌∷◌, Option, Some, None, is_some, true≢false, inl}
use Rattle.clap.specs.Lexer.{long_of}
use Rattle.clap.specs.Faults.{defaults_fault}
use Rattle.clap.specs.Walk.{Row}
use Rattle.ca_words.specs.declared.command.Command.{Command}
use Rattle.ca_words.specs.Words.{Text, wordless, options_joined}
use Rattle.ca_words.proofs.Rules.{is_bare, leaf}
use Rattle.ca_words.proofs.Taken.{Served, all_taken, any, taken}
use Rattle.ca_words.proofs.LongWords.{some≢none}
use Rattle.ca_words.proofs.Walks.{Opens, back, on}
use Rattle.std.specs.List.{list_all}
use Rattle.ca_words.specs.Reading.{is_open_word}
use Rattle.ca_words.proofs.OpenWords.{all_open, is_fine}
use Rattle.ca_words.proofs.Program.{below, below_passes, passes_below}

alone_served : Served []
alone_served = record { longs = λ n. inl refl; places = λ k. inl refl }

untaken : (x : Text) (k : ℕ) (rows : List Row) → taken any [] (k, rows) x ≡ None
untaken x k rows = go (long_of x) refl
  where
    go : (q : Option (Text × Option Text)) → long_of x ≡ q → taken any [] (k, rows) x ≡ None
    go None is = rw is refl
    go (Some q) is = rw is refl

no_words : (c : Command) (js : List Text) (st : ℕ × List Row) → all_taken any [] (1, []) js ≡ Some st → wordless c js ≡ Some c
no_words c [] st e = refl
no_words c (x ∷ xs) st e = absurd (some≢none st (rw (untaken x 1 []) at e))

pub alone_taken : (m : Text) (c : Command) (ws : List Text) → Opens ws → below (leaf m []) ws ≡ [] → wordless c (options_joined ws) ≡ Some c
alone_taken m c ws o e =
    let r = back m [] alone_served ws o [] None 1 (below_passes ws m [] e) in
    no_words c (options_joined ws) r.0 r.1

all_none : (c : Command) (js : List Text) → is_some (wordless c js) ≡ true → is_some (all_taken is_bare [] (1, []) js) ≡ true
all_none c [] e = refl
all_none c (x ∷ xs) e = absurd (true≢false (sym e))

pub alone_takes : (m : Text) (c : Command) (ws : List Text) → Opens ws → is_some (wordless c (options_joined ws)) ≡ true → below (leaf m []) ws ≡ []
unfolding defaults_fault
alone_takes m c ws o e = passes_below ws m [] (λ rows. refl) (λ rows. refl) (on m [] alone_served ws o [] None 1 refl (all_none c (options_joined ws) e))

-- and such words are given to clap
pub alone_open : (c : Command) (ws : List Text) → is_some (wordless c (options_joined ws)) ≡ true → list_all is_open_word ws ≡ true
alone_open c ws e = all_open ws (by (options_joined ws) e)
  where
    by : (js : List Text) → is_some (wordless c js) ≡ true → list_all is_fine js ≡ true
    by [] e = refl
    by (x ∷ xs) e = absurd (true≢false (sym e))
