-- The words of the command line, and the command that they are.
use Rattle.std.specs.Prelude.{ℕ, ◌==◌, ◌&&◌, ◌||◌, ◌++◌, Bool, true, false, List, [], ◌∷◌, Option, Some, None, is_some, codes, length, nat_le, if◌then◌else◌, filter, filter_map}
use Rattle.std.specs.List.{list_all}
use Rattle.std.specs.Str.{bytes_eq}
use Rattle.std.specs.Str.Parse.{digits_value}
use Rattle.ca_words.specs.declared.command.Command.{Command}
use Rattle.ca_words.specs.declared.command.Command.TheVariants.{Run, Check, Load, Replay, Follow, Report}

-- a word, as its bytes
abbrev pub Text : Type 0
Text = List ℕ

-- ---- numbers

abbrev pub is_decimal_digit : ℕ → Bool
is_decimal_digit b = nat_le 48 b && nat_le b 57

-- one to seven decimal digits
abbrev pub is_number : Text → Bool
is_number v = nat_le 1 (length v) && (nat_le (length v) 7 && list_all is_decimal_digit v)

abbrev pub between : ℕ → ℕ → ℕ → Option ℕ
between least most n = if nat_le least n && nat_le n most then Some n else None

-- the number that a word writes, from `least` to `most`
abbrev pub number_asked : ℕ → ℕ → Text → Option ℕ
number_asked least most v = if is_number v then between least most (digits_value 10 v) else None

-- ---- what a word is

-- the option wants a value
abbrev pub wants_value : Text → Bool
wants_value word = bytes_eq word (codes "--workers") || bytes_eq word (codes "--budget")

-- each option that stands apart from its value, joined to it: `--x V` is `--x=V` (61 is `=`)
abbrev pub options_joined : List Text → List Text
options_joined [] = []
options_joined (w ∷ []) = w ∷ []
options_joined (w ∷ v ∷ rest) =
    if wants_value w then (w ++ 61 ∷ v) ∷ options_joined rest else w ∷ options_joined (v ∷ rest)

-- what follows `start` in a word that begins with it
abbrev pub behind_start : Text → Text → Option Text
behind_start [] word = Some word
behind_start (x ∷ start) [] = None
behind_start (x ∷ start) (y ∷ word) = if x == y then behind_start start word else None

abbrev pub workers_in : Text → Option Text
workers_in = behind_start (codes "--workers=")

abbrev pub budget_in : Text → Option Text
budget_in = behind_start (codes "--budget=")

abbrev pub is_journal : Text → Bool
is_journal word = bytes_eq word (codes "--journal")

-- a word that does not begin with `-`
abbrev pub bare_word : Text → Option Text
bare_word word = if is_some (behind_start (codes "-") word) then None else Some word

-- ---- the commands

-- a number given at most once, or what stands for it
abbrev pub setting : ℕ → ℕ → ℕ → List Text → Option ℕ
setting default least most [] = Some default
setting default least most (v ∷ []) = number_asked least most v
setting default least most (v ∷ w ∷ vs) = None

-- a number given once
abbrev pub one_number : ℕ → ℕ → List Text → Option ℕ
one_number least most (v ∷ []) = number_asked least most v
one_number least most _ = None

-- an option without a value, given at most once
abbrev pub once : List Text → Option Bool
once [] = Some false
once (w ∷ []) = Some true
once (w ∷ v ∷ ws) = None

abbrev pub journal_asked : List Text → Option Bool
journal_asked ws = once (filter is_journal ws)

abbrev pub workers_asked : List Text → Option ℕ
workers_asked ws = setting 1 1 16 (filter_map workers_in ws)

abbrev pub budget_asked : List Text → Option ℕ
budget_asked ws = setting 1000000 1 4000000 (filter_map budget_in ws)

abbrev pub is_run_word : Text → Bool
is_run_word w = is_some (workers_in w) || (is_some (budget_in w) || is_journal w)

abbrev pub is_load_word : Text → Bool
is_load_word w = is_some (workers_in w) || is_some (bare_word w)

-- a command with its parts, where each is there
abbrev pub run_with : Option ℕ → Option ℕ → Option Bool → Option Command
run_with (Some workers) (Some budget) (Some journal) = Some (Run workers budget journal)
run_with _ _ _ = None

abbrev pub load_with : Option ℕ → Option ℕ → Option Command
load_with (Some n) (Some workers) = Some (Load n workers)
load_with _ _ = None

-- `run` and its options, each at most once, in any order
abbrev pub run_words : List Text → Option Command
run_words ws = if list_all is_run_word ws then run_with (workers_asked ws) (budget_asked ws) (journal_asked ws) else None

-- `load` with its number, and `--workers` at most once
abbrev pub load_words : List Text → Option Command
load_words ws = if list_all is_load_word ws then load_with (one_number 1 20000 (filter_map bare_word ws)) (workers_asked ws) else None

-- a command that has no words of its own
abbrev pub wordless : Command → List Text → Option Command
wordless command [] = Some command
wordless command (w ∷ ws) = None

-- what the words after the command_line's name ask for
abbrev pub command_in : List Text → Option Command
command_in [] = None
command_in (w ∷ ws) =
    if bytes_eq w (codes "run") then run_words (options_joined ws)
    else (if bytes_eq w (codes "check") then wordless Check (options_joined ws)
    else (if bytes_eq w (codes "load") then load_words (options_joined ws)
    else (if bytes_eq w (codes "replay") then wordless Replay (options_joined ws)
    else (if bytes_eq w (codes "follow") then wordless Follow (options_joined ws)
    else (if bytes_eq w (codes "report") then wordless Report (options_joined ws) else None)))))
