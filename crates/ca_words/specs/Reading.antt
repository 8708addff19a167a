-- What is read of clap's matches.
use Rattle.std.specs.Prelude.{◌≡◌, ◌&&◌, ◌||◌, Bool, true, false, not, is_some, List, [], ◌∷◌, Option, Some, None, codes, option_to_list, if◌then◌else◌}
use Rattle.std.specs.List.{list_all}
use Rattle.std.specs.Str.{bytes_eq}
use Rattle.clap.specs.Words.{Row, first_of, one_of}
use Rattle.ca_words.specs.Words.{Text, behind_start, bare_word, load_with, one_number, run_with, setting}
use Rattle.ca_words.specs.declared.command.Command.{Command}
use Rattle.ca_words.specs.declared.command.Command.TheVariants as command
use Rattle.ca_words.specs.declared.name.Name.{Name}
use Rattle.ca_words.specs.declared.name.Name.TheVariants.{Run, Check, Load, Replay, Follow, Report}

-- no `--`, and no word that begins with a single `-`
abbrev pub is_open_word : Text → Bool
is_open_word word = is_some (bare_word word) || (is_some (behind_start (codes "--") word) && not (bytes_eq word (codes "--")))

abbrev pub name_told : Text → Option Name
name_told w =
    if bytes_eq w (codes "run") then Some Run
    else (if bytes_eq w (codes "check") then Some Check
    else (if bytes_eq w (codes "load") then Some Load
    else (if bytes_eq w (codes "replay") then Some Replay
    else (if bytes_eq w (codes "follow") then Some Follow
    else (if bytes_eq w (codes "report") then Some Report else None)))))

-- the command that the words name, where the words after it are such as clap may read
abbrev pub command_name : List Text → Option Name
command_name [] = None
command_name (w ∷ ws) = if list_all is_open_word ws then name_told w else None

-- the text of a flag, as clap gives it
abbrev pub flag_text : Bool → Text
flag_text true = codes "true"
flag_text false = codes "false"

-- what the rows of a command give
abbrev pub RowsGive : Name → List Row → Option Command → Type 0
RowsGive Run rows c = (journal : Bool) → one_of (codes "journal") rows ≡ Some (flag_text journal)
    → c ≡ run_with (setting 1 1 16 (option_to_list (first_of (codes "workers") rows)))
    (setting 1000000 1 4000000 (option_to_list (first_of (codes "budget") rows))) (Some journal)
RowsGive Check rows c = c ≡ Some command.Check
RowsGive Load rows c = c ≡ load_with (one_number 1 20000 (option_to_list (first_of (codes "n") rows)))
    (setting 1 1 16 (option_to_list (first_of (codes "workers") rows)))
RowsGive Replay rows c = c ≡ Some command.Replay
RowsGive Follow rows c = c ≡ Some command.Follow
RowsGive Report rows c = c ≡ Some command.Report
