-- The rules of each command as clap builds them, and where its walk over words stands.
use Rattle.std.proofs.Common.{◌≡◌, ◌+◌, ℕ, Bool, true, false, codes, refl, List, [], ◌∷◌, Option, Some, None, is_some}
use Rattle.std.specs.Prelude.{min}
use Rattle.std.specs.Str.{bytes_eq}
use Rattle.clap.specs.Lexer.{long_of, short_of, usize_max}
use Rattle.clap.specs.Walk.{Held, Row, Rule, Walk, idle, option}
use Rattle.clap.specs.Simple.{Shape, built, filled, new_rule, new_shape, with_index}
use Rattle.clap.specs.declared.builder.action.ArgAction.TheVariants.{SetTrue}
use Rattle.ca_words.specs.Line.{command_line}
use Rattle.ca_words.specs.Words.{Text, bare_word}

-- ---- the rules as they are built

abbrev pub valued : Text → Rule
valued n = filled (record (new_rule n) { long = Some n })

abbrev pub flag : Text → Rule
flag n = filled (record (new_rule n) { long = Some n; action = Some SetTrue })

abbrev pub place : Text → ℕ → Rule
place n k = with_index k (filled (new_rule n))

abbrev pub leaf : Text → List Rule → Shape
leaf n c = record (new_shape n) { rules = c; no_binary_name = true; disable_help_flag = true; disable_help_subcommand = true; is_built = true }

abbrev pub run_rules : List Rule
run_rules = valued (codes "workers") ∷ valued (codes "budget") ∷ flag (codes "journal") ∷ []

abbrev pub load_rules : List Rule
load_rules = place (codes "n") 1 ∷ valued (codes "workers") ∷ []

pub built_subs : (built command_line).subs ≡ leaf (codes "run") run_rules ∷ leaf (codes "check") [] ∷ leaf (codes "load") load_rules ∷ leaf (codes "replay") [] ∷ leaf (codes "follow") [] ∷ leaf (codes "report") [] ∷ []
built_subs = refl

-- ---- where the walk stands

abbrev pub held : List Row → Option (Text × List Text) → Held
held rows p = record { rows = rows; pending = p; skip = 0 }

abbrev pub at : List Row → Option (Text × List Text) → ℕ → Walk
at rows p k = record { held = held rows p; waiting = idle; position = k; is_trailing = false; stopped = None }

abbrev pub wait : List Row → Text → ℕ → Walk
wait rows n k = record { held = held rows (Some (n, [])); waiting = option n; position = k; is_trailing = false; stopped = None }

abbrev pub is_bare : Text → Bool
is_bare x = is_some (bare_word x)

-- the word is no `--` (45 45) and does not begin with a single `-`
abbrev pub IsOpen : Text → Type 0
IsOpen x = (bytes_eq x (45 ∷ 45 ∷ []) ≡ false) × (short_of x ≡ None) × (long_of x ≡ None → is_bare x ≡ true)

abbrev pub next_place : ℕ → ℕ
next_place k = min (k + 1) usize_max
