-- What clap is told of the command line, as clap sees it.
use Rattle.std.specs.Prelude.{codes, Some, true}
use Rattle.clap.specs.Words.{App, Rule, new_app, new_rule, with_rule, with_subcommand}
use Rattle.clap.specs.declared.builder.action.ArgAction.TheVariants.{SetTrue}
use Rattle.ca_words.specs.Words.{Text}

abbrev pub workers_rule : Rule
workers_rule = record (new_rule (codes "workers")) { long = Some (codes "workers") }

abbrev pub budget_rule : Rule
budget_rule = record (new_rule (codes "budget")) { long = Some (codes "budget") }

abbrev pub journal_rule : Rule
journal_rule = record (new_rule (codes "journal")) { long = Some (codes "journal"); action = Some SetTrue }

abbrev pub run_line : App
run_line = with_rule (with_rule (with_rule (new_app (codes "run")) workers_rule) budget_rule) journal_rule

abbrev pub load_line : App
load_line = with_rule (with_rule (new_app (codes "load")) (new_rule (codes "n"))) workers_rule

-- the words come without the command_line's name, and no help is added
abbrev pub with_settings : App → App
with_settings a = record a { top = record a.top { no_binary_name = true; disable_help_flag = true; disable_help_subcommand = true } }

-- with a command that has no words of its own
abbrev pub with_bare : Text → App → App
with_bare name a = with_subcommand a (new_app name).top

abbrev pub command_line : App
command_line = with_bare (codes "report") (with_bare (codes "follow") (with_bare (codes "replay")
    (with_subcommand (with_bare (codes "check") (with_subcommand (with_settings (new_app (codes "runzolev"))) run_line.top)) load_line.top)))
