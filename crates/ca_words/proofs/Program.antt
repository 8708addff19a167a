-- The walk over the command's name, and what is left of a fault: that of the subcommand.
use Rattle.ca_words.specs.Words.{Text}
use Rattle.std.proofs.Common.{◌≡◌, ◌∙◌, false, codes, refl, sym, ap, ap₂, List, [], ◌∷◌, ◌++◌, Some, is_some}
use Rattle.clap.specs.Kinds.{Kinds, or_else}
use Rattle.clap.specs.Faults.{check_fault, defaults_fault, entered_fault, fault_of, level_fault, settle_fault, walk_fault}
use Rattle.clap.specs.Walk.{Row, Rule, Walk, finished, nothing_held, rows_after, settled, walk, walk_from, walked}
use Rattle.clap.specs.Simple.{App, Shape, built, entered, names_of, subcommand_of}
use Rattle.clap.proofs.WalkLemmas.{walk_stopped}
use Rattle.ca_words.specs.Line.{command_line}
use Rattle.ca_words.proofs.Rules.{leaf, load_rules, run_rules}
use Rattle.ca_words.proofs.Steps.{both_none, no_second, none_of}

abbrev pub P : App
P = built command_line

-- the walk once a subcommand was met, with the words after it so far
abbrev pub met : Text → List Text → Walk
met x seen = record (walk_from nothing_held) { stopped = Some (x, seen) }

no_more : (x : Text) (seen ws : List Text) → walk_fault P.top (names_of P) (met x seen) ws ≡ []
unfolding walk_fault walked
no_more x seen [] = refl
no_more x seen (w ∷ ws) = no_more x (seen ++ w ∷ []) ws

-- the fault of a parse, from the walk at the top
abbrev pub from_walk : Kinds → Walk → Kinds
from_walk first w = or_else first (or_else (entered_fault P w.stopped) (or_else (settle_fault P.top.rules false w.held)
    (or_else (defaults_fault (settled P.top.rules w.held).rows P.top.rules) (check_fault P.top (finished P.top.rules w.held) (is_some (entered P w.stopped))))))

abbrev pub below : Shape → List Text → Kinds
below s ws = level_fault s [] nothing_held ws false []

module _ (ws : List Text) where
  run_walk : walk P.top.rules (names_of P) nothing_held (codes "run" ∷ ws) ≡ met (codes "run") ws
  unfolding walked
  run_walk = sym (walk_stopped P.top.rules (names_of P) (walk_from nothing_held) (codes "run") [] ws)

  run_turns : walk_fault P.top (names_of P) (walk_from nothing_held) (codes "run" ∷ ws) ≡ []
  unfolding walk_fault walked
  run_turns = no_more (codes "run") [] ws

  pub run_fault : fault_of command_line (codes "run" ∷ ws) ≡ below (leaf (codes "run") run_rules) ws
  unfolding defaults_fault
  run_fault = ap₂ from_walk run_turns run_walk ∙ no_second (below (leaf (codes "run") run_rules) ws)

  pub run_entered : subcommand_of command_line (codes "run" ∷ ws) ≡ Some (codes "run", rows_after run_rules [] ws)
  run_entered = ap (λ (w : Walk). entered P w.stopped) run_walk

  check_walk : walk P.top.rules (names_of P) nothing_held (codes "check" ∷ ws) ≡ met (codes "check") ws
  unfolding walked
  check_walk = sym (walk_stopped P.top.rules (names_of P) (walk_from nothing_held) (codes "check") [] ws)

  check_turns : walk_fault P.top (names_of P) (walk_from nothing_held) (codes "check" ∷ ws) ≡ []
  unfolding walk_fault walked
  check_turns = no_more (codes "check") [] ws

  pub check_fault_is : fault_of command_line (codes "check" ∷ ws) ≡ below (leaf (codes "check") []) ws
  unfolding defaults_fault
  check_fault_is = ap₂ from_walk check_turns check_walk ∙ no_second (below (leaf (codes "check") []) ws)

  pub check_entered : subcommand_of command_line (codes "check" ∷ ws) ≡ Some (codes "check", rows_after [] [] ws)
  check_entered = ap (λ (w : Walk). entered P w.stopped) check_walk

  load_walk : walk P.top.rules (names_of P) nothing_held (codes "load" ∷ ws) ≡ met (codes "load") ws
  unfolding walked
  load_walk = sym (walk_stopped P.top.rules (names_of P) (walk_from nothing_held) (codes "load") [] ws)

  load_turns : walk_fault P.top (names_of P) (walk_from nothing_held) (codes "load" ∷ ws) ≡ []
  unfolding walk_fault walked
  load_turns = no_more (codes "load") [] ws

  pub load_fault : fault_of command_line (codes "load" ∷ ws) ≡ below (leaf (codes "load") load_rules) ws
  unfolding defaults_fault
  load_fault = ap₂ from_walk load_turns load_walk ∙ no_second (below (leaf (codes "load") load_rules) ws)

  pub load_entered : subcommand_of command_line (codes "load" ∷ ws) ≡ Some (codes "load", rows_after load_rules [] ws)
  load_entered = ap (λ (w : Walk). entered P w.stopped) load_walk

  replay_walk : walk P.top.rules (names_of P) nothing_held (codes "replay" ∷ ws) ≡ met (codes "replay") ws
  unfolding walked
  replay_walk = sym (walk_stopped P.top.rules (names_of P) (walk_from nothing_held) (codes "replay") [] ws)

  replay_turns : walk_fault P.top (names_of P) (walk_from nothing_held) (codes "replay" ∷ ws) ≡ []
  unfolding walk_fault walked
  replay_turns = no_more (codes "replay") [] ws

  pub replay_fault : fault_of command_line (codes "replay" ∷ ws) ≡ below (leaf (codes "replay") []) ws
  unfolding defaults_fault
  replay_fault = ap₂ from_walk replay_turns replay_walk ∙ no_second (below (leaf (codes "replay") []) ws)

  pub replay_entered : subcommand_of command_line (codes "replay" ∷ ws) ≡ Some (codes "replay", rows_after [] [] ws)
  replay_entered = ap (λ (w : Walk). entered P w.stopped) replay_walk

  follow_walk : walk P.top.rules (names_of P) nothing_held (codes "follow" ∷ ws) ≡ met (codes "follow") ws
  unfolding walked
  follow_walk = sym (walk_stopped P.top.rules (names_of P) (walk_from nothing_held) (codes "follow") [] ws)

  follow_turns : walk_fault P.top (names_of P) (walk_from nothing_held) (codes "follow" ∷ ws) ≡ []
  unfolding walk_fault walked
  follow_turns = no_more (codes "follow") [] ws

  pub follow_fault : fault_of command_line (codes "follow" ∷ ws) ≡ below (leaf (codes "follow") []) ws
  unfolding defaults_fault
  follow_fault = ap₂ from_walk follow_turns follow_walk ∙ no_second (below (leaf (codes "follow") []) ws)

  pub follow_entered : subcommand_of command_line (codes "follow" ∷ ws) ≡ Some (codes "follow", rows_after [] [] ws)
  follow_entered = ap (λ (w : Walk). entered P w.stopped) follow_walk

  report_walk : walk P.top.rules (names_of P) nothing_held (codes "report" ∷ ws) ≡ met (codes "report") ws
  unfolding walked
  report_walk = sym (walk_stopped P.top.rules (names_of P) (walk_from nothing_held) (codes "report") [] ws)

  report_turns : walk_fault P.top (names_of P) (walk_from nothing_held) (codes "report" ∷ ws) ≡ []
  unfolding walk_fault walked
  report_turns = no_more (codes "report") [] ws

  pub report_fault : fault_of command_line (codes "report" ∷ ws) ≡ below (leaf (codes "report") []) ws
  unfolding defaults_fault
  report_fault = ap₂ from_walk report_turns report_walk ∙ no_second (below (leaf (codes "report") []) ws)

  pub report_entered : subcommand_of command_line (codes "report" ∷ ws) ≡ Some (codes "report", rows_after [] [] ws)
  report_entered = ap (λ (w : Walk). entered P w.stopped) report_walk

  -- ---- below the name

  module _ (m : Text) (c : List Rule) where
    abbrev turns : Kinds
    turns = walk_fault (leaf m c) [] (walk_from nothing_held) ws

    abbrev settles : Kinds
    settles = settle_fault c false (walk c [] nothing_held ws).held

    abbrev defaults : Kinds
    defaults = defaults_fault (settled c (walk c [] nothing_held ws).held).rows c

    abbrev checks : Kinds
    checks = check_fault (leaf m c) (finished c (walk c [] nothing_held ws).held) false

    pub below_passes : below (leaf m c) ws ≡ [] → or_else turns settles ≡ []
    below_passes e =
        let a = none_of turns (or_else settles (or_else defaults checks)) e in
        let b = none_of settles (or_else defaults checks) a.1 in
        both_none turns settles a.0 b.0

    pub passes_below : ((rows : List Row) → defaults_fault rows c ≡ []) → ((rows : List Row) → check_fault (leaf m c) rows false ≡ []) → or_else turns settles ≡ []
        → below (leaf m c) ws ≡ []
    passes_below no_default no_check e =
        let a = none_of turns settles e in
        both_none turns (or_else settles (or_else defaults checks)) a.0 (both_none settles (or_else defaults checks) a.1 (both_none defaults checks (no_default _) (no_check _)))
