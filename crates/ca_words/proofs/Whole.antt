-- The whole command line: what the definition asks for is what is read of clap's matches.
use Rattle.std.proofs.Common.{◌≡◌, ◌∙◌, Bool, true, false, codes, refl, sym, ap, List, [], ◌∷◌, Option, Some, None, is_some, true≢false}
use Rattle.std.specs.Prelude.{option_and_then}
use Rattle.std.specs.List.{list_all}
use Rattle.std.specs.Option.{option_map_or}
use Rattle.std.specs.Str.{bytes_eq}
use Rattle.std.proofs.lemmas.Slice.Eq.{bytes_eq-Decides}
use Rattle.clap.specs.Walk.{Row, rows_after}
use Rattle.clap.specs.Simple.{subcommand_of}
use Rattle.clap.specs.Faults.{fault_of}
use Rattle.ca_words.specs.declared.command.Command.{Command}
use Rattle.ca_words.specs.declared.name.Name.{Name}
use Rattle.ca_words.specs.declared.name.Name.TheVariants.{Run, Check, Load, Replay, Follow, Report}
use Rattle.ca_words.specs.declared.command.Command.TheVariants as command
use Rattle.ca_words.specs.Line.{command_line}
use Rattle.ca_words.specs.Reading.{RowsGive, is_open_word, command_name, name_told}
use Rattle.ca_words.specs.Words.{Text, wordless, command_in, options_joined, load_words, run_words}
use Rattle.ca_words.proofs.Rules.{load_rules, run_rules}
use Rattle.ca_words.proofs.LongWords.{some≢none}
use Rattle.ca_words.proofs.Walks.{Opens}
use Rattle.ca_words.proofs.RunTheorem.{run_open, run_taken, run_takes}
use Rattle.ca_words.proofs.LoadTheorem.{load_open, load_taken, load_takes}
use Rattle.ca_words.proofs.AloneTheorem.{alone_open, alone_taken, alone_takes}
use Rattle.ca_words.proofs.OpenWords.{opens}
use Rattle.ca_words.proofs.Program.{check_entered, check_fault_is, follow_entered, follow_fault, load_entered, load_fault, replay_entered, replay_fault, report_entered, report_fault, run_entered, run_fault}

-- ---- by the command's name

abbrev pub asked : Name → List Text → Option Command
asked Run ws = run_words (options_joined ws)
asked Check ws = wordless command.Check (options_joined ws)
asked Load ws = load_words (options_joined ws)
asked Replay ws = wordless command.Replay (options_joined ws)
asked Follow ws = wordless command.Follow (options_joined ws)
asked Report ws = wordless command.Report (options_joined ws)

pub words_asked : (w : Text) (ws : List Text) → command_in (w ∷ ws) ≡ option_and_then (λ n. asked n ws) (name_told w)
words_asked w ws = go (bytes_eq w (codes "run")) (bytes_eq w (codes "check")) (bytes_eq w (codes "load")) (bytes_eq w (codes "replay")) (bytes_eq w (codes "follow")) (bytes_eq w (codes "report")) refl refl refl refl refl refl
  where
    go : (a b d e f g : Bool) → bytes_eq w (codes "run") ≡ a → bytes_eq w (codes "check") ≡ b → bytes_eq w (codes "load") ≡ d → bytes_eq w (codes "replay") ≡ e → bytes_eq w (codes "follow") ≡ f → bytes_eq w (codes "report") ≡ g
        → command_in (w ∷ ws) ≡ option_and_then (λ n. asked n ws) (name_told w)
    go true b d e f g h k l m n o = rw h refl
    go false true d e f g h k l m n o = rw (h, k) refl
    go false false true e f g h k l m n o = rw (h, k, l) refl
    go false false false true f g h k l m n o = rw (h, k, l, m) refl
    go false false false false true g h k l m n o = rw (h, k, l, m, n) refl
    go false false false false false true h k l m n o = rw (h, k, l, m, n, o) refl
    go false false false false false false h k l m n o = rw (h, k, l, m, n, o) refl

asked_open : (n : Name) (ws : List Text) → is_some (asked n ws) ≡ true → list_all is_open_word ws ≡ true
asked_open Run ws e = run_open ws e
asked_open Check ws e = alone_open command.Check ws e
asked_open Load ws e = load_open ws e
asked_open Replay ws e = alone_open command.Replay ws e
asked_open Follow ws e = alone_open command.Follow ws e
asked_open Report ws e = alone_open command.Report ws e

abbrev word_of : Name → Text
word_of Run = codes "run"
word_of Check = codes "check"
word_of Load = codes "load"
word_of Replay = codes "replay"
word_of Follow = codes "follow"
word_of Report = codes "report"

named : (w : Text) (n : Name) → name_told w ≡ Some n → w ≡ word_of n
named w n e = go (bytes_eq w (codes "run")) (bytes_eq w (codes "check")) (bytes_eq w (codes "load")) (bytes_eq w (codes "replay")) (bytes_eq w (codes "follow")) (bytes_eq w (codes "report")) refl refl refl refl refl refl
  where
    inside_name : (a b : Name) → Some a ≡ Some b → word_of a ≡ word_of b
    inside_name a b h = ap (λ o. option_map_or word_of o []) h

    go : (a b d f g i : Bool) → bytes_eq w (codes "run") ≡ a → bytes_eq w (codes "check") ≡ b → bytes_eq w (codes "load") ≡ d → bytes_eq w (codes "replay") ≡ f → bytes_eq w (codes "follow") ≡ g → bytes_eq w (codes "report") ≡ i → w ≡ word_of n
    go true b d f g i h k l m o p = (bytes_eq-Decides w (codes "run")).0 h ∙ inside_name Run n (rw h at e)
    go false true d f g i h k l m o p = (bytes_eq-Decides w (codes "check")).0 k ∙ inside_name Check n (rw (h, k) at e)
    go false false true f g i h k l m o p = (bytes_eq-Decides w (codes "load")).0 l ∙ inside_name Load n (rw (h, k, l) at e)
    go false false false true g i h k l m o p = (bytes_eq-Decides w (codes "replay")).0 m ∙ inside_name Replay n (rw (h, k, l, m) at e)
    go false false false false true i h k l m o p = (bytes_eq-Decides w (codes "follow")).0 o ∙ inside_name Follow n (rw (h, k, l, m, o) at e)
    go false false false false false true h k l m o p = (bytes_eq-Decides w (codes "report")).0 p ∙ inside_name Report n (rw (h, k, l, m, o, p) at e)
    go false false false false false false h k l m o p = absurd (some≢none n (rw (h, k, l, m, o, p) at e))

-- ---- what clap takes, is what is asked for

abbrev pub Told : Name → List Text → Type 0
Told n ws = (t : Text) × (rows : List Row) × (subcommand_of command_line (word_of n ∷ ws) ≡ Some (t, rows)) × ((c : Option Command) → RowsGive n rows c → asked n ws ≡ c)

told : (n : Name) (ws : List Text) → Opens ws → fault_of command_line (word_of n ∷ ws) ≡ [] → Told n ws
told Run ws o e =
    let r = run_taken ws o (sym (run_fault ws) ∙ e) in
    (codes "run", rows_after run_rules [] ws, run_entered ws, λ c reads. r.2 ∙ sym (reads r.0 r.1))
told Check ws o e = (codes "check", rows_after [] [] ws, check_entered ws, λ c reads. alone_taken (codes "check") command.Check ws o (sym (check_fault_is ws) ∙ e) ∙ sym reads)
told Load ws o e = (codes "load", rows_after load_rules [] ws, load_entered ws, λ c reads. load_taken ws o (sym (load_fault ws) ∙ e) ∙ sym reads)
told Replay ws o e = (codes "replay", rows_after [] [] ws, replay_entered ws, λ c reads. alone_taken (codes "replay") command.Replay ws o (sym (replay_fault ws) ∙ e) ∙ sym reads)
told Follow ws o e = (codes "follow", rows_after [] [] ws, follow_entered ws, λ c reads. alone_taken (codes "follow") command.Follow ws o (sym (follow_fault ws) ∙ e) ∙ sym reads)
told Report ws o e = (codes "report", rows_after [] [] ws, report_entered ws, λ c reads. alone_taken (codes "report") command.Report ws o (sym (report_fault ws) ∙ e) ∙ sym reads)

takes : (n : Name) (ws : List Text) → Opens ws → is_some (asked n ws) ≡ true → fault_of command_line (word_of n ∷ ws) ≡ []
takes Run ws o e = run_fault ws ∙ run_takes ws o e
takes Check ws o e = check_fault_is ws ∙ alone_takes (codes "check") command.Check ws o e
takes Load ws o e = load_fault ws ∙ load_takes ws o e
takes Replay ws o e = replay_fault ws ∙ alone_takes (codes "replay") command.Replay ws o e
takes Follow ws o e = follow_fault ws ∙ alone_takes (codes "follow") command.Follow ws o e
takes Report ws o e = report_fault ws ∙ alone_takes (codes "report") command.Report ws o e

none_if : {X : Type 0} (o : Option X) → (is_some o ≡ true → ⊥) → o ≡ None
none_if None h = refl
none_if (Some x) h = absurd (h refl)

module _ (w : Text) (ws : List Text) (n : Name) (is : name_told w ≡ Some n) where
  here : command_in (w ∷ ws) ≡ asked n ws
  here = words_asked w ws ∙ ap (option_and_then (λ m. asked m ws)) is

  -- a word that the product itself refuses
  pub closed_none : list_all is_open_word ws ≡ false → command_in (w ∷ ws) ≡ None
  closed_none h = here ∙ none_if (asked n ws) (λ e. true≢false (sym (asked_open n ws e) ∙ h))

  -- words that clap refuses
  pub fault_none : list_all is_open_word ws ≡ true → (fault_of command_line (w ∷ ws) ≡ [] → ⊥) → command_in (w ∷ ws) ≡ None
  fault_none h bad = here ∙ none_if (asked n ws) (λ e. bad (ap (λ z. fault_of command_line (z ∷ ws)) (named w n is) ∙ takes n ws (opens ws h) e))

  -- words that it takes
  pub taken_told : list_all is_open_word ws ≡ true → fault_of command_line (w ∷ ws) ≡ []
      → (t : Text) × (rows : List Row) × (subcommand_of command_line (w ∷ ws) ≡ Some (t, rows)) × ((c : Option Command) → RowsGive n rows c → command_in (w ∷ ws) ≡ c)
  taken_told h e =
      let r = told n ws (opens ws h) (ap (λ z. fault_of command_line (z ∷ ws)) (sym (named w n is)) ∙ e) in
      (r.0, r.1, ap (λ z. subcommand_of command_line (z ∷ ws)) (named w n is) ∙ r.2, λ c reads. here ∙ r.3 c reads)

-- ---- the same, of all the words

open_name : (w : Text) (ws : List Text) (n : Name) → command_name (w ∷ ws) ≡ Some n → (list_all is_open_word ws ≡ true) × (name_told w ≡ Some n)
open_name w ws n e = go (list_all is_open_word ws) refl
  where
    go : (b : Bool) → list_all is_open_word ws ≡ b → (list_all is_open_word ws ≡ true) × (name_told w ≡ Some n)
    go true h = (h, rw h at e)
    go false h = absurd (some≢none n (rw h at e))

pub whole_none : (ws : List Text) → command_name ws ≡ None → command_in ws ≡ None
whole_none [] e = refl
whole_none (w ∷ ws) e = go (list_all is_open_word ws) (name_told w) refl refl
  where
    go : (b : Bool) (o : Option Name) → list_all is_open_word ws ≡ b → name_told w ≡ o → command_in (w ∷ ws) ≡ None
    go false (Some n) h k = closed_none w ws n k h
    go true (Some n) h k = absurd (some≢none n (sym (rw (h, k) at e)))
    go b None h k = words_asked w ws ∙ ap (option_and_then (λ n. asked n ws)) k

pub whole_fault : (ws : List Text) (n : Name) → command_name ws ≡ Some n → (fault_of command_line ws ≡ [] → ⊥) → command_in ws ≡ None
whole_fault [] n e bad = refl
whole_fault (w ∷ ws) n e bad =
    let o = open_name w ws n e in
    fault_none w ws n o.1 o.0 bad

-- what is read of the matches of the words is what they ask for
pub whole_told : (ws : List Text) (n : Name) (c : Option Command) → command_name ws ≡ Some n → fault_of command_line ws ≡ []
    → ((t : Text) (rows : List Row) → subcommand_of command_line ws ≡ Some (t, rows) → RowsGive n rows c) → command_in ws ≡ c
whole_told [] n c e none reads = absurd (some≢none n e)
whole_told (w ∷ ws) n c e none reads =
    let o = open_name w ws n e in
    let t = taken_told w ws n o.1 o.0 none in
    t.3 c (reads t.0 t.1 t.2)
