-- The numbers of a command that words ask for are in their ranges.
use Rattle.std.proofs.Common.{◌≡◌, ℕ, ◌≤◌, List, [], ◌∷◌, Bool, true, false, Option, Some, None, codes, refl, subst, arith, ◌&&◌, if◌then◌else◌}
use Rattle.std.specs.Prelude.{nat_le, filter_map}
use Rattle.std.specs.List.{list_all}
use Rattle.std.specs.Str.{bytes_eq}
use Rattle.std.specs.Str.Parse.{digits_value}
use Rattle.std.proofs.lemmas.Bool.Decides.{nat_tests}
use Rattle.ca_words.specs.Words.{Text, bare_word, between, number_asked, setting, one_number, is_number, is_run_word, is_load_word, options_joined, workers_in, budget_in, workers_asked, budget_asked, journal_asked, run_with, load_with, run_words, load_words, wordless, command_in}
use Rattle.ca_words.specs.declared.command.Command.{Command}
use Rattle.ca_words.specs.declared.command.Command.TheVariants.{Check, Follow, Load, Run, Replay, Report}
use Rattle.ca_run.specs.Answers.{IsFit}

same : {A : Type 0} (x y : A) → Some x ≡ Some y → x ≡ y
same x y e = cc

both : (a b : Bool) → (a && b) ≡ true → (a ≡ true) × (b ≡ true)
both true b h = (refl, h)
both false b h = absurd (let q : false ≡ true = h in cc)

-- a choice that gives something where its test fails is something else
taken : {A : Type 0} (b : Bool) (o : Option A) (x : A) → (if b then o else None) ≡ Some x → (b ≡ true) × (o ≡ Some x)
taken true o x e = (refl, e)
taken false o x e = absurd (let q : None ≡ Some x = e in cc)

-- within the range that was asked for
abbrev Within : ℕ → ℕ → ℕ → Type 0
Within least most n = (least ≤ n) × (n ≤ most)

at_most : (m n : ℕ) → nat_le m n ≡ true → m ≤ n
at_most m n h = grind (arith, nat_tests)

between_fits : (least most n m : ℕ) → between least most n ≡ Some m → Within least most m
between_fits least most n m e =
    let t = taken (nat_le least n && nat_le n most) (Some n) m e in
    let b = both (nat_le least n) (nat_le n most) t.0 in
    let is : n ≡ m = same n m t.1 in
    let low : least ≤ n = at_most least n b.0 in
    let high : n ≤ most = at_most n most b.1 in
    (omega (arith, is, low), omega (arith, is, high))

number_fits : (least most : ℕ) (v : Text) (m : ℕ) → number_asked least most v ≡ Some m → Within least most m
number_fits least most v m e = between_fits least most (digits_value 10 v) m (taken (is_number v) (between least most (digits_value 10 v)) m e).1

setting_fits : (default least most : ℕ) (vs : List Text) (m : ℕ) → Within least most default → setting default least most vs ≡ Some m → Within least most m
setting_fits default least most [] m (low, high) e = let is : default ≡ m = same default m e in (omega (arith, is, low), omega (arith, is, high))
setting_fits default least most (v ∷ []) m d e = number_fits least most v m e
setting_fits default least most (v ∷ w ∷ vs) m d e = absurd (let q : None ≡ Some m = e in cc)

-- a command with its parts
run_fits : (w b : Option ℕ) (j : Option Bool) (c : Command) → ((n : ℕ) → w ≡ Some n → Within 1 16 n) → ((n : ℕ) → b ≡ Some n → Within 1 4_000_000 n) → run_with w b j ≡ Some c → IsFit c
run_fits (Some w) (Some b) (Some j) c hw hb e = subst IsFit (same (Run w b j) c e) (hw w refl, (hb b refl).0)
run_fits (Some w) (Some b) None c hw hb e = absurd (let q : None ≡ Some c = e in cc)
run_fits (Some w) None j c hw hb e = absurd (let q : None ≡ Some c = e in cc)
run_fits None b j c hw hb e = absurd (let q : None ≡ Some c = e in cc)

load_fits : (n w : Option ℕ) (c : Command) → ((k : ℕ) → w ≡ Some k → Within 1 16 k) → load_with n w ≡ Some c → IsFit c
load_fits (Some n) (Some w) c hw e = subst IsFit (same (Load n w) c e) (hw w refl)
load_fits (Some n) None c hw e = absurd (let q : None ≡ Some c = e in cc)
load_fits None w c hw e = absurd (let q : None ≡ Some c = e in cc)

alone_fits : (d : Command) (ws : List Text) (c : Command) → IsFit d → wordless d ws ≡ Some c → IsFit c
alone_fits d [] c fit e = subst IsFit (same d c e) fit
alone_fits d (w ∷ ws) c fit e = absurd (let q : None ≡ Some c = e in cc)

run_words_fit : (ws : List Text) (c : Command) → run_words ws ≡ Some c → IsFit c
run_words_fit ws c e =
    run_fits (workers_asked ws) (budget_asked ws) (journal_asked ws) c
    (λ n h. setting_fits 1 1 16 (filter_map workers_in ws) n (omega arith, omega arith) h)
    (λ n h. setting_fits 1000000 1 4000000 (filter_map budget_in ws) n (omega arith, omega arith) h)
    (taken (list_all is_run_word ws) (run_with (workers_asked ws) (budget_asked ws) (journal_asked ws)) c e).1

load_words_fit : (ws : List Text) (c : Command) → load_words ws ≡ Some c → IsFit c
load_words_fit ws c e =
    load_fits (one_number 1 20000 (filter_map bare_word ws)) (workers_asked ws) c
    (λ n h. setting_fits 1 1 16 (filter_map workers_in ws) n (omega arith, omega arith) h)
    (taken (list_all is_load_word ws) (load_with (one_number 1 20000 (filter_map bare_word ws)) (workers_asked ws)) c e).1

-- a choice by the command's name
named : (r k l p j q : Bool) (ws : List Text) (c : Command)
    → (if r then run_words ws else (if k then wordless Check ws else (if l then load_words ws else (if p then wordless Replay ws else (if j then wordless Follow ws else (if q then wordless Report ws else None)))))) ≡ Some c → IsFit c
named true k l p j q ws c e = run_words_fit ws c e
named false true l p j q ws c e = alone_fits Check ws c tt e
named false false true p j q ws c e = load_words_fit ws c e
named false false false true j q ws c e = alone_fits Replay ws c tt e
named false false false false true q ws c e = alone_fits Follow ws c tt e
named false false false false false true ws c e = alone_fits Report ws c tt e
named false false false false false false ws c e = absurd (let o : None ≡ Some c = e in cc)

pub asked_fits : (ws : List Text) (c : Command) → command_in ws ≡ Some c → IsFit c
asked_fits [] c e = absurd (let q : None ≡ Some c = e in cc)
asked_fits (w ∷ ws) c e = named (bytes_eq w (codes "run")) (bytes_eq w (codes "check")) (bytes_eq w (codes "load")) (bytes_eq w (codes "replay")) (bytes_eq w (codes "follow")) (bytes_eq w (codes "report")) (options_joined ws) c e
