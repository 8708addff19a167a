-- The fields of a line but for its numbers and values: words, ports, places and lists of them.
use Rattle.std.specs.Prelude.{ℕ, zero, suc, List, [], ◌∷◌, ◌++◌, Option, Some, None, cond, length, drop, codes}
use Rattle.std.specs.Str.{bytes_eq}
use Rattle.ca_value.specs.Tree.{Tree, port}
use Rattle.ca_term.specs.declared.place.Place.{Place}
use Rattle.ca_term.specs.declared.fault.Fault.{Fault}
use Rattle.ca_term.specs.declared.event.Side.{Side}
use Rattle.ca_term.specs.declared.event.TaskKind.{TaskKind}
use Rattle.ca_term.specs.declared.head.RegisterName.{RegisterName}
use Rattle.ca_term.specs.Event.{BranchView, take_of, put_of}
use Rattle.ca_term.specs.Operation.{WhatView, unbuffered, fixed, dropping, sliding, promise, timeout, mult, mix, publication}
use Rattle.ca_journal_reader.specs.Found.{Found, then}
use Rattle.ca_journal_reader.specs.Words.{is_first, byte_in, number_in, word_in, decimal_in, numbered_in}
use Rattle.ca_journal_reader.specs.ValueText.{value_field, uncomma}

abbrev pub with_rest : {A : Type 0} → Option A → List ℕ → Found A
with_rest None rest = None
with_rest (Some x) rest = Some (x, rest)

-- the word in front, where it names something
abbrev pub word_named : {A : Type 0} → (List ℕ → Option A) → List ℕ → Found A
word_named name s = with_rest (name (word_in s).0) (word_in s).1

abbrev pub side_named : List ℕ → Option Side
side_named w =
    cond (bytes_eq w (codes "take")) (Some Side.Take) (
    cond (bytes_eq w (codes "put")) (Some Side.Put) (
    None))

abbrev pub kind_named : List ℕ → Option TaskKind
kind_named w =
    cond (bytes_eq w (codes "go")) (Some TaskKind.Go) (
    cond (bytes_eq w (codes "mult")) (Some TaskKind.Mult) (
    cond (bytes_eq w (codes "deliver")) (Some TaskKind.Deliver) (
    cond (bytes_eq w (codes "mix")) (Some TaskKind.Mix) (
    cond (bytes_eq w (codes "pub")) (Some TaskKind.Pub) (
    cond (bytes_eq w (codes "pipe")) (Some TaskKind.Pipe) (
    cond (bytes_eq w (codes "merge")) (Some TaskKind.Merge) (
    cond (bytes_eq w (codes "onto")) (Some TaskKind.Onto) (
    cond (bytes_eq w (codes "feed")) (Some TaskKind.Feed) (
    cond (bytes_eq w (codes "job")) (Some TaskKind.Job) (
    cond (bytes_eq w (codes "collect")) (Some TaskKind.Collect) (
    None)))))))))))

abbrev pub name_named : List ℕ → Option RegisterName
name_named w =
    cond (bytes_eq w (codes "tap")) (Some RegisterName.Tap) (
    cond (bytes_eq w (codes "untap")) (Some RegisterName.Untap) (
    cond (bytes_eq w (codes "untap-all")) (Some RegisterName.UntapAll) (
    cond (bytes_eq w (codes "taps")) (Some RegisterName.Taps) (
    cond (bytes_eq w (codes "admix")) (Some RegisterName.Admix) (
    cond (bytes_eq w (codes "unmix")) (Some RegisterName.Unmix) (
    cond (bytes_eq w (codes "unmix-all")) (Some RegisterName.UnmixAll) (
    cond (bytes_eq w (codes "toggle")) (Some RegisterName.Toggle) (
    cond (bytes_eq w (codes "solo-mode")) (Some RegisterName.SoloMode) (
    cond (bytes_eq w (codes "modes")) (Some RegisterName.Modes) (
    cond (bytes_eq w (codes "find")) (Some RegisterName.Find) (
    cond (bytes_eq w (codes "place")) (Some RegisterName.Place) (
    cond (bytes_eq w (codes "drop")) (Some RegisterName.Drop) (
    cond (bytes_eq w (codes "clear")) (Some RegisterName.Clear) (
    cond (bytes_eq w (codes "topics")) (Some RegisterName.Topics) (
    None)))))))))))))))

abbrev pub fault_named : List ℕ → Option Fault
fault_named w =
    cond (bytes_eq w (codes "Overflow")) (Some Fault.Overflow) (
    cond (bytes_eq w (codes "ZeroDivisor")) (Some Fault.ZeroDivisor) (
    cond (bytes_eq w (codes "WrongKind")) (Some Fault.WrongKind) (
    cond (bytes_eq w (codes "OutOfRange")) (Some Fault.OutOfRange) (
    cond (bytes_eq w (codes "TooHeavy")) (Some Fault.TooHeavy) (
    cond (bytes_eq w (codes "TooNested")) (Some Fault.TooNested) (
    cond (bytes_eq w (codes "Spun")) (Some Fault.Spun) (
    cond (bytes_eq w (codes "TooDeep")) (Some Fault.TooDeep) (
    cond (bytes_eq w (codes "TooManyTakes")) (Some Fault.TooManyTakes) (
    cond (bytes_eq w (codes "TooManyPuts")) (Some Fault.TooManyPuts) (
    cond (bytes_eq w (codes "NilPut")) (Some Fault.NilPut) (
    cond (bytes_eq w (codes "NoPorts")) (Some Fault.NoPorts) (
    cond (bytes_eq w (codes "NotAPort")) (Some Fault.NotAPort) (
    cond (bytes_eq w (codes "TooManyPorts")) (Some Fault.TooManyPorts) (
    cond (bytes_eq w (codes "TooManyMembers")) (Some Fault.TooManyMembers) (
    None)))))))))))))))

-- a result port, or a dash
abbrev pub maybe_port_in : List ℕ → Found (Option ℕ)
maybe_port_in s = cond (is_first 45 s) (Some (None, drop 1 s)) (then (numbered_in 112 s) (λ p rest. Some (Some p, rest)))

-- a line and a column
abbrev pub place_in : List ℕ → Found Place
place_in s = then (number_in s) (λ line rest. then (byte_in 58 rest) (λ x rest. then (decimal_in rest) (λ column rest. Some (record { line = line; column = column }, rest))))

-- the size of a buffer
abbrev pub sized_in : (ℕ → WhatView) → List ℕ → Found (WhatView × Option ℕ)
sized_in f s = then (decimal_in s) (λ n rest. Some ((f n, None), rest))

abbrev pub chan_by : List ℕ → List ℕ → Found (WhatView × Option ℕ)
chan_by w s =
    cond (bytes_eq w (codes "none")) (Some ((unbuffered, None), s))
    (cond (bytes_eq w (codes "promise")) (Some ((promise, None), s))
    (cond (bytes_eq w (codes "fixed")) (sized_in (λ n. fixed n) s)
    (cond (bytes_eq w (codes "dropping")) (sized_in (λ n. dropping n) s)
    (cond (bytes_eq w (codes "sliding")) (sized_in (λ n. sliding n) s) None))))

-- a channel, by its buffer
abbrev pub chan_in : List ℕ → Found (WhatView × Option ℕ)
chan_in s = chan_by (word_in s).0 (word_in s).1

abbrev pub timeout_in : List ℕ → Found (WhatView × Option ℕ)
timeout_in s = then (decimal_in s) (λ n rest. then (decimal_in (word_in rest).1) (λ moment rest. Some ((timeout n, Some moment), rest)))

abbrev pub from_port_in : (Tree → WhatView) → List ℕ → Found (WhatView × Option ℕ)
from_port_in f s = then (numbered_in 112 s) (λ p rest. Some ((f (port p), None), rest))

abbrev pub mix_in : List ℕ → Found (WhatView × Option ℕ)
mix_in s = then (numbered_in 112 s) (λ out rest. then (numbered_in 112 rest) (λ changes rest. Some ((mix (port out) (port changes), None), rest)))

abbrev pub what_by : List ℕ → List ℕ → Found (WhatView × Option ℕ)
what_by w s =
    cond (bytes_eq w (codes "chan")) (chan_in s)
    (cond (bytes_eq w (codes "timeout")) (timeout_in s)
    (cond (bytes_eq w (codes "mult")) (from_port_in (λ v. mult v) s)
    (cond (bytes_eq w (codes "mix")) (mix_in s)
    (cond (bytes_eq w (codes "pub")) (from_port_in (λ v. publication v) s) None))))

-- what is made, and the moment of a timeout's making
abbrev pub what_in : List ℕ → Found (WhatView × Option ℕ)
what_in s = what_by (word_in s).0 (word_in s).1

abbrev pub branch_read_by : Side → List ℕ → Found BranchView
branch_read_by Side.Take s = then (numbered_in 112 s) (λ p rest. Some (take_of p, rest))
branch_read_by Side.Put s = then (numbered_in 112 s) (λ p rest. then (value_field rest) (λ v rest. Some (put_of p v, rest)))

abbrev pub branch_in : List ℕ → Found BranchView
branch_in s = then (word_named side_named s) (λ side rest. branch_read_by side rest)

-- at most so many behind those that were read, up to the line feed
abbrev pub list_in : {A : Type 0} → (List ℕ → Found A) → ℕ → List A → List ℕ → Option (List A)
list_in f zero said s = None
list_in f (suc n) said s = cond (is_first 10 s) (Some said) (then (f s) (λ x rest. list_in f n (said ++ x ∷ []) rest))

-- branches, with a comma and a space between
abbrev pub branches_read : List ℕ → Option (List BranchView)
branches_read s = list_in (λ s. branch_in (uncomma s)) (length s) [] s

abbrev pub ports_read : List ℕ → Option (List ℕ)
ports_read s = list_in (numbered_in 112) (length s) [] s

abbrev pub values_read : List ℕ → Option (List Tree)
values_read s = list_in value_field (length s) [] s

-- the values from the second on but the last, and the last
abbrev pub and_rest : Tree → List Tree → List Tree × Tree
and_rest u [] = ([], u)
and_rest u (v ∷ ts) = (u ∷ (and_rest v ts).0, (and_rest v ts).1)

-- the arguments of an operation on a registry, one at the least, and the answer behind them
abbrev pub arguments_parted : List Tree → Option (List Tree × Tree)
arguments_parted [] = None
arguments_parted (t ∷ []) = None
arguments_parted (t ∷ (u ∷ ts)) = Some (t ∷ (and_rest u ts).0, (and_rest u ts).1)
