-- What a program, a text and the source come to, each by the one before.
use Rattle.std.proofs.Common.{◌≡◌, ℕ, suc, ◌≤◌, ◌<◌, List, length, codes, Option, Some, inl, inr, ◌⊎◌, refl, true, false}
use Rattle.std.specs.Io.KnownBytes.{Consumes, IsAtEnd}
use Rattle.ca_term.specs.Program.{ProgramView}
use Rattle.ca_words.specs.declared.command.Command.{Command}
use Rattle.ca_words.specs.declared.command.Command.TheVariants.{Check, Follow, Load, Run, Replay, Report}
use Rattle.ca_run.specs.declared.answer.Answer.{Answer}
use Rattle.ca_run.specs.declared.answer.Answer.TheVariants.{Usage, Refused, Accepted, Ran, Found}
use Rattle.ca_run.specs.Generator.{load_text}
use Rattle.ca_run.specs.Inputs.{greatest_input, greatest_length, ProgramOf, ReadWhole}
use Rattle.ca_run.specs.Marker.{IsParted}
use Rattle.ca_run.specs.Top.{ClockSpan, GivenScript, Refused as RefusedFrom, RefusedFor, IsScriptRefused, IsTooLong, IsLongPart, error_line, first_place, judges, reads_source}
use Rattle.ca_run.specs.Answers.{Judged, JudgedInput, JudgedProgram, RefusedPart, refusal_line, AnswersTo}

pub judged_by_program : (command : Command) (span : ClockSpan) (input : List ℕ) (program : ProgramView) (a : Answer) → ProgramOf input program → JudgedProgram command span program a → Judged command span input a
judged_by_program command span input program Usage p h = h
judged_by_program command span input program (Refused r) p h = absurd h
judged_by_program command span input program Accepted p h = (h, (program, p))
judged_by_program command span input program (Found f) p h = absurd h
judged_by_program command span input program (Ran m shown) p h = (h.0, h.1, record { program = program; is_program = p; legal = h.2.legal; has_end = h.2.has_end; moments = h.2.moments; solo = h.2.solo }, h.2.told)

-- a script that is refused
refused_by : (command : Command) (before after : Option (List ℕ)) (line : List ℕ) → IsScriptRefused command before after line → RefusedFrom command before after line
refused_by (Run workers budget journal) before after line h = inr h
refused_by Check before after line h = inr h
refused_by (Load n workers) before after line h = h
refused_by Replay before after line h = inr (inr h)
refused_by Follow before after line h = inr (inr h)
refused_by Report before after line h = inr (inr h)

pub too_long : (command : Command) (before after : Option (List ℕ)) (line : List ℕ) → reads_source command ≡ true → judges command ≡ false → IsTooLong greatest_length before after line → RefusedFrom command before after line
too_long (Run workers budget journal) before after line r j h = inl h
too_long Check before after line r j h = inl h
too_long (Load n workers) before after line r j h = absurd (let z : false ≡ true = r in cc)
too_long Replay before after line r j h = absurd (let z : true ≡ false = j in cc)
too_long Follow before after line r j h = absurd (let z : true ≡ false = j in cc)
too_long Report before after line r j h = absurd (let z : true ≡ false = j in cc)

given_read : (command : Command) (before after : Option (List ℕ)) (input : List ℕ) → reads_source command ≡ true → judges command ≡ false → ReadWhole greatest_length before after input → GivenScript command before after input
given_read (Run workers budget journal) before after input r j h = h
given_read Check before after input r j h = h
given_read (Load n workers) before after input r j h = absurd (let z : false ≡ true = r in cc)
given_read Replay before after input r j h = absurd (let z : true ≡ false = j in cc)
given_read Follow before after input r j h = absurd (let z : true ≡ false = j in cc)
given_read Report before after input r j h = absurd (let z : true ≡ false = j in cc)

-- what is accepted was read
accepted_read : (command : Command) (before after : Option (List ℕ)) (input : List ℕ) → command ≡ Check → GivenScript command before after input → ReadWhole greatest_length before after input
accepted_read (Run workers budget journal) before after input e g = g
accepted_read Check before after input e g = g
accepted_read (Load n workers) before after input e g = absurd (let z : Load n workers ≡ Check = e in cc)
accepted_read Replay before after input e g = absurd (let z : Replay ≡ Check = e in cc)
accepted_read Follow before after input e g = absurd (let z : Follow ≡ Check = e in cc)
accepted_read Report before after input e g = absurd (let z : Report ≡ Check = e in cc)

pub answers_given : (command : Command) (span : ClockSpan) (before after : Option (List ℕ)) (input : List ℕ) (a : Answer) → GivenScript command before after input → Judged command span input a → AnswersTo (Some command) span before after a
answers_given command span before after input Usage g h = h
answers_given command span before after input (Refused r) g h = refused_by command before after (refusal_line r) (input, g, h)
answers_given command span before after input Accepted g h = (h.0, (input, accepted_read command before after input h.0 g, h.1))
answers_given command span before after input (Found f) g h = absurd h
answers_given command span before after input (Ran m shown) g h = (h.0, h.1, (input, g, h.2), h.3)

pub answers_by_text : (command : Command) (span : ClockSpan) (before after : Option (List ℕ)) (input : List ℕ) (a : Answer) → reads_source command ≡ true → judges command ≡ false
    → Consumes before after input → IsAtEnd after → length input ≤ greatest_length → Judged command span input a → AnswersTo (Some command) span before after a
answers_by_text command span before after input a r j read whole short h = answers_given command span before after input a (given_read command before after input r j (record { read = read; whole = whole; short = short })) h

pub answers_by_load : (n workers : ℕ) (span : ClockSpan) (before : Option (List ℕ)) (input : List ℕ) (a : Answer) → input ≡ load_text n → Judged (Load n workers) span input a → AnswersTo (Some (Load n workers)) span before before a
answers_by_load n workers span before input a e h = answers_given (Load n workers) span before before input a (refl, e) h

-- ---- an input of a script and a journal

part_too_long : (command : Command) (before after : Option (List ℕ)) (line : List ℕ) → judges command ≡ true → IsTooLong greatest_input before after line → RefusedFrom command before after line
part_too_long (Run workers budget journal) before after line j h = absurd (let z : false ≡ true = j in cc)
part_too_long Check before after line j h = absurd (let z : false ≡ true = j in cc)
part_too_long (Load n workers) before after line j h = absurd (let z : false ≡ true = j in cc)
part_too_long Replay before after line j h = inl h
part_too_long Follow before after line j h = inl h
part_too_long Report before after line j h = inl h

long_part : (command : Command) (before after : Option (List ℕ)) (line : List ℕ) → judges command ≡ true → IsLongPart before after line → RefusedFrom command before after line
long_part (Run workers budget journal) before after line j h = absurd (let z : false ≡ true = j in cc)
long_part Check before after line j h = absurd (let z : false ≡ true = j in cc)
long_part (Load n workers) before after line j h = absurd (let z : false ≡ true = j in cc)
long_part Replay before after line j h = inr (inl h)
long_part Follow before after line j h = inr (inl h)
long_part Report before after line j h = inr (inl h)

given_part : (command : Command) (before after : Option (List ℕ)) (script : List ℕ) → judges command ≡ true
    → ((journal : List ℕ) × ((input : List ℕ) × ReadWhole greatest_input before after input × IsParted input script journal) × (length script ≤ greatest_length)) → GivenScript command before after script
given_part (Run workers budget journal) before after script j h = absurd (let z : false ≡ true = j in cc)
given_part Check before after script j h = absurd (let z : false ≡ true = j in cc)
given_part (Load n workers) before after script j h = absurd (let z : false ≡ true = j in cc)
given_part Replay before after script j h = h
given_part Follow before after script j h = h
given_part Report before after script j h = h

refused_part : (command : Command) (before after : Option (List ℕ)) (input line : List ℕ) → judges command ≡ true → ReadWhole greatest_input before after input → RefusedPart input line → RefusedFrom command before after line
refused_part command before after input line j read h = by h.3
  where
    by : ((greatest_length < length h.0) × (line ≡ error_line (codes "TooLong") first_place)) ⊎ ((length h.0 ≤ greatest_length) × RefusedFor h.0 line) → RefusedFrom command before after line
    by (inl long) = long_part command before after line j (h.0, h.1, (input, read, h.2), long.0, long.1)
    by (inr bad) = refused_by command before after line (h.0, given_part command before after h.0 j (h.1, (input, read, h.2), bad.0), bad.1)

pub answers_by_input : (command : Command) (span : ClockSpan) (before after : Option (List ℕ)) (input : List ℕ) (a : Answer) → judges command ≡ true → Consumes before after input → IsAtEnd after → length input ≤ greatest_input
    → JudgedInput command input a → AnswersTo (Some command) span before after a
answers_by_input command span before after input Usage j read whole short h = h
answers_by_input command span before after input (Refused r) j read whole short h = refused_part command before after input (refusal_line r) j (record { read = read; whole = whole; short = short }) h
answers_by_input command span before after input Accepted j read whole short h = absurd h
answers_by_input command span before after input (Ran m shown) j read whole short h = absurd h
answers_by_input command span before after input (Found f) j read whole short h = (j, (input, record { read = read; whole = whole; short = short }, h))

pub input_too_long : (command : Command) (before after : Option (List ℕ)) (input line : List ℕ) → judges command ≡ true → Consumes before after input → length input ≡ suc greatest_input
    → line ≡ error_line (codes "TooLong") first_place → RefusedFrom command before after line
input_too_long command before after input line j read long e = part_too_long command before after line j (input, read, long, e)
