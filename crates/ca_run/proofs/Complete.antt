-- The status of a call in which no device failed.
use Rattle.std.proofs.Common.{◌≡◌, ◌⊎◌, ℕ, suc, ◌<◌, ◌≤◌, ◌+◌, List, ◌++◌, length, length-append, Option, Some, None, Result, Ok, Err, MatchOption, option_map, is_ok, Bool, true, false, refl, sym, ap, subst, ◌∙◌, inl, inr, append-nil, arith}
use Rattle.std.specs.Io.KnownBytes.{Consumes, IsAtEnd}
use Rattle.ca_timers.specs.Causes.{Rose, HasCause}
use Rattle.ca_term.specs.declared.place.Place.{Place}
use Rattle.ca_term.specs.Program.{ProgramView}
use Rattle.ca_reader.proofs.Nesting.{one_reading, not_both}
use Rattle.ca_derived.specs.Expand.{expand}
use Rattle.ca_derived.specs.Outcome.{made, refused}
use Rattle.ca_forms.specs.declared.error.CheckErrorKind.{CheckErrorKind}
use Rattle.ca_check.specs.Expansion.{expansion_of}
use Rattle.ca_words.specs.declared.command.Command.{Command}
use Rattle.ca_words.specs.declared.command.Command.TheVariants.{Check, Follow, Load, Run, Replay, Report}
use Rattle.ca_run.specs.declared.run.ScriptEnd.{ScriptEnd}
use Rattle.ca_run.specs.declared.answer.Answer.{Answer}
use Rattle.ca_run.specs.declared.answer.Answer.TheVariants.{Usage, Refused, Accepted, Ran, Found}
use Rattle.ca_run.specs.declared.finding.Finding.{Finding}
use Rattle.ca_run.specs.Findings.{finding_status}
use Rattle.ca_run.specs.Inputs.{HasProgram, ReadWhole, greatest_input, greatest_length}
use Rattle.ca_run.specs.Marker.{IsParted}
use Rattle.ca_run.specs.Top.{ClockSpan, HasScript, IsComplete, IsAcceptedStatus, IsLongPart, IsParts, IsScriptRefused, IsScript, IsSteady, IsTooLong, ReadPart, ReadParts, Refused as RefusedFrom, RefusedFor, judges, runs_script}
use Rattle.ca_run.proofs.Markers.{one_script}
use Rattle.ca_run.specs.Answers.{AnswersTo, refusal_line, status_of, status_of_end}
use Rattle.ca_run.proofs.Finishes.{end_of_run, finding_is}

-- a text that has a program is not refused
not_refused : (input line : List ℕ) → RefusedFor input line → HasProgram input → ⊥
not_refused input line (inl r) p = not_both input p.1.1.0 r.0 r.1 p.1.1.1 r.2
not_refused input line (inr (inl r)) p =
    let same : p.1.1.0 ≡ r.0 = one_reading input p.1.1.0 r.0 p.1.1.1 r.3 in
    let both : made p.1.0 ≡ refused r.1 r.2 = sym p.1.1.2 ∙ ap expand same ∙ r.4 in cc
not_refused input line (inr (inr r)) p =
    let same : p.1.1.0 ≡ r.3.0 = one_reading input p.1.1.0 r.3.0 p.1.1.1 r.3.1 in
    let both : made p.1.0 ≡ made r.0 = sym p.1.1.2 ∙ ap expand same ∙ r.3.2 in
    let derived : p.1.0 ≡ r.0 = cc in
    let ends : ◌≡◌ {A = Result ProgramView (CheckErrorKind × Place)} (Ok p.0) (Err (r.1, r.2)) = sym p.1.2 ∙ ap expansion_of derived ∙ r.4 in cc

-- what is read of a text that is told is the front of it, and all where nothing is left
front_of : (left after : Option (List ℕ)) (input read : List ℕ) → left ≡ Some input → Consumes left after read → length read ≤ length input
front_of None after input read e c = absurd (let z : None ≡ Some input = e in cc)
front_of (Some xs) None input read e c = absurd c
front_of (Some xs) (Some ys) input read e c =
    let same : xs ≡ input = cc in
    let long : length input ≡ length read + length ys = ap length (sym same ∙ c) ∙ length-append read ys in omega (arith, long)

all_of : (left after : Option (List ℕ)) (input read : List ℕ) → left ≡ Some input → Consumes left after read → IsAtEnd after → read ≡ input
all_of None after input read e c w = absurd (let z : None ≡ Some input = e in cc)
all_of (Some xs) None input read e c w = absurd c
all_of (Some xs) (Some ys) input read e c w =
    let same : xs ≡ input = cc in
    sym (append-nil read) ∙ ap (λ z. read ++ z) (sym w) ∙ sym c ∙ same

-- nor is what a source tells to be no longer than so many bytes
short_enough : (most : ℕ) (before after : Option (List ℕ)) (input line : List ℕ) → IsTooLong most before after line → before ≡ Some input → length input ≤ most → ⊥
short_enough most before after input line t told short =
    let within : length t.0 ≤ length input = front_of before after input t.0 told t.1 in
    let past : length t.0 ≡ suc most = t.2 in omega (arith, within, past, short)

read_script : (before after : Option (List ℕ)) (input line : List ℕ) → ReadWhole greatest_length before after input → RefusedFor input line → IsScript before → ⊥
read_script before after input line r f g = not_refused input line f (subst HasProgram (sym (all_of before after g.0 input g.1 r.read r.whole)) g.3)

-- nor is the part before the marker line, where it is told to be a script
same_part : (before after : Option (List ℕ)) (script journal : List ℕ) → ReadParts before after script journal → (g : IsParts before) → script ≡ g.1
same_part before after script journal r g =
    let same : r.0 ≡ g.0 = all_of before after g.0 r.0 g.3 r.1.read r.1.whole in
    one_script g.0 script journal g.1 g.2 (subst (λ (z : List ℕ). IsParted z script journal) same r.2) g.5

long_part : (before after : Option (List ℕ)) (line : List ℕ) → IsLongPart before after line → IsParts before → ⊥
long_part before after line h g =
    let same : length h.0 ≡ length g.1 = ap length (same_part before after h.0 h.1 h.2 g) in
    let long : greatest_length < length h.0 = h.3 in
    let short : length g.1 ≤ greatest_length = g.6 in omega (arith, same, long, short)

read_part : (before after : Option (List ℕ)) (script line : List ℕ) → ReadPart before after script → RefusedFor script line → IsParts before → ⊥
read_part before after script line r f g = not_refused script line f (subst HasProgram (sym (same_part before after script r.0 r.1 g)) g.7)

refused_script : (c : Command) (before after : Option (List ℕ)) (line : List ℕ) → RefusedFrom c before after line → HasScript c before → ⊥
refused_script (Run workers budget journal) before after line (inl t) g = short_enough greatest_length before after g.0 line t g.1 g.2
refused_script (Run workers budget journal) before after line (inr r) g = read_script before after r.0 line r.1 r.2 g
refused_script Check before after line (inl t) g = short_enough greatest_length before after g.0 line t g.1 g.2
refused_script Check before after line (inr r) g = read_script before after r.0 line r.1 r.2 g
refused_script (Load n workers) before after line r g = not_refused r.0 line r.2 (subst HasProgram (sym r.1.1) g)
refused_script Replay before after line (inl t) g = short_enough greatest_input before after g.0 line t g.3 g.4
refused_script Replay before after line (inr (inl h)) g = long_part before after line h g
refused_script Replay before after line (inr (inr r)) g = read_part before after r.0 line r.1 r.2 g
refused_script Follow before after line (inl t) g = short_enough greatest_input before after g.0 line t g.3 g.4
refused_script Follow before after line (inr (inl h)) g = long_part before after line h g
refused_script Follow before after line (inr (inr r)) g = read_part before after r.0 line r.1 r.2 g
refused_script Report before after line (inl t) g = short_enough greatest_input before after g.0 line t g.3 g.4
refused_script Report before after line (inr (inl h)) g = long_part before after line h g
refused_script Report before after line (inr (inr r)) g = read_part before after r.0 line r.1 r.2 g

run_done : (c : Command) (e : ScriptEnd) → runs_script c ≡ true → IsAcceptedStatus c (status_of_end e)
run_done (Run workers budget journal) e r = end_of_run e
run_done Check e r = absurd (let z : false ≡ true = r in cc)
run_done (Load n workers) e r = end_of_run e
run_done Replay e r = absurd (let z : false ≡ true = r in cc)
run_done Follow e r = absurd (let z : false ≡ true = r in cc)
run_done Report e r = absurd (let z : false ≡ true = r in cc)

found_done : (c : Command) (f : Finding) → judges c ≡ true → IsAcceptedStatus c (finding_status f)
found_done (Run workers budget journal) f r = absurd (let z : false ≡ true = r in cc)
found_done Check f r = absurd (let z : false ≡ true = r in cc)
found_done (Load n workers) f r = absurd (let z : false ≡ true = r in cc)
found_done Replay f r = finding_is f
found_done Follow f r = finding_is f
found_done Report f r = finding_is f

complete_by : (asked : Option Command) (span : ClockSpan) (before after : Option (List ℕ)) (a : Answer) → AnswersTo asked span before after a → IsComplete asked before (status_of a)
complete_by None span before after Usage h = inl refl
complete_by None span before after (Refused r) h = absurd h
complete_by None span before after Accepted h = absurd h
complete_by None span before after (Ran m shown) h = absurd h
complete_by None span before after (Found f) h = absurd h
complete_by (Some c) span before after Usage h = absurd h
complete_by (Some c) span before after (Refused r) h = inr (inl (refl, refused_script c before after (refusal_line r) h))
complete_by (Some c) span before after Accepted h = inl (subst (λ (d : Command). IsAcceptedStatus d 0) (sym h.0) refl)
complete_by (Some c) span before after (Ran m shown) h = inl (run_done c m.end h.0)
complete_by (Some c) span before after (Found f) h = inl (found_done c f h.0)

-- a sink that did not fail took the whole text
all_written : {T E : Type 0} (wrote : Result T E) (w : Bool) (faults faults2 : ℕ) → w ≡ is_ok wrote → HasCause faults faults2 wrote → IsSteady faults faults2 → w ≡ true
all_written (Ok x) w faults faults2 is cause steady = is
all_written (Err x) w faults faults2 is cause steady = absurd (steady cause.failed)

pub close_complete : {T E : Type 0} (asked : Option Command) (span : ClockSpan) (before after : Option (List ℕ)) (a : Answer) (wrote : Result T E) (w : Bool) (s faults room faults2 : ℕ) → w ≡ is_ok wrote → (w ≡ true → s ≡ status_of a) → room ≡ faults → HasCause room faults2 wrote → IsSteady faults faults2 → AnswersTo asked span before after a → IsComplete asked before s
close_complete asked span before after a wrote w s faults room faults2 is done same cause steady h =
    let yes : w ≡ true = all_written wrote w room faults2 is cause (subst (λ n. IsSteady n faults2) (sym same) steady) in
    subst (IsComplete asked before) (sym (done yes)) (complete_by asked span before after a h)

-- where there was not the memory
pub unfinished : (asked : Option Command) (before : Option (List ℕ)) (s : ℕ) → s ≡ 8 → IsComplete asked before s
unfinished None before s e = inr e
unfinished (Some c) before s e = inr (inr e)

-- a clock that is handed back did not fail
pub clock_failed : {C : Type 0} (faults : C → ℕ) (first : ℕ) (last : C) (o : Option C) → o ≡ Some last → MatchOption (option_map faults o) (Unit {0}) (λ now. IsSteady first now) → Rose first (faults last) → ⊥
clock_failed faults first last o e = rw e (λ steady rose. steady rose)
