-- How a call ends, by its answer.
use Rattle.std.proofs.Common.{◌≡◌, ◌≢◌, ⊎_elim, ℕ, List, codes, ap, take, subst, Option, Some, None, Result, Ok, Err, Bool, true, false, refl, sym, ◌∙◌, ◌⊎◌, inl, inr, OnOk, OnErr, is_ok, IsSome, arith, ◌<◌, ◌≤◌}
use Rattle.std.specs.Io.KnownBytes.{Appends}
use Rattle.ca_meaning.specs.Ends.{RunEnd, ended, faulted, limit, stuck}
use Rattle.ca_words.specs.declared.command.Command.{Command}
use Rattle.ca_words.specs.declared.command.Command.TheVariants.{Check, Follow, Load, Run, Replay, Report}
use Rattle.ca_run.specs.declared.run.ScriptRun.{ScriptRun}
use Rattle.ca_run.specs.declared.run.ScriptEnd.{ScriptEnd}
use Rattle.ca_run.specs.declared.run.ScriptEnd.TheVariants.{Ended, Faulted, Limit, Stuck}
use Rattle.ca_run.specs.declared.answer.Refusal.{Refusal}
use Rattle.ca_run.specs.declared.answer.Answer.{Answer}
use Rattle.ca_run.specs.declared.answer.Answer.TheVariants.{Usage, Refused, Accepted, Ran, Found}
use Rattle.ca_journal.specs.declared.journal.Journal.{Journal}
use Rattle.ca_journal.specs.Events.{events}
use Rattle.ca_run.specs.declared.finding.Finding.{Finding}
use Rattle.ca_run.specs.declared.finding.Finding.TheVariants.{NoJournal, BadLine, IllegalAt, Stands, Written, Lines}
use Rattle.ca_run.specs.Findings.{finding_status, finding_text, CommandFinds, IsFinding, IsFollowedText, IsRejected, IsReplayed, IsReported}
use Rattle.ca_run.specs.Inputs.{ReadWhole, greatest_input}
use Rattle.ca_run.specs.Top.{ClockSpan, Refused as RefusedFrom, Accepted as AcceptedFrom, Completed, CompletedFor, Partly, RunText, JudgesJournal, Writes, judges, runs_script, usage}
use Rattle.ca_run.specs.Answers.{answer_text, status_of, status_of_end, journal_of, refusal_line, end_shown, line_of_end, AnswersTo, RunsNothing}

on_ok : {T E : Type 0} (r : Result T E) (P : Type 0) → OnOk r P → is_ok r ≡ true → P
on_ok (Ok x) P h e = h
on_ok (Err x) P h e = cc

on_err : {T E : Type 0} (r : Result T E) (P : Type 0) → OnErr r P → is_ok r ≡ false → P
on_err (Ok x) P h e = cc
on_err (Err x) P h e = h

-- numbers that differ
pub differ : (m n : ℕ) → m < n → m ≢ n
differ m n h e = omega arith

-- another status than 7 is that of an answer whose text was written
written_when : (w : Bool) (s n : ℕ) → (w ≡ false → s ≡ 7) → s ≡ n → n ≢ 7 → w ≡ true
written_when true s n h e g = refl
written_when false s n h e g = absurd (g (sym e ∙ h refl))

end_under_six : (e : ScriptEnd) → status_of_end e < 6
end_under_six Ended = omega arith
end_under_six (Faulted f p) = omega arith
end_under_six Limit = omega arith
end_under_six Stuck = omega arith

pub finding_is : (f : Finding) → (finding_status f ≡ 0) ⊎ (finding_status f ≡ 10)
finding_is NoJournal = inr refl
finding_is (BadLine k) = inr refl
finding_is (IllegalAt k) = inr refl
finding_is (Stands s) = inl refl
finding_is (Written t) = inl refl
finding_is (Lines t) = inl refl

-- a finding has no other status
other_finding : {G : Type 0} (f : Finding) (n : ℕ) → 0 < n → n < 10 → finding_status f ≡ n → G
other_finding f n some below e = absurd (⊎_elim (λ z. omega (arith, z, e, some)) (λ t. omega (arith, t, e, below)) (finding_is f))

not_seven : (a : Answer) → status_of a ≢ 7
not_seven Usage e = omega (arith, e)
not_seven (Refused r) e = omega (arith, e)
not_seven Accepted e = omega (arith, e)
not_seven (Ran m shown) e = let k = end_under_six m.end in omega (arith, k, e)
not_seven (Found f) e = other_finding f 7 (omega arith) (omega arith) e

unwritten_when : (w : Bool) (s : ℕ) (a : Answer) → (w ≡ true → s ≡ status_of a) → s ≡ 7 → w ≡ false
unwritten_when true s a h e = absurd (not_seven a (sym (h refl) ∙ e))
unwritten_when false s a h e = refl

-- at another status than 7 the answer's whole text was written
pub whole_text : {T E : Type 0} (wrote : Result T E) (w : Bool) (s n : ℕ) (a : Answer) (held room taken : Option (List ℕ)) (piece : List ℕ) → w ≡ is_ok wrote → (w ≡ false → s ≡ 7) → (w ≡ true → s ≡ status_of a) → OnOk wrote (Appends room taken piece) → piece ≡ answer_text a → room ≡ held → s ≡ n → n ≢ 7 → (status_of a ≡ n) × Appends held taken (answer_text a)
whole_text wrote w s n a held room taken piece is lost done ok words same e l =
    let yes : w ≡ true = written_when w s n lost e l in
    let all : Appends room taken piece = on_ok wrote (Appends room taken piece) ok (sym is ∙ yes) in
    (sym (done yes) ∙ e, subst (λ h. Appends h taken (answer_text a)) same (subst (Appends room taken) words all))

-- at status 7 a prefix of it was
pub part_text : {T E : Type 0} (wrote : Result T E) (w : Bool) (s : ℕ) (a : Answer) (held room taken : Option (List ℕ)) (piece : List ℕ) → w ≡ is_ok wrote → (w ≡ true → s ≡ status_of a) → OnErr wrote ((n : ℕ) × Appends room taken (take n piece)) → piece ≡ answer_text a → room ≡ held → s ≡ 7 → (n : ℕ) × Appends held taken (take n (answer_text a))
part_text wrote w s a held room taken piece is done err words same e =
    let no : w ≡ false = unwritten_when w s a done e in
    let part : (n : ℕ) × Appends room taken (take n piece) = on_err wrote ((n : ℕ) × Appends room taken (take n piece)) err (sym is ∙ no) in
    (part.0, subst (λ h. Appends h taken (take part.0 (answer_text a))) same (subst (λ t. Appends room taken (take part.0 t)) words part.1))

-- no answer has a greater status
pub known_of : (a : Answer) → status_of a ≤ 10
known_of Usage = omega arith
known_of (Refused r) = omega arith
known_of Accepted = omega arith
known_of (Ran m shown) = let k = end_under_six m.end in omega (arith, k)
known_of (Found f) = ⊎_elim (λ z. omega (arith, z)) (λ t. omega (arith, t)) (finding_is f)

-- the status of an end
abbrev pub number_of : RunEnd → ℕ
number_of ended = 0
number_of faulted = 3
number_of limit = 5
number_of stuck = 4

by_status : (e : ScriptEnd) (want : RunEnd) → status_of_end e ≡ number_of want → end_shown e ≡ want
by_status Ended ended q = refl
by_status Ended faulted q = absurd (omega (arith, q))
by_status Ended limit q = absurd (omega (arith, q))
by_status Ended stuck q = absurd (omega (arith, q))
by_status (Faulted f p) ended q = absurd (omega (arith, q))
by_status (Faulted f p) faulted q = refl
by_status (Faulted f p) limit q = absurd (omega (arith, q))
by_status (Faulted f p) stuck q = absurd (omega (arith, q))
by_status Limit ended q = absurd (omega (arith, q))
by_status Limit faulted q = absurd (omega (arith, q))
by_status Limit limit q = refl
by_status Limit stuck q = absurd (omega (arith, q))
by_status Stuck ended q = absurd (omega (arith, q))
by_status Stuck faulted q = absurd (omega (arith, q))
by_status Stuck limit q = absurd (omega (arith, q))
by_status Stuck stuck q = refl

no_end : (want : RunEnd) (n : ℕ) → 0 < n → n < 3 → n ≡ number_of want → ⊥
no_end ended n a b q = omega (arith, a, q)
no_end faulted n a b q = omega (arith, b, q)
no_end limit n a b q = omega (arith, b, q)
no_end stuck n a b q = omega (arith, b, q)

number_small : (want : RunEnd) → number_of want < 10
number_small ended = omega arith
number_small faulted = omega arith
number_small limit = omega arith
number_small stuck = omega arith

-- A run that has come to an end has completed with it.
completed : (c : Command) (span : ClockSpan) (before after held taken : Option (List ℕ)) (m : ScriptRun) (shown : Bool) → AnswersTo (Some c) span before after (Ran m shown) → Appends held taken (answer_text (Ran m shown)) → Completed c before after held taken (Some span) (Some m.journal) (end_shown m.end)
completed c span before after held taken m shown h p = (h.2, (answer_text (Ran m shown), subst (λ (b : Bool). RunText b (events m.journal) (end_shown m.end) (answer_text (Ran m shown))) h.1 (line_of_end m.end, h.3, refl), p))

run_for : (asked : Option Command) (span : ClockSpan) (before after held taken : Option (List ℕ)) (m : ScriptRun) (shown : Bool) (want : RunEnd) → status_of_end m.end ≡ number_of want → AnswersTo asked span before after (Ran m shown) → Appends held taken (answer_text (Ran m shown)) → CompletedFor asked before after held taken (Some span) (Some m.journal) want
run_for None span before after held taken m shown want s h p = absurd h
run_for (Some c) span before after held taken m shown want s h p = (c, refl, h.0, subst (λ (x : RunEnd). Completed c before after held taken (Some span) (Some m.journal) x) (by_status m.end want s) (completed c span before after held taken m shown h p))

-- a status past 2 is that of a run's end
pub ends_of : (asked : Option Command) (span : ClockSpan) (before after held taken : Option (List ℕ)) (a : Answer) (want : RunEnd) → 0 < number_of want → status_of a ≡ number_of want → AnswersTo asked span before after a → Appends held taken (answer_text a) → CompletedFor asked before after held taken (Some span) (journal_of a) want
ends_of asked span before after held taken Usage want some s h p = absurd (no_end want 1 (omega arith) (omega arith) s)
ends_of asked span before after held taken (Refused r) want some s h p = absurd (no_end want 2 (omega arith) (omega arith) s)
ends_of asked span before after held taken Accepted want some s h p = absurd (omega (arith, some, s))
ends_of asked span before after held taken (Found f) want some s h p = other_finding f (number_of want) some (number_small want) s
ends_of asked span before after held taken (Ran m shown) want some s h p = run_for asked span before after held taken m shown want s h p

pub same_command : (c d : Command) → Some c ≡ Some d → c ≡ d
same_command c d e = cc

-- where a script was accepted, a check was asked for
check_asked : (asked : Option Command) (span : ClockSpan) (before after : Option (List ℕ)) → AnswersTo asked span before after Accepted → asked ≡ Some Check
check_asked None span before after h = absurd h
check_asked (Some c) span before after h = ap Some h.0

-- a finding is one of a command that judges a journal
abbrev pub FoundFor : Option Command → Option (List ℕ) → Option (List ℕ) → Finding → Type 0
FoundFor asked before after f = (c : Command) × (asked ≡ Some c) × (judges c ≡ true) × ((input : List ℕ) × ReadWhole greatest_input before after input × IsFinding c input f)

found_for : (asked : Option Command) (span : ClockSpan) (before after : Option (List ℕ)) (f : Finding) → AnswersTo asked span before after (Found f) → FoundFor asked before after f
found_for None span before after f h = absurd h
found_for (Some c) span before after f h = (c, refl, h.0, h.1)

not_run : {G : Type 0} (c : Command) → judges c ≡ true → runs_script c ≡ true → G
not_run (Run workers budget journal) j r = absurd (let z : false ≡ true = j in cc)
not_run Check j r = absurd (let z : false ≡ true = j in cc)
not_run (Load n workers) j r = absurd (let z : false ≡ true = j in cc)
not_run Replay j r = absurd (let z : false ≡ true = r in cc)
not_run Follow j r = absurd (let z : false ≡ true = r in cc)
not_run Report j r = absurd (let z : false ≡ true = r in cc)

never_found : {G : Type 0} (asked : Option Command) (before after : Option (List ℕ)) (f : Finding) (c : Command) → asked ≡ Some c → judges c ≡ false → FoundFor asked before after f → G
never_found asked before after f c e off h = absurd (let z : true ≡ false = sym h.2 ∙ ap judges (same_command h.0 c (sym h.1 ∙ e)) ∙ off in cc)

never_checks : {G : Type 0} (c : Command) → c ≡ Check → runs_script c ≡ true → G
never_checks c e r = absurd (let z : false ≡ true = sym (ap runs_script e) ∙ r in cc)

of_command : (asked : Option Command) (before after held taken : Option (List ℕ)) (clock : Option ClockSpan) (journal : Option Journal) (end : RunEnd) (c : Command) → asked ≡ Some c → CompletedFor asked before after held taken clock journal end → Completed c before after held taken clock journal end
of_command asked before after held taken clock journal end c e h = subst (λ (d : Command). Completed d before after held taken clock journal end) (same_command h.0 c (sym h.1 ∙ e)) h.3

pub ended_of : (asked : Option Command) (span : ClockSpan) (before after held taken : Option (List ℕ)) (a : Answer) (c : Command) → asked ≡ Some c → runs_script c ≡ true → status_of a ≡ 0 → AnswersTo asked span before after a → Appends held taken (answer_text a) → Completed c before after held taken (Some span) (journal_of a) ended
ended_of asked span before after held taken Usage c q r s h p = absurd (omega (arith, s))
ended_of asked span before after held taken (Refused f) c q r s h p = absurd (omega (arith, s))
ended_of asked span before after held taken Accepted c q r s h p = never_checks c (same_command c Check (sym q ∙ check_asked asked span before after h)) r
ended_of asked span before after held taken (Found f) c q r s h p =
    let found = found_for asked span before after f h in
    not_run c (ap judges (sym (same_command found.0 c (sym found.1 ∙ q))) ∙ found.2) r
ended_of asked span before after held taken (Ran m shown) c q r s h p = of_command asked before after held taken (Some span) (Some m.journal) ended c q (run_for asked span before after held taken m shown ended s h p)

accepted_by : (asked : Option Command) (span : ClockSpan) (before after : Option (List ℕ)) → AnswersTo asked span before after Accepted → AcceptedFrom before after
accepted_by None span before after h = absurd h
accepted_by (Some c) span before after h = h.1

no_run : {G : Type 0} (asked : Option Command) (span : ClockSpan) (before after : Option (List ℕ)) (m : ScriptRun) (shown : Bool) → asked ≡ Some Check → AnswersTo asked span before after (Ran m shown) → G
no_run None span before after m shown q h = absurd h
no_run (Some c) span before after m shown q h = never_checks c (same_command c Check q) h.0

pub accepted_of : (asked : Option Command) (span : ClockSpan) (before after held taken : Option (List ℕ)) (a : Answer) → asked ≡ Some Check → status_of a ≡ 0 → AnswersTo asked span before after a → Appends held taken (answer_text a) → AcceptedFrom before after × Appends held taken (codes "ok\n")
accepted_of asked span before after held taken Usage q s h p = absurd (omega (arith, s))
accepted_of asked span before after held taken (Refused r) q s h p = absurd (omega (arith, s))
accepted_of asked span before after held taken Accepted q s h p = (accepted_by asked span before after h, p)
accepted_of asked span before after held taken (Found f) q s h p = never_found asked before after f Check q refl (found_for asked span before after f h)
accepted_of asked span before after held taken (Ran m shown) q s h p = no_run asked span before after m shown q h

-- the line of a refusal
abbrev pub IsRefusal : Option Command → Option (List ℕ) → Option (List ℕ) → Option (List ℕ) → Option (List ℕ) → Type 0
IsRefusal asked before after held taken = (command : Command) × (line : List ℕ) × (asked ≡ Some command) × RefusedFrom command before after line × Appends held taken line

refusal_of : (asked : Option Command) (span : ClockSpan) (before after held taken : Option (List ℕ)) (r : Refusal) → AnswersTo asked span before after (Refused r) → Appends held taken (refusal_line r) → IsRefusal asked before after held taken
refusal_of None span before after held taken r h p = absurd h
refusal_of (Some c) span before after held taken r h p = (c, refusal_line r, refl, h, p)

end_not : (e : ScriptEnd) (n : ℕ) → 0 < n → n < 3 → status_of_end e ≢ n
end_not Ended n a b s = omega (arith, a, s)
end_not (Faulted f p) n a b s = omega (arith, b, s)
end_not Limit n a b s = omega (arith, b, s)
end_not Stuck n a b s = omega (arith, b, s)

-- an answer at status 1, 2 or 6 is none of a run
nothing : (a : Answer) (n : ℕ) → status_of a ≡ n → (n ≡ 1) ⊎ ((n ≡ 2) ⊎ (n ≡ 6)) → RunsNothing a
nothing Usage n e k = tt
nothing (Refused r) n e k = tt
nothing Accepted n e k = tt
nothing (Found f) n e k = tt
nothing (Ran m shown) n e (inl q) = absurd (end_not m.end 1 (omega arith) (omega arith) (e ∙ q))
nothing (Ran m shown) n e (inr (inl q)) = absurd (end_not m.end 2 (omega arith) (omega arith) (e ∙ q))
nothing (Ran m shown) n e (inr (inr q)) = let u : status_of_end m.end < 6 = end_under_six m.end in let k : status_of_end m.end ≡ 6 = e ∙ q in absurd (omega (arith, u, k))

pub runs_nothing : (a : Answer) (w : Bool) (s : ℕ) → (w ≡ false → s ≡ 7) → (w ≡ true → s ≡ status_of a) → (s ≡ 1) ⊎ ((s ≡ 2) ⊎ (s ≡ 6)) → RunsNothing a
runs_nothing a w s lost done (inl e) = nothing a 1 (sym (done (written_when w s 1 lost e (differ 1 7 (omega arith)))) ∙ e) (inl refl)
runs_nothing a w s lost done (inr (inl e)) = nothing a 2 (sym (done (written_when w s 2 lost e (differ 2 7 (omega arith)))) ∙ e) (inr (inl refl))
runs_nothing a w s lost done (inr (inr e)) = nothing a 6 (sym (done (written_when w s 6 lost e (differ 6 7 (omega arith)))) ∙ e) (inr (inr refl))

pub refused_of : (asked : Option Command) (span : ClockSpan) (before after held taken : Option (List ℕ)) (a : Answer) → status_of a ≡ 2 → AnswersTo asked span before after a → Appends held taken (answer_text a) → IsRefusal asked before after held taken
refused_of asked span before after held taken Usage s h p = absurd (omega (arith, s))
refused_of asked span before after held taken (Refused r) s h p = refusal_of asked span before after held taken r h p
refused_of asked span before after held taken Accepted s h p = absurd (omega (arith, s))
refused_of asked span before after held taken (Found f) s h p = other_finding f 2 (omega arith) (omega arith) s
refused_of asked span before after held taken (Ran m shown) s h p = absurd (end_not m.end 2 (omega arith) (omega arith) s)

unasked : (asked : Option Command) (span : ClockSpan) (before after : Option (List ℕ)) → AnswersTo asked span before after Usage → asked ≡ None
unasked None span before after h = refl
unasked (Some c) span before after h = absurd h

pub usage_of : (asked : Option Command) (span : ClockSpan) (before after held taken : Option (List ℕ)) (a : Answer) → status_of a ≡ 1 → AnswersTo asked span before after a → Appends held taken (answer_text a) → (asked ≡ None) × Appends held taken usage
usage_of asked span before after held taken Usage s h p = (unasked asked span before after h, p)
usage_of asked span before after held taken (Refused r) s h p = absurd (omega (arith, s))
usage_of asked span before after held taken Accepted s h p = absurd (omega (arith, s))
usage_of asked span before after held taken (Found f) s h p = other_finding f 1 (omega arith) (omega arith) s
usage_of asked span before after held taken (Ran m shown) s h p = absurd (end_not m.end 1 (omega arith) (omega arith) s)

told_refusal : (asked : Option Command) (span : ClockSpan) (before after held taken : Option (List ℕ)) (r : Refusal) (n : ℕ) → AnswersTo asked span before after (Refused r) → Appends held taken (take n (refusal_line r)) → Partly asked before after held taken (Some span) None
told_refusal None span before after held taken r n h p = absurd h
told_refusal (Some c) span before after held taken r n h p = record { text = refusal_line r; count = n; prefix = p; source = inl h }

told_accepted : (asked : Option Command) (span : ClockSpan) (before after held taken : Option (List ℕ)) (n : ℕ) → AnswersTo asked span before after Accepted → Appends held taken (take n (codes "ok\n")) → Partly asked before after held taken (Some span) None
told_accepted None span before after held taken n h p = absurd h
told_accepted (Some c) span before after held taken n h p = record { text = codes "ok\n"; count = n; prefix = p; source = inr (inl (h.0, h.1, refl)) }

told_run : (asked : Option Command) (span : ClockSpan) (before after held taken : Option (List ℕ)) (m : ScriptRun) (shown : Bool) (n : ℕ) → AnswersTo asked span before after (Ran m shown) → Appends held taken (take n (answer_text (Ran m shown))) → Partly asked before after held taken (Some span) (Some m.journal)
told_run None span before after held taken m shown n h p = absurd h
told_run (Some c) span before after held taken m shown n h p = record {
  text = answer_text (Ran m shown);
  count = n;
  prefix = p;
  source = (c, refl, (span, refl, (end_shown m.end, h.2, subst (λ (b : Bool). RunText b (events m.journal) (end_shown m.end) (answer_text (Ran m shown))) h.1 (line_of_end m.end, h.3, refl))));
}

-- what is told of a finding
finds_of : (c : Command) (input : List ℕ) (f : Finding) → judges c ≡ true → IsFinding c input f → CommandFinds c input (finding_text f)
finds_of (Run workers budget journal) input f j h = absurd (let z : false ≡ true = j in cc)
finds_of Check input f j h = absurd (let z : false ≡ true = j in cc)
finds_of (Load n workers) input f j h = absurd (let z : false ≡ true = j in cc)
finds_of Replay input NoJournal j h = inl h
finds_of Replay input (BadLine k) j h = inl h
finds_of Replay input (IllegalAt k) j h = inl h
finds_of Replay input (Stands s) j h = inr h.1
finds_of Replay input (Written t) j h = absurd (let z : Replay ≡ Follow = h.0 in cc)
finds_of Replay input (Lines t) j h = absurd (let z : Replay ≡ Report = h.0 in cc)
finds_of Follow input NoJournal j h = inl h
finds_of Follow input (BadLine k) j h = inl h
finds_of Follow input (IllegalAt k) j h = inl h
finds_of Follow input (Stands s) j h = absurd (let z : Follow ≡ Replay = h.0 in cc)
finds_of Follow input (Written t) j h = inr h.1
finds_of Follow input (Lines t) j h = absurd (let z : Follow ≡ Report = h.0 in cc)
finds_of Report input NoJournal j h = inl h
finds_of Report input (BadLine k) j h = inl h
finds_of Report input (IllegalAt k) j h = inl h
finds_of Report input (Stands s) j h = absurd (let z : Report ≡ Replay = h.0 in cc)
finds_of Report input (Written t) j h = absurd (let z : Report ≡ Follow = h.0 in cc)
finds_of Report input (Lines t) j h = inr h.1

told_finding : (asked : Option Command) (span : ClockSpan) (before after held taken : Option (List ℕ)) (f : Finding) (n : ℕ) → AnswersTo asked span before after (Found f) → Appends held taken (take n (finding_text f)) → Partly asked before after held taken (Some span) None
told_finding None span before after held taken f n h p = absurd h
told_finding (Some c) span before after held taken f n h p = record { text = finding_text f; count = n; prefix = p; source = inr (inr (h.1.0, h.1.1, finds_of c h.1.0 f h.0 h.1.2)) }

pub partly_of : (asked : Option Command) (span : ClockSpan) (before after held taken : Option (List ℕ)) (a : Answer) (n : ℕ) → AnswersTo asked span before after a → Appends held taken (take n (answer_text a)) → Partly asked before after held taken (Some span) (journal_of a)
partly_of asked span before after held taken Usage n h p = rw (unasked asked span before after h) (record { text = usage; count = n; prefix = p; source = refl })
partly_of asked span before after held taken (Refused r) n h p = told_refusal asked span before after held taken r n h p
partly_of asked span before after held taken Accepted n h p = told_accepted asked span before after held taken n h p
partly_of asked span before after held taken (Found f) n h p = told_finding asked span before after held taken f n h p
partly_of asked span before after held taken (Ran m shown) n h p = told_run asked span before after held taken m shown n h p

-- a command that runs a script was asked for
abbrev pub RunAsked : Option Command → Type 0
RunAsked asked = (command : Command) × (asked ≡ Some command) × (runs_script command ≡ true)

run_asked : (asked : Option Command) (span : ClockSpan) (before after : Option (List ℕ)) (m : ScriptRun) (shown : Bool) → AnswersTo asked span before after (Ran m shown) → RunAsked asked
run_asked None span before after m shown h = absurd h
run_asked (Some c) span before after m shown h = (c, refl, h.0)

-- a status at which a run has come to its end
abbrev pub IsEndOfRun : ℕ → Type 0
IsEndOfRun s = (s ≡ 0) ⊎ (3 ≤ s × s ≤ 5)

pub end_of_run : (e : ScriptEnd) → IsEndOfRun (status_of_end e)
end_of_run Ended = inl refl
end_of_run (Faulted f p) = inr (omega arith, omega arith)
end_of_run Limit = inr (omega arith, omega arith)
end_of_run Stuck = inr (omega arith, omega arith)

nothing_there : IsSome {T = Journal} None → ⊥
nothing_there g = cc

journal_when : (asked : Option Command) (span : ClockSpan) (before after : Option (List ℕ)) (a : Answer) → AnswersTo asked span before after a → IsSome (journal_of a) → RunAsked asked × IsEndOfRun (status_of a)
journal_when asked span before after Usage h g = absurd (nothing_there g)
journal_when asked span before after (Refused r) h g = absurd (nothing_there g)
journal_when asked span before after Accepted h g = absurd (nothing_there g)
journal_when asked span before after (Found f) h g = absurd (nothing_there g)
journal_when asked span before after (Ran m shown) h g = (run_asked asked span before after m shown h, end_of_run m.end)

pub close_journal : (asked : Option Command) (span : ClockSpan) (before after : Option (List ℕ)) (a : Answer) (w : Bool) (s : ℕ) → (w ≡ false → s ≡ 7) → (w ≡ true → s ≡ status_of a) → AnswersTo asked span before after a → IsSome (journal_of a) → RunAsked asked × ((s ≡ 0) ⊎ ((3 ≤ s × s ≤ 5) ⊎ (s ≡ 7)))
close_journal asked span before after a false s lost done h g = ((journal_when asked span before after a h g).0, inr (inr (lost refl)))
close_journal asked span before after a true s lost done h g = ((journal_when asked span before after a h g).0, widened s (subst IsEndOfRun (sym (done refl)) (journal_when asked span before after a h g).1))
  where
    widened : (n : ℕ) → IsEndOfRun n → (n ≡ 0) ⊎ ((3 ≤ n × n ≤ 5) ⊎ (n ≡ 7))
    widened n (inl e) = inl e
    widened n (inr e) = inr (inl e)

-- at status 0 something was asked for
asked_of : (asked : Option Command) (span : ClockSpan) (before after : Option (List ℕ)) (a : Answer) → status_of a ≡ 0 → AnswersTo asked span before after a → (command : Command) × (asked ≡ Some command)
asked_of None span before after Usage s h = absurd (omega (arith, s))
asked_of None span before after (Refused r) s h = absurd h
asked_of None span before after Accepted s h = absurd h
asked_of None span before after (Ran m shown) s h = absurd h
asked_of None span before after (Found f) s h = absurd h
asked_of (Some c) span before after a s h = (c, refl)

pub close_asked : (asked : Option Command) (span : ClockSpan) (before after : Option (List ℕ)) (a : Answer) (w : Bool) (s : ℕ) → (w ≡ false → s ≡ 7) → (w ≡ true → s ≡ status_of a) → AnswersTo asked span before after a → s ≡ 0 → (command : Command) × (asked ≡ Some command)
close_asked asked span before after a true s lost done h e = asked_of asked span before after a (sym (done refl) ∙ e) h
close_asked asked span before after a false s lost done h e = absurd (let k = lost refl in omega (arith, k, e))

-- ---- what is found of a journal

no_end_but : {G : Type 0} (e : ScriptEnd) → status_of_end e ≡ 10 → G
no_end_but e s = absurd (let k = end_under_six e in omega (arith, k, s))

never_ran : {G : Type 0} (asked : Option Command) (span : ClockSpan) (before after : Option (List ℕ)) (m : ScriptRun) (shown : Bool) (c : Command) → asked ≡ Some c → judges c ≡ true → AnswersTo asked span before after (Ran m shown) → G
never_ran asked span before after m shown c q j h =
    let r = run_asked asked span before after m shown h in
    not_run c j (ap runs_script (sym (same_command r.0 c (sym r.1 ∙ q))) ∙ r.2)

never_accepted : {G : Type 0} (asked : Option Command) (span : ClockSpan) (before after : Option (List ℕ)) (c : Command) → asked ≡ Some c → judges c ≡ true → AnswersTo asked span before after Accepted → G
never_accepted asked span before after c q j h =
    absurd (let z : false ≡ true = ap judges (same_command Check c (sym (check_asked asked span before after h) ∙ q)) ∙ j in cc)

rejected_by : (c : Command) (input : List ℕ) (f : Finding) → finding_status f ≡ 10 → IsFinding c input f → IsRejected input (finding_text f)
rejected_by c input NoJournal s h = h
rejected_by c input (BadLine k) s h = h
rejected_by c input (IllegalAt k) s h = h
rejected_by c input (Stands t) s h = absurd (omega (arith, s))
rejected_by c input (Written t) s h = absurd (omega (arith, s))
rejected_by c input (Lines t) s h = absurd (omega (arith, s))

pub rejected_of : (asked : Option Command) (span : ClockSpan) (before after held taken : Option (List ℕ)) (a : Answer) → status_of a ≡ 10 → AnswersTo asked span before after a → Appends held taken (answer_text a) → JudgesJournal asked × Writes IsRejected before after held taken
rejected_of asked span before after held taken Usage s h p = absurd (omega (arith, s))
rejected_of asked span before after held taken (Refused r) s h p = absurd (omega (arith, s))
rejected_of asked span before after held taken Accepted s h p = absurd (omega (arith, s))
rejected_of asked span before after held taken (Ran m shown) s h p = no_end_but m.end s
rejected_of asked span before after held taken (Found f) s h p =
    let found = found_for asked span before after f h in
    ((found.0, found.1, found.2), (found.3.0, finding_text f, found.3.1, rejected_by found.0 found.3.0 f s found.3.2, p))

replayed_by : (c : Command) (input : List ℕ) (f : Finding) → c ≡ Replay → finding_status f ≡ 0 → IsFinding c input f → IsReplayed input (finding_text f)
replayed_by c input NoJournal e s h = absurd (omega (arith, s))
replayed_by c input (BadLine k) e s h = absurd (omega (arith, s))
replayed_by c input (IllegalAt k) e s h = absurd (omega (arith, s))
replayed_by c input (Stands t) e s h = h.1
replayed_by c input (Written t) e s h = absurd (let z : Follow ≡ Replay = sym h.0 ∙ e in cc)
replayed_by c input (Lines t) e s h = absurd (let z : Report ≡ Replay = sym h.0 ∙ e in cc)

pub replayed_of : (asked : Option Command) (span : ClockSpan) (before after held taken : Option (List ℕ)) (a : Answer) → asked ≡ Some Replay → status_of a ≡ 0 → AnswersTo asked span before after a → Appends held taken (answer_text a) → Writes IsReplayed before after held taken
replayed_of asked span before after held taken Usage q s h p = absurd (omega (arith, s))
replayed_of asked span before after held taken (Refused r) q s h p = absurd (omega (arith, s))
replayed_of asked span before after held taken Accepted q s h p = never_accepted asked span before after Replay q refl h
replayed_of asked span before after held taken (Ran m shown) q s h p = never_ran asked span before after m shown Replay q refl h
replayed_of asked span before after held taken (Found f) q s h p =
    let found = found_for asked span before after f h in
    (found.3.0, finding_text f, found.3.1, replayed_by found.0 found.3.0 f (same_command found.0 Replay (sym found.1 ∙ q)) s found.3.2, p)

followed_by : (c : Command) (input : List ℕ) (f : Finding) → c ≡ Follow → finding_status f ≡ 0 → IsFinding c input f → IsFollowedText input (finding_text f)
followed_by c input NoJournal e s h = absurd (omega (arith, s))
followed_by c input (BadLine k) e s h = absurd (omega (arith, s))
followed_by c input (IllegalAt k) e s h = absurd (omega (arith, s))
followed_by c input (Stands t) e s h = absurd (let z : Replay ≡ Follow = sym h.0 ∙ e in cc)
followed_by c input (Written t) e s h = h.1
followed_by c input (Lines t) e s h = absurd (let z : Report ≡ Follow = sym h.0 ∙ e in cc)

pub followed_of : (asked : Option Command) (span : ClockSpan) (before after held taken : Option (List ℕ)) (a : Answer) → asked ≡ Some Follow → status_of a ≡ 0 → AnswersTo asked span before after a → Appends held taken (answer_text a) → Writes IsFollowedText before after held taken
followed_of asked span before after held taken Usage q s h p = absurd (omega (arith, s))
followed_of asked span before after held taken (Refused r) q s h p = absurd (omega (arith, s))
followed_of asked span before after held taken Accepted q s h p = never_accepted asked span before after Follow q refl h
followed_of asked span before after held taken (Ran m shown) q s h p = never_ran asked span before after m shown Follow q refl h
followed_of asked span before after held taken (Found f) q s h p =
    let found = found_for asked span before after f h in
    (found.3.0, finding_text f, found.3.1, followed_by found.0 found.3.0 f (same_command found.0 Follow (sym found.1 ∙ q)) s found.3.2, p)

reported_by : (c : Command) (input : List ℕ) (f : Finding) → c ≡ Report → finding_status f ≡ 0 → IsFinding c input f → IsReported input (finding_text f)
reported_by c input NoJournal e s h = absurd (omega (arith, s))
reported_by c input (BadLine k) e s h = absurd (omega (arith, s))
reported_by c input (IllegalAt k) e s h = absurd (omega (arith, s))
reported_by c input (Stands t) e s h = absurd (let z : Replay ≡ Report = sym h.0 ∙ e in cc)
reported_by c input (Written t) e s h = absurd (let z : Follow ≡ Report = sym h.0 ∙ e in cc)
reported_by c input (Lines t) e s h = h.1

pub reported_of : (asked : Option Command) (span : ClockSpan) (before after held taken : Option (List ℕ)) (a : Answer) → asked ≡ Some Report → status_of a ≡ 0 → AnswersTo asked span before after a → Appends held taken (answer_text a) → Writes IsReported before after held taken
reported_of asked span before after held taken Usage q s h p = absurd (omega (arith, s))
reported_of asked span before after held taken (Refused r) q s h p = absurd (omega (arith, s))
reported_of asked span before after held taken Accepted q s h p = never_accepted asked span before after Report q refl h
reported_of asked span before after held taken (Ran m shown) q s h p = never_ran asked span before after m shown Report q refl h
reported_of asked span before after held taken (Found f) q s h p =
    let found = found_for asked span before after f h in
    (found.3.0, finding_text f, found.3.1, reported_by found.0 found.3.0 f (same_command found.0 Report (sym found.1 ∙ q)) s found.3.2, p)
