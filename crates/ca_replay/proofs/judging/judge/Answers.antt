use Rattle.std.proofs.Common.{◌≡◌, [], ◌∷◌, ◌++◌, ◌+◌, ◌<◌, length, List, sym, ap, subst, ◌∙◌, true, false, rules, arith}
use Rattle.std.specs.Prelude.{is_some}
use Rattle.ca_term.specs.Event.{EventView}
use Rattle.ca_term.specs.Program.{program_view}
use Rattle.ca_journal.specs.Coming.{coming}
use Rattle.ca_journal.specs.Events.{events}
use Rattle.ca_journal.specs.Note.{note_view}
use Rattle.ca_replay.specs.Judged.{IsRefused, IsRun, LeadsOn, MayGoOn, SeesOn}
use Rattle.ca_replay.specs.MainEnd.{main_text_end}
use Rattle.ca_replay.proofs.JudgedRuns.{illegal_over, illegal_next, still_open}
use Rattle.ca_replay.proofs.RunsTo.{fewer, moved_on, one_longer}
use Rattle.ca_replay.proofs.judging.judge.Goals as goal

pub returns-then-is_some-clause-judged : goal.returns-then-is_some-clause-judged
returns-then-is_some-clause-judged g c =
    let inv = c.loop-entry.invariant in let e = note_view c.in-Some.entry.now.note in let rest = coming c.next.new.self in
    let next : coming c.loop-entry.walk ≡ e ∷ rest = c.in-Some.ensures.order in
    let whole : inv.before ++ e ∷ rest ≡ events c.args.journal.now = ap (λ (l : List EventView). inv.before ++ l) (sym next) ∙ inv.split in
    let over : is_some c.loop-entry.end ≡ true = search rules in
    illegal_over (program_view c.args.program.now) (events c.args.journal.now) inv.before e rest c.loop-entry.number c.loop-entry.world c.loop-entry.end whole inv.number over inv.run

pub goes_on-requires : goal.goes_on-requires
goes_on-requires g c =
    let inv = c.loop-entry.invariant in let e = note_view c.in-Some.entry.now.note in let rest = coming c.next.new.self in
    let next : coming c.loop-entry.walk ≡ e ∷ rest = c.in-Some.ensures.order in
    let whole : inv.before ++ e ∷ rest ≡ events c.args.journal.now = ap (λ (l : List EventView). inv.before ++ l) (sym next) ∙ inv.split in
    let here : is_some c.loop-entry.end ≡ false = search rules in
    let less : length inv.before < length (events c.args.journal.now) = fewer inv.before e rest (events c.args.journal.now) whole in
    let few : length inv.before < g.O.Observer.most = omega (arith, less, c.requires.few) in (
      program_view c.args.program.now,
      inv.before,
      inv.saw,
      record {
        checked = c.checked.ensures;
        few = few;
        run = still_open (program_view c.args.program.now) inv.before c.loop-entry.world c.loop-entry.end here inv.run;
      },
    )

pub returns-then-not-branch-clause-judged : goal.returns-then-not-branch-clause-judged
returns-then-not-branch-clause-judged g c =
    let inv = c.loop-entry.invariant in let e = note_view c.in-Some.entry.now.note in let rest = coming c.next.new.self in
    let next : coming c.loop-entry.walk ≡ e ∷ rest = c.in-Some.ensures.order in
    let whole : inv.before ++ e ∷ rest ≡ events c.args.journal.now = ap (λ (l : List EventView). inv.before ++ l) (sym next) ∙ inv.split in
    let here : is_some c.loop-entry.end ≡ false = search rules in
    let none : IsRefused e c.loop-entry.world = search rules in
    let run = still_open (program_view c.args.program.now) inv.before c.loop-entry.world c.loop-entry.end here inv.run in
    illegal_next (program_view c.args.program.now) (events c.args.journal.now) inv.before e rest c.loop-entry.number c.loop-entry.world whole inv.number run none

pub loop-entry-preserved : goal.loop-entry-preserved
loop-entry-preserved g c =
    let inv = c.loop-entry.invariant in let e = note_view c.in-Some.entry.now.note in let rest = coming c.next.new.self in
    let program = program_view c.args.program.now in let journal = events c.args.journal.now in
    let next : coming c.loop-entry.walk ≡ e ∷ rest = c.in-Some.ensures.order in
    let whole : inv.before ++ e ∷ rest ≡ journal = ap (λ (l : List EventView). inv.before ++ l) (sym next) ∙ inv.split in
    let here : is_some c.loop-entry.end ≡ false = search rules in
    let less : length inv.before < length journal = fewer inv.before e rest journal whole in
    let few : length inv.before < g.O.Observer.most = omega (arith, less, c.requires.few) in
    let may : MayGoOn g.O.Observer.most program inv.before c.loop-entry.world = record { checked = c.checked.ensures; few = few; run = still_open program inv.before c.loop-entry.world c.loop-entry.end here inv.run } in
    let is : c.in_ok-goes_on.field-0 ≡ true = search rules in
    let leads : LeadsOn g.O.Observer.most e c.loop-entry.world c.goes_on.new.world = c.in_ok-goes_on.ensures.run is in
    let sees : SeesOn g.O.Observer.saw g.O.Observer.most e c.loop-entry.world c.loop-entry.observer c.goes_on.new.observer = c.in_ok-goes_on.ensures.saw is in
    let end : main_text_end e ≡ c.main_end-end.result = sym c.main_end-end.ensures in
    record {
      before = inv.before ++ e ∷ [];
      split = moved_on inv.before e rest journal whole;
      number = ap (λ n. n + 1) inv.number ∙ sym (one_longer inv.before e);
      run = subst (IsRun program (inv.before ++ e ∷ []) c.goes_on.new.world) end (leads program inv.before may);
      saw = sees program inv.before inv.saw may;
    }
