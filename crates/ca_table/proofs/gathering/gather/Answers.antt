use Rattle.std.proofs.Common.{◌≡◌, ◌∙◌, ◌++◌, length, map, sym, ap, subst, arith, Some}
use Rattle.std.proofs.lemmas.List.Elements.{All-pop}
use Rattle.std.specs.Prelude.{option_to_list}
use Rattle.ca_term.specs.Program.{program_view}
use Rattle.ca_states.specs.ValidCode.{valid_code}
use Rattle.ca_journal.specs.Events.{events}
use Rattle.ca_journal.specs.Merge.{events_of, in_order}
use Rattle.ca_meaning.specs.Legal.{Reaches}
use Rattle.ca_turns.specs.Places.{total}
use Rattle.ca_turns.specs.Views.{hands_stood_for}
use Rattle.ca_turns.proofs.Lists.{total-snoc}
use Rattle.ca_commit.specs.Opening.{unasked}
use Rattle.ca_table.specs.Draws.{drawn_moves}
use Rattle.ca_table.specs.Moments.{ClockWent}
use Rattle.ca_table.specs.Opening.{opening_list}
use Rattle.ca_table.specs.Parts.{part_seen}
use Rattle.ca_table.specs.Running.{shown_by}
use Rattle.ca_table.specs.Workers.{IsOpenedWith, IsReady, stands_for}
use Rattle.ca_table.specs.Worked.{HasMainEnd, RanAlone, any_drew, ends_main, fails_clock, gives_up, obeys_mark, stays_stuck}
use Rattle.ca_table.proofs.ClockRuns.{clock_whole}
use Rattle.ca_table.proofs.Gathers.{gathered}
use Rattle.ca_table.proofs.Endings.{ends_whole, main_whole, marked_whole}
use Rattle.ca_table.proofs.Having.{all_turns, of_all}
use Rattle.ca_table.proofs.LoneRun.{all_of_one, ran_alone}
use Rattle.ca_table.proofs.ShownAll.{shows_all}
use Rattle.ca_table.proofs.Spending.{spent_all}
use Rattle.ca_table.proofs.gathering.gather.Goals as goal

pub join_all-hand-requires-clause-ready : goal.join_all-hand-requires-clause-ready
join_all-hand-requires-clause-ready g c = let xs = c.args.workers.items in let ys = c.pop.new.self.items in let first = c.in-Some.first in let P = program_view c.args.program.now in let K = valid_code c.args.code.now in let n = length xs in
    let popped = c.pop.ensures.items ∙ ap (λ o. ys ++ option_to_list o) c.in-Some.is in
    let both = All-pop (IsReady g.A.Agent.over g.A.Agent.stands P K c.args.table.id n) xs ys (Some first) popped c.requires.ready in
    (n, both.1, both.0)

pub merge-requires : goal.merge-requires
merge-requires g c = let xs = c.args.workers.items in let ys = c.pop.new.self.items in let first = c.in-Some.first in let P = program_view c.args.program.now in let K = valid_code c.args.code.now in let n = length xs in
    let popped = c.pop.ensures.items ∙ ap (λ o. ys ++ option_to_list o) c.in-Some.is in
    let both = All-pop (IsReady g.A.Agent.over g.A.Agent.stands P K c.args.table.id n) xs ys (Some first) popped c.requires.ready in
    let j = c.join_all-hand.ensures.joined n both.1 both.0 in j.ascends

pub close-closed-requires-clause-table : goal.close-closed-requires-clause-table
close-closed-requires-clause-table g c = let xs = c.args.workers.items in let ys = c.pop.new.self.items in let first = c.in-Some.first in let P = program_view c.args.program.now in let K = valid_code c.args.code.now in let n = length xs in
    let popped = c.pop.ensures.items ∙ ap (λ o. ys ++ option_to_list o) c.in-Some.is in
    let both = All-pop (IsReady g.A.Agent.over g.A.Agent.stands P K c.args.table.id n) xs ys (Some first) popped c.requires.ready in
    let j = c.join_all-hand.ensures.joined n both.1 both.0 in j.table

pub close-closed-requires-clause-all : goal.close-closed-requires-clause-all
close-closed-requires-clause-all g c = let xs = c.args.workers.items in let ys = c.pop.new.self.items in let first = c.in-Some.first in let P = program_view c.args.program.now in let K = valid_code c.args.code.now in let n = length xs in
    let popped = c.pop.ensures.items ∙ ap (λ o. ys ++ option_to_list o) c.in-Some.is in
    let both = All-pop (IsReady g.A.Agent.over g.A.Agent.stands P K c.args.table.id n) xs ys (Some first) popped c.requires.ready in
    let j = c.join_all-hand.ensures.joined n both.1 both.0 in let less = ap (total stands_for) popped ∙ total-snoc stands_for ys first in let all = c.requires.all in let count = j.counted in let hands = j.opened_for in omega (arith, less, all, count, hands)

pub close-closed-requires-clause-nothing : goal.close-closed-requires-clause-nothing
close-closed-requires-clause-nothing g c = let xs = c.args.workers.items in let ys = c.pop.new.self.items in let first = c.in-Some.first in let P = program_view c.args.program.now in let K = valid_code c.args.code.now in let n = length xs in
    let popped = c.pop.ensures.items ∙ ap (λ o. ys ++ option_to_list o) c.in-Some.is in
    let both = All-pop (IsReady g.A.Agent.over g.A.Agent.stands P K c.args.table.id n) xs ys (Some first) popped c.requires.ready in
    let j = c.join_all-hand.ensures.joined n both.1 both.0 in j.nothing

pub returns-clause-shown : goal.returns-clause-shown
returns-clause-shown g c = let xs = c.args.workers.items in let ys = c.pop.new.self.items in let first = c.in-Some.first in let P = program_view c.args.program.now in let K = valid_code c.args.code.now in let n = length xs in
    let popped = c.pop.ensures.items ∙ ap (λ o. ys ++ option_to_list o) c.in-Some.is in
    let both = All-pop (IsReady g.A.Agent.over g.A.Agent.stands P K c.args.table.id n) xs ys (Some first) popped c.requires.ready in
    let j = c.join_all-hand.ensures.joined n both.1 both.0 in let h = c.close-closed.ensures.history in let hand = c.join_all-hand.result in
    let same = c.in_ok-journal.ensures ∙ ap (λ es. events_of (in_order es)) j.notes ∙ gathered hand.view h.0 h.1.numbered h.2 in
    shows_all xs hand.view h.0 h.1.numbered h.1.mine h.2 (all_turns ys first xs popped c.join_all-hand.ensures.turns) same

pub returns-clause-run : goal.returns-clause-run
returns-clause-run g c = let xs = c.args.workers.items in let ys = c.pop.new.self.items in let first = c.in-Some.first in let P = program_view c.args.program.now in let K = valid_code c.args.code.now in let n = length xs in
    let popped = c.pop.ensures.items ∙ ap (λ o. ys ++ option_to_list o) c.in-Some.is in
    let both = All-pop (IsReady g.A.Agent.over g.A.Agent.stands P K c.args.table.id n) xs ys (Some first) popped c.requires.ready in
    let j = c.join_all-hand.ensures.joined n both.1 both.0 in let a = g.A.Agent in let m = g.met.A.Agent in let h = c.close-closed.ensures.history in let hand = c.join_all-hand.result in
    let same = c.in_ok-journal.ensures ∙ ap (λ es. events_of (in_order es)) j.notes ∙ gathered hand.view h.0 h.1.numbered h.2 in
    let r = ends_whole a.over a.place a.stands a.advances a.gives a.starts m.advanced m.answered m.started P K n hand.view j.knows h.0 _ h.1 in
    let drawn = of_all stays_stuck ys first xs popped c.join_all-hand.ensures.turns in
    (r.0, subst (λ es. Reaches P es r.0) (sym same) r.1, r.2, λ e. r.3 (sym drawn ∙ e))

pub returns-clause-main : goal.returns-clause-main
returns-clause-main g c = let xs = c.args.workers.items in let ys = c.pop.new.self.items in let first = c.in-Some.first in let P = program_view c.args.program.now in let K = valid_code c.args.code.now in let n = length xs in
    let popped = c.pop.ensures.items ∙ ap (λ o. ys ++ option_to_list o) c.in-Some.is in
    let both = All-pop (IsReady g.A.Agent.over g.A.Agent.stands P K c.args.table.id n) xs ys (Some first) popped c.requires.ready in
    let j = c.join_all-hand.ensures.joined n both.1 both.0 in let a = g.A.Agent in let m = g.met.A.Agent in let h = c.close-closed.ensures.history in let hand = c.join_all-hand.result in
    let same = c.in_ok-journal.ensures ∙ ap (λ es. events_of (in_order es)) j.notes ∙ gathered hand.view h.0 h.1.numbered h.2 in
    let drawn = of_all ends_main ys first xs popped c.join_all-hand.ensures.turns in
    λ e. subst HasMainEnd (sym same) (main_whole a.over a.place a.stands a.advances a.gives a.starts m.advanced m.answered m.started P K n hand.view j.knows h.0 _ h.1 (sym drawn ∙ e))

pub returns-clause-marked : goal.returns-clause-marked
returns-clause-marked g c = let xs = c.args.workers.items in let ys = c.pop.new.self.items in let first = c.in-Some.first in let P = program_view c.args.program.now in let K = valid_code c.args.code.now in let n = length xs in
    let popped = c.pop.ensures.items ∙ ap (λ o. ys ++ option_to_list o) c.in-Some.is in
    let both = All-pop (IsReady g.A.Agent.over g.A.Agent.stands P K c.args.table.id n) xs ys (Some first) popped c.requires.ready in
    let j = c.join_all-hand.ensures.joined n both.1 both.0 in let a = g.A.Agent in let m = g.met.A.Agent in let h = c.close-closed.ensures.history in let hand = c.join_all-hand.result in
    let same = c.in_ok-journal.ensures ∙ ap (λ es. events_of (in_order es)) j.notes ∙ gathered hand.view h.0 h.1.numbered h.2 in
    let halted = of_all obeys_mark ys first xs popped c.join_all-hand.ensures.turns in
    let stopped = of_all gives_up ys first xs popped c.join_all-hand.ensures.turns in
    λ none e. subst HasMainEnd (sym same) (marked_whole a.over a.place a.stands a.advances a.gives a.starts m.advanced m.answered m.started P K n hand.view j.knows h.0 _ h.1 h.2 (sym stopped ∙ none) (sym halted ∙ e))

pub returns-clause-clock : goal.returns-clause-clock
returns-clause-clock g c = λ main least faults readings opened. let xs = c.args.workers.items in let ys = c.pop.new.self.items in let first = c.in-Some.first in let P = program_view c.args.program.now in let K = valid_code c.args.code.now in let n = length xs in
    let popped = c.pop.ensures.items ∙ ap (λ o. ys ++ option_to_list o) c.in-Some.is in
    let both = All-pop (IsReady g.A.Agent.over g.A.Agent.stands P K c.args.table.id n) xs ys (Some first) popped c.requires.ready in
    let j = c.join_all-hand.ensures.joined n both.1 both.0 in let a = g.A.Agent in let m = g.met.A.Agent in let h = c.close-closed.ensures.history in let hand = c.join_all-hand.result in
    let same = c.in_ok-journal.ensures ∙ ap (λ es. events_of (in_order es)) j.notes ∙ gathered hand.view h.0 h.1.numbered h.2 in
    let with_clock = All-pop (IsOpenedWith (opening_list n K c.args.program.now main (unasked least faults readings))) xs ys (Some first) popped opened in
    let r = clock_whole a.over a.place a.stands a.advances a.gives a.starts m.advanced m.answered m.started P K n hand.view j.knows h.0 _ h.1 c.args.program.now main least faults readings (c.join_all-hand.ensures.opening ∙ with_clock.1) in
    let failed = of_all fails_clock ys first xs popped c.join_all-hand.ensures.turns in
    (r.0, r.1, subst (λ es. ClockWent least faults readings es (any_drew fails_clock xs) r.0) (sym same) (subst (λ b. ClockWent least faults readings (shown_by h.0) b r.0) (sym failed) r.2))

pub returns-clause-spent : goal.returns-clause-spent
returns-clause-spent g c = let xs = c.args.workers.items in let ys = c.pop.new.self.items in let first = c.in-Some.first in
    let popped = c.pop.ensures.items ∙ ap (λ o. ys ++ option_to_list o) c.in-Some.is in
    spent_all c.join_all-hand.new.lists.items ys first xs c.in_ok-journal.ensures popped c.join_all-hand.ensures.spent

pub returns-clause-alone : goal.returns-clause-alone
returns-clause-alone g c = λ single. let xs = c.args.workers.items in let ys = c.pop.new.self.items in let first = c.in-Some.first in let P = program_view c.args.program.now in let K = valid_code c.args.code.now in let n = length xs in
    let popped = c.pop.ensures.items ∙ ap (λ o. ys ++ option_to_list o) c.in-Some.is in
    let both = All-pop (IsReady g.A.Agent.over g.A.Agent.stands P K c.args.table.id n) xs ys (Some first) popped c.requires.ready in
    let j = c.join_all-hand.ensures.joined n both.1 both.0 in let a = g.A.Agent in let k = g.C.Clock in let h = c.close-closed.ensures.history in let hand = c.join_all-hand.result in
    let moves = drawn_moves a.over a.place a.advances a.gives a.starts in let parts = map (part_seen k.least k.faults k.readings) c.close-closed.result.parts.items in
    let alone : hands_stood_for hand.view ≡ hand.view.hands = (let less = ap (total stands_for) popped ∙ total-snoc stands_for ys first in let all = c.requires.all in let count = j.counted in let hands = j.opened_for in omega (arith, less, all, count, hands)) in
    all_of_one (RanAlone moves (events c.in_ok-journal.journal) parts) xs ys first popped single
    (λ none. ran_alone moves first (events c.in_ok-journal.journal) h.0 parts hand (c.join_all-hand.ensures.alone none) h.1 alone both.1.one.above (c.in_ok-journal.ensures ∙ ap (λ es. events_of (in_order es)) j.notes))
