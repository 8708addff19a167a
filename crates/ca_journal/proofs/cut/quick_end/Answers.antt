use Rattle.std.proofs.Common.{◌≡◌, ◌≤◌, ◌<◌, List, length, map, Some, sym, ◌∙◌, ap, arith}
use Rattle.ca_term.specs.Event.{EventView}
use Rattle.ca_meaning.specs.Cost.{cost}
use Rattle.ca_journal.specs.Cut.{main_end, end_in}
use Rattle.ca_journal.specs.Events.{events}
use Rattle.ca_journal.specs.Latest.{latest}
use Rattle.ca_journal.specs.Mains.{mains}
use Rattle.ca_journal.specs.Merge.{entries, entry_view, events_of, in_order, joined}
use Rattle.ca_journal.specs.Note.{note_view}
use Rattle.ca_journal.proofs.QuickLists.{all_kept, no_end, end_is_last}
use Rattle.ca_journal.proofs.Rising.{all_rise_ascend}
use Rattle.ca_journal.proofs.cut.quick_end.Goals as goal

pub returns-then-ends-eq0 : goal.returns-then-ends-eq0
returns-then-ends-eq0 c =
    let lists = map entries c.args.journal.now.lists.items in
    let less : c.tally_of-spent.result.0 < c.args.budget = omega (arith, c.if-budget-spent.false) in
    let costs : cost (events_of (joined lists)) ≤ c.tally_of-spent.result.0 = rw c.as_slice.ensures.value at (c.tally_of-spent.ensures.spent (omega (arith, less, c.ranges.budget.fits))) in
    let none : mains (events_of (joined lists)) ≡ 0 = (rw c.as_slice.ensures.value at (c.tally_of-spent.ensures.ends (omega (arith, c.if-ends-eq0.true)))) ∙ c.if-ends-eq0.true in
    ap (λ (es : List EventView). end_in c.args.budget es) (all_kept c.args.journal.now.kept (events_of (in_order (joined lists))) c.if-is_some.ensures) ∙ no_end lists c.tally_of-spent.result.0 c.args.budget costs less none

pub returns : goal.returns
returns c =
    let lists = map entries c.args.journal.now.lists.items in
    let all : events c.args.journal.now ≡ events_of (in_order (joined lists)) = all_kept c.args.journal.now.kept (events_of (in_order (joined lists))) c.if-is_some.ensures in
    let less : c.tally_of-spent.result.0 < c.args.budget = omega (arith, c.if-budget-spent.false) in
    let costs : cost (events_of (joined lists)) ≤ c.tally_of-spent.result.0 = rw c.as_slice.ensures.value at (c.tally_of-spent.ensures.spent (omega (arith, less, c.ranges.budget.fits))) in
    let is_one : c.tally_of-spent.result.1 ≡ 1 = omega (arith, c.if-ends-eq0.false, c.if-ends-gt1.false) in
    let one : mains (events_of (joined lists)) ≡ 1 = (rw c.as_slice.ensures.value at (c.tally_of-spent.ensures.ends (omega (arith, is_one)))) ∙ is_one in
    let last : latest lists ≡ Some (entry_view c.in_ok-last.last.now) = sym (rw c.as_slice-2.ensures.value at c.in_ok-last.ensures) in
    let over : main_end (note_view c.in_ok-last.last.now.note) ≡ Some c.in_ok-at.at = sym c.in_ok-at.ensures in
    ap (λ (es : List EventView). end_in c.args.budget es) all ∙ end_is_last lists c.tally_of-spent.result.0 c.args.budget (entry_view c.in_ok-last.last.now) c.in_ok-at.at (all_rise_ascend lists c.args.journal.now.rising) costs less one last over ∙ ap (λ (es : List EventView). Some (length es, c.in_ok-at.at)) (sym all)
