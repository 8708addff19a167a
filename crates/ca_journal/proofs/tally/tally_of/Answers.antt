use Rattle.std.proofs.Common.{◌≡◌, ◌+◌, ◌≤◌, drop, map, arith}
use Rattle.ca_meaning.specs.Cost.{cost}
use Rattle.ca_journal.specs.Mains.{mains}
use Rattle.ca_journal.specs.Merge.{entries, events_of, joined}
use Rattle.ca_journal.proofs.Tallying.{cost_step, mains_step}
use Rattle.ca_journal.proofs.tally.tally_of.Goals as goal

pub loop-list-preserved : goal.loop-list-preserved
loop-list-preserved c =
    let ls = c.args.lists.now in
    let i = c.loop-list.list-index in
    let l = c.list-item.result in
    record {
      spent = λ less.
          let sum : c.loop-list.spent + l.spent ≤ c.saturating_add-spent.result = omega (arith, c.saturating_add-spent.ensures, less) in
          let here : cost (events_of (entries l)) ≤ l.spent = l.counted (omega (arith, sum, less)) in
          let before : cost (events_of (joined (map entries ls))) ≤ c.loop-list.spent + cost (events_of (joined (map entries (drop i ls)))) = c.loop-list.invariant.spent (omega (arith, sum, less)) in
          omega (arith, sum, here, before, cost_step ls i l c.loop-list-test.true c.list-item.is);
      ends = λ less.
          let sum : c.loop-list.ends + l.ends ≡ c.saturating_add-ends.result = omega (arith, c.saturating_add-ends.ensures, less) in
          let here : mains (events_of (entries l)) ≡ l.ends = l.ended (omega (arith, sum, less)) in
          let before : mains (events_of (joined (map entries ls))) ≡ c.loop-list.ends + mains (events_of (joined (map entries (drop i ls)))) = c.loop-list.invariant.ends (omega (arith, sum, less)) in
          omega (arith, sum, here, before, mains_step ls i l c.loop-list-test.true c.list-item.is);
    }
