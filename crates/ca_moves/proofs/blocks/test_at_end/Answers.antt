use Rattle.std.proofs.Common.{◌≡◌, ◌-◌, ◌<◌, length, get_or}
use Rattle.ca_moves.proofs.Doing.{test_stands}
use Rattle.ca_moves.proofs.blocks.test_at_end.Goals as goal

pub returns-clause-instrs : goal.returns-clause-instrs
returns-clause-instrs c =
    let is = c.args.instrs.now in
    let n = c.saturating_sub.result in
    let last = c.in_ok-last.last.now in
    let en : n ≡ length is - 1 = c.saturating_sub.ensures in
    let lt : n < length is = c.in_ok-last.ensures.lookup.3.0 in
    let found : last ≡ get_or is n last = c.in_ok-last.ensures.lookup.1 in
    test_stands is n last c.args.exit c.in-Branch.slot c.in-Branch.yes c.in-Branch.no c.test_by.result en lt found c.in-Branch.is c.test_by.ensures
