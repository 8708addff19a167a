use Rattle.std.proofs.Common.{◌∙◌, arith}
use Rattle.ca_journal.proofs.Leaving.{started}
use Rattle.ca_journal.proofs.walk.starts.Goals as goal

pub loop-list-preserved : goal.loop-list-preserved
loop-list-preserved c =
    let inv = c.loop-list.invariant in (
      omega (arith, inv.0, c.push_reserved.ensures.len, c.loop-list.fronts.ok, c.push_reserved.new.self.ok),
      c.push_reserved.ensures.capacity ∙ inv.1,
      started c.args.lists.now c.loop-list.fronts.items c.push_reserved.new.self.items c.loop-list.list c.loop-list-test.true c.push_reserved.ensures.items inv.2,
    )
