use Rattle.std.proofs.Common.{◌∙◌, ap}
use Rattle.ca_commit.specs.Settling.{served_in}
use Rattle.ca_commit.specs.Showing.{channels_held}
use Rattle.ca_follow.proofs.Settled.{once, once_same}
use Rattle.ca_follow.proofs.follower.Follower.settled_once.Goals as goal

pub returns-clause-settled : goal.returns-clause-settled
returns-clause-settled c = let e = c.reserve_settle.ensures in
    once c.args.self.now c.reserve_settle.new.held c.settle_next.new.held c.args.port.n c.settle_next.result c.requires.follower e.channels e.registries e.shards e.ready e.numbers c.settle_next.ensures

pub returns-clause-channels : goal.returns-clause-channels
returns-clause-channels c is i = let d = c.reserve_settle.new.held in
    ap (λ z. channels_held z.banks i) (once_same d c.settle_next.new.held c.args.port.n (served_in d c.args.port.n) c.settle_next.result c.settle_next.ensures is) ∙ c.reserve_settle.ensures.channels i
