use Rattle.ca_value.specs.View.{view}
use Rattle.ca_bank.specs.Bank.{kept_at}
use Rattle.ca_bank.specs.Kept.{pruned}
use Rattle.ca_commit.specs.Settling.{channel_filled}
use Rattle.ca_commit.proofs.InPlace.{registries_again, same_again}
use Rattle.ca_commit.proofs.Twice.{turned_twice}
use Rattle.ca_commit.proofs.settle_in_place.change_settled.Goals as goal

pub returns : goal.returns
returns c = (
  turned_twice c.args.port.n (channel_filled c.args.side (view c.args.value)) (pruned c.args.side 0) (kept_at c.args.bank.now) (kept_at c.fill.new.bank) (kept_at c.prune.new.self) c.fill.ensures.0 c.prune.ensures.kept,
  same_again c.args.bank.now c.fill.new.bank c.prune.new.self c.fill.ensures.1 c.prune.ensures.same,
  registries_again c.args.bank.now c.fill.new.bank c.prune.new.self c.fill.ensures.2 c.prune.ensures.others,
)
