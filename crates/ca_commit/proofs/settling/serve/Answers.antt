use Rattle.std.proofs.Common.{option_map}
use Rattle.ca_meaning.specs.Wait.{told}
use Rattle.ca_commit.specs.Contents.{whole}
use Rattle.ca_commit.specs.Settling.{value_settled}
use Rattle.ca_commit.specs.Showing.{channels_held, parked_view, waits_held}
use Rattle.ca_commit.specs.Waking.{ready_in}
use Rattle.ca_commit.proofs.Woken.{wakes_from}
use Rattle.ca_commit.proofs.settling.serve.Goals as goal

pub returns-clause-wakes : goal.returns-clause-wakes
returns-clause-wakes g c = wakes_from g.A.Agent.place g.A.Agent.gives (whole (waits_held c.args.held.now.shards) c.args.wait.n) (option_map parked_view c.take_out-parked.result) c.args.port.n
    (told c.args.side (value_settled c.args.side (whole (channels_held c.args.held.now.banks) c.args.port.n)))
    c.args.held.now.spare.partner c.take-partner.result (ready_in c.args.held.now.ready) (ready_in c.wake.new.ready) c.requires.made.2 c.take_out-parked.ensures.parked c.take-partner.ensures.value c.wake.ensures
