use Rattle.std.proofs.Common.{ap, Some, option_map}
use Rattle.ca_value.specs.View.{view}
use Rattle.ca_bank.specs.Bank.{kept_at}
use Rattle.ca_commit.specs.Settling.{value_settled}
use Rattle.ca_commit.specs.Showing.{parked_view, waits_of}
use Rattle.ca_commit.specs.Tasks.{tasks_in}
use Rattle.ca_commit.proofs.InPlace.{wakes_served}
use Rattle.ca_commit.proofs.settle_in_place.settle_in_bank.Goals as goal

pub returns-clause-wakes : goal.returns-clause-wakes
returns-clause-wakes g c = wakes_served g.A.Agent.place g.A.Agent.gives (kept_at c.args.bank.now) c.args.side c.args.port.n (view c.in_ok-value.value) (view c.in_ok-theirs.theirs) (value_settled c.args.side (kept_at c.args.bank.now c.args.port.n))
    (waits_of c.args.shard.now c.args.partner.wait.n) (option_map parked_view c.take_wait-parked.result) c.in_ok-woken.woken (Some (tasks_in c.args.ready.now)) (Some (tasks_in c.reserve.new.self)) (Some (tasks_in c.wake_in.new.ready))
    c.in_ok-value.ensures c.in_ok-theirs.ensures c.in_ok-woken.ensures c.take_wait-parked.ensures.parked (ap Some c.reserve.ensures.tasks) c.wake_in.ensures
