use Rattle.std.proofs.Common.{OnOk, subst}
use Rattle.ca_meaning.specs.Wait.{port_of, side_of, told}
use Rattle.ca_bank.specs.Bank.{kept_at}
use Rattle.ca_bank.specs.declared.bank.Bank.{Bank}
use Rattle.ca_commit.specs.InPlace.{GoesOnAnswered}
use Rattle.ca_commit.specs.Standing.{branch_no}
use Rattle.ca_commit.specs.Waking.{passing}
use Rattle.ca_commit.proofs.in_place.meet.Goals as goal

pub returns-clause-task : goal.returns-clause-task
returns-clause-task g c =
    let b = branch_no (g.A.Agent.place c.args.task.now.agent) c.args.number in
    subst (λ (z : Bank). OnOk c.meet_in.result (GoesOnAnswered g.A.Agent.place g.A.Agent.gives (port_of b) (told (side_of b) (passing (kept_at z (port_of b)) b)) c.args.task.now c.meet_in.new.task)) c.deref_mut.ensures.value c.meet_in.ensures.task
