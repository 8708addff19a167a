use Rattle.std.proofs.Common.{sym, subst, OnOk}
use Rattle.ca_commit.specs.Applying.{IsMade}
use Rattle.ca_commit.specs.declared.planned.Plan.{Plan}
use Rattle.ca_commit.proofs.applying.reserve.Goals as goal

pub returns-in-Register-clause-made : goal.returns-in-Register-clause-made
returns-in-Register-clause-made g c = subst (λ (p : Plan). OnOk c.reserve_register.result (IsMade g.A.Agent.place c.reserve_register.new.held p)) (sym c.in-Register.is) c.reserve_register.ensures.made
