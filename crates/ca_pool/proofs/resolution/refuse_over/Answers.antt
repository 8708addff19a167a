use Rattle.std.proofs.Common.{◌≡◌, ℕ, Some, refl}
use Rattle.std.specs.Prelude.{option_map}
use Rattle.ca_term.specs.Event.{port_number}
use Rattle.ca_table.proofs.Drawing.{drew_none}
use Rattle.ca_pool.proofs.BanksHeld.{has_banks}
use Rattle.ca_pool.proofs.Resolutions.{named_held}
use Rattle.ca_pool.proofs.LoneSteps.{stayed_nothing}
use Rattle.ca_pool.proofs.resolution.refuse_over.Goals as goal

pub returns-then-has_bank-clause-drew : goal.returns-then-has_bank-clause-drew
returns-then-has_bank-clause-drew g c = drew_none (record { number = refl; workers = refl; program = refl; code = refl }) (record { same = record { table = refl; opening = refl; hands = refl; stands_for = refl }; turns = refl })

pub returns-then-has_bank-clause-took : goal.returns-then-has_bank-clause-took
returns-then-has_bank-clause-took g c = record { holds = c.requires.held; these = c.requires.these; carries = λ program n l s. s }

pub returns-then-has_bank-clause-resolved : goal.returns-then-has_bank-clause-resolved
returns-then-has_bank-clause-resolved g c = let wanted = c.args.wanted.now in let held = c.args.held.now in let task = c.args.task.now in record {
  plan_for = c.requires.planned;
  copies = tt;
  decided = tt;
  seen = tt;
  named = named_held g.A.Agent.place wanted.banks wanted.shards held task c.requires.these c.requires.wants;
  result = λ f e. has_banks held wanted.banks (λ (q : ℕ). option_map port_number task.result ≡ Some q) c.requires.these.banks (c.has_bank.ensures c.if-has_bank.true);
}

pub returns-then-has_bank-clause-stayed : goal.returns-then-has_bank-clause-stayed
returns-then-has_bank-clause-stayed g c = stayed_nothing c.args.worker.now
