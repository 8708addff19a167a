use Rattle.std.proofs.Common.{◌≢◌, sym, ap, cond, Some, length, arith}
use Rattle.ca_value.specs.View.{trees}
use Rattle.ca_term.specs.declared.fault.Fault.TheVariants.{NotAPort}
use Rattle.ca_meaning.specs.Operands.{first_of, or_else, second_of}
use Rattle.ca_meaning.specs.Refusal.{nil_put, not_a_channel}
use Rattle.ca_registry.proofs.FitLaws.{not_a_pair}
use Rattle.ca_registry.proofs.fit.bad_pair.Goals as goal

pub returns-else-items-eq2 : goal.returns-else-items-eq2
returns-else-items-eq2 g c = let ne : length c.args.items.now ≢ 2 = omega arith in
    sym (ap (λ b. cond b (or_else (not_a_channel (g.P.Ports.state c.args.ports.now) (first_of (trees c.args.items.now))) (nil_put (second_of (trees c.args.items.now)))) (Some NotAPort)) (not_a_pair c.args.items.now ne))
