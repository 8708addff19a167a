use Rattle.std.proofs.Common.{◌<◌, sym, ◌∙◌, length, arith}
use Rattle.std.proofs.lemmas.Grind.{common_steps}
use Rattle.ca_registry.proofs.FitLaws.{not_too_many, too_many}
use Rattle.ca_registry.proofs.fit.bad_choice.Goals as goal

pub returns-then-values-gt-MOST_PORTS : goal.returns-then-values-gt-MOST_PORTS
returns-then-values-gt-MOST_PORTS g c = sym (too_many (g.P.Ports.state c.args.ports.now) c.args.values.now (omega arith))

pub returns : goal.returns
returns g c = let some : 0 < length c.args.values.now = grind (arith, common_steps) in
    c.bad_ports.ensures ∙ sym (not_too_many (g.P.Ports.state c.args.ports.now) c.args.values.now some (omega arith))
