use Rattle.std.proofs.Common.{arith, ◌≡◌, ◌+◌, List, [], map, drop, ap, sym, ◌∙◌}
use Rattle.std.proofs.lemmas.Grind.{common_steps}
use Rattle.ca_value.specs.declared.value.PortId.{PortId}
use Rattle.ca_term.specs.Event.{port_number}
use Rattle.ca_commit.specs.Showing.{channels_held}
use Rattle.ca_commit.specs.Ticking.{closed_all}
use Rattle.ca_commit.proofs.Dues.{closed_step}
use Rattle.ca_commit.proofs.Parkings.{drop_first}
use Rattle.ca_commit.proofs.clock.close_all.Goals as goal

pub loop-port-preserved : goal.loop-port-preserved
loop-port-preserved c =
    let i = c.loop-port.port-index in
    let xs = c.args.ports.now in
    record {
      channels = λ j. closed_step _ (map port_number (drop (i + 1) xs)) (map port_number (drop i xs)) (channels_held c.loop-port.banks) (channels_held c.close.new.banks) (ap (λ (zs : List PortId). map port_number zs) (drop_first xs i _ c.loop-port-test.true)) c.close.ensures.channels j ∙ c.loop-port.invariant.channels j;
      registries = λ j. c.close.ensures.registries j ∙ c.loop-port.invariant.registries j;
    }

pub returns-clause-channels : goal.returns-clause-channels
returns-clause-channels c = λ j.
    let none : drop c.loop-port.port-index c.args.ports.now ≡ [] = grind (arith, common_steps) in
    sym (ap (λ (zs : List PortId). closed_all (map port_number zs) (channels_held c.loop-port.banks) j) none) ∙ c.loop-port.invariant.channels j
