use Rattle.std.proofs.Common.{◌≡◌, List, ap, ◌∙◌, Some}
use Rattle.ca_value.specs.Seq.{list}
use Rattle.ca_value.specs.View.{trees, view}
use Rattle.ca_value.specs.declared.value.Value.{Value}
use Rattle.ca_meaning.specs.Operands.{rest_of}
use Rattle.ca_commit.specs.Entering.{registry_of}
use Rattle.ca_commit.specs.Showing.{registries_held}
use Rattle.ca_commit.proofs.Enterings.{answer_same, room_there}
use Rattle.ca_commit.proofs.entering.reserve_register.Goals as goal

pub returns-clause-made : goal.returns-clause-made
returns-clause-made g c =
    let all = trees (list c.args.args.now) in
    let p = c.registry-port.result.n in
    let r = trees c.rest-rest.result.now in
    let port : p ≡ registry_of all = c.registry-port.ensures ∙ ap (λ (z : List Value). registry_of (trees z)) c.as_slice.ensures in
    let rest : r ≡ rest_of all = c.rest-rest.ensures ∙ ap (λ (z : List Value). rest_of (trees z)) c.as_slice-2.ensures in
    let m = registries_held c.args.held.now.banks in
    let m2 = registries_held c.reserve_members.new.banks in (
      ap Some (answer_same c.args.name p (registry_of all) r (rest_of all) port rest m m2 (view c.in_ok-value.value) c.reserve_members.ensures.registries c.in_ok-value.ensures),
      ap Some (answer_same c.args.name p (registry_of all) r (rest_of all) port rest m m2 (view c.in_ok-again.again) c.reserve_members.ensures.registries (c.in_ok-again.ensures ∙ c.in_ok-value.ensures)),
      room_there c.args.name p (registry_of all) r (rest_of all) port rest c.reserve_members.new.banks m m2 c.reserve_members.ensures.registries c.in_ok-reserve_members.ensures.room,
    )
