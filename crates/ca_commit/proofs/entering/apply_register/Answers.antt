use Rattle.std.proofs.Common.{◌≡◌, List, sym, ap, ◌∙◌}
use Rattle.ca_value.specs.Seq.{list}
use Rattle.ca_value.specs.View.{trees}
use Rattle.ca_value.specs.declared.value.Value.{Value}
use Rattle.ca_meaning.specs.Operands.{rest_of}
use Rattle.ca_commit.specs.Entering.{registry_of}
use Rattle.ca_commit.proofs.Enterings.{room_same}
use Rattle.ca_commit.proofs.entering.apply_register.Goals as goal

pub register-requires-clause-room : goal.register-requires-clause-room
register-requires-clause-room g c =
    let port : c.registry-port.result.n ≡ registry_of (trees (list c.args.args)) = c.registry-port.ensures ∙ ap (λ (z : List Value). registry_of (trees z)) c.as_slice.ensures in
    let rest : trees (list c.into_rest.result) ≡ rest_of (trees (list c.args.args)) = c.into_rest.ensures ∙ ap rest_of c.requires.twice in
    room_same c.args.name (registry_of (trees (list c.args.args))) c.registry-port.result.n (rest_of (trees (list c.args.args))) (trees (list c.into_rest.result)) (sym port) (sym rest) c.args.held.now.banks (c.requires.made.2 c.requires.there)
