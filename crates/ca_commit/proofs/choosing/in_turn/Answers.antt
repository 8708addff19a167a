use Rattle.std.proofs.Common.{rules, ◌<◌, length, sym, ◌∙◌}
use Rattle.ca_commit.specs.Choosing.{IsDecisive, IsIdle}
use Rattle.ca_commit.specs.Showing.{seen_by}
use Rattle.ca_commit.proofs.ChoosingLaws.{seen_decides, seen_passes}
use Rattle.ca_commit.proofs.choosing.in_turn.Goals as goal

pub returns-in-Alone-clause-choice : goal.returns-in-Alone-clause-choice
returns-in-Alone-clause-choice c =
    let decisive : IsDecisive c.look-sight.result = search rules in
    let within : c.loop-place.place < length c.args.ports.now = search rules in
    λ see rest. sym (c.loop-place.invariant see rest) ∙ seen_decides (seen_by c.args.banks.now see) c.args.ports.now c.loop-place.place c.look-sight.result rest decisive within (c.look-sight.ensures see)

pub loop-place-preserved : goal.loop-place-preserved
loop-place-preserved c =
    let idle : IsIdle c.look-sight.result = search rules in
    let within : c.loop-place.place < length c.args.ports.now = search rules in
    λ see rest. sym (seen_passes (seen_by c.args.banks.now see) c.args.ports.now c.loop-place.place c.look-sight.result rest idle within (c.look-sight.ensures see)) ∙ c.loop-place.invariant see rest
