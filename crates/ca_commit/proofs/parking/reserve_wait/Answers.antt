use Rattle.std.proofs.Common.{List, length, map, subst}
use Rattle.ca_value.specs.Seq.{list}
use Rattle.ca_term.specs.declared.event.Branch.{Branch}
use Rattle.ca_term.specs.Event.{branch_view}
use Rattle.ca_commit.specs.Contents.{whole}
use Rattle.ca_commit.specs.Parking.{QueuesTake}
use Rattle.ca_commit.specs.Showing.{channels_held, spares_held}
use Rattle.ca_commit.proofs.Outcomes.{on_ok}
use Rattle.ca_commit.proofs.Parkings.{all_take}
use Rattle.ca_commit.proofs.parking.reserve_wait.Goals as goal

pub returns-clause-made : goal.returns-clause-made
returns-clause-made g c =
    let ports = whole (channels_held c.args.held.now.banks) in
    let spares = whole (spares_held c.reserve_queues.new.banks) in
    let takes = subst (λ (zs : List Branch). QueuesTake (length zs) ports spares (map branch_view zs)) c.as_slice.ensures c.in_ok-reserve_queues.ensures.room in
    on_ok c.reserve_shard.result (λ room. (all_take (list c.args.joining.now.branches) (channels_held c.args.held.now.banks) (channels_held c.reserve_queues.new.banks) spares c.reserve_queues.ensures.channels takes, room)) c.reserve_shard.ensures.room
