use Rattle.std.proofs.Common.{arith, ◌≡◌, ◌+◌, List, [], map, drop, ap, sym, ◌∙◌, subst, length}
use Rattle.std.proofs.lemmas.Grind.{common_steps}
use Rattle.ca_term.specs.Event.{branch_view}
use Rattle.ca_term.specs.declared.event.Branch.{Branch}
use Rattle.ca_meaning.specs.Wait.{port_of, side_of}
use Rattle.ca_commit.specs.Contents.{whole}
use Rattle.ca_commit.specs.Parking.{QueuesTake}
use Rattle.ca_commit.specs.Showing.{channels_held, spares_held}
use Rattle.ca_commit.proofs.Parkings.{drop_item, follows_step, grown_same, room_for, same_there}
use Rattle.ca_commit.proofs.parking.reserve_queues.Goals as goal

pub loop-branch-preserved : goal.loop-branch-preserved
loop-branch-preserved c =
    let i = c.loop-branch.branch-index in
    let xs = c.args.branches.now in
    let x = c.branch-item.result in
    let rest = drop_item xs i x c.loop-branch-test.true c.branch-item.is in
    record {
      channels = λ j. c.reserve_queue.ensures.channels j ∙ c.loop-branch.invariant.channels j;
      registries = λ j. c.reserve_queue.ensures.registries j ∙ c.loop-branch.invariant.registries j;
      room = follows_step (whole (channels_held c.args.banks.now)) (length xs) (whole (spares_held c.loop-branch.banks)) (whole (spares_held c.reserve_queue.new.banks)) (branch_view x) (map branch_view (drop i xs)) (map branch_view (drop (i + 1) xs)) (map branch_view xs) (ap (λ (zs : List Branch). map branch_view zs) rest) c.reserve_queue.ensures.more
          (λ there. room_for (channels_held c.loop-branch.banks) (whole (spares_held c.reserve_queue.new.banks)) (length xs) c.side_in.result (side_of (branch_view x)) c.port_in.result.n (port_of (branch_view x)) c.port_in.ensures c.side_in.ensures c.in_ok-reserve_queue.ensures.room
          (same_there (channels_held c.args.banks.now) (channels_held c.loop-branch.banks) (port_of (branch_view x)) c.loop-branch.invariant.channels there)) c.loop-branch.invariant.room;
    }

pub returns-clause-room : goal.returns-clause-room
returns-clause-room c =
    let xs = c.args.branches.now in
    let none : drop c.loop-branch.branch-index xs ≡ [] = grind (arith, common_steps) in
    let ports = whole (channels_held c.args.banks.now) in
    let spares = whole (spares_held c.loop-branch.banks) in
    c.loop-branch.invariant.room spares (grown_same spares) (subst (λ (zs : List Branch). QueuesTake (length xs) ports spares (map branch_view zs)) (sym none) tt)
