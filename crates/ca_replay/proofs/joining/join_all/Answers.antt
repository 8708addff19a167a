use Rattle.std.proofs.Common.{◌≡◌, ap, sym, ◌∙◌, ◌+◌, map, drop, rules}
use Rattle.ca_term.specs.Event.{branch_view}
use Rattle.ca_meaning.specs.Wait.{side_of, port_of, brought}
use Rattle.ca_replay.specs.Changes.{mapped_at}
use Rattle.ca_replay.specs.Rooms.{rooms_kept, join, join_rooms}
use Rattle.ca_replay.proofs.Joinings.{joins_next}
use Rattle.ca_replay.proofs.joining.join_all.Goals as goal

pub loop-i-preserved : goal.loop-i-preserved
loop-i-preserved c =
    let done : rooms_kept c.join_one.new.rooms ≡ mapped_at (rooms_kept c.loop-i.rooms) (port_of (branch_view c.index-branches-i.result)) (join (side_of (branch_view c.index-branches-i.result)) (record { wait = c.args.wait; branch = c.loop-i.i; value = brought (branch_view c.index-branches-i.result) })) = search rules in
    ap (join_rooms c.args.wait (c.loop-i.i + 1) (map branch_view (drop (c.loop-i.i + 1) c.args.branches.now))) done
    ∙ sym (joins_next c.args.wait c.args.branches.now c.loop-i.i c.index-branches-i.result c.index-branches-i.is c.loop-i-test.true (rooms_kept c.loop-i.rooms))
    ∙ c.loop-i.invariant
