use Rattle.std.proofs.Common.{rules, arith, ◌≡◌, ◌+◌, suc, List, [], ◌∷◌, map, ap, sym, ◌∙◌, length}
use Rattle.std.proofs.lemmas.Grind.{common_steps}
use Rattle.std.specs.Vec.Iter.{into_iter_items}
use Rattle.ca_value.specs.Seq.{list}
use Rattle.ca_term.specs.Event.{branch_view}
use Rattle.ca_term.specs.declared.event.Branch.{Branch}
use Rattle.ca_meaning.specs.Wait.{port_of, side_of}
use Rattle.ca_commit.specs.Contents.{whole}
use Rattle.ca_commit.specs.Parking.{queued_from}
use Rattle.ca_commit.specs.Showing.{channels_held, spares_held}
use Rattle.ca_commit.proofs.Parkings.{first_takes, joined_room, queued_on, rest_takes, rest_there}
use Rattle.ca_commit.proofs.parking.queue_list.Goals as goal

pub queue_one-requires : goal.queue_one-requires
queue_one-requires c =
    let items : into_iter_items c.loop-branch.branch-iterator ≡ c.in-Some.branch ∷ into_iter_items c.next.new.self = search rules in
    first_takes (whole (channels_held c.args.banks.now)) (whole (spares_held c.loop-branch.banks)) (branch_view c.in-Some.branch) (map branch_view (into_iter_items c.next.new.self)) (map branch_view (into_iter_items c.loop-branch.branch-iterator)) (ap (λ (xs : List Branch). map branch_view xs) items) c.loop-branch.invariant.there c.loop-branch.invariant.room

pub loop-branch-preserved : goal.loop-branch-preserved
loop-branch-preserved c =
    let items : into_iter_items c.loop-branch.branch-iterator ≡ c.in-Some.branch ∷ into_iter_items c.next.new.self = search rules in
    let b = branch_view c.in-Some.branch in
    let rest = map branch_view (into_iter_items c.next.new.self) in
    let all = map branch_view (into_iter_items c.loop-branch.branch-iterator) in
    let is : all ≡ b ∷ rest = ap (λ (xs : List Branch). map branch_view xs) items in
    let many : length (into_iter_items c.loop-branch.branch-iterator) ≡ suc (length (into_iter_items c.next.new.self)) = ap (λ (xs : List Branch). length xs) items in
    let ports = whole (channels_held c.args.banks.now) in
    record {
      queued = λ i. queued_on c.args.wait.n c.loop-branch.number (c.loop-branch.number + 1) b rest all (channels_held c.loop-branch.banks) (channels_held c.queue_one.new.banks) is (omega arith) c.queue_one.ensures.channels i ∙ c.loop-branch.invariant.queued i;
      registries = λ i. c.queue_one.ensures.registries i ∙ c.loop-branch.invariant.registries i;
      there = rest_there ports b rest all is c.loop-branch.invariant.there;
      room = rest_takes ports (whole (spares_held c.loop-branch.banks)) (whole (spares_held c.queue_one.new.banks)) b rest all is (joined_room (port_of b) (side_of b) (spares_held c.loop-branch.banks) (spares_held c.queue_one.new.banks) c.queue_one.ensures.spares) c.loop-branch.invariant.room;
      small = omega (arith, many, c.loop-branch.invariant.small);
    }

pub returns-clause-channels : goal.returns-clause-channels
returns-clause-channels c = λ i.
    let none : into_iter_items c.loop-branch.branch-iterator ≡ [] = grind (arith, common_steps) in
    let first : into_iter_items c.into_iter-branch-iterator.result ≡ list c.args.handlers = search rules in
    sym (ap (λ (xs : List Branch). queued_from c.args.wait.n c.loop-branch.number (map branch_view xs) (channels_held c.loop-branch.banks) i) none) ∙ c.loop-branch.invariant.queued i
    ∙ ap (λ (xs : List Branch). queued_from c.args.wait.n 0 (map branch_view xs) (channels_held c.args.banks.now) i) first
