use Rattle.std.proofs.Common.{◌≡◌, Some, None, refl, sym, ap, ◌∙◌, rules, map, nat_eq}
use Rattle.std.specs.List.{IsDistinct}
use Rattle.indexmap.specs.IndexMap.{get, insert_entry, keys}
use Rattle.ca_value.specs.Seq.{list}
use Rattle.ca_term.specs.Event.{branch_view}
use Rattle.ca_replay.specs.Rooms.{rooms_kept, leave_all}
use Rattle.ca_replay.proofs.TakenOut.{live_there, gone_none, gone_nothing, gone_state, gone_scene, gone_owner}
use Rattle.ca_replay.proofs.completing.take_out.Goals as goal

pub unreachable-requires : goal.unreachable-requires
unreachable-requires c =
    let at : c.in_ok-old.field-0 ≡ get nat_eq c.args.scene.now.waits c.args.wait = search rules in
    gone_none (live_there c.args.wait c.args.scene.now.waits.entries c.requires.scene.distinct c.requires.live) (sym at ∙ c.in_default.is)

pub unreachable-requires-in_default-old : goal.unreachable-requires-in_default-old
unreachable-requires-in_default-old c =
    let at : c.in_ok-old.field-0 ≡ get nat_eq c.args.scene.now.waits c.args.wait = search rules in
    gone_nothing (live_there c.args.wait c.args.scene.now.waits.entries c.requires.scene.distinct c.requires.live) (sym at ∙ c.in-Some.is ∙ ap (λ o. Some o) c.in_default-old.is)

pub returns-clause-owner : goal.returns-clause-owner
returns-clause-owner c =
    let at : c.in_ok-old.field-0 ≡ get nat_eq c.args.scene.now.waits c.args.wait = search rules in
    let there : get nat_eq c.args.scene.now.waits c.args.wait ≡ Some (Some c.in-Some-old.waiting) = sym at ∙ c.in-Some.is ∙ ap (λ o. Some o) c.in-Some-old.is in
    gone_owner c.args.scene.now c.args.wait c.in-Some-old.waiting c.requires.scene there

pub returns-clause-state : goal.returns-clause-state
returns-clause-state c =
    let es : c.insert.new.self.entries ≡ insert_entry nat_eq c.args.scene.now.waits.entries c.args.wait None = search rules in
    let at : c.in_ok-old.field-0 ≡ get nat_eq c.args.scene.now.waits c.args.wait = search rules in
    let there : get nat_eq c.args.scene.now.waits c.args.wait ≡ Some (Some c.in-Some-old.waiting) = sym at ∙ c.in-Some.is ∙ ap (λ o. Some o) c.in-Some-old.is in
    let leaves : rooms_kept c.leave_all.new.rooms ≡ leave_all c.args.wait (map branch_view (list c.in-Some-old.waiting.branches)) (rooms_kept c.args.scene.now.rooms) = c.leave_all.ensures ∙ ap (λ bs. leave_all c.args.wait (map branch_view bs) (rooms_kept c.args.scene.now.rooms)) c.as_slice.ensures in
    gone_state c.args.scene.now (record c.args.scene.now { rooms = c.leave_all.new.rooms; waits = c.insert.new.self }) c.args.wait c.in-Some-old.waiting c.requires.scene there refl es leaves

pub returns-clause-scene : goal.returns-clause-scene
returns-clause-scene c =
    let es : c.insert.new.self.entries ≡ insert_entry nat_eq c.args.scene.now.waits.entries c.args.wait None = search rules in
    let at : c.in_ok-old.field-0 ≡ get nat_eq c.args.scene.now.waits c.args.wait = search rules in
    let there : get nat_eq c.args.scene.now.waits c.args.wait ≡ Some (Some c.in-Some-old.waiting) = sym at ∙ c.in-Some.is ∙ ap (λ o. Some o) c.in-Some-old.is in
    let leaves : rooms_kept c.leave_all.new.rooms ≡ leave_all c.args.wait (map branch_view (list c.in-Some-old.waiting.branches)) (rooms_kept c.args.scene.now.rooms) = c.leave_all.ensures ∙ ap (λ bs. leave_all c.args.wait (map branch_view bs) (rooms_kept c.args.scene.now.rooms)) c.as_slice.ensures in
    let distinct : IsDistinct nat_eq (keys c.insert.new.self) = search rules in
    gone_scene c.args.scene.now (record c.args.scene.now { rooms = c.leave_all.new.rooms; waits = c.insert.new.self }) c.args.wait c.in-Some-old.waiting c.requires.scene there refl es leaves distinct
