use Rattle.std.proofs.Common.{◌≡◌, Some, refl, ap, ◌∙◌, rules, map, nat_eq}
use Rattle.std.specs.List.{IsDistinct}
use Rattle.indexmap.specs.IndexMap.{insert_entry, keys}
use Rattle.ca_term.specs.Event.{branch_view}
use Rattle.ca_scene.specs.declared.scene.Waiting.{Waiting}
use Rattle.ca_replay.specs.Rooms.{rooms_kept, join_rooms}
use Rattle.ca_replay.proofs.JoinedWaits.{joined_state, joined_scene}
use Rattle.ca_replay.proofs.joining.join_wait.Goals as goal

pub returns-clause-state : goal.returns-clause-state
returns-clause-state c =
    let x : Waiting = record { owner = c.args.owner; branches = c.args.branches } in
    let joins : rooms_kept c.join_all.new.rooms ≡ join_rooms c.args.wait 0 (map branch_view c.as_slice.result.now) (rooms_kept c.args.scene.now.rooms) = search rules in
    let entries : c.insert.new.self.entries ≡ insert_entry nat_eq c.args.scene.now.waits.entries c.args.wait (Some x) = search rules in
    joined_state c.args.scene.now (record c.args.scene.now { rooms = c.join_all.new.rooms; waits = c.insert.new.self }) c.args.wait x c.requires.scene c.requires.new refl
    (joins ∙ ap (λ bs. join_rooms c.args.wait 0 (map branch_view bs) (rooms_kept c.args.scene.now.rooms)) c.as_slice.ensures) entries

pub returns-clause-scene : goal.returns-clause-scene
returns-clause-scene c =
    let x : Waiting = record { owner = c.args.owner; branches = c.args.branches } in
    let joins : rooms_kept c.join_all.new.rooms ≡ join_rooms c.args.wait 0 (map branch_view c.as_slice.result.now) (rooms_kept c.args.scene.now.rooms) = search rules in
    let entries : c.insert.new.self.entries ≡ insert_entry nat_eq c.args.scene.now.waits.entries c.args.wait (Some x) = search rules in
    let distinct : IsDistinct nat_eq (keys c.insert.new.self) = search rules in
    joined_scene c.args.scene.now (record c.args.scene.now { rooms = c.join_all.new.rooms; waits = c.insert.new.self }) c.args.wait x c.requires.scene c.requires.new refl
    (joins ∙ ap (λ bs. join_rooms c.args.wait 0 (map branch_view bs) (rooms_kept c.args.scene.now.rooms)) c.as_slice.ensures) entries c.requires.homes distinct
