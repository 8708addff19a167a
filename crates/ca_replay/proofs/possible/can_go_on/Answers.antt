use Rattle.std.proofs.Common.{◌≤◌, length, refl, sym, ◌∙◌, arith}
use Rattle.ca_replay.proofs.GoingsOn.{goes_there, nothing_past, only_dated}
use Rattle.ca_replay.proofs.possible.can_go_on.Goals as goal

pub returns-then-goes_at : goal.returns-then-goes_at
returns-then-goes_at c = (
  λ t. goes_there c.args.scene.now c.requires c.len-tasks.ensures.unique c.len-rooms.ensures.unique c.loop-place.place (sym c.goes_at.ensures ∙ c.if-goes_at.true),
  λ t. refl,
)

pub returns : goal.returns
returns c =
    let ts : length c.args.scene.now.tasks.entries ≤ c.loop-place.place = omega arith in
    let rs : length c.args.scene.now.rooms.entries ≤ c.loop-place.place = omega arith in
    only_dated c.args.scene.now c.requires (nothing_past c.args.scene.now c.requires c.loop-place.place ts rs c.loop-place.invariant) c.is_dated.result c.is_dated.ensures
