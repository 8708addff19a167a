use Rattle.std.proofs.Common.{◌≡◌, ◌<◌, ap, sym, ◌∙◌, length, get_or, eqb, rules}
use Rattle.ca_scene.specs.declared.room.Handler.{Handler}
use Rattle.ca_replay.proofs.Leavings.{starts_at}
use Rattle.ca_replay.proofs.leaving.starts_with.Goals as goal

pub returns-in-Some : goal.returns-in-Some
returns-in-Some c =
    let some : 0 < length c.args.queue.now.items = search rules in
    let first : c.in-Some.handler.now ≡ get_or c.args.queue.now.items 0 c.in-Some.handler.now = search rules in
    starts_at c.args.wait c.args.queue.now.items c.in-Some.handler.now some ∙ ap (λ (h : Handler). eqb c.args.wait h.wait) (sym first)
