use Rattle.std.proofs.Common.{◌≡◌, ◌≢◌, ◌↔◌, [], Bool, true, is_some, rules, subst}
use Rattle.ca_replay.proofs.GoingsOn.{is_dated}
use Rattle.ca_replay.proofs.possible.is_dated.Goals as goal

pub returns : goal.returns
returns c =
    let same : is_some c.first.result ≡ c.is_some.result = search rules in
    subst (λ (b : Bool). (b ≡ true) ↔ (c.args.scene.now.timers.deadlines ≢ [])) same (is_dated c.args.scene.now.timers.deadlines c.first.result c.first.ensures.first)
