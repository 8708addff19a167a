use Rattle.std.proofs.Common.{◌≡◌, None, arith, sym, ap, ◌∙◌, option_map, rules, slice_get}
use Rattle.ca_scene.specs.Scene.{waits_in}
use Rattle.ca_replay.specs.World.{wait_view}
use Rattle.ca_replay.proofs.WaitWalks.{first_left, others_left, past_end}
use Rattle.ca_replay.proofs.world.World.wait_at.Goals as goal

pub returns-in_err-behind : goal.returns-in_err-behind
returns-in_err-behind c =
    let none : c.from_residual.result ≡ None = search rules in
    ap (option_map wait_view) none ∙ sym (past_end (waits_in c.args.self.now.scene.waits.entries) c.loop-passed._passed c.args.place (c.loop-passed.invariant ∙ c.in_err-behind.ensures.none) (omega arith))

pub loop-passed-preserved : goal.loop-passed-preserved
loop-passed-preserved c = others_left (waits_in c.args.self.now.scene.waits.entries) c.loop-passed._passed _ _ (c.loop-passed.invariant ∙ c.in_ok-behind.ensures.some)

pub returns-in_err-next_wait : goal.returns-in_err-next_wait
returns-in_err-next_wait c =
    let none : c.from_residual-in_err-next_wait.result ≡ None = search rules in
    ap (option_map wait_view) none ∙ sym (past_end (waits_in c.args.self.now.scene.waits.entries) c.loop-passed._passed c.args.place (c.loop-passed.invariant ∙ c.in_err-next_wait.ensures.none) (omega arith))

pub returns : goal.returns
returns c =
    let at : c.loop-passed._passed ≡ c.args.place = omega arith in
    sym (ap (λ k. slice_get (waits_in c.args.self.now.scene.waits.entries) k) (sym at) ∙ first_left (waits_in c.args.self.now.scene.waits.entries) c.loop-passed._passed _ _ (c.loop-passed.invariant ∙ c.in_ok-next_wait.ensures.some))
