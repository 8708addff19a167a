use Rattle.std.proofs.Common.{◌≡◌, [], ◌∷◌, ◌∙◌, ap, sym, subst}
use Rattle.ca_value.specs.View.{view}
use Rattle.ca_term.specs.declared.head.Head.TheVariants.{Call}
use Rattle.ca_term.specs.Kernel.{const, apply, none, item}
use Rattle.ca_meaning.specs.Body.{new_body}
use Rattle.ca_states.specs.Machine.{calling}
use Rattle.ca_states.specs.Standing.{state_view}
use Rattle.ca_states.specs.ValidCode.{valid_code}
use Rattle.ca_lower.specs.Lowered.{StandsFor}
use Rattle.ca_applying.proofs.Calls.{came_to}
use Rattle.ca_applying.proofs.call.call.Goals as goal

pub returns : goal.returns
returns c = λ program keyword p low.
    let C = valid_code c.args.code.now in
    let v = view c.args.value in
    let n = c.args.function in
    let b = new_body (apply (Call n) (item (const v) none) p) in
    let r = c.in_ok-runner.runner in
    let begins : state_view r ≡ calling C n (v ∷ []) = c.in_ok-runner.ensures.calling ∙ ap (calling C n) c.in_ok-values.ensures in
    let stands : StandsFor program C (state_view r) b = subst (λ s. StandsFor program C s b) (sym begins) (low.calls n v p c.requires) in
    let d = came_to program C b (state_view r) c.in_ok-halt.halt c.run.new.self stands c.in_ok-halt.ensures.halts in
    (d.0, d.1, c.returned.ensures ∙ d.2)
