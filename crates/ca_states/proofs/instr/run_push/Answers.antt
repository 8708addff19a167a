use Rattle.std.proofs.Common.{[], ◌∷◌, ◌∙◌, subst}
use Rattle.std.specs.Bool.{OnFalse}
use Rattle.ca_value.specs.View.{view, views}
use Rattle.ca_value.specs.Outcome.{Gives}
use Rattle.ca_value.specs.declared.builtin.Builtin.TheVariants.{Conj}
use Rattle.ca_states.specs.Machine.{read, builtin_applied, slot_answered}
use Rattle.ca_states.specs.Runs.{StopsAt}
use Rattle.ca_states.proofs.SlotLaws.{gives_by}
use Rattle.ca_states.proofs.instr.run_push.Goals as goal

pub returns-clause-stop : goal.returns-clause-stop
returns-clause-stop c =
    let s = views c.args.slots.now in
    let r = c.conj_one-outcome.result in
    let o = builtin_applied Conj (read s c.args.collection ∷ read s c.args.item ∷ []) in
    subst (λ z. OnFalse c.settle.result (StopsAt c.settle.new.stop (slot_answered z c.args.to c.args.place o))) c.take_at-collection.ensures.taken
    (c.settle.ensures.stop o
    (subst (λ t. Gives r (builtin_applied Conj (t ∷ read s c.args.item ∷ []))) c.take_at-collection.ensures.value
    (subst (λ t. Gives r (builtin_applied Conj (view c.take_at-collection.result ∷ t ∷ []))) (c.in-Ok.ensures ∙ c.value_at.ensures)
    (gives_by r (builtin_applied Conj (view c.take_at-collection.result ∷ view c.in-Ok.item ∷ [])) c.conj_one-outcome.ensures.value c.conj_one-outcome.ensures.fault))))
