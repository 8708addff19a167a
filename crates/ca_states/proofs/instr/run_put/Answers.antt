use Rattle.std.proofs.Common.{[], ◌∷◌, ◌∙◌, subst}
use Rattle.std.specs.Bool.{OnFalse}
use Rattle.ca_value.specs.View.{view, views}
use Rattle.ca_value.specs.Outcome.{Gives}
use Rattle.ca_value.specs.declared.builtin.Builtin.TheVariants.{Assoc}
use Rattle.ca_states.specs.Machine.{read, builtin_applied, slot_answered}
use Rattle.ca_states.specs.Runs.{StopsAt}
use Rattle.ca_states.proofs.SlotLaws.{gives_by}
use Rattle.ca_states.proofs.instr.run_put.Goals as goal

pub returns-clause-stop : goal.returns-clause-stop
returns-clause-stop c =
    let s = views c.args.slots.now in
    let r = c.assoc_one-outcome.result in
    let o = builtin_applied Assoc (read s c.args.collection ∷ read s c.args.key ∷ read s c.args.value ∷ []) in
    subst (λ z. OnFalse c.settle.result (StopsAt c.settle.new.stop (slot_answered z c.args.to c.args.place o))) c.take_at-collection.ensures.taken
    (c.settle.ensures.stop o
    (subst (λ t. Gives r (builtin_applied Assoc (t ∷ read s c.args.key ∷ read s c.args.value ∷ []))) c.take_at-collection.ensures.value
    (subst (λ t. Gives r (builtin_applied Assoc (view c.take_at-collection.result ∷ t ∷ read s c.args.value ∷ []))) (c.in-Ok.ensures ∙ c.value_at.ensures)
    (subst (λ t. Gives r (builtin_applied Assoc (view c.take_at-collection.result ∷ view c.in-Ok.key ∷ t ∷ []))) (c.in-Ok-copy.ensures ∙ c.value_at-2.ensures)
    (gives_by r (builtin_applied Assoc (view c.take_at-collection.result ∷ view c.in-Ok.key ∷ view c.in-Ok-copy.value ∷ [])) c.assoc_one-outcome.ensures.value c.assoc_one-outcome.ensures.fault)))))
