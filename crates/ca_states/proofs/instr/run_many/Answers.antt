use Rattle.std.proofs.Common.{length, ◌∙◌, sym, ap, subst}
use Rattle.std.proofs.lemmas.List.{length-map}
use Rattle.std.specs.Prelude.{IsTrue}
use Rattle.std.specs.Bool.{OnFalse}
use Rattle.ca_value.specs.Seq.{list}
use Rattle.ca_value.specs.View.{view, views}
use Rattle.ca_value.specs.Outcome.{Gives}
use Rattle.ca_value.specs.Builtins.{admits_arguments}
use Rattle.ca_states.specs.Machine.{reads, slots_from, builtin_applied, slot_answered}
use Rattle.ca_states.specs.Runs.{StopsAt}
use Rattle.ca_states.proofs.SlotLaws.{gives_by, length_reads}
use Rattle.ca_states.proofs.instr.run_many.Goals as goal

pub apply_builtin-outcome-requires : goal.apply_builtin-outcome-requires
apply_builtin-outcome-requires c =
    let s = views c.args.slots.now in
    let xs = list c.in-Ok.values in
    subst (λ n. IsTrue (admits_arguments c.args.builtin n)) (sym (sym (length-map xs view) ∙ ap length c.in-Ok.ensures.values ∙ length_reads s c.args.from c.args.count)) c.requires.counted

pub returns-clause-stop : goal.returns-clause-stop
returns-clause-stop c =
    let s = views c.args.slots.now in
    let r = c.apply_builtin-outcome.result in
    let o = builtin_applied c.args.builtin (reads s (slots_from c.args.from c.args.count)) in
    subst (λ z. OnFalse c.settle.result (StopsAt c.settle.new.stop (slot_answered z c.args.to c.args.place o))) c.in-Ok.ensures.taken
    (c.settle.ensures.stop o
    (subst (λ ts. Gives r (builtin_applied c.args.builtin ts)) c.in-Ok.ensures.values
    (gives_by r (builtin_applied c.args.builtin (views (list c.in-Ok.values))) c.apply_builtin-outcome.ensures.value c.apply_builtin-outcome.ensures.fault)))
