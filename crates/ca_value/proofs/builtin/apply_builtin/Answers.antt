use Rattle.std.proofs.Common.{sym, ap, ◌∙◌}
use Rattle.ca_value.specs.Seq.{list}
use Rattle.ca_value.specs.View.{view, views, trees}
use Rattle.ca_value.specs.Outcome.{outcome, judged}
use Rattle.ca_value.specs.Builtins.{answer, builtin_result}
use Rattle.ca_value.proofs.SoundBuiltins.{result_is_value}
use Rattle.ca_value.proofs.Lists.{items_of_trees_of}
use Rattle.ca_value.proofs.builtin.apply_builtin.Goals as goal

pub returns-in-Ok-Ok-clause-value : goal.returns-in-Ok-Ok-clause-value
unfolding builtin_result
returns-in-Ok-Ok-clause-value c =
    ap (λ ts. judged (answer c.args.builtin ts)) (items_of_trees_of (views (list c.args.args)))
    ∙ sym c.in-Ok-Ok.ensures ∙ ap outcome c.in-Ok-Ok.field-0-is

pub returns-in-Ok-Err-clause-fault : goal.returns-in-Ok-Err-clause-fault
unfolding builtin_result
returns-in-Ok-Err-clause-fault c =
    ap (λ ts. judged (answer c.args.builtin ts)) (items_of_trees_of (views (list c.args.args)))
    ∙ sym c.in-Ok-Err.ensures ∙ ap outcome c.in-Ok-Err.field-0-is

pub returns-in-Ok-Ok-clause-sound : goal.returns-in-Ok-Ok-clause-sound
unfolding builtin_result
returns-in-Ok-Ok-clause-sound c =
    λ w values. result_is_value w c.args.builtin (trees (list c.args.args)) (view c.in-Ok-Ok.value) values
    (ap (λ ts. judged (answer c.args.builtin ts)) (items_of_trees_of (views (list c.args.args)))
    ∙ sym c.in-Ok-Ok.ensures ∙ ap outcome c.in-Ok-Ok.field-0-is)
