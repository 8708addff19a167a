use Rattle.std.proofs.Common.{refl}
use Rattle.ca_check.proofs.laws.worked_expansions.Goals as goal

pub returns : goal.returns
returns c = record { unknown_name = refl; wrong_first_part = refl; wrong_form_with_wrong_part = refl; recur_before_another = refl; take_outside_go = refl; blocking_take_in_go = refl; no_argument = refl; builtin_defined = refl; definition_inside = refl; operation_given = refl; unknown_source_and_function = refl; seventeen_parameters = refl; hidden_parameter = refl; recur_to_function = refl; captures = refl; go_blocks = refl; conjunction = refl; pattern = refl; loop_over_pattern = refl; counted_loop = refl; choice_with_options = refl; subscription = refl; pipeline_by_keyword = refl }
