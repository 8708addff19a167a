-- The words of this crate's clauses.
pub use Rattle.std.specs.Prelude.{false, IfOk, IfErr, OnOk, [], length, drop, is_some, true, IsTrue, Ok, ℕ, suc, None, IfSome, IfNone, List, option_map, cond, MatchOption, take, Err, All, Some, map, get_or, nat_lt}
pub use Rattle.std.specs.List.{list_any}
pub use Rattle.ca_value.specs.IsValue.{Scalars}
pub use Rattle.ca_value.specs.Seq.{list}
pub use Rattle.ca_value.specs.Tree.{nil}
pub use Rattle.ca_term.specs.Constants.{ProgramHasScalars}
pub use Rattle.ca_term.specs.Kernel.{bind, const, empty}
pub use Rattle.ca_term.specs.Program.{program_view, ProgramView, IsProgram}
pub use Rattle.ca_term.specs.View.{kernel, bindings, kernels}
pub use Rattle.ca_term.specs.declared.head.Head.TheVariants.{Alts}
pub use Rattle.ca_term.specs.declared.place.Place.{Place}
pub use Rattle.ca_reader.specs.Form.{form, group, FormTrees}
pub use Rattle.ca_reader.specs.View.{form_tree, form_trees}
pub use Rattle.ca_reader.specs.Written.{HaveScalars}
pub use Rattle.ca_reader.specs.declared.form.Bracket.TheVariants.{Round}
pub use Rattle.ca_reader.specs.declared.form.Form.{Form}
pub use Rattle.ca_forms.specs.Binders.{spread, bindings_in, Binder, is_pattern, unpacked, width, patterns, Part, counted}
pub use Rattle.ca_forms.specs.Channels.{changing, row_pub, stopping, operands_in, row_chan, buffered_channel}
pub use Rattle.ca_forms.specs.FunctionsView.{named_function, find}
pub use Rattle.ca_forms.specs.GivenView.{given_view}
pub use Rattle.ca_forms.specs.Go.{go_meaning}
pub use Rattle.ca_forms.specs.GoView.{go_form_body}
pub use Rattle.ca_forms.specs.Judged.{let_parts, over_long, binder_names, binder_parts, bound_names, total_name, total_names, total_binder, total_bounds, part_terms, more_of}
pub use Rattle.ca_forms.specs.Meaning.{binds, numbered, local_name, name_as, Meaning, Env, block, inner, operation, lets, Signature, unnamed, before_others, means_in_order}
pub use Rattle.ca_forms.specs.Names.{row_symbol, row_call, row_keyword, builtin_call, function_call, is_known}
pub use Rattle.ca_forms.specs.Outcome.{done, Gathered, after_walk}
pub use Rattle.ca_forms.specs.Plain.{row_let, one_bound, meanings, row_if, row_if_not, row_when, row_when_not, row_cond, row_loop, row_while, row_dotimes, row_doseq, binders, row_recur}
pub use Rattle.ca_forms.specs.Planned.{hidden_row, merge_row, pub_over, pipeline_row, pipeline_by, is_planned, planned_row, and_yes}
pub use Rattle.ca_forms.specs.Rounds.{loop_parts, loop_names, item_of}
pub use Rattle.ca_forms.specs.Tops.{Tops, names_of, numbers, straight, looped, signature, function_env, body_settled, add_function, with_function, is_empty, plain_with, top_name, binders_in, parameters_in, note_in, function_top, defn_top, word_at_head, list_parts, counted_patterns, judged_body, noted_text, function, wrong, is_defining, is_taken, list_top, bound_top, one_top, def_top}
pub use Rattle.ca_forms.specs.Uses.{is_plain, IsGoBody}
pub use Rattle.ca_forms.specs.Walk.{within, walk, special_row, row_list, row_group}
pub use Rattle.ca_forms.specs.WalkView.{gathered, env, form_parts, form_pairs, terms_of, Fails, part}
pub use Rattle.ca_forms.specs.declared.error.CheckError.{CheckError}
pub use Rattle.ca_forms.specs.declared.error.CheckErrorKind.TheVariants.{UnknownName, Redefined, BadArity, BadForm, RecurNotTail, ParkOutsideGo, BlockOutsideMain, NotPlain, TooMany}
pub use Rattle.ca_check.specs.Again.{widths, again_terms, whole_names, binders_of, again_row}
pub use Rattle.ca_check.specs.Choices.{is_only, only_shape, first_in, second_means, only_means, row_bound, bound_shape, bound_body, bound_other, test_term, bound_choice, tested, chain_of_ifs, choice_terms}
pub use Rattle.ca_check.specs.Expansion.{is_namespace, script_tops, tops, expansion_of, RefusesForms}
pub use Rattle.ca_check.specs.Order.{block_place, script_go_blocks}
pub use Rattle.ca_check.specs.ScriptView.{has_namespace, nothing_defined, nothing_gathered, kind_top, is_defining_kind, Behind, FormLeads, Stops, form_top}
pub use Rattle.ca_check.specs.TopsView.{tops_of, total_binders, written_as, in_function, body_in, settled_view, settled_function, AreBelow, AreCounted, IsSafe, note_of, pattern_parts, pattern_names}
pub use Rattle.ca_check.specs.declared.defn.Pass.{Pass}
