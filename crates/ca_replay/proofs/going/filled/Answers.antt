use Rattle.std.proofs.Common.{◌≡◌, true, sym, ap, ◌∙◌, subst}
use Rattle.ca_value.specs.View.{view}
use Rattle.ca_meaning.specs.BodyViews.{is_at_op}
use Rattle.ca_meaning.specs.Task.{body_at, body_fill, script, system_task}
use Rattle.ca_scene.specs.declared.task.TaskBody.{TaskBody}
use Rattle.ca_scene.specs.Scene.{task_body}
use Rattle.ca_system.specs.Applications.{function_of}
use Rattle.ca_system.proofs.Applications.{function_filled}
use Rattle.ca_system_tasks.specs.Tables.{table_body}
use Rattle.ca_replay.specs.SceneOf.{HasFunction, IsKnown}
use Rattle.ca_replay.proofs.going.filled.Goals as goal

pub filled_text-requires : goal.filled_text-requires
filled_text-requires c = subst (λ (b : TaskBody). is_at_op (body_at (task_body b)) ≡ true) c.in-Script.is c.requires

pub returns-in-Script-clause-filled : goal.returns-in-Script-clause-filled
returns-in-Script-clause-filled c = ap script c.filled_text.ensures.filled ∙ ap (λ (b : TaskBody). body_fill (view c.args.answer) (task_body b)) (sym c.in-Script.is)

pub returns-in-Script-clause-known : goal.returns-in-Script-clause-known
returns-in-Script-clause-known c = λ program k. c.filled_text.ensures.known program (subst (λ (b : TaskBody). IsKnown program b) c.in-Script.is k)

pub returns-in_ok-filled_table-in-System-clause-filled : goal.returns-in_ok-filled_table-in-System-clause-filled
returns-in_ok-filled_table-in-System-clause-filled c = ap system_task c.in_ok-filled_table-in-System.ensures ∙ ap (λ (b : TaskBody). body_fill (view c.args.answer) (task_body b)) (sym c.in-System.is)

pub returns-in_ok-filled_table-in-System-clause-known : goal.returns-in_ok-filled_table-in-System-clause-known
returns-in_ok-filled_table-in-System-clause-known c = λ program k.
    subst (HasFunction program) (sym (ap function_of c.in_ok-filled_table-in-System.ensures ∙ function_filled (view c.args.answer) (table_body c.in-System.table))) (subst (λ (b : TaskBody). IsKnown program b) c.in-System.is k)
