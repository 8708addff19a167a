use Rattle.std.proofs.Common.{IfOk, sym, subst}
use Rattle.ca_term.specs.Program.{program_view}
use Rattle.ca_scene.specs.declared.task.TaskBody.{TaskBody}
use Rattle.ca_scene.specs.Scene.{task_body}
use Rattle.ca_replay.specs.Goings.{IsRested}
use Rattle.ca_replay.specs.SceneOf.{IsKnown}
use Rattle.ca_replay.proofs.resting.rested.Goals as goal

pub rested_text-requires : goal.rested_text-requires
rested_text-requires c = subst (λ (b : TaskBody). IsKnown (program_view c.args.program.now) b) c.in-Script.is c.requires

pub rested_table-requires : goal.rested_table-requires
rested_table-requires c = subst (λ (b : TaskBody). IsKnown (program_view c.args.program.now) b) c.in-System.is c.requires

pub returns-in-Script-clause-rested : goal.returns-in-Script-clause-rested
returns-in-Script-clause-rested c = subst (λ (b : TaskBody). IfOk c.rested_text.result (λ x. IsRested (program_view c.args.program.now) (task_body b) x)) (sym c.in-Script.is) c.rested_text.ensures.rested

pub returns-in-System-clause-rested : goal.returns-in-System-clause-rested
returns-in-System-clause-rested c = subst (λ (b : TaskBody). IfOk c.rested_table.result (λ x. IsRested (program_view c.args.program.now) (task_body b) x)) (sym c.in-System.is) c.rested_table.ensures.rested
