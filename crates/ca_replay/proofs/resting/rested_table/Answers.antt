use Rattle.std.proofs.Common.{refl, sym, ap, ◌∙◌, subst}
use Rattle.ca_term.specs.Program.{program_view}
use Rattle.ca_system_tasks.specs.Tables.{table_body}
use Rattle.ca_scene.specs.Scene.{shown_at}
use Rattle.ca_replay.specs.SceneOf.{HasFunction}
use Rattle.ca_replay.proofs.resting.rested_table.Goals as goal

pub returns-clause-rested : goal.returns-clause-rested
returns-clause-rested c = record {
  rests = (table_body c.come_to_rest.new.table, c.in_ok-come_to_rest.ensures.rests, refl);
  runs = refl;
  shown = c.table_standing-standing.ensures ∙ ap shown_at c.in_ok-stand.ensures;
  known = subst (HasFunction (program_view c.args.program.now)) (sym c.in_ok-come_to_rest.ensures.function) c.requires;
}
