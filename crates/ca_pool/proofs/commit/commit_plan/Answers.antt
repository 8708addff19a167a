use Rattle.std.proofs.Common.{◌∙◌, ap}
use Rattle.std.specs.Prelude.{option_map}
use Rattle.ca_term.specs.Program.{program_view}
use Rattle.ca_commit.specs.PlanMoves.{counts_by}
use Rattle.ca_commit.specs.Plans.{plan_view}
use Rattle.ca_commit.specs.Tasks.{task_view}
use Rattle.ca_table.specs.Parts.{counts_view}
use Rattle.ca_pool.proofs.commit.commit_plan.Goals as goal

pub returns-clause-done : goal.returns-clause-done
returns-clause-done g c = let q = c.apply-event.ensures in let l = c.gone_on-lane.ensures in (
  c.apply-event.result.running,
  record {
    channels = q.channels;
    registries = q.registries;
    waits = q.waits;
    ready = q.ready;
    runs = q.running;
    in_lane = ap (option_map task_view) l.task;
    program = ap (λ p. program_view p.value) l.program;
    since = l.since;
    counts = ap counts_view l.counts ∙ c.counted-counts.ensures ∙ ap (λ x. counts_by (plan_view c.args.plan) (counts_view x.counts)) c.deref.ensures;
  },
  l.task,
)
