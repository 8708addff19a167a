use Rattle.std.proofs.Common.{◌∙◌, List, sym, subst}
use Rattle.ca_term.specs.Event.{EventView}
use Rattle.ca_meaning.specs.Ends.{HasEnd, RunEnd}
use Rattle.ca_meaning.specs.Legal.{Legal}
use Rattle.std.specs.Prelude.{option_map}
use Rattle.ca_journal.specs.Cut.{End, end_in}
use Rattle.ca_journal.specs.Events.{events}
use Rattle.ca_table.specs.Moments.{KeepsTime}
use Rattle.ca_pool.specs.PoolEnds.{ended_by}
use Rattle.ca_alone.proofs.CutWhole.{cut_whole}
use Rattle.ca_pool.proofs.CutMoments.{keeps_cut}
use Rattle.ca_pool.proofs.CutRuns.{cut_run}
use Rattle.ca_pool.proofs.run_end.end_run.Goals as goal

pub returns : goal.returns
returns c = record {
  ends = λ program s reaches quiet. let budget = c.args.budget in let es = events c.args.journal in let k = cut_run program budget es s c.requires.budget reaches quiet in let e = c.cut_run.ensures in (
    subst (Legal program) (sym e.journal) k.0,
    subst (λ (end : RunEnd). HasEnd program budget (events c.cut_run.result.0) end) (sym e.end) (subst (λ (journal : List EventView). HasEnd program budget journal (ended_by (option_map (λ (d : End). d.1) (end_in budget es)))) (sym e.journal) k.1),
  );
  moments = λ least before after k. let es = events c.args.journal in subst (λ (journal : List EventView). KeepsTime journal least before after) (sym c.cut_run.ensures.journal) (keeps_cut (end_in c.args.budget es) es least before after k);
  whole = λ within on. c.cut_run.ensures.journal ∙ cut_whole c.args.budget (events c.args.journal) within on;
}
