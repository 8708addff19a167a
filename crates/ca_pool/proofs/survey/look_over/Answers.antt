use Rattle.std.proofs.Common.{◌∙◌, ℕ, ap, arith, subst, sym}
use mathlib.Core.Logic.{dite}
use native.Mathlib.Decide.{ℕ_discrete}
use lib.ListN.{get_elem?}
use Rattle.ca_turns.proofs.Lists.{both_some}
use Rattle.ca_table.specs.Parts.{contents_seen}
use Rattle.ca_table.specs.Seen.{held_of}
use Rattle.ca_table.specs.declared.part.Part.{Part}
use Rattle.ca_pool.specs.Surveys.{IsStill}
use Rattle.ca_pool.proofs.survey.look_over.Goals as goal

pub part-requires : goal.part-requires
part-requires g c = c.requires c.loop-at.at (omega (arith, c.loop-at-test.true))

pub loop-at-init : goal.loop-at-init
loop-at-init g c = λ i lt. absurd (omega (arith, lt))

pub loop-at-preserved : goal.loop-at-preserved
loop-at-preserved g c = λ i lt x h. let K = g.C.Clock in let at = c.loop-at.at in dite (ℕ_discrete i at)
    (λ e. subst (λ (z : Part g.row.A.Denot g.row.C.Denot). IsStill (held_of (contents_seen K.least K.faults K.readings z.contents))) (both_some c.part.result.now x (sym c.part.ensures ∙ ap (λ (k : ℕ). get_elem? c.args.worker.now.hand.parts k) (sym e) ∙ h)) (c.look_at.ensures c.in-Still.is))
    (λ ne. c.loop-at.invariant i (omega (arith, lt, ne)) x h)
