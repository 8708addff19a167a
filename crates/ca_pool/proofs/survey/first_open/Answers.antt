use Rattle.std.proofs.Common.{◌≡◌, ◌∙◌, Some, ap, subst, sym}
use mathlib.Core.Option.{some}
use lib.ListN.{get_elem?}
use Rattle.ca_turns.proofs.Lists.{both_some}
use Rattle.ca_table.specs.Parts.{contents_seen}
use Rattle.ca_table.specs.Seen.{held_of}
use Rattle.ca_table.specs.declared.part.Clockwork.{Clockwork}
use Rattle.ca_table.specs.declared.part.Contents.{Contents}
use Rattle.ca_table.specs.declared.part.Part.{Part}
use Rattle.ca_pool.specs.Surveys.{HasNoDeadline}
use Rattle.ca_pool.proofs.StillParts.{first_none}
use Rattle.ca_pool.proofs.survey.first_open.Goals as goal

pub returns-in-Timers : goal.returns-in-Timers
returns-in-Timers g c = let K = g.C.Clock in let p = c.part.result.now in
    first_none c.first.result c.deref.result.now.timers.deadlines ((x : Part g.row.A.Denot g.row.C.Denot) → get_elem? c.args.worker.now.hand.parts c.args.at ≡ some (Some x) → HasNoDeadline (held_of (contents_seen K.least K.faults K.readings x.contents))) c.first.ensures.first
    (λ e x h. subst (λ (z : Part g.row.A.Denot g.row.C.Denot). HasNoDeadline (held_of (contents_seen K.least K.faults K.readings z.contents))) (both_some p x (sym c.part.ensures ∙ h))
    (subst (λ (y : Contents g.row.A.Denot g.row.C.Denot). HasNoDeadline (held_of (contents_seen K.least K.faults K.readings y))) (sym c.in-Timers.is)
    (ap (λ (k : Clockwork g.row.C.Denot). k.timers.deadlines) (sym c.deref.ensures) ∙ e)))
