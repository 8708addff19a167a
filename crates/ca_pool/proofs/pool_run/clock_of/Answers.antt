use Rattle.std.proofs.Common.{◌≡◌, sym, subst}
use Rattle.ca_commit.specs.Contents.{the_timers}
use Rattle.ca_commit.specs.Gathered.{kind_of_part, timers_kind}
use Rattle.ca_table.specs.Parts.{contents_seen}
use Rattle.ca_table.specs.Seen.{held_of}
use Rattle.ca_table.specs.declared.part.Part.{Part}
use Rattle.ca_pool.proofs.SoloRuns.{timers_are}
use Rattle.ca_pool.proofs.pool_run.clock_of.Goals as goal

pub clock_in-requires : goal.clock_in-requires
clock_in-requires g c = let K = g.C.Clock in let out = c.swap_remove-contents in
    subst (λ (p : Part g.row.A.Denot g.row.C.Denot). kind_of_part (held_of (contents_seen K.least K.faults K.readings p.contents)) ≡ timers_kind) (sym out.ensures.value) (c.requires.kind out.result)

pub returns : goal.returns
returns g c = λ t e. let K = g.C.Clock in let out = c.swap_remove-contents in
    c.clock_in.ensures t (subst (λ (p : Part g.row.A.Denot g.row.C.Denot). held_of (contents_seen K.least K.faults K.readings p.contents) ≡ the_timers t) (sym out.ensures.value)
    (timers_are K.least K.faults K.readings c.args.workers c.args.parts.items out.result t c.requires.there (c.requires.kind out.result) e))
