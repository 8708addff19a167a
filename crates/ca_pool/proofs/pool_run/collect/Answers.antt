use Rattle.std.proofs.Common.{◌≡◌, All, ℕ, List, Option, Some, ◌∙◌, map, sym, subst}
use Rattle.ca_term.specs.Program.{program_view}
use Rattle.ca_states.specs.ValidCode.{valid_code}
use Rattle.ca_timers.specs.Causes.{Rose}
use Rattle.ca_journal.specs.Events.{events}
use Rattle.ca_commit.specs.Gathered.{parts_of}
use Rattle.ca_commit.specs.Opening.{unasked}
use Rattle.ca_table.specs.Moments.{KeepsTime}
use Rattle.ca_table.specs.OneCode.{stands_over}
use Rattle.ca_table.specs.Opening.{opening_list}
use Rattle.ca_table.specs.Parts.{part_seen}
use Rattle.ca_table.specs.Running.{TableStands, contents_at}
use Rattle.ca_table.specs.Workers.{IsOpenedWith, IsReady}
use Rattle.ca_pool.proofs.SoloRuns.{is_solo, timers_in, timers_kind_in}
use Rattle.ca_pool.proofs.pool_run.collect.Goals as goal

pub gather-requires-clause-ready : goal.gather-requires-clause-ready
gather-requires-clause-ready g c = subst (λ (n : ℕ). All (IsReady g.A.Agent.over g.A.Agent.stands (program_view c.args.program.now) (valid_code c.args.code.now) c.args.table.id n) c.args.hands.items) (sym c.requires.many) c.requires.ready

pub clock_of-requires-clause-there : goal.clock_of-requires-clause-there
clock_of-requires-clause-there g c = let a = g.A.Agent in let K = g.C.Clock in let P = program_view c.args.program.now in let parts = c.in_ok-gathered.gathered.parts.items in let gt = c.in_ok-gathered.ensures in
    let stands = stands_over a.over (valid_code c.args.code.now) a.stands in
    let run = subst (λ (n : ℕ). TableStands a.place stands P n (map (part_seen K.least K.faults K.readings) parts) gt.run.0) c.requires.many gt.run.2 in
    timers_in K.least K.faults K.readings a.place stands P c.args.workers parts gt.run.0 run

pub clock_of-requires-clause-kind : goal.clock_of-requires-clause-kind
clock_of-requires-clause-kind g c = let a = g.A.Agent in let K = g.C.Clock in let P = program_view c.args.program.now in let parts = c.in_ok-gathered.gathered.parts.items in let gt = c.in_ok-gathered.ensures in
    let stands = stands_over a.over (valid_code c.args.code.now) a.stands in
    let run = subst (λ (n : ℕ). TableStands a.place stands P n (map (part_seen K.least K.faults K.readings) parts) gt.run.0) c.requires.many gt.run.2 in
    timers_kind_in K.least K.faults K.readings a.place stands P c.args.workers parts gt.run.0 run c.requires.workers.0

pub returns-clause-run : goal.returns-clause-run
returns-clause-run g c = let gt = c.in_ok-gathered.ensures in (gt.run.0, gt.run.1, gt.run.3)

pub returns-clause-solo : goal.returns-clause-solo
returns-clause-solo g c = λ main first allowance one stops. let a = g.A.Agent in let m = g.met.A.Agent in let K = g.C.Clock in let gathered = c.in_ok-gathered.gathered in
    is_solo a.over a.place a.stands a.advances a.gives a.starts m.advanced m.answered m.started c.args.code.now c.args.table.id (program_view c.args.program.now) K.least K.faults K.readings c.args.program.now main c.args.workers first c.clock_of.result allowance (events gathered.journal) (map (part_seen K.least K.faults K.readings) gathered.parts.items)
    c.args.hands.items c.requires.many one c.requires.ready stops (c.in_ok-gathered.ensures.alone (c.requires.many ∙ one)) c.clock_of.ensures

pub returns-clause-clock : goal.returns-clause-clock
returns-clause-clock g c = λ main least faults readings opened. let K = g.C.Clock in let gathered = c.in_ok-gathered.gathered in let now = contents_at (map (part_seen K.least K.faults K.readings) gathered.parts.items) in
    let w = c.in_ok-gathered.ensures.clock main least faults readings (subst (λ (n : ℕ). All (IsOpenedWith (opening_list n (valid_code c.args.code.now) c.args.program.now main (unasked least faults readings))) c.args.hands.items) (sym c.requires.many) opened) in
    let told = c.clock_of.ensures w.0 (subst (λ (n : ℕ). (parts_of n now).timers ≡ Some w.0) c.requires.many w.1) in (
      subst (λ (o : Option (List ℕ)). KeepsTime (events gathered.journal) least readings o) (sym told.1) w.2.time,
      λ failed. subst (λ (n : ℕ). Rose faults n) (sym told.2) (w.2.rose failed),
    )
