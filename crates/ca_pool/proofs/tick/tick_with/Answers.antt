use Rattle.std.proofs.Common.{◌≡◌, ℕ, List, Some, ap, subst, sym, true, is_some}
use Rattle.ca_value.specs.Deadlines.{due}
use Rattle.ca_meaning.specs.Wait.{is_among}
use Rattle.ca_commit.specs.Contents.{TimersPart, home}
use Rattle.ca_commit.specs.Listing.{listed}
use Rattle.ca_commit.specs.Listings.{parts}
use Rattle.ca_commit.specs.Numbers.{number_of_bank}
use Rattle.ca_commit.specs.Running.{Placed}
use Rattle.ca_commit.specs.Showing.{channels_held}
use Rattle.ca_solo.specs.Stirs.{Ordered}
use Rattle.ca_table.specs.Parts.{clockwork_seen}
use Rattle.ca_alone.specs.OwnTurn.{IsDue}
use Rattle.ca_pool.specs.Asking.{HasBanksOf, AreDuePortsMade}
use Rattle.ca_pool.proofs.Asides.{asked_before, asked_reads}
use Rattle.ca_pool.proofs.Takens.{as_shown, for_ok, show_kept}
use Rattle.ca_pool.proofs.tick.tick_with.Goals as goal

pub draw_tick-requires-clause-carries : goal.draw_tick-requires-clause-carries
draw_tick-requires-clause-carries g c = let a = g.A.Agent in let K = g.C.Clock in let r = c.requires.carries in let t = c.reserve_due-clockwork in let e = t.ensures in let w = c.args.worker.now in let old = c.args.held.now in let new = t.new.held in (
  r.0,
  r.1,
  r.2,
  r.3,
  as_shown a.over a.stands K.least K.faults K.readings r.0 c.args.code.now c.args.table.now.id r.1 w r.2 w.number (Some r.3) old new (show_kept old new e.banks e.shards e.ready) r.4,
  asked_before c.args.now (clockwork_seen K.least K.faults K.readings r.3.value) (clockwork_seen K.least K.faults K.readings c.args.clockwork.value) (clockwork_seen K.least K.faults K.readings t.result.0.value) e.seen r.5,
)

pub draw_tick-requires-clause-made : goal.draw_tick-requires-clause-made
draw_tick-requires-clause-made g c = let t = c.reserve_due-clockwork in subst (λ (x : TimersPart). AreDuePortsMade t.new.held x c.args.now) (sym t.ensures.seen) (for_ok t.result.1 _ c.in-Ok.is t.ensures.made)

pub draw_tick-requires-clause-there : goal.draw_tick-requires-clause-there
draw_tick-requires-clause-there g c = let t = c.reserve_due-clockwork in
    subst (λ (ps : List ℕ). HasBanksOf t.new.held ps) (sym (ap (λ (x : TimersPart). due c.args.now x.deadlines) t.ensures.seen)) (subst (λ b. (p : ℕ) → is_among p (due c.args.now c.args.clockwork.value.timers.deadlines) ≡ true → is_some (listed number_of_bank (parts b) (home p)) ≡ true) (sym t.ensures.banks) c.requires.there)

pub draw_tick-requires-clause-placed : goal.draw_tick-requires-clause-placed
draw_tick-requires-clause-placed g c = let t = c.reserve_due-clockwork in subst (λ b. Placed (channels_held b)) (sym t.ensures.banks) c.requires.placed

pub draw_clock-requires-clause-carries : goal.draw_clock-requires-clause-carries
draw_clock-requires-clause-carries g c = let K = g.C.Clock in let r = c.requires.carries in let t = c.reserve_due-clockwork in let e = t.ensures in let old = c.args.held.now in let new = t.new.held in let c0 = clockwork_seen K.least K.faults K.readings r.3.value in let d = clockwork_seen K.least K.faults K.readings t.result.0.value in (
  r.0,
  r.1,
  r.2,
  r.3,
  old,
  r.4,
  show_kept old new e.banks e.shards e.ready,
  asked_reads c.args.now c0 d (asked_before c.args.now c0 (clockwork_seen K.least K.faults K.readings c.args.clockwork.value) d e.seen r.5),
)

pub returns-in-Ok-clause-carries : goal.returns-in-Ok-clause-carries
returns-in-Ok-clause-carries g c = λ P n l clock0 s asked. let a = g.A.Agent in let K = g.C.Clock in let t = c.reserve_due-clockwork in let e = t.ensures in let w = c.args.worker.now in let old = c.args.held.now in let new = t.new.held in
    c.draw_tick.ensures.carries P n l clock0 (as_shown a.over a.stands K.least K.faults K.readings P c.args.code.now c.args.table.now.id n w l w.number (Some clock0) old new (show_kept old new e.banks e.shards e.ready) s)
    (asked_before c.args.now (clockwork_seen K.least K.faults K.readings clock0.value) (clockwork_seen K.least K.faults K.readings c.args.clockwork.value) (clockwork_seen K.least K.faults K.readings t.result.0.value) e.seen asked)

pub returns-in-Err-clause-carries : goal.returns-in-Err-clause-carries
returns-in-Err-clause-carries g c = λ P n l clock0 s asked. let K = g.C.Clock in let t = c.reserve_due-clockwork in let e = t.ensures in let old = c.args.held.now in let new = t.new.held in let c0 = clockwork_seen K.least K.faults K.readings clock0.value in let d = clockwork_seen K.least K.faults K.readings t.result.0.value in
    c.draw_clock.ensures.carries P n l clock0 old s (show_kept old new e.banks e.shards e.ready) (asked_reads c.args.now c0 d (asked_before c.args.now c0 (clockwork_seen K.least K.faults K.readings c.args.clockwork.value) d e.seen asked))

pub returns-in-Ok-clause-solo : goal.returns-in-Ok-clause-solo
returns-in-Ok-clause-solo g c = λ k us most is up may. let t = c.reserve_due-clockwork in let now = c.args.now in
    c.draw_tick.ensures.solo k us most (subst (λ (x : TimersPart). IsDue x.deadlines now) (sym t.ensures.seen) is) (subst (λ (x : TimersPart). Ordered (due now x.deadlines) us) (sym t.ensures.seen) up) may
