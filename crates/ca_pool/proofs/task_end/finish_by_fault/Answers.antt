use Rattle.std.proofs.Common.{◌∙◌, ◌<◌, refl, sym, ap, subst, is_some, []}
use Rattle.ca_journal.specs.Merge.{room}
use Rattle.ca_term.specs.Event.{port_number}
use Rattle.std.specs.Prelude.{option_map}
use Rattle.ca_commit.specs.Showing.{channels_held}
use Rattle.ca_table.proofs.Drawing.{drew_later}
use Rattle.ca_table.proofs.Staying.{closed_still}
use Rattle.ca_pool.proofs.StaleHandlers.{keep_all, same_held}
use Rattle.ca_alone.specs.Schedule.{MaySettle, to_turn}
use Rattle.ca_pool.proofs.Lone.{same_may}
use Rattle.ca_pool.proofs.task_end.finish_by_fault.Goals as goal

pub finish-requires-clause-ending : goal.finish-requires-clause-ending
finish-requires-clause-ending g c = let r = c.requires.carries in let q = c.apply_fault.ensures in let held = c.args.held.now in let held2 = c.apply_fault.new.held in let clock = c.take_last-clock.result in (
  r.0,
  r.1,
  r.2,
  held,
  record {
    carries = c.take_last-clock.ensures.carries r.0 r.1 r.2 r.3;
    gone = r.4;
    same = same_held held held2 q.others clock clock refl (λ i. ap is_some (q.channels i) ∙ closed_still (option_map port_number c.args.task.now.result) (channels_held held.banks) i);
    keep = keep_all held held2 q.others q.registries;
    may = c.requires.may held2 (record { held = c.requires.result; banks = q.channels });
  },
)

pub finish-requires-clause-ready : goal.finish-requires-clause-ready
finish-requires-clause-ready g c = c.apply_fault.ensures.others.2 ∙ c.requires.ready

pub finish-requires-clause-timers : goal.finish-requires-clause-timers
finish-requires-clause-timers g c = c.apply_fault.ensures.others.1 ∙ c.requires.timers

pub finish-requires-clause-room : goal.finish-requires-clause-room
finish-requires-clause-room g c = subst (λ e. 0 < room e) (sym c.take_last-clock.ensures.entries) c.requires.room

pub returns-clause-drew : goal.returns-clause-drew
returns-clause-drew g c = drew_later c.take_last-clock.ensures.same c.take_last-clock.ensures.turns c.finish.ensures.drew

pub returns-clause-stepped : goal.returns-clause-stepped
returns-clause-stepped g c = λ program n l s gone. let q = c.apply_fault.ensures in let held = c.args.held.now in let held2 = c.apply_fault.new.held in let clock = c.take_last-clock.result in
    c.finish.ensures.stepped program n l held (record {
      carries = c.take_last-clock.ensures.carries program n l s;
      gone = gone;
      same = same_held held held2 q.others clock clock refl (λ i. ap is_some (q.channels i) ∙ closed_still (option_map port_number c.args.task.now.result) (channels_held held.banks) i);
      keep = keep_all held held2 q.others q.registries;
      may = c.requires.may held2 (record { held = c.requires.result; banks = q.channels });
    })

pub returns-clause-solo : goal.returns-clause-solo
returns-clause-solo g c = λ few most may. let a = g.A.Agent in let m = g.met.A.Agent in let code = c.args.code.now in let t = c.take_last-clock in
    c.finish.ensures.solo few most (same_may a.over a.place a.stands a.advances a.gives a.starts m.advanced m.answered m.started code {P = MaySettle to_turn []} t.ensures.same t.ensures.turns may)
