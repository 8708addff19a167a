use Rattle.std.proofs.Common.{◌≡◌, ◌∙◌, ℕ, sym, ap, subst, is_some, []}
use Rattle.std.specs.Prelude.{IfSome}
use Rattle.ca_term.specs.Operation.{SeedView}
use Rattle.ca_term.specs.Program.{ProgramView}
use Rattle.ca_meaning.specs.Body.{At}
use Rattle.ca_lower.specs.Gos.{SameGos}
use Rattle.ca_lower.specs.Lowered.{Lowered}
use Rattle.ca_states.specs.ValidCode.{valid_code}
use Rattle.ca_states.specs.declared.valid_code.ValidCode.{ValidCode}
use Rattle.ca_commit.specs.Applying.{HasSpawned}
use Rattle.ca_commit.specs.Plans.{plan_view}
use Rattle.ca_commit.specs.Showing.{channels_held, registries_held, waits_held}
use Rattle.ca_commit.specs.Tasks.{agent_of, tasks_in}
use Rattle.ca_commit.specs.declared.task.Task.{Task}
use Rattle.ca_table.specs.Parts.{counts_view, part_seen}
use Rattle.ca_table.specs.Seen.{PartSeen}
use Rattle.ca_table.specs.declared.part.Part.{Part}
use Rattle.ca_table.proofs.Drawing.{drew_later, drew_none}
use Rattle.ca_table.proofs.Staying.{shows_there}
use Rattle.ca_pool.specs.Desk.{desk_taken}
use Rattle.ca_pool.specs.Preparing.{StartsFor}
use Rattle.ca_pool.proofs.AtEvents.{clock_shown, kept_carrying, own_number, same_turns, taken_shown}
use Rattle.ca_pool.proofs.PlansReadied.{if_some, no_channel_kept, no_registry_kept, numbers_moved, own_spawns, paused_kept, placed_kept, plan_kept, resolved_apart, resolved_rest, rest_ready}
use Rattle.ca_pool.proofs.Preparations.{all_parts}
use Rattle.ca_pool.proofs.Resolutions.{err_is, if_ok_is, ok_is}
use Rattle.ca_alone.specs.Schedule.{MaySettle, to_turn}
use Rattle.ca_pool.proofs.Lone.{same_may}
use Rattle.ca_pool.proofs.commit.commit.Goals as goal

pub prepare-clock-requires-clause-paused : goal.prepare-clock-requires-clause-paused
prepare-clock-requires-clause-paused g c = let o = c.take_others-clock.ensures.others in let held1 = c.take_others-clock.new.held in
    paused_kept g.A.Agent.place c.args.held.now held1 (λ i. ap (λ b. channels_held b i) o.banks) (λ i. ap (λ b. registries_held b i) o.banks) (λ i. ap (λ b. waits_held b i) o.shards) c.requires.held.paused

pub prepare-clock-requires-clause-spawns : goal.prepare-clock-requires-clause-spawns
prepare-clock-requires-clause-spawns g c = own_spawns g.A.Agent.place c.args.held.now (plan_view c.args.plan) (agent_of c.args.task) c.requires.resolved.plan_for

pub prepare-clock-requires-clause-rest : goal.prepare-clock-requires-clause-rest
prepare-clock-requires-clause-rest g c = rest_ready (plan_view c.args.plan) c.args.held.now c.take_others-clock.new.held c.take_others-clock.ensures.others (resolved_rest g.A.Agent.place c.args.held.now c.args.task c.args.plan c.requires.resolved)

pub prepare-clock-requires-clause-timers : goal.prepare-clock-requires-clause-timers
prepare-clock-requires-clause-timers g c = c.take_others-clock.ensures.others.timers ∙ c.requires.held.timers

pub prepare-clock-requires-clause-apart : goal.prepare-clock-requires-clause-apart
prepare-clock-requires-clause-apart g c = resolved_apart g.A.Agent.place c.args.held.now c.args.task c.args.plan c.requires.resolved c.requires.apart

abbrev Begins : {A : Type 0} → (A → At) → (ProgramView → SeedView → A → Type 0) → ValidCode → Task A → Task A → Type 0
Begins place starts code task s = (program : ProgramView) → Lowered program (valid_code code) → SameGos program (valid_code code) → StartsFor place starts program task s

pub put_off-requires-clause-carries : goal.put_off-requires-clause-carries
put_off-requires-clause-carries g c = let a = g.A.Agent in let K = g.C.Clock in let code = c.args.code.now in let id = c.args.table.now.id in let w = c.args.worker.now in let t = c.take_others-clock in let o = t.ensures in let w1 = t.new.worker in let held1 = t.new.held in let clock0 = t.result in let p = c.prepare-clock in let q = p.ensures in let w2 = p.new.worker in let held2 = p.new.held in let shows : Part g.row.A.Denot g.row.C.Denot → PartSeen g.row.A.Denot = part_seen K.least K.faults K.readings in let plan = plan_view c.args.plan in let r = c.requires.carries in
    (r.0, r.1, r.2, clock_shown a.over a.stands code id r.0 r.1 r.2 K.least K.faults K.readings w2 clock0 p.result.0 held2 (err_is p.result.1 _ q.kept c.in-Err.is) (taken_shown a.over a.stands code id r.0 r.1 r.2 K.least K.faults K.readings w2 clock0 held1 held2 q.shown (own_number a.over a.stands code id r.0 r.1 r.2 K.least K.faults K.readings w1 w2 clock0 held1 q.same.number (kept_carrying a.over a.stands code id r.0 r.1 w1 w2 (desk_taken shows r.1 code w1.number r.2 clock0 held1) q.same q.hand q.entries (o.carries r.0 r.1 r.2 r.3)))))

pub put_off-requires-clause-timers : goal.put_off-requires-clause-timers
put_off-requires-clause-timers g c = let p = c.prepare-clock in err_is p.result.1 _ p.ensures.none c.in-Err.is

pub draw_plan-requires-clause-carries : goal.draw_plan-requires-clause-carries
draw_plan-requires-clause-carries g c = let a = g.A.Agent in let K = g.C.Clock in let code = c.args.code.now in let id = c.args.table.now.id in let w = c.args.worker.now in let t = c.take_others-clock in let o = t.ensures in let w1 = t.new.worker in let held1 = t.new.held in let clock0 = t.result in let p = c.prepare-clock in let q = p.ensures in let w2 = p.new.worker in let held2 = p.new.held in let shows : Part g.row.A.Denot g.row.C.Denot → PartSeen g.row.A.Denot = part_seen K.least K.faults K.readings in let plan = plan_view c.args.plan in let r = c.requires.carries in (
  r.0,
  r.1,
  r.2,
  clock0,
  taken_shown a.over a.stands code id r.0 r.1 r.2 K.least K.faults K.readings w2 clock0 held1 held2 q.shown (own_number a.over a.stands code id r.0 r.1 r.2 K.least K.faults K.readings w1 w2 clock0 held1 q.same.number (kept_carrying a.over a.stands code id r.0 r.1 w1 w2 (desk_taken shows r.1 code w1.number r.2 clock0 held1) q.same q.hand q.entries (o.carries r.0 r.1 r.2 r.3))),
  r.4,
  record { needed = o.clock; timely = o.timely; there = q.some; timers = ok_is p.result.1 c.in-Ok.spawned q.timers c.in-Ok.is; asked = ok_is p.result.1 c.in-Ok.spawned q.asked c.in-Ok.is },
  record {
    number = λ u e. if_some (λ (x : Task g.row.A.Denot). x.number ≡ held1.new_task) c.in-Ok.spawned u (if_ok_is (λ y. IfSome y (λ (x : Task g.row.A.Denot). x.number ≡ held1.new_task)) p.result.1 c.in-Ok.spawned q.number c.in-Ok.is) e ∙ sym q.next.task;
    begins = λ u e. if_some (Begins a.place a.starts code c.args.task) c.in-Ok.spawned u (if_ok_is (λ y. IfSome y (Begins a.place a.starts code c.args.task)) p.result.1 c.in-Ok.spawned q.starts c.in-Ok.is) e r.0 (subst (λ (x : ProgramView). Lowered x (valid_code code)) r.3.one.of_program c.requires.lowered) (subst (λ (x : ProgramView). SameGos x (valid_code code)) r.3.one.of_program c.requires.gos);
    within = λ u e. if_some (λ (x : Task g.row.A.Denot). a.over (valid_code code) x.agent) c.in-Ok.spawned u (if_ok_is (λ y. IfSome y (λ (x : Task g.row.A.Denot). a.over (valid_code code) x.agent)) p.result.1 c.in-Ok.spawned q.over c.in-Ok.is) e;
  },
)

pub draw_plan-requires-clause-ready : goal.draw_plan-requires-clause-ready
draw_plan-requires-clause-ready g c = let a = g.A.Agent in let K = g.C.Clock in let code = c.args.code.now in let id = c.args.table.now.id in let w = c.args.worker.now in let t = c.take_others-clock in let o = t.ensures in let w1 = t.new.worker in let held1 = t.new.held in let clock0 = t.result in let p = c.prepare-clock in let q = p.ensures in let w2 = p.new.worker in let held2 = p.new.held in let shows : Part g.row.A.Denot g.row.C.Denot → PartSeen g.row.A.Denot = part_seen K.least K.faults K.readings in let plan = plan_view c.args.plan in let held = c.args.held.now in let but = o.others in let sh = q.shown in let res = c.requires.resolved in
    let chans = λ (i : ℕ). sh.channels i ∙ ap (λ b. channels_held b i) but.banks in let regs = λ (i : ℕ). sh.registries i ∙ ap (λ b. registries_held b i) but.banks in let wts = λ (i : ℕ). sh.waits i ∙ ap (λ b. waits_held b i) but.shards in
    let there = sym (shows_there tasks_in held2.ready) ∙ ap is_some sh.ready ∙ shows_there tasks_in held1.ready ∙ o.there in
    record {
      is_event = c.requires.event;
      plan_for = plan_kept a.place held held2 chans regs wts plan (agent_of c.args.task) res.plan_for;
      copies = res.copies;
      apart = resolved_apart a.place held c.args.task c.args.plan res c.requires.apart;
      placed = placed_kept a.place held held2 chans regs wts c.requires.held.placed;
      paused = paused_kept a.place held held2 chans regs wts c.requires.held.paused;
      has_parts = all_parts plan held1 held2 (rest_ready plan held held1 but (resolved_rest a.place held c.args.task c.args.plan res)) (λ i. ap is_some (sh.channels i)) (λ i. ap is_some (sh.waits i)) q.next there (ok_is p.result.1 c.in-Ok.spawned q.timers c.in-Ok.is ∙ o.clock);
      numbers = numbers_moved w.number w2.number w.workers w2.workers (counts_view c.args.lane.value.counts) held held2 (q.same.number ∙ o.same.number) (q.same.workers ∙ o.same.workers) (q.next.task ∙ but.numbers.task) (q.next.port ∙ but.numbers.port) (q.next.wait ∙ but.numbers.wait) c.requires.numbers;
      no_channel = no_channel_kept a.place held1 held2 sh.channels sh.registries sh.waits held1.new_port held2.new_port q.next.port c.check_new.ensures.channel;
      no_registry = no_registry_kept a.place held1 held2 sh.channels sh.registries sh.waits held1.new_port held2.new_port q.next.port c.check_new.ensures.registry;
      made = ok_is p.result.1 c.in-Ok.spawned q.made c.in-Ok.is;
      has_spawned = if_ok_is (λ y. HasSpawned y plan) p.result.1 c.in-Ok.spawned q.there c.in-Ok.is;
      readied = there;
    }

pub draw_plan-requires-clause-room : goal.draw_plan-requires-clause-room
draw_plan-requires-clause-room g c = let p = c.prepare-clock in ok_is p.result.1 c.in-Ok.spawned p.ensures.room c.in-Ok.is

pub returns-in-Ok-clause-drew : goal.returns-in-Ok-clause-drew
returns-in-Ok-clause-drew g c = let t = c.take_others-clock in let p = c.prepare-clock in drew_later t.ensures.same t.ensures.turns (drew_later p.ensures.same (same_turns t.new.worker.hand p.new.worker.hand p.ensures.hand) c.draw_plan.ensures.drew)

pub returns-in-Ok-clause-stepped : goal.returns-in-Ok-clause-stepped
returns-in-Ok-clause-stepped g c = λ program n l s gone. let a = g.A.Agent in let K = g.C.Clock in let code = c.args.code.now in let id = c.args.table.now.id in let w = c.args.worker.now in let t = c.take_others-clock in let o = t.ensures in let w1 = t.new.worker in let held1 = t.new.held in let clock0 = t.result in let p = c.prepare-clock in let q = p.ensures in let w2 = p.new.worker in let held2 = p.new.held in let shows : Part g.row.A.Denot g.row.C.Denot → PartSeen g.row.A.Denot = part_seen K.least K.faults K.readings in let plan = plan_view c.args.plan in
    c.draw_plan.ensures.stepped program n l clock0 (taken_shown a.over a.stands code id program n l K.least K.faults K.readings w2 clock0 held1 held2 q.shown (own_number a.over a.stands code id program n l K.least K.faults K.readings w1 w2 clock0 held1 q.same.number (kept_carrying a.over a.stands code id program n w1 w2 (desk_taken shows n code w1.number l clock0 held1) q.same q.hand q.entries (o.carries program n l s)))) gone (record { needed = o.clock; timely = o.timely; there = q.some; timers = ok_is p.result.1 c.in-Ok.spawned q.timers c.in-Ok.is; asked = ok_is p.result.1 c.in-Ok.spawned q.asked c.in-Ok.is }) (record {
      number = λ u e. if_some (λ (x : Task g.row.A.Denot). x.number ≡ held1.new_task) c.in-Ok.spawned u (if_ok_is (λ y. IfSome y (λ (x : Task g.row.A.Denot). x.number ≡ held1.new_task)) p.result.1 c.in-Ok.spawned q.number c.in-Ok.is) e ∙ sym q.next.task;
      begins = λ u e. if_some (Begins a.place a.starts code c.args.task) c.in-Ok.spawned u (if_ok_is (λ y. IfSome y (Begins a.place a.starts code c.args.task)) p.result.1 c.in-Ok.spawned q.starts c.in-Ok.is) e program (subst (λ (x : ProgramView). Lowered x (valid_code code)) s.one.of_program c.requires.lowered) (subst (λ (x : ProgramView). SameGos x (valid_code code)) s.one.of_program c.requires.gos);
      within = λ u e. if_some (λ (x : Task g.row.A.Denot). a.over (valid_code code) x.agent) c.in-Ok.spawned u (if_ok_is (λ y. IfSome y (λ (x : Task g.row.A.Denot). a.over (valid_code code) x.agent)) p.result.1 c.in-Ok.spawned q.over c.in-Ok.is) e;
    })

pub returns-in-Err-clause-refused : goal.returns-in-Err-clause-refused
returns-in-Err-clause-refused g c = let t = c.take_others-clock in let p = c.prepare-clock in drew_later t.ensures.same t.ensures.turns (drew_later p.ensures.same (same_turns t.new.worker.hand p.new.worker.hand p.ensures.hand) (drew_none c.put_off.ensures.same c.put_off.ensures.turns))

pub returns-in-Err-clause-kept : goal.returns-in-Err-clause-kept
returns-in-Err-clause-kept g c = λ program n l s. let a = g.A.Agent in let K = g.C.Clock in let code = c.args.code.now in let id = c.args.table.now.id in let w = c.args.worker.now in let t = c.take_others-clock in let o = t.ensures in let w1 = t.new.worker in let held1 = t.new.held in let clock0 = t.result in let p = c.prepare-clock in let q = p.ensures in let w2 = p.new.worker in let held2 = p.new.held in let shows : Part g.row.A.Denot g.row.C.Denot → PartSeen g.row.A.Denot = part_seen K.least K.faults K.readings in let plan = plan_view c.args.plan in
    c.put_off.ensures.carries program n l (clock_shown a.over a.stands code id program n l K.least K.faults K.readings w2 clock0 p.result.0 held2 (err_is p.result.1 _ q.kept c.in-Err.is) (taken_shown a.over a.stands code id program n l K.least K.faults K.readings w2 clock0 held1 held2 q.shown (own_number a.over a.stands code id program n l K.least K.faults K.readings w1 w2 clock0 held1 q.same.number (kept_carrying a.over a.stands code id program n w1 w2 (desk_taken shows n code w1.number l clock0 held1) q.same q.hand q.entries (o.carries program n l s)))))

pub returns-in-Ok-clause-solo : goal.returns-in-Ok-clause-solo
returns-in-Ok-clause-solo g c = λ few most may. let a = g.A.Agent in let m = g.met.A.Agent in let code = c.args.code.now in let t = c.take_others-clock in let p = c.prepare-clock in
    c.draw_plan.ensures.solo few most (same_may a.over a.place a.stands a.advances a.gives a.starts m.advanced m.answered m.started code {P = MaySettle to_turn []} p.ensures.same (same_turns t.new.worker.hand p.new.worker.hand p.ensures.hand) (same_may a.over a.place a.stands a.advances a.gives a.starts m.advanced m.answered m.started code {P = MaySettle to_turn []} t.ensures.same t.ensures.turns may))
