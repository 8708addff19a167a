use Rattle.std.proofs.Common.{◌≡◌, ◌∙◌, ℕ, Some, None, ap, false, refl, sym, subst}
use Rattle.ca_table.specs.Worked.{Drew}
use Rattle.ca_table.proofs.Carriers.{carries_seated, seated_carries}
use Rattle.ca_table.proofs.Drawing.{drew_as, drew_both, drew_weaker}
use Rattle.ca_alone.specs.Schedule.{AtEmpty, MaySettle, to_rest}
use Rattle.ca_pool.specs.Costs.{cost_idle, is_over}
use Rattle.ca_pool.specs.Surveys.{is_stuck}
use Rattle.ca_pool.specs.Lone.{MayGo, Went}
use Rattle.ca_pool.proofs.Takens.{if_ok}
use Rattle.ca_pool.proofs.Lone.{stayed_both, stayed_may}
use Rattle.ca_pool.proofs.LoneClocks.{rests_empty}
use Rattle.ca_table.specs.declared.answer.PoolStop.{PoolStop}
use Rattle.ca_pool.specs.AtWork.{GaveUp}
use Rattle.ca_pool.proofs.AtWork.{gave_later, gave_none, if_err}
use Rattle.ca_pool.proofs.idle.idle.Goals as goal

pub obey-requires-clause-carries : goal.obey-requires-clause-carries
obey-requires-clause-carries g c = let a = g.A.Agent in let r = c.requires.seated in let l = c.args.lane.value in
    (r.0, r.1, l, seated_carries a.over a.stands r.0 c.args.code.now c.args.table.now.id r.1 c.args.worker.now l r.2)

pub returns-then-obey-clause-seated : goal.returns-then-obey-clause-seated
returns-then-obey-clause-seated g c = λ P n s. let a = g.A.Agent in let l = c.args.lane.value in let code = c.args.code.now in let id = c.args.table.now.id in
    carries_seated a.over a.stands P code id n c.obey.new.worker l s.lane_is (c.obey.ensures.carries P n l (seated_carries a.over a.stands P code id n c.args.worker.now l s))

pub returns-then-obey-clause-over : goal.returns-then-obey-clause-over
returns-then-obey-clause-over g c = λ t e. absurd (let z : None ≡ Some t = sym c.requires.free ∙ e in cc)

pub returns-then-obey-clause-drew : goal.returns-then-obey-clause-drew
returns-then-obey-clause-drew g c = drew_as refl c.if-obey.true c.obey.ensures.drew

pub look_round-lane-requires : goal.look_round-lane-requires
look_round-lane-requires g c = let a = g.A.Agent in let r = c.requires.seated in let l = c.args.lane.value in let code = c.args.code.now in let id = c.args.table.now.id in
    record { seated = (r.0, r.1, carries_seated a.over a.stands r.0 code id r.1 c.obey.new.worker l r.2.lane_is (c.obey.ensures.carries r.0 r.1 l (seated_carries a.over a.stands r.0 code id r.1 c.args.worker.now l r.2))) }

pub await_deadline-came-requires-clause-carries : goal.await_deadline-came-requires-clause-carries
await_deadline-came-requires-clause-carries g c = let a = g.A.Agent in let r = c.requires.seated in let l = c.args.lane.value in let code = c.args.code.now in let id = c.args.table.now.id in let t = c.look_round-lane in let m = t.result.0.value in
    (r.0, r.1, m, seated_carries a.over a.stands r.0 code id r.1 t.new.worker m (t.ensures.seated r.0 r.1 (carries_seated a.over a.stands r.0 code id r.1 c.obey.new.worker l r.2.lane_is (c.obey.ensures.carries r.0 r.1 l (seated_carries a.over a.stands r.0 code id r.1 c.args.worker.now l r.2)))))

pub returns-in-Busy-clause-seated : goal.returns-in-Busy-clause-seated
returns-in-Busy-clause-seated g c = λ P n s. let a = g.A.Agent in let l = c.args.lane.value in let code = c.args.code.now in let id = c.args.table.now.id in
    c.look_round-lane.ensures.seated P n (carries_seated a.over a.stands P code id n c.obey.new.worker l s.lane_is (c.obey.ensures.carries P n l (seated_carries a.over a.stands P code id n c.args.worker.now l s)))

pub returns-in-Busy-clause-drew : goal.returns-in-Busy-clause-drew
returns-in-Busy-clause-drew g c = drew_both (drew_weaker c.obey.ensures.drew) (drew_weaker c.look_round-lane.ensures.drew)

pub returns-in-Stuck-clause-seated : goal.returns-in-Stuck-clause-seated
returns-in-Stuck-clause-seated g c = λ P n s. let a = g.A.Agent in let l = c.args.lane.value in let code = c.args.code.now in let id = c.args.table.now.id in
    c.look_round-lane.ensures.seated P n (carries_seated a.over a.stands P code id n c.obey.new.worker l s.lane_is (c.obey.ensures.carries P n l (seated_carries a.over a.stands P code id n c.args.worker.now l s)))

pub returns-in-Stuck-clause-drew : goal.returns-in-Stuck-clause-drew
returns-in-Stuck-clause-drew g c = let t = c.look_round-lane in drew_both (drew_weaker c.obey.ensures.drew) (drew_as refl (ap is_stuck c.in-Stuck.is) t.ensures.drew)

pub returns-in-Stirs-clause-seated : goal.returns-in-Stirs-clause-seated
returns-in-Stirs-clause-seated g c = λ P n s. let a = g.A.Agent in let l = c.args.lane.value in let code = c.args.code.now in let id = c.args.table.now.id in
    c.look_round-lane.ensures.seated P n (carries_seated a.over a.stands P code id n c.obey.new.worker l s.lane_is (c.obey.ensures.carries P n l (seated_carries a.over a.stands P code id n c.args.worker.now l s)))

pub returns-in-Stirs-clause-drew : goal.returns-in-Stirs-clause-drew
returns-in-Stirs-clause-drew g c = let t = c.look_round-lane in let k = c.name_port in
    if_ok (λ i. (cost_idle i ≡ 0) × (is_over i ≡ false)) (λ i. Drew (cost_idle i) (is_over i) c.args.worker.now t.new.worker) k.result (λ i e. drew_as (sym e.0) (sym e.1) (drew_both (drew_weaker c.obey.ensures.drew) (drew_weaker t.ensures.drew))) k.ensures.cost

pub returns-in-Waits-clause-seated : goal.returns-in-Waits-clause-seated
returns-in-Waits-clause-seated g c = λ P n s. let a = g.A.Agent in let l = c.args.lane.value in let code = c.args.code.now in let id = c.args.table.now.id in let t = c.look_round-lane in let m = t.result.0.value in let k = c.await_deadline-came in
    let sat = t.ensures.seated P n (carries_seated a.over a.stands P code id n c.obey.new.worker l s.lane_is (c.obey.ensures.carries P n l (seated_carries a.over a.stands P code id n c.args.worker.now l s))) in
    carries_seated a.over a.stands P code id n k.new.worker m sat.lane_is (k.ensures.carries P n m (seated_carries a.over a.stands P code id n t.new.worker m sat))

pub returns-in-Waits-clause-drew : goal.returns-in-Waits-clause-drew
returns-in-Waits-clause-drew g c = let t = c.look_round-lane in let k = c.await_deadline-came in
    if_ok (λ i. Drew (cost_idle i) (is_over i) t.new.worker k.new.worker) (λ i. Drew (cost_idle i) (is_over i) c.args.worker.now k.new.worker) k.result (λ i d. drew_both (drew_both (drew_weaker c.obey.ensures.drew) (drew_weaker t.ensures.drew)) d) k.ensures.drew

pub returns-then-obey-clause-solo : goal.returns-then-obey-clause-solo
returns-then-obey-clause-solo g c = λ most may. let a = g.A.Agent in let m = g.met.A.Agent in let K = g.C.Clock in let w = c.args.worker.now in let code = c.args.code.now in
    rests_empty a.over a.place a.stands a.advances a.gives a.starts m.advanced m.answered m.started code c.args.due.now.items {most = most} {w = c.obey.new.worker} (stayed_may a.over a.place a.stands a.advances a.gives a.starts m.advanced m.answered m.started code {P = AtEmpty} {most = most} {old = w} {new = c.obey.new.worker} c.obey.ensures.stayed may)

pub returns-in-Busy-clause-solo : goal.returns-in-Busy-clause-solo
returns-in-Busy-clause-solo g c = λ most may. let a = g.A.Agent in let m = g.met.A.Agent in let K = g.C.Clock in let w = c.args.worker.now in let code = c.args.code.now in let t = c.look_round-lane in
    rests_empty a.over a.place a.stands a.advances a.gives a.starts m.advanced m.answered m.started code c.args.due.now.items {most = most} {w = t.new.worker} (stayed_may a.over a.place a.stands a.advances a.gives a.starts m.advanced m.answered m.started code {P = AtEmpty} {most = most} {old = w} {new = t.new.worker} (stayed_both c.obey.ensures.stayed t.ensures.stayed) may)

pub returns-in-Stuck-clause-solo : goal.returns-in-Stuck-clause-solo
returns-in-Stuck-clause-solo g c = λ most may. let a = g.A.Agent in let m = g.met.A.Agent in let K = g.C.Clock in let w = c.args.worker.now in let code = c.args.code.now in let t = c.look_round-lane in
    rests_empty a.over a.place a.stands a.advances a.gives a.starts m.advanced m.answered m.started code c.args.due.now.items {most = most} {w = t.new.worker} (stayed_may a.over a.place a.stands a.advances a.gives a.starts m.advanced m.answered m.started code {P = AtEmpty} {most = most} {old = w} {new = t.new.worker} (stayed_both c.obey.ensures.stayed t.ensures.stayed) may)

pub returns-in-Stirs-clause-solo : goal.returns-in-Stirs-clause-solo
returns-in-Stirs-clause-solo g c = let a = g.A.Agent in let m = g.met.A.Agent in let K = g.C.Clock in let w = c.args.worker.now in let code = c.args.code.now in let t = c.look_round-lane in let k = c.name_port in let us = k.new.ports.items in
    if_ok (λ i. (cost_idle i ≡ 0) × (is_over i ≡ false)) (λ i. (most : ℕ) → MayGo a.over a.place a.stands a.advances a.gives a.starts code AtEmpty most w → Went a.over a.place a.stands a.advances a.gives a.starts code (MaySettle to_rest us) most t.new.worker) k.result
    (λ i e most may. rests_empty a.over a.place a.stands a.advances a.gives a.starts m.advanced m.answered m.started code us {most = most} {w = t.new.worker} (stayed_may a.over a.place a.stands a.advances a.gives a.starts m.advanced m.answered m.started code {P = AtEmpty} {most = most} {old = w} {new = t.new.worker} (stayed_both c.obey.ensures.stayed t.ensures.stayed) may)) k.ensures.cost

pub returns-in-Waits-clause-solo : goal.returns-in-Waits-clause-solo
returns-in-Waits-clause-solo g c = let a = g.A.Agent in let m = g.met.A.Agent in let K = g.C.Clock in let w = c.args.worker.now in let code = c.args.code.now in let t = c.look_round-lane in let k = c.await_deadline-came in let us = k.new.ports.items in
    if_ok
    (λ i. (most : ℕ) → MayGo a.over a.place a.stands a.advances a.gives a.starts code AtEmpty most t.new.worker → Went a.over a.place a.stands a.advances a.gives a.starts code (MaySettle to_rest us) most k.new.worker)
    (λ i. (most : ℕ) → MayGo a.over a.place a.stands a.advances a.gives a.starts code AtEmpty most w → Went a.over a.place a.stands a.advances a.gives a.starts code (MaySettle to_rest us) most k.new.worker)
    k.result (λ i f most may. f most (stayed_may a.over a.place a.stands a.advances a.gives a.starts m.advanced m.answered m.started code {P = AtEmpty} {most = most} {old = w} {new = t.new.worker} (stayed_both c.obey.ensures.stayed t.ensures.stayed) may)) k.ensures.solo

pub returns-in-Stirs-clause-stopped : goal.returns-in-Stirs-clause-stopped
returns-in-Stirs-clause-stopped g c = let t = c.look_round-lane in
    if_err c.name_port.result (λ s is. subst (λ (s : PoolStop). GaveUp s c.args.worker.now t.new.worker) (sym is) (gave_none (drew_both (drew_weaker c.obey.ensures.drew) (drew_weaker t.ensures.drew)))) c.name_port.ensures.stopped

pub returns-in-Waits-clause-stopped : goal.returns-in-Waits-clause-stopped
returns-in-Waits-clause-stopped g c = let t = c.look_round-lane in
    if_err c.await_deadline-came.result (λ s gave. gave_later (drew_both (drew_weaker c.obey.ensures.drew) (drew_weaker t.ensures.drew)) gave) c.await_deadline-came.ensures.stopped
