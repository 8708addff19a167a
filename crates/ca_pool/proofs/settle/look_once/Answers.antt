use Rattle.std.proofs.Common.{ℕ, List, ◌∷◌, None, sym, false}
use Rattle.ca_commit.proofs.Stales.{settle_stale}
use Rattle.ca_table.specs.Bearing.{parts_held}
use Rattle.ca_table.specs.Worked.{Drew}
use Rattle.ca_table.proofs.Drawing.{drew_both}
use Rattle.ca_alone.specs.Schedule.{Follow, MaySettle}
use Rattle.ca_pool.specs.Costs.{cost_settling}
use Rattle.ca_pool.specs.Lone.{HasLooked, MayGo}
use Rattle.ca_pool.proofs.Lone.{same_lone, same_may, stayed_lone}
use Rattle.ca_pool.proofs.LoneSettling.{rests_pass}
use Rattle.ca_pool.proofs.Takens.{as_number, if_ok}
use Rattle.ca_pool.proofs.Resolutions.{err_any, err_map}
use Rattle.ca_pool.proofs.settle.look_once.Goals as goal

pub put_off-requires-clause-carries : goal.put_off-requires-clause-carries
put_off-requires-clause-carries g c = let a = g.A.Agent in let K = g.C.Clock in let r = c.requires.carries in let t = c.take_channel in
    (r.0, r.1, r.2, as_number a.over a.stands K.least K.faults K.readings r.0 c.args.code.now c.args.table.now.id r.1 t.new.worker r.2 c.args.worker.now.number t.new.worker.number None t.new.held t.ensures.same.number (c.in_ok-take_channel.ensures.carries r.0 r.1 r.2 r.3))

pub put_off-requires-in-Unheld-clause-carries : goal.put_off-requires-in-Unheld-clause-carries
put_off-requires-in-Unheld-clause-carries g c = let a = g.A.Agent in let K = g.C.Clock in let r = c.requires.carries in let t = c.take_channel in
    (r.0, r.1, r.2, as_number a.over a.stands K.least K.faults K.readings r.0 c.args.code.now c.args.table.now.id r.1 t.new.worker r.2 c.args.worker.now.number t.new.worker.number None t.new.held t.ensures.same.number (c.in_ok-take_channel.ensures.carries r.0 r.1 r.2 r.3))

pub prune-requires-clause-carries : goal.prune-requires-clause-carries
prune-requires-clause-carries g c = let a = g.A.Agent in let K = g.C.Clock in let r = c.requires.carries in let t = c.take_channel in
    (r.0, r.1, r.2, as_number a.over a.stands K.least K.faults K.readings r.0 c.args.code.now c.args.table.now.id r.1 t.new.worker r.2 c.args.worker.now.number t.new.worker.number None t.new.held t.ensures.same.number (c.in_ok-take_channel.ensures.carries r.0 r.1 r.2 r.3))

pub prune-requires-clause-stale : goal.prune-requires-clause-stale
prune-requires-clause-stale g c = let t = c.take_channel in settle_stale (parts_held t.new.worker.number None None t.new.held) c.args.port.n c.in-Stale.side (sym c.in-Stale.ensures)

pub serve_taken-requires-clause-carries : goal.serve_taken-requires-clause-carries
serve_taken-requires-clause-carries g c = let a = g.A.Agent in let K = g.C.Clock in let r = c.requires.carries in let t = c.take_channel in
    (r.0, r.1, r.2, as_number a.over a.stands K.least K.faults K.readings r.0 c.args.code.now c.args.table.now.id r.1 t.new.worker r.2 c.args.worker.now.number t.new.worker.number None t.new.held t.ensures.same.number (c.in_ok-take_channel.ensures.carries r.0 r.1 r.2 r.3))

pub returns-in-Rests-clause-carries : goal.returns-in-Rests-clause-carries
returns-in-Rests-clause-carries g c = λ P n l s. let a = g.A.Agent in let K = g.C.Clock in let t = c.take_channel in
    c.put_off.ensures.carries P n l (as_number a.over a.stands K.least K.faults K.readings P c.args.code.now c.args.table.now.id n t.new.worker l c.args.worker.now.number t.new.worker.number None t.new.held t.ensures.same.number (c.in_ok-take_channel.ensures.carries P n l s))

pub returns-in-Unheld-clause-carries : goal.returns-in-Unheld-clause-carries
returns-in-Unheld-clause-carries g c = λ P n l s. let a = g.A.Agent in let K = g.C.Clock in let t = c.take_channel in
    c.put_off-in-Unheld.ensures.carries P n l (as_number a.over a.stands K.least K.faults K.readings P c.args.code.now c.args.table.now.id n t.new.worker l c.args.worker.now.number t.new.worker.number None t.new.held t.ensures.same.number (c.in_ok-take_channel.ensures.carries P n l s))

pub returns-in-Stale-clause-carries : goal.returns-in-Stale-clause-carries
returns-in-Stale-clause-carries g c = λ P n l s. let a = g.A.Agent in let K = g.C.Clock in let t = c.take_channel in
    c.prune.ensures.carries P n l (as_number a.over a.stands K.least K.faults K.readings P c.args.code.now c.args.table.now.id n t.new.worker l c.args.worker.now.number t.new.worker.number None t.new.held t.ensures.same.number (c.in_ok-take_channel.ensures.carries P n l s))

pub returns-in-Serves-clause-carries : goal.returns-in-Serves-clause-carries
returns-in-Serves-clause-carries g c = λ P n l s. let a = g.A.Agent in let K = g.C.Clock in let t = c.take_channel in
    c.serve_taken.ensures.carries P n l (as_number a.over a.stands K.least K.faults K.readings P c.args.code.now c.args.table.now.id n t.new.worker l c.args.worker.now.number t.new.worker.number None t.new.held t.ensures.same.number (c.in_ok-take_channel.ensures.carries P n l s))

pub returns-in-Stale-clause-drew : goal.returns-in-Stale-clause-drew
returns-in-Stale-clause-drew g c = drew_both c.take_channel.ensures.drew c.prune.ensures.drew

pub returns-in-Serves-clause-drew : goal.returns-in-Serves-clause-drew
returns-in-Serves-clause-drew g c = let t = c.take_channel in let k = c.serve_taken in
    if_ok (λ x. Drew (cost_settling x) false t.new.worker k.new.worker) (λ x. Drew (cost_settling x) false c.args.worker.now k.new.worker) k.result (λ x d. drew_both t.ensures.drew d) k.ensures.drew

pub returns-in-Rests-clause-solo : goal.returns-in-Rests-clause-solo
returns-in-Rests-clause-solo g c = λ k us most m. let a = g.A.Agent in let K = g.C.Clock in let r = c.requires.carries in let w = c.args.worker.now in let t = c.take_channel in let p = c.args.port.n in
    let took = same_lone a.over a.place a.stands a.advances a.gives a.starts g.met.A.Agent.advanced g.met.A.Agent.answered g.met.A.Agent.started c.args.code.now {P = MaySettle k (p ∷ us)} {old = w} {new = t.new.worker} t.ensures.same t.ensures.turns m.at in
    let rested = rests_pass a.over a.place a.stands a.advances a.gives a.starts g.met.A.Agent.advanced g.met.A.Agent.answered g.met.A.Agent.started c.args.code.now K.least K.faults K.readings c.args.table.now.id {w = t.new.worker} r.0 r.1 r.2 w.number t.new.held k p us (c.in_ok-take_channel.ensures.carries r.0 r.1 r.2 r.3) c.in_ok-take_channel.ensures.bank (sym c.in-Rests.ensures) took in
    same_lone a.over a.place a.stands a.advances a.gives a.starts g.met.A.Agent.advanced g.met.A.Agent.answered g.met.A.Agent.started c.args.code.now {P = MaySettle k us} {old = t.new.worker} {new = c.put_off.new.worker} c.put_off.ensures.same c.put_off.ensures.turns rested

pub returns-in-Unheld-clause-solo : goal.returns-in-Unheld-clause-solo
returns-in-Unheld-clause-solo g c = λ k us most m. let a = g.A.Agent in let w = c.args.worker.now in let t = c.take_channel in let v = c.put_off-in-Unheld in let at = MaySettle k (c.args.port.n ∷ us) in
    let took = same_lone a.over a.place a.stands a.advances a.gives a.starts g.met.A.Agent.advanced g.met.A.Agent.answered g.met.A.Agent.started c.args.code.now {P = at} {old = w} {new = t.new.worker} t.ensures.same t.ensures.turns m.at in
    same_lone a.over a.place a.stands a.advances a.gives a.starts g.met.A.Agent.advanced g.met.A.Agent.answered g.met.A.Agent.started c.args.code.now {P = at} {old = t.new.worker} {new = v.new.worker} v.ensures.same v.ensures.turns took

pub returns-in-Stale-clause-solo : goal.returns-in-Stale-clause-solo
returns-in-Stale-clause-solo g c = λ k us most m. let a = g.A.Agent in let w = c.args.worker.now in let t = c.take_channel in let v = c.prune in let at = MaySettle k (c.args.port.n ∷ us) in
    let took = same_lone a.over a.place a.stands a.advances a.gives a.starts g.met.A.Agent.advanced g.met.A.Agent.answered g.met.A.Agent.started c.args.code.now {P = at} {old = w} {new = t.new.worker} t.ensures.same t.ensures.turns m.at in
    stayed_lone a.over a.place a.stands a.advances a.gives a.starts g.met.A.Agent.advanced g.met.A.Agent.answered g.met.A.Agent.started c.args.code.now {P = at} {old = t.new.worker} {new = v.new.worker} v.ensures.stayed took

pub returns-in-Serves-clause-solo : goal.returns-in-Serves-clause-solo
returns-in-Serves-clause-solo g c = let a = g.A.Agent in let w = c.args.worker.now in let t = c.take_channel in let v = c.serve_taken in let p = c.args.port.n in
    if_ok (λ s. (k : Follow) (us : List ℕ) (most : ℕ) → MayGo a.over a.place a.stands a.advances a.gives a.starts c.args.code.now (MaySettle k (p ∷ us)) most t.new.worker → HasLooked a.over a.place a.stands a.advances a.gives a.starts c.args.code.now k p us most s v.new.worker)
    (λ s. (k : Follow) (us : List ℕ) (most : ℕ) → MayGo a.over a.place a.stands a.advances a.gives a.starts c.args.code.now (MaySettle k (p ∷ us)) most w → HasLooked a.over a.place a.stands a.advances a.gives a.starts c.args.code.now k p us most s v.new.worker)
    v.result (λ s f k us most m. f k us most (same_may a.over a.place a.stands a.advances a.gives a.starts g.met.A.Agent.advanced g.met.A.Agent.answered g.met.A.Agent.started c.args.code.now {P = MaySettle k (p ∷ us)} {old = w} {new = t.new.worker} t.ensures.same t.ensures.turns m)) v.ensures.solo

pub returns-in_err-take_channel-clause-refused : goal.returns-in_err-take_channel-clause-refused
returns-in_err-take_channel-clause-refused g c = err_any c.from_residual.result c.take_channel.ensures.drew

pub returns-in-Serves-clause-refused : goal.returns-in-Serves-clause-refused
returns-in-Serves-clause-refused g c = err_map c.serve_taken.result (λ d. drew_both c.take_channel.ensures.drew d) c.serve_taken.ensures.refused
