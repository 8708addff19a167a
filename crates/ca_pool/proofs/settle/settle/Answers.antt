use Rattle.std.proofs.Common.{◌∷◌, ap, refl, subst}
use Rattle.ca_table.proofs.Drawing.{drew_as, drew_both, drew_none}
use Rattle.ca_alone.specs.Schedule.{MaySettle}
use Rattle.ca_pool.specs.Costs.{cost_settling}
use Rattle.ca_pool.specs.Lone.{HasLooked}
use Rattle.ca_pool.proofs.LoneSettling.{again_may}
use Rattle.ca_pool.proofs.Ranges.{did_none, workers_then}
use Rattle.ca_pool.proofs.Resolutions.{err_any}
use Rattle.ca_pool.proofs.settle.settle.Goals as goal

pub loop-init : goal.loop-init
loop-init g c = let w = c.args.worker.now in let d = did_none w in (d.same, c.requires.bare, drew_none d.same d.turns, λ P n l s. s, λ k us most m. m)

pub look_once-requires-clause-carries : goal.look_once-requires-clause-carries
look_once-requires-clause-carries g c = let r = c.requires.carries in (r.0, r.1, r.2, c.loop.invariant.3 r.0 r.1 r.2 r.3)

pub loop-preserved : goal.loop-preserved
loop-preserved g c = let k = c.look_once in let v = c.loop.invariant in let a = g.A.Agent in let p = c.args.port.n in (
  workers_then c.args.worker.now c.loop.worker k.new.worker v.0 k.ensures.same,
  k.ensures.bare,
  drew_both v.2 (drew_as (ap cost_settling c.in-Again.is) refl c.in_ok-look_once.ensures.drew),
  λ P n l s. k.ensures.carries P n l (v.3 P n l s),
  λ f us most m. let m2 = v.4 f us most m in
      again_may a.over a.place a.stands a.advances a.gives a.starts g.met.A.Agent.advanced g.met.A.Agent.answered g.met.A.Agent.started c.args.code.now {P = MaySettle f (p ∷ us)} {Q = MaySettle f (p ∷ us)} {old = c.loop.worker} {new = k.new.worker} (drew_as (ap cost_settling c.in-Again.is) refl c.in_ok-look_once.ensures.drew) m2
      (subst (λ s. HasLooked a.over a.place a.stands a.advances a.gives a.starts c.args.code.now f p us most s k.new.worker) c.in-Again.is (c.in_ok-look_once.ensures.solo f us most m2)),
)

pub returns-in_err-look_once-clause-carries : goal.returns-in_err-look_once-clause-carries
returns-in_err-look_once-clause-carries g c = λ P n l s. c.look_once.ensures.carries P n l (c.loop.invariant.3 P n l s)

pub returns-in-Rests-clause-carries : goal.returns-in-Rests-clause-carries
returns-in-Rests-clause-carries g c = λ P n l s. c.look_once.ensures.carries P n l (c.loop.invariant.3 P n l s)

pub returns-in-Rests-clause-drew : goal.returns-in-Rests-clause-drew
returns-in-Rests-clause-drew g c = drew_both c.loop.invariant.2 (drew_as (ap cost_settling c.in-Rests.is) refl c.in_ok-look_once.ensures.drew)

pub returns-in-Settled-clause-carries : goal.returns-in-Settled-clause-carries
returns-in-Settled-clause-carries g c = λ P n l s. c.look_once.ensures.carries P n l (c.loop.invariant.3 P n l s)

pub returns-in-Settled-clause-drew : goal.returns-in-Settled-clause-drew
returns-in-Settled-clause-drew g c = drew_both c.loop.invariant.2 (drew_as (ap cost_settling c.in-Settled.is) refl c.in_ok-look_once.ensures.drew)

pub returns-in-Rests-clause-solo : goal.returns-in-Rests-clause-solo
returns-in-Rests-clause-solo g c = λ k us most m. let a = g.A.Agent in subst (λ s. HasLooked a.over a.place a.stands a.advances a.gives a.starts c.args.code.now k c.args.port.n us most s c.look_once.new.worker) c.in-Rests.is (c.in_ok-look_once.ensures.solo k us most (c.loop.invariant.4 k us most m))

pub returns-in-Settled-clause-solo : goal.returns-in-Settled-clause-solo
returns-in-Settled-clause-solo g c = λ k us most m. let a = g.A.Agent in subst (λ s. HasLooked a.over a.place a.stands a.advances a.gives a.starts c.args.code.now k c.args.port.n us most s c.look_once.new.worker) c.in-Settled.is (c.in_ok-look_once.ensures.solo k us most (c.loop.invariant.4 k us most m))

pub returns-in_err-look_once-clause-refused : goal.returns-in_err-look_once-clause-refused
returns-in_err-look_once-clause-refused g c = err_any c.from_residual.result (drew_both c.loop.invariant.2 c.in_err-look_once.ensures.refused)
