use Rattle.std.proofs.Common.{◌≡◌, ◌∙◌, ◌<◌, Bool, ap, subst, arith, is_some}
use Rattle.std.specs.Bool.{OnTrue}
use Rattle.ca_commit.specs.Listing.{listed}
use Rattle.ca_commit.specs.Listings.{parts}
use Rattle.ca_commit.specs.Numbers.{number_of_bank}
use Rattle.ca_table.specs.Homes.{has_home}
use Rattle.ca_table.proofs.HomeMembers.{own}
use Rattle.ca_pool.proofs.Trying.{fewer_before, none_tried, one_tried, still_carries, still_sound}
use Rattle.ca_pool.proofs.hold.try_load.Goals as goal

pub loop-number-init : goal.loop-number-init
loop-number-init g c = let a = g.A.Agent in let K = g.C.Clock in (
  (let r = c.requires.room in omega (arith, r)),
  none_tried a.over a.stands a.place c.args.code.now c.args.table.now.id K.least K.faults K.readings (has_home c.args.homes.now) c.args.worker.now (parts c.args.banks.now) c.requires.empty,
)

pub try_wanted-free-requires-clause-carries : goal.try_wanted-free-requires-clause-carries
try_wanted-free-requires-clause-carries g c = let r = c.requires.carries in (r.0, r.1, r.2, c.loop-number.invariant.1.carries r.0 r.1 r.2 r.3 r.4)

pub try_wanted-free-requires-clause-none : goal.try_wanted-free-requires-clause-none
try_wanted-free-requires-clause-none g c = c.loop-number.invariant.1.none c.loop-number.number (omega arith)

pub loop-number-preserved : goal.loop-number-preserved
loop-number-preserved g c = let a = g.A.Agent in let K = g.C.Clock in let k = c.loop-number.number in let lt : k < 16 = omega (arith, c.loop-number-test.true) in let has = has_home c.args.homes.now in let l = c.loop-number.invariant in let t = c.try_wanted-free in let q = t.ensures in (
  (let room = l.0 in let kept = q.room in omega (arith, room, kept)),
  one_tried a.over a.stands a.place c.args.code.now c.args.table.now.id K.least K.faults K.readings has c.args.worker.now c.loop-number.worker (parts c.loop-number.banks) k l.1 t.new.worker (parts t.new.banks) q.kept q.sound q.carries q.same q.turns q.entries
      (subst (λ (b : Bool). OnTrue b (is_some (listed number_of_bank (parts t.new.banks) k) ≡ c.has.result)) c.if-not-free.false q.told ∙ c.has.ensures ∙ ap has (own k lt)),
)

pub returns-then-not-free-clause-sound : goal.returns-then-not-free-clause-sound
returns-then-not-free-clause-sound g c = let a = g.A.Agent in let K = g.C.Clock in let t = c.try_wanted-free in
    still_sound a.over a.stands a.place c.args.code.now c.args.table.now.id K.least K.faults K.readings (has_home c.args.homes.now) c.args.worker.now c.loop-number.worker (parts c.loop-number.banks) c.loop-number.number c.loop-number.invariant.1 t.new.worker (parts t.new.banks) t.ensures.kept t.ensures.sound t.ensures.carries

pub returns-then-not-free-clause-carries : goal.returns-then-not-free-clause-carries
returns-then-not-free-clause-carries g c = let a = g.A.Agent in let K = g.C.Clock in let t = c.try_wanted-free in
    still_carries a.over a.stands a.place c.args.code.now c.args.table.now.id K.least K.faults K.readings (has_home c.args.homes.now) c.args.worker.now c.loop-number.worker (parts c.loop-number.banks) c.loop-number.number c.loop-number.invariant.1 t.new.worker (parts t.new.banks) t.ensures.kept t.ensures.sound t.ensures.carries

pub returns-then-not-free-clause-free : goal.returns-then-not-free-clause-free
returns-then-not-free-clause-free g c = λ e. fewer_before c.args.worker.now.hand c.loop-number.worker.hand c.loop-number.invariant.1.turns.same (c.try_wanted-free.ensures.free c.if-not-free.true)
