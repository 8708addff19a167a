use Rattle.std.proofs.Common.{◌∙◌, ℕ, None, ap, is_some, sym}
use Rattle.ca_term.specs.Program.{ProgramView}
use Rattle.ca_commit.specs.Contents.{home}
use Rattle.ca_commit.specs.Listing.{listed}
use Rattle.ca_commit.specs.Listings.{parts}
use Rattle.ca_commit.specs.Numbers.{number_of_bank}
use Rattle.ca_commit.proofs.Holdings.{home_below}
use Rattle.ca_table.specs.Carriers.{IsCarrying, just_lane}
use Rattle.ca_table.specs.declared.part.Lane.{Lane}
use Rattle.ca_table.proofs.Seats.{then_same}
use Rattle.ca_pool.proofs.LoneSettling.{bank_held, home_added}
use Rattle.ca_pool.proofs.Takens.{as_number, bare_in, bare_out, refused_or}
use Rattle.ca_pool.proofs.settle.take_channel.Goals as goal

pub take_banks-requires-clause-carries : goal.take_banks-requires-clause-carries
take_banks-requires-clause-carries g c = let a = g.A.Agent in let K = g.C.Clock in let r = c.requires.carries in let w = c.args.worker.now in
    (r.0, r.1, r.2, bare_in a.over a.stands K.least K.faults K.readings r.0 c.args.code.now c.args.table.now.id r.1 w r.2 w.number c.args.held.now c.requires.bare r.3)

pub returns-in_err-take_banks-clause-kept : goal.returns-in_err-take_banks-clause-kept
returns-in_err-take_banks-clause-kept g c = let a = g.A.Agent in let K = g.C.Clock in let w = c.args.worker.now in let t = c.take_banks in let code = c.args.code.now in let id = c.args.table.now.id in
    let kept : (P : ProgramView) (n : ℕ) (l : Lane g.row.A.Denot) → IsCarrying a.over a.stands P code id n w (just_lane n code l) → IsCarrying a.over a.stands P code id n t.new.worker (just_lane n code l)
    = λ P n l s. bare_out a.over a.stands K.least K.faults K.readings P code id n t.new.worker l w.number t.new.held c.in_err-take_banks.ensures.refused
    (t.ensures.carries P n l (bare_in a.over a.stands K.least K.faults K.readings P code id n w l w.number c.args.held.now c.requires.bare s)) in
    refused_or _ kept

pub take_shards-requires-clause-carries : goal.take_shards-requires-clause-carries
take_shards-requires-clause-carries g c = let a = g.A.Agent in let K = g.C.Clock in let r = c.requires.carries in let w = c.args.worker.now in let t = c.take_banks in let code = c.args.code.now in let id = c.args.table.now.id in (
  r.0,
  r.1,
  r.2,
  as_number a.over a.stands K.least K.faults K.readings r.0 code id r.1 t.new.worker r.2 w.number t.new.worker.number None t.new.held t.ensures.same.number
      (t.ensures.carries r.0 r.1 r.2 (bare_in a.over a.stands K.least K.faults K.readings r.0 code id r.1 w r.2 w.number c.args.held.now c.requires.bare r.3)),
)

pub put_off-requires-clause-carries : goal.put_off-requires-clause-carries
put_off-requires-clause-carries g c = let a = g.A.Agent in let K = g.C.Clock in let r = c.requires.carries in let w = c.args.worker.now in let t = c.take_banks in let u = c.take_shards in let code = c.args.code.now in let id = c.args.table.now.id in (
  r.0,
  r.1,
  r.2,
  as_number a.over a.stands K.least K.faults K.readings r.0 code id r.1 u.new.worker r.2 t.new.worker.number u.new.worker.number None u.new.held u.ensures.same.number
      (u.ensures.carries r.0 r.1 r.2 (as_number a.over a.stands K.least K.faults K.readings r.0 code id r.1 t.new.worker r.2 w.number t.new.worker.number None t.new.held t.ensures.same.number
      (t.ensures.carries r.0 r.1 r.2 (bare_in a.over a.stands K.least K.faults K.readings r.0 code id r.1 w r.2 w.number c.args.held.now c.requires.bare r.3)))),
)

pub returns-in-Ok-clause-carries : goal.returns-in-Ok-clause-carries
returns-in-Ok-clause-carries g c = λ P n l s. let a = g.A.Agent in let K = g.C.Clock in let w = c.args.worker.now in let t = c.take_banks in let u = c.take_shards in let code = c.args.code.now in let id = c.args.table.now.id in
    as_number a.over a.stands K.least K.faults K.readings P code id n u.new.worker l t.new.worker.number w.number None u.new.held (sym t.ensures.same.number)
    (u.ensures.carries P n l (as_number a.over a.stands K.least K.faults K.readings P code id n t.new.worker l w.number t.new.worker.number None t.new.held t.ensures.same.number
    (t.ensures.carries P n l (bare_in a.over a.stands K.least K.faults K.readings P code id n w l w.number c.args.held.now c.requires.bare s))))

pub returns-in-Err-clause-kept : goal.returns-in-Err-clause-kept
returns-in-Err-clause-kept g c = λ P n l s. let a = g.A.Agent in let K = g.C.Clock in let w = c.args.worker.now in let t = c.take_banks in let u = c.take_shards in let code = c.args.code.now in let id = c.args.table.now.id in
    c.put_off.ensures.carries P n l (as_number a.over a.stands K.least K.faults K.readings P code id n u.new.worker l t.new.worker.number u.new.worker.number None u.new.held u.ensures.same.number
    (u.ensures.carries P n l (as_number a.over a.stands K.least K.faults K.readings P code id n t.new.worker l w.number t.new.worker.number None t.new.held t.ensures.same.number
    (t.ensures.carries P n l (bare_in a.over a.stands K.least K.faults K.readings P code id n w l w.number c.args.held.now c.requires.bare s)))))

pub returns-in-Ok-clause-turns : goal.returns-in-Ok-clause-turns
returns-in-Ok-clause-turns g c = let t = c.take_banks in let u = c.take_shards in then_same c.args.worker.now.hand t.new.worker.hand u.new.worker.hand t.ensures.turns u.ensures.turns

pub returns-in-Err-clause-turns : goal.returns-in-Err-clause-turns
returns-in-Err-clause-turns g c = let w = c.args.worker.now.hand in let t = c.take_banks in let u = c.take_shards in let v = c.put_off in
    then_same w u.new.worker.hand v.new.worker.hand (then_same w t.new.worker.hand u.new.worker.hand t.ensures.turns u.ensures.turns) v.ensures.turns

pub returns-in-Ok-clause-bank : goal.returns-in-Ok-clause-bank
returns-in-Ok-clause-bank g c = let t = c.take_banks in let u = c.take_shards in let p = c.args.port.n in
    bank_held u.new.held p (ap (λ b. is_some (listed number_of_bank (parts b) (home p))) u.ensures.others.banks ∙ c.in_ok-take_banks.ensures.banks (home p) (home_below p) ∙ home_added c.none-banks.result c.add.new.self p c.add.ensures)
