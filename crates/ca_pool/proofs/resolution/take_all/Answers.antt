use Rattle.std.proofs.Common.{◌∙◌, sym, ap, subst, None, is_some}
use Rattle.ca_commit.specs.Listing.{listed}
use Rattle.ca_commit.specs.Listings.{parts}
use Rattle.ca_commit.specs.Numbers.{number_of_bank}
use Rattle.ca_commit.specs.Running.{Placed}
use Rattle.ca_commit.specs.Showing.{channels_held}
use Rattle.ca_table.proofs.Drawing.{drew_later, drew_none}
use Rattle.ca_pool.proofs.AtEvents.{bare_lane, lane_bare, own_number}
use Rattle.ca_pool.proofs.Resolutions.{err_any, numbers_both}
use Rattle.ca_pool.proofs.Lone.{stayed_both, stayed_same}
use Rattle.ca_pool.proofs.resolution.take_all.Goals as goal

pub take_banks-requires-clause-carries : goal.take_banks-requires-clause-carries
take_banks-requires-clause-carries g c = let a = g.A.Agent in let K = g.C.Clock in let r = c.requires.carries in
    (r.0, r.1, r.2, lane_bare a.over a.stands c.args.code.now c.args.table.now.id r.0 r.1 r.2 K.least K.faults K.readings c.args.worker.now c.args.held.now c.requires.bare r.3)

pub take_shards-requires-clause-carries : goal.take_shards-requires-clause-carries
take_shards-requires-clause-carries g c = let a = g.A.Agent in let K = g.C.Clock in let r = c.requires.carries in let code = c.args.code.now in let id = c.args.table.now.id in let b = c.take_banks in
    (r.0, r.1, r.2, own_number a.over a.stands code id r.0 r.1 r.2 K.least K.faults K.readings c.args.worker.now b.new.worker None b.new.held b.ensures.same.number (b.ensures.carries r.0 r.1 r.2 (lane_bare a.over a.stands code id r.0 r.1 r.2 K.least K.faults K.readings c.args.worker.now c.args.held.now c.requires.bare r.3)))

pub take_shards-requires-clause-shards : goal.take_shards-requires-clause-shards
take_shards-requires-clause-shards g c = ap (λ s. parts s) c.take_banks.ensures.others.shards ∙ c.requires.bare.shards

pub take_shards-requires-clause-ready : goal.take_shards-requires-clause-ready
take_shards-requires-clause-ready g c = c.take_banks.ensures.others.ready ∙ c.requires.bare.ready

pub put_off-requires-clause-carries : goal.put_off-requires-clause-carries
put_off-requires-clause-carries g c = let a = g.A.Agent in let K = g.C.Clock in let r = c.requires.carries in let code = c.args.code.now in let id = c.args.table.now.id in let b = c.take_banks in let s = c.take_shards in (
  r.0,
  r.1,
  r.2,
  own_number a.over a.stands code id r.0 r.1 r.2 K.least K.faults K.readings b.new.worker s.new.worker None s.new.held s.ensures.same.number (s.ensures.carries r.0 r.1 r.2
      (own_number a.over a.stands code id r.0 r.1 r.2 K.least K.faults K.readings c.args.worker.now b.new.worker None b.new.held b.ensures.same.number (b.ensures.carries r.0 r.1 r.2 (lane_bare a.over a.stands code id r.0 r.1 r.2 K.least K.faults K.readings c.args.worker.now c.args.held.now c.requires.bare r.3)))),
)

pub put_off-requires-clause-timers : goal.put_off-requires-clause-timers
put_off-requires-clause-timers g c = c.take_shards.ensures.others.timers ∙ c.take_banks.ensures.others.timers ∙ c.requires.bare.timers

pub returns-in_err-take_banks-clause-drew : goal.returns-in_err-take_banks-clause-drew
returns-in_err-take_banks-clause-drew g c = drew_none c.take_banks.ensures.same c.take_banks.ensures.turns

pub returns-in_err-take_banks-clause-refused : goal.returns-in_err-take_banks-clause-refused
returns-in_err-take_banks-clause-refused g c = let a = g.A.Agent in let K = g.C.Clock in let code = c.args.code.now in let id = c.args.table.now.id in let b = c.take_banks in
    err_any c.from_residual.result (record {
      bare = c.in_err-take_banks.ensures.refused;
      carries = λ program n l lane. bare_lane a.over a.stands code id program n l K.least K.faults K.readings b.new.worker b.new.held c.in_err-take_banks.ensures.refused
          (own_number a.over a.stands code id program n l K.least K.faults K.readings c.args.worker.now b.new.worker None b.new.held b.ensures.same.number (b.ensures.carries program n l (lane_bare a.over a.stands code id program n l K.least K.faults K.readings c.args.worker.now c.args.held.now c.requires.bare lane)));
    })

pub returns-in_err-take_banks-clause-numbers : goal.returns-in_err-take_banks-clause-numbers
returns-in_err-take_banks-clause-numbers g c = c.take_banks.ensures.others.numbers

pub returns-in-Ok-clause-drew : goal.returns-in-Ok-clause-drew
returns-in-Ok-clause-drew g c = drew_later c.take_banks.ensures.same c.take_banks.ensures.turns (drew_none c.take_shards.ensures.same c.take_shards.ensures.turns)

pub returns-in-Ok-clause-numbers : goal.returns-in-Ok-clause-numbers
returns-in-Ok-clause-numbers g c = numbers_both c.args.held.now c.take_banks.new.held c.take_shards.new.held c.take_banks.ensures.others.numbers c.take_shards.ensures.others.numbers

pub returns-in-Ok-clause-took : goal.returns-in-Ok-clause-took
returns-in-Ok-clause-took g c = let a = g.A.Agent in let K = g.C.Clock in let code = c.args.code.now in let id = c.args.table.now.id in let b = c.take_banks in let s = c.take_shards in let o = s.ensures.others in
    record {
      holds = record {
        placed = subst (λ x. Placed (channels_held x)) (sym o.banks) c.in_ok-take_banks.ensures.placed;
        paused = s.ensures.paused;
        ready = o.ready ∙ b.ensures.others.ready ∙ c.requires.bare.ready;
        timers = o.timers ∙ b.ensures.others.timers ∙ c.requires.bare.timers;
      };
      these = record {
        banks = λ i lt. ap (λ x. is_some (listed number_of_bank (parts x) i)) o.banks ∙ c.in_ok-take_banks.ensures.banks i lt;
        shards = c.in-Ok.ensures.shards;
      };
      carries = λ program n l lane. own_number a.over a.stands code id program n l K.least K.faults K.readings b.new.worker s.new.worker None s.new.held s.ensures.same.number (s.ensures.carries program n l
          (own_number a.over a.stands code id program n l K.least K.faults K.readings c.args.worker.now b.new.worker None b.new.held b.ensures.same.number (b.ensures.carries program n l (lane_bare a.over a.stands code id program n l K.least K.faults K.readings c.args.worker.now c.args.held.now c.requires.bare lane))));
    }

pub returns-in-Err-clause-drew : goal.returns-in-Err-clause-drew
returns-in-Err-clause-drew g c = drew_later c.take_banks.ensures.same c.take_banks.ensures.turns (drew_later c.take_shards.ensures.same c.take_shards.ensures.turns (drew_none c.put_off.ensures.same c.put_off.ensures.turns))

pub returns-in-Err-clause-numbers : goal.returns-in-Err-clause-numbers
returns-in-Err-clause-numbers g c = numbers_both c.args.held.now c.take_banks.new.held c.put_off.new.held c.take_banks.ensures.others.numbers (numbers_both c.take_banks.new.held c.take_shards.new.held c.put_off.new.held c.take_shards.ensures.others.numbers c.put_off.ensures.numbers)

pub returns-in-Err-clause-refused : goal.returns-in-Err-clause-refused
returns-in-Err-clause-refused g c = let a = g.A.Agent in let K = g.C.Clock in let code = c.args.code.now in let id = c.args.table.now.id in let b = c.take_banks in let s = c.take_shards in
    record {
      bare = c.put_off.ensures.bare;
      carries = λ program n l lane. c.put_off.ensures.carries program n l
          (own_number a.over a.stands code id program n l K.least K.faults K.readings b.new.worker s.new.worker None s.new.held s.ensures.same.number (s.ensures.carries program n l
          (own_number a.over a.stands code id program n l K.least K.faults K.readings c.args.worker.now b.new.worker None b.new.held b.ensures.same.number (b.ensures.carries program n l (lane_bare a.over a.stands code id program n l K.least K.faults K.readings c.args.worker.now c.args.held.now c.requires.bare lane)))));
    }

pub returns-in_err-take_banks-clause-stayed : goal.returns-in_err-take_banks-clause-stayed
returns-in_err-take_banks-clause-stayed g c = stayed_same c.take_banks.ensures.same c.take_banks.ensures.turns

pub returns-in-Ok-clause-stayed : goal.returns-in-Ok-clause-stayed
returns-in-Ok-clause-stayed g c = stayed_both (stayed_same c.take_banks.ensures.same c.take_banks.ensures.turns) (stayed_same c.take_shards.ensures.same c.take_shards.ensures.turns)

pub returns-in-Err-clause-stayed : goal.returns-in-Err-clause-stayed
returns-in-Err-clause-stayed g c = stayed_both (stayed_same c.take_banks.ensures.same c.take_banks.ensures.turns) (stayed_both (stayed_same c.take_shards.ensures.same c.take_shards.ensures.turns) (stayed_same c.put_off.ensures.same c.put_off.ensures.turns))
