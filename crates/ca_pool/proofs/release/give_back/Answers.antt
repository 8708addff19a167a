use Rattle.std.proofs.Common.{ℕ, ◌+◌, None, ap, refl}
use Rattle.ca_table.specs.Carrying.{lane_place, nothing_carried, ready_place, timers_place, with_at}
use Rattle.ca_table.specs.Lifting.{bank_row, shard_row}
use Rattle.ca_pool.specs.Desk.{desk}
use Rattle.ca_pool.proofs.release.give_back.Goals as goal

pub give_all-requires : goal.give_all-requires
give_all-requires g c = let r = c.requires.carries in let w = c.args.worker.now in
    record { carries = (r.0, r.1, r.2, bank_row, desk w.number r.3 r.4 r.5 r.6 r.7, r.4, r.9.one.of, r.8.banks, r.9) }

pub give_all-requires-2 : goal.give_all-requires-2
give_all-requires-2 g c = let r = c.requires.carries in let w = c.args.worker.now in
    let banks = c.give_all.ensures.carries r.0 r.1 r.2 bank_row (desk w.number r.3 r.4 r.5 r.6 r.7) r.4 r.9.one.of r.8.banks r.9 in
    record { carries = (r.0, r.1, r.2, shard_row, desk w.number r.3 (λ i. None) r.5 r.6 r.7, r.5, ap (λ (k : ℕ). k + 16) r.9.one.of, r.8.shards, banks) }

pub give_if-requires : goal.give_if-requires
give_if-requires g c = let r = c.requires.carries in let w = c.args.worker.now in let of = r.9.one.of in
    let banks = c.give_all.ensures.carries r.0 r.1 r.2 bank_row (desk w.number r.3 r.4 r.5 r.6 r.7) r.4 of r.8.banks r.9 in
    let shards = c.give_all-2.ensures.carries r.0 r.1 r.2 shard_row (desk w.number r.3 (λ i. None) r.5 r.6 r.7) r.5 (ap (λ (k : ℕ). k + 16) of) r.8.shards banks in
    record { settled = (r.0, r.1, r.2, desk w.number r.3 (λ i. None) (λ i. None) None r.7, timers_place, r.6, r.8.timers, shards, tt, ap (λ (k : ℕ). k + 32) of) }

pub give_if-requires-2 : goal.give_if-requires-2
give_if-requires-2 g c = let r = c.requires.carries in let w = c.args.worker.now in let of = r.9.one.of in
    let banks = c.give_all.ensures.carries r.0 r.1 r.2 bank_row (desk w.number r.3 r.4 r.5 r.6 r.7) r.4 of r.8.banks r.9 in
    let shards = c.give_all-2.ensures.carries r.0 r.1 r.2 shard_row (desk w.number r.3 (λ i. None) r.5 r.6 r.7) r.5 (ap (λ (k : ℕ). k + 16) of) r.8.shards banks in
    let timers = c.give_if.ensures.carries r.0 r.1 r.2 (desk w.number r.3 (λ i. None) (λ i. None) None r.7) timers_place r.6 r.8.timers refl shards tt (ap (λ (k : ℕ). k + 32) of) in
    record { settled = (r.0, r.1, r.2, with_at lane_place r.3 nothing_carried, ready_place w.number, r.7, r.8.ready, timers, tt, ap (λ (k : ℕ). k + 33 + w.number) of) }

pub returns-clause-carries : goal.returns-clause-carries
returns-clause-carries g c = λ P code n lane banks0 shards0 timers0 ready0 laid s. let w = c.args.worker.now in let of = s.one.of in
    let banks = c.give_all.ensures.carries P code n bank_row (desk w.number lane banks0 shards0 timers0 ready0) banks0 of laid.banks s in
    let shards = c.give_all-2.ensures.carries P code n shard_row (desk w.number lane (λ i. None) shards0 timers0 ready0) shards0 (ap (λ (k : ℕ). k + 16) of) laid.shards banks in
    let timers = c.give_if.ensures.carries P code n (desk w.number lane (λ i. None) (λ i. None) None ready0) timers_place timers0 laid.timers refl shards tt (ap (λ (k : ℕ). k + 32) of) in
    c.give_if-2.ensures.carries P code n (with_at lane_place lane nothing_carried) (ready_place w.number) ready0 laid.ready refl timers tt (ap (λ (k : ℕ). k + 33 + w.number) of)
