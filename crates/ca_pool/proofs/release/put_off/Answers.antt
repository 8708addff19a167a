use Rattle.std.proofs.Common.{ℕ, refl, sym, subst}
use Rattle.ca_table.specs.Carriers.{IsCarrying}
use Rattle.ca_table.specs.Parts.{part_seen}
use Rattle.ca_pool.specs.Desk.{laid_again}
use Rattle.ca_pool.proofs.Desk.{desk_laid, laid_same, ready_laid}
use Rattle.ca_pool.proofs.release.put_off.Goals as goal

pub lay_back-laid-requires : goal.lay_back-laid-requires
lay_back-laid-requires g c = let r = c.requires.carries in
    record { carries = (r.0, c.args.table.now.id, r.1, r.2, c.args.clock, c.args.held.now, record { banks = λ i. refl; shards = λ i. refl; ready = refl; timers = refl }, r.3) }

pub give_back-requires : goal.give_back-requires
give_back-requires g c = let a = g.A.Agent in let K = g.C.Clock in let seen = part_seen K.least K.faults K.readings in let code = c.args.code.now in let w = c.args.worker.now in let clock = c.args.clock in let held = c.args.held.now in
    let r = c.requires.carries in let P = r.0 in let n = r.1 in let l = r.2 in let lay = c.lay_back-laid in let h = laid_again seen n code w.number l clock held clock held in
    let back = lay.ensures.carries P c.args.table.now.id n l clock held (record { banks = λ i. refl; shards = λ i. refl; ready = refl; timers = refl }) r.3 in
    record {
      carries = (
        P,
        code,
        n,
        h.lane,
        h.banks,
        h.shards,
        h.timers,
        ready_laid seen n code w.number l held held,
        laid_same seen n code w.number l lay.result clock held lay.ensures.tells,
        subst (λ (k : ℕ). IsCarrying a.over a.stands P code c.args.table.now.id n lay.new.worker (desk_laid seen n code w.number l clock clock held held k)) (sym lay.ensures.same.number) back,
      );
    }

pub returns-clause-carries : goal.returns-clause-carries
returns-clause-carries g c = λ P n l s. let a = g.A.Agent in let K = g.C.Clock in let seen = part_seen K.least K.faults K.readings in let code = c.args.code.now in let w = c.args.worker.now in let clock = c.args.clock in let held = c.args.held.now in
    let lay = c.lay_back-laid in let h = laid_again seen n code w.number l clock held clock held in
    let back = lay.ensures.carries P c.args.table.now.id n l clock held (record { banks = λ i. refl; shards = λ i. refl; ready = refl; timers = refl }) s in
    c.give_back.ensures.carries P code n h.lane h.banks h.shards h.timers (ready_laid seen n code w.number l held held) (laid_same seen n code w.number l lay.result clock held lay.ensures.tells)
    (subst (λ (k : ℕ). IsCarrying a.over a.stands P code c.args.table.now.id n lay.new.worker (desk_laid seen n code w.number l clock clock held held k)) (sym lay.ensures.same.number) back)
