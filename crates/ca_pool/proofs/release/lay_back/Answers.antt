use Rattle.std.proofs.Common.{◌∙◌, ℕ, Option, ap, sym, subst, None, is_some}
use Rattle.ca_commit.specs.declared.task.Ready.{Ready}
use Rattle.ca_table.specs.Carriers.{IsCarrying}
use Rattle.ca_table.specs.Carrying.{Carries, ready_place, with_at}
use Rattle.ca_table.specs.Lifting.{laid_back}
use Rattle.ca_table.specs.Parts.{part_seen}
use Rattle.ca_table.specs.Seen.{PartSeen}
use Rattle.ca_table.specs.declared.part.Contents.TheVariants as V
use Rattle.ca_table.specs.declared.part.Part.{Part}
use Rattle.ca_pool.proofs.Desk.{banks_back, banks_there, banks_were, nothing_back, ready_back, ready_there, ready_were, shards_back, shards_there, shards_were, taken_away, timers_there, timers_were}
use Rattle.ca_pool.proofs.release.lay_back.Goals as goal

pub unload-banks-requires : goal.unload-banks-requires
unload-banks-requires g c = let a = g.A.Agent in let K = g.C.Clock in let seen = part_seen K.least K.faults K.readings in let code = c.args.code.now in let w = c.args.worker.now in let clock = c.args.clock in let held = c.args.held.now in
    let r = c.requires.carries in let P = r.0 in let id = r.1 in let n = r.2 in let l = r.3 in let clock0 = r.4 in let held0 = r.5 in let same = r.6 in
    let s = subst (λ (h : Carries (Part g.row.A.Denot g.row.C.Denot × PartSeen g.row.A.Denot)). IsCarrying a.over a.stands P code id n w h) (taken_away seen n code w.number l clock0 held0) r.7 in
    record { carries = (P, id, n, nothing_back seen n code w.number l clock0 clock held0 held, banks_were seen n code w.number l held0, banks_there seen n code w.number l clock0 clock held0 held same, s) }

pub unload-shards-requires : goal.unload-shards-requires
unload-shards-requires g c = let a = g.A.Agent in let K = g.C.Clock in let seen = part_seen K.least K.faults K.readings in let code = c.args.code.now in let w = c.args.worker.now in let clock = c.args.clock in let held = c.args.held.now in
    let r = c.requires.carries in let P = r.0 in let id = r.1 in let n = r.2 in let l = r.3 in let clock0 = r.4 in let held0 = r.5 in let same = r.6 in
    let s = subst (λ (h : Carries (Part g.row.A.Denot g.row.C.Denot × PartSeen g.row.A.Denot)). IsCarrying a.over a.stands P code id n w h) (taken_away seen n code w.number l clock0 held0) r.7 in
    let banks = c.unload-banks.ensures.carries P id n (nothing_back seen n code w.number l clock0 clock held0 held) (banks_were seen n code w.number l held0) (banks_there seen n code w.number l clock0 clock held0 held same) s in
    record { carries = (P, id, n, banks_back seen n code w.number l clock0 clock held0 held, shards_were seen n code w.number l held0, shards_there seen n code w.number l clock0 clock held0 held same, banks) }

pub lay_ready-ready-requires : goal.lay_ready-ready-requires
lay_ready-ready-requires g c = let a = g.A.Agent in let K = g.C.Clock in let seen = part_seen K.least K.faults K.readings in let code = c.args.code.now in let w = c.args.worker.now in let clock = c.args.clock in let held = c.args.held.now in
    let r = c.requires.carries in let P = r.0 in let id = r.1 in let n = r.2 in let l = r.3 in let clock0 = r.4 in let held0 = r.5 in let same = r.6 in
    let s = subst (λ (h : Carries (Part g.row.A.Denot g.row.C.Denot × PartSeen g.row.A.Denot)). IsCarrying a.over a.stands P code id n w h) (taken_away seen n code w.number l clock0 held0) r.7 in
    let banks = c.unload-banks.ensures.carries P id n (nothing_back seen n code w.number l clock0 clock held0 held) (banks_were seen n code w.number l held0) (banks_there seen n code w.number l clock0 clock held0 held same) s in
    let shards = c.unload-shards.ensures.carries P id n (banks_back seen n code w.number l clock0 clock held0 held) (shards_were seen n code w.number l held0) (shards_there seen n code w.number l clock0 clock held0 held same) banks in
    let v = c.unload-shards.new.worker in let number = c.unload-shards.ensures.same.number ∙ c.unload-banks.ensures.same.number in
    record {
      carries = (
        P,
        id,
        n,
        shards_back seen n code w.number l clock0 clock held0 held,
        ready_were seen n code w.number l held0,
        ready_there seen n code w.number l clock0 clock held0 held same ∙ ap is_some (sym c.take.ensures.value),
        subst (λ (k : ℕ). IsCarrying a.over a.stands P code id n v (with_at (ready_place k) (laid_back n code V.Ready None (ready_were seen n code w.number l held0)) (shards_back seen n code w.number l clock0 clock held0 held))) (sym number) shards,
      );
    }

pub lay_timers-timers-requires : goal.lay_timers-timers-requires
lay_timers-timers-requires g c = let a = g.A.Agent in let K = g.C.Clock in let seen = part_seen K.least K.faults K.readings in let code = c.args.code.now in let w = c.args.worker.now in let clock = c.args.clock in let held = c.args.held.now in
    let r = c.requires.carries in let P = r.0 in let id = r.1 in let n = r.2 in let l = r.3 in let clock0 = r.4 in let held0 = r.5 in let same = r.6 in
    let s = subst (λ (h : Carries (Part g.row.A.Denot g.row.C.Denot × PartSeen g.row.A.Denot)). IsCarrying a.over a.stands P code id n w h) (taken_away seen n code w.number l clock0 held0) r.7 in
    let banks = c.unload-banks.ensures.carries P id n (nothing_back seen n code w.number l clock0 clock held0 held) (banks_were seen n code w.number l held0) (banks_there seen n code w.number l clock0 clock held0 held same) s in
    let shards = c.unload-shards.ensures.carries P id n (banks_back seen n code w.number l clock0 clock held0 held) (shards_were seen n code w.number l held0) (shards_there seen n code w.number l clock0 clock held0 held same) banks in
    let v = c.unload-shards.new.worker in let number = c.unload-shards.ensures.same.number ∙ c.unload-banks.ensures.same.number in
    let apart = subst (λ (k : ℕ). IsCarrying a.over a.stands P code id n v (with_at (ready_place k) (laid_back n code V.Ready None (ready_were seen n code w.number l held0)) (shards_back seen n code w.number l clock0 clock held0 held))) (sym number) shards in
    let u = c.lay_ready-ready.new.worker in
    let ready = subst (λ (o : Option (Ready g.row.A.Denot)). IsCarrying a.over a.stands P code id n u (with_at (ready_place w.number) (laid_back n code V.Ready o (ready_were seen n code w.number l held0)) (shards_back seen n code w.number l clock0 clock held0 held))) c.take.ensures.value
    (subst (λ (k : ℕ). IsCarrying a.over a.stands P code id n u (with_at (ready_place k) (laid_back n code V.Ready c.take.result (ready_were seen n code w.number l held0)) (shards_back seen n code w.number l clock0 clock held0 held))) number
    (c.lay_ready-ready.ensures.carries P id n (shards_back seen n code w.number l clock0 clock held0 held) (ready_were seen n code w.number l held0) (ready_there seen n code w.number l clock0 clock held0 held same ∙ ap is_some (sym c.take.ensures.value)) apart)) in
    record { carries = (P, id, n, ready_back seen n code w.number l clock0 clock held0 held, timers_were seen n code w.number l clock0, timers_there seen n code w.number l clock0 clock held0 held same, ready) }

pub returns-clause-carries : goal.returns-clause-carries
returns-clause-carries g c = λ P id n l clock0 held0 same s0. let a = g.A.Agent in let K = g.C.Clock in let seen = part_seen K.least K.faults K.readings in let code = c.args.code.now in let w = c.args.worker.now in let clock = c.args.clock in let held = c.args.held.now in
    let s = subst (λ (h : Carries (Part g.row.A.Denot g.row.C.Denot × PartSeen g.row.A.Denot)). IsCarrying a.over a.stands P code id n w h) (taken_away seen n code w.number l clock0 held0) s0 in
    let banks = c.unload-banks.ensures.carries P id n (nothing_back seen n code w.number l clock0 clock held0 held) (banks_were seen n code w.number l held0) (banks_there seen n code w.number l clock0 clock held0 held same) s in
    let shards = c.unload-shards.ensures.carries P id n (banks_back seen n code w.number l clock0 clock held0 held) (shards_were seen n code w.number l held0) (shards_there seen n code w.number l clock0 clock held0 held same) banks in
    let v = c.unload-shards.new.worker in let number = c.unload-shards.ensures.same.number ∙ c.unload-banks.ensures.same.number in
    let apart = subst (λ (k : ℕ). IsCarrying a.over a.stands P code id n v (with_at (ready_place k) (laid_back n code V.Ready None (ready_were seen n code w.number l held0)) (shards_back seen n code w.number l clock0 clock held0 held))) (sym number) shards in
    let u = c.lay_ready-ready.new.worker in
    let ready = subst (λ (o : Option (Ready g.row.A.Denot)). IsCarrying a.over a.stands P code id n u (with_at (ready_place w.number) (laid_back n code V.Ready o (ready_were seen n code w.number l held0)) (shards_back seen n code w.number l clock0 clock held0 held))) c.take.ensures.value
    (subst (λ (k : ℕ). IsCarrying a.over a.stands P code id n u (with_at (ready_place k) (laid_back n code V.Ready c.take.result (ready_were seen n code w.number l held0)) (shards_back seen n code w.number l clock0 clock held0 held))) number
    (c.lay_ready-ready.ensures.carries P id n (shards_back seen n code w.number l clock0 clock held0 held) (ready_were seen n code w.number l held0) (ready_there seen n code w.number l clock0 clock held0 held same ∙ ap is_some (sym c.take.ensures.value)) apart)) in
    c.lay_timers-timers.ensures.carries P id n (ready_back seen n code w.number l clock0 clock held0 held) (timers_were seen n code w.number l clock0) (timers_there seen n code w.number l clock0 clock held0 held same) ready
