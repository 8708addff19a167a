use Rattle.std.proofs.Common.{ℕ, ◌+◌, Some, refl, ap}
use Rattle.ca_table.specs.Carriers.{just_lane, part_of_ready}
use Rattle.ca_table.specs.Carrying.{lane_place, nothing_carried, ready_place, with_at}
use Rattle.ca_table.specs.Parts.{part_away, part_of}
use Rattle.ca_table.specs.Workers.{part_of_lane}
use Rattle.ca_table.specs.declared.part.Contents.TheVariants.{Ready}
use Rattle.ca_table.proofs.Carriers.{is_held}
use Rattle.ca_table.proofs.silent.put_both.Goals as goal

pub put_at-requires : goal.put_at-requires
put_at-requires g c = let r = c.requires in let w = c.args.worker.now in let at = c.args.at in let n = r.2 in
    is_held g.A.Agent.over g.A.Agent.stands r.0 c.args.code.now r.1 n w (w.workers + 33 + at) (ready_place at) tt (ap (λ (k : ℕ). k + 33 + at) r.5.one.of) (just_lane n c.args.code.now r.3) (part_away n c.args.code.now, part_of_ready n c.args.code.now r.4) r.5

pub put_at-requires-2 : goal.put_at-requires-2
put_at-requires-2 g c = let r = c.requires in let at = c.args.at in let n = r.2 in
    let first = c.put_at.ensures.carries r.0 r.1 n (just_lane n c.args.code.now r.3) (ready_place at) (part_away n c.args.code.now) (part_of_ready n c.args.code.now r.4) r.5 tt (ap (λ (k : ℕ). k + 33 + at) r.5.one.of) in
    is_held g.A.Agent.over g.A.Agent.stands r.0 c.args.code.now r.1 n c.put_at.new.worker c.put_at.new.worker.number lane_place tt refl (with_at (ready_place at) (Some (part_of n c.args.code.now (Ready c.args.ready), part_of_ready n c.args.code.now r.4)) nothing_carried) (part_away n c.args.code.now, part_of_lane n c.args.code.now r.3) first

pub returns-clause-carries : goal.returns-clause-carries
returns-clause-carries g c = λ program id n l q s. let at = c.args.at in
    let first = c.put_at.ensures.carries program id n (just_lane n c.args.code.now l) (ready_place at) (part_away n c.args.code.now) (part_of_ready n c.args.code.now q) s tt (ap (λ (k : ℕ). k + 33 + at) s.one.of) in
    c.put_at-2.ensures.carries program id n (with_at (ready_place at) (Some (part_of n c.args.code.now (Ready c.args.ready), part_of_ready n c.args.code.now q)) nothing_carried) lane_place (part_away n c.args.code.now) (part_of_lane n c.args.code.now l) first tt refl
