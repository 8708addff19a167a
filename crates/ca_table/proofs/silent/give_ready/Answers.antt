use Rattle.std.proofs.Common.{ℕ, ◌+◌, refl, ap}
use Rattle.ca_commit.specs.Tasks.{tasks_in}
use Rattle.ca_table.specs.Carriers.{just_lane, part_of_ready}
use Rattle.ca_table.specs.Carrying.{ready_place}
use Rattle.ca_table.specs.Parts.{part_away, part_of}
use Rattle.ca_table.specs.declared.part.Contents.TheVariants.{Ready}
use Rattle.ca_table.proofs.Carriers.{is_held}
use Rattle.ca_table.proofs.silent.give_ready.Goals as goal

pub put_at-requires : goal.put_at-requires
put_at-requires g c = let r = c.requires.carries in let w = c.args.worker.now in
    is_held g.A.Agent.over g.A.Agent.stands r.0 c.args.code.now c.args.table.now.id r.1 w (w.workers + 33 + c.args.at) (ready_place c.args.at) tt (ap (λ (k : ℕ). k + 33 + c.args.at) r.3.one.of) (just_lane r.1 c.args.code.now r.2) (part_away r.1 c.args.code.now, part_of_ready r.1 c.args.code.now (tasks_in c.args.ready)) r.3

pub give_at-requires : goal.give_at-requires
give_at-requires g c = let r = c.requires.carries in let w = c.args.worker.now in let e = ap (λ (k : ℕ). k + 33 + c.args.at) r.3.one.of in let h = just_lane r.1 c.args.code.now r.2 in
    record { settled = (r.0, c.args.code.now, r.1, h, ready_place c.args.at, part_of r.1 c.args.code.now (Ready c.args.ready), c.put_at.ensures.carries r.0 c.args.table.now.id r.1 h (ready_place c.args.at) (part_away r.1 c.args.code.now) (part_of_ready r.1 c.args.code.now (tasks_in c.args.ready)) r.3 tt e, tt, e) }

pub returns-clause-carries : goal.returns-clause-carries
returns-clause-carries g c = λ program n l s. let e = ap (λ (k : ℕ). k + 33 + c.args.at) s.one.of in let h = just_lane n c.args.code.now l in
    let put = c.put_at.ensures.carries program c.args.table.now.id n h (ready_place c.args.at) (part_away n c.args.code.now) (part_of_ready n c.args.code.now (tasks_in c.args.ready)) s tt e in
    c.give_at.ensures.carries program c.args.code.now n h (ready_place c.args.at) _ refl put tt e
