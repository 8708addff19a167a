use Rattle.std.proofs.Common.{◌∙◌, ◌+◌, List, None, arith, refl, subst, sym, ap, is_some}
use Rattle.ca_states.specs.ValidCode.{valid_code}
use Rattle.ca_commit.specs.Listing.{listed}
use Rattle.ca_commit.specs.Listings.{parts}
use Rattle.ca_commit.specs.Numbers.{number_of_shard}
use Rattle.ca_commit.specs.declared.held.HeldShard.{HeldShard}
use Rattle.ca_table.specs.Carriers.{IsCarrying}
use Rattle.ca_table.specs.Lifting.{lifted, shard_row, with_row}
use Rattle.ca_table.specs.Parts.{part_seen}
use Rattle.ca_table.specs.declared.part.Contents.TheVariants.{Shard}
use Rattle.ca_table.proofs.Liftings.{listed_else, listed_last}
use Rattle.ca_pool.specs.Desk.{desk_taken}
use Rattle.ca_pool.proofs.Desk.{held_below, no_ready, no_shard}
use Rattle.ca_pool.proofs.Placing.{paused_more, paused_same}
use Rattle.ca_pool.proofs.hold.take_shard.Goals as goal

pub load_one-requires-clause-carries : goal.load_one-requires-clause-carries
load_one-requires-clause-carries g c = let K = g.C.Clock in let seen = part_seen K.least K.faults K.readings in let code = c.args.code.now in let w = c.args.worker.now in let held = c.args.held.now in let r = c.requires.carries in
    (r.0, r.1, desk_taken seen r.1 code w.number r.2 None held, r.3)

pub load_one-requires-clause-ascending : goal.load_one-requires-clause-ascending
load_one-requires-clause-ascending g c = let a = g.A.Agent in let K = g.C.Clock in let seen = part_seen K.least K.faults K.readings in let code = c.args.code.now in let w = c.args.worker.now in let held = c.args.held.now in let r = c.requires.carries in let of = r.3.one.of in let number = c.args.number in
    held_below a.over a.stands r.0 code c.args.table.now.id r.1 w (desk_taken seen r.1 code w.number r.2 None held) r.3 (w.workers + 16 + number) (omega (arith, of)) (λ i le. r.3.sorted.few_banks i (omega (arith, le, of))) (λ i le. no_shard seen r.1 code w.number r.2 held i (c.requires.above i (omega (arith, le, of)))) (λ le. refl) (no_ready seen r.1 code w.number r.2 held None c.requires.ready)

pub returns-clause-there : goal.returns-clause-there
returns-clause-there g c = let k = c.args.number in let more = c.load_one.ensures.list in
    let none = ap (λ (xs : List (HeldShard g.row.A.Denot)). listed number_of_shard xs k) c.reserve.ensures.parts ∙ c.requires.above k (omega arith) in
    ap is_some (ap (λ (xs : List (HeldShard g.row.A.Denot)). listed number_of_shard xs k) more.1 ∙ listed_last number_of_shard (parts c.reserve.new.self) more.0 k more.2 none)

pub returns-clause-kept : goal.returns-clause-kept
returns-clause-kept g c = λ i ne. let more = c.load_one.ensures.list in
    ap (λ (xs : List (HeldShard g.row.A.Denot)). listed number_of_shard xs i) more.1 ∙ listed_else number_of_shard (parts c.reserve.new.self) more.0 i (λ e. ne (sym e ∙ more.2)) ∙ ap (λ (xs : List (HeldShard g.row.A.Denot)). listed number_of_shard xs i) c.reserve.ensures.parts

pub returns-clause-paused : goal.returns-clause-paused
returns-clause-paused g c = let a = g.A.Agent in let K = g.C.Clock in let k = c.args.number in let more = c.load_one.ensures.list in let held = c.args.held.now in
    let none = ap (λ (xs : List (HeldShard g.row.A.Denot)). listed number_of_shard xs k) c.reserve.ensures.parts ∙ c.requires.above k (omega arith) in
    let code = valid_code c.args.code.now in let n = c.args.worker.now.workers in
    paused_more a.over a.place code K.least K.faults K.readings n c.reserve.new.self c.load_one.new.list more.0 k more.1 more.2 none more.3 (paused_same a.over a.place code K.least K.faults K.readings n held.shards c.reserve.new.self c.reserve.ensures.parts c.requires.paused)

pub returns-clause-carries : goal.returns-clause-carries
returns-clause-carries g c = λ P n l s. let a = g.A.Agent in let K = g.C.Clock in let seen = part_seen K.least K.faults K.readings in let code = c.args.code.now in let w = c.args.worker.now in let held = c.args.held.now in let k = c.args.number in
    let none = ap (λ (xs : List (HeldShard g.row.A.Denot)). listed number_of_shard xs k) c.reserve.ensures.parts ∙ c.requires.above k (omega arith) in
    c.load_one.ensures.carries P n (desk_taken seen n code w.number l None held) none
    (subst (λ (xs : List (HeldShard g.row.A.Denot)). IsCarrying a.over a.stands P code c.args.table.now.id n w (with_row shard_row (lifted n code Shard seen number_of_shard xs) (desk_taken seen n code w.number l None held))) (sym c.reserve.ensures.parts) s)
