use Rattle.std.proofs.Common.{◌+◌, List, sym, ◌∙◌, drop}
use Rattle.ca_bank.specs.Bank.{kept_at}
use Rattle.ca_bank.specs.Kept.{queue_at}
use Rattle.ca_meaning.specs.Wait.{Handler}
use Rattle.ca_commit.specs.Planning.{Planned, Seen, all_asked}
use Rattle.ca_commit.specs.Showing.{seen}
use Rattle.ca_commit.proofs.QueueLaws.{asked_step, none_or}
use Rattle.ca_commit.proofs.counting.ask_all.Goals as goal

pub returns-in-Some-clause-plan : goal.returns-in-Some-clause-plan
returns-in-Some-clause-plan g c = λ rest.
    let x : Seen = seen c.args.banks.now c.args.shards.now in
    let q : List Handler = queue_at c.args.side (kept_at c.args.bank.now c.args.port.n) in
    c.in-Some.ensures.plan (all_asked x c.args.port.n c.args.side (c.loop-place.place + 1) (drop (c.loop-place.place + 1) q) rest)
    ∙ sym (asked_step x c.args.port.n c.args.side q c.loop-place.place c.wait_at-wait.result.n rest c.wait_at-wait.ensures) ∙ c.loop-place.invariant rest

pub loop-place-preserved : goal.loop-place-preserved
loop-place-preserved g c = λ rest.
    let x : Seen = seen c.args.banks.now c.args.shards.now in
    let q : List Handler = queue_at c.args.side (kept_at c.args.bank.now c.args.port.n) in
    let later : Planned = all_asked x c.args.port.n c.args.side (c.loop-place.place + 1) (drop (c.loop-place.place + 1) q) rest in
    sym (none_or c.ask.result later c.in_default.not-Some) ∙ c.ask.ensures.plan later
    ∙ sym (asked_step x c.args.port.n c.args.side q c.loop-place.place c.wait_at-wait.result.n rest c.wait_at-wait.ensures) ∙ c.loop-place.invariant rest
