use Rattle.std.proofs.Common.{◌≡◌, ◌<◌, refl, sym, ap, ◌∙◌, subst, Some}
use Rattle.ca_commit.specs.Numbers.{number_of_shard}
use Rattle.ca_commit.specs.Contents.{home}
use Rattle.ca_commit.specs.Showing.{parked_view, shard_in, waits_of}
use Rattle.ca_commit.specs.declared.held.HeldShard.{HeldShard}
use Rattle.ca_bank.specs.Shard.{shard_spare}
use Rattle.ca_bank.specs.declared.shard.Shard.{Shard}
use Rattle.ca_commit.specs.declared.task.Task.{Task}
use Rattle.ca_commit.proofs.Listed.{listed_at, listed_none, part_changes}
use Rattle.ca_commit.proofs.waiting.put_in.Goals as goal

pub put_wait-requires-clause-spare : goal.put_wait-requires-clause-spare
put_wait-requires-clause-spare g c =
    let k = listed_at number_of_shard c.args.shards.now.items.items (home c.args.wait.n) c.in-Some.place c.index_mut.result.now c.in-Some.ensures.found c.index_mut.ensures.value in
    let e : c.requires.0 ≡ c.index_mut.result.now = let j = sym c.requires.1 ∙ k in cc in
    subst (λ (s : Shard (Task g.row.A.Denot)). 0 < shard_spare s) (ap (λ (x : HeldShard g.row.A.Denot). x.shard.value) e ∙ sym c.deref_mut.ensures.value) c.requires.2

pub returns-in-None : goal.returns-in-None
returns-in-None g c = absurd (let k = sym c.requires.1 ∙ listed_none number_of_shard c.args.shards.now.items.items (home c.args.wait.n) c.in-None.ensures.none in cc)

pub returns-in-Some : goal.returns-in-Some
returns-in-Some g c = part_changes number_of_shard shard_in c.args.shards.now.items.items c.args.wait.n c.in-Some.place c.index_mut.result.now _ _ (λ o. Some (parked_view c.args.parked)) c.in-Some.ensures.found c.index_mut.ensures.value refl (ap waits_of c.deref_mut.ensures.value) c.put_wait.ensures.0
