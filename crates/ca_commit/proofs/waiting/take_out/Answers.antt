use Rattle.std.proofs.Common.{refl, sym, ap, ◌∙◌, None}
use Rattle.ca_commit.specs.Numbers.{number_of_shard}
use Rattle.ca_commit.specs.Showing.{shard_in, waits_of}
use Rattle.ca_commit.proofs.Listed.{no_part, part_changes, part_is, unchanged_in}
use Rattle.ca_commit.proofs.waiting.take_out.Goals as goal

pub returns-in-Some-clause-parked : goal.returns-in-Some-clause-parked
returns-in-Some-clause-parked g c = c.take_wait.ensures.parked ∙ sym (part_is number_of_shard shard_in c.args.shards.now.items.items c.args.wait.n c.in-Some.place c.index_mut.result.now _ c.in-Some.ensures.found c.index_mut.ensures.value (ap waits_of c.deref_mut.ensures.value))

pub returns-in-Some-clause-waits : goal.returns-in-Some-clause-waits
returns-in-Some-clause-waits g c = part_changes number_of_shard shard_in c.args.shards.now.items.items c.args.wait.n c.in-Some.place c.index_mut.result.now _ _ (λ o. None) c.in-Some.ensures.found c.index_mut.ensures.value refl (ap waits_of c.deref_mut.ensures.value) c.take_wait.ensures.waits.0

pub returns-in-None-clause-parked : goal.returns-in-None-clause-parked
returns-in-None-clause-parked g c = sym (no_part number_of_shard shard_in c.args.shards.now.items.items c.args.wait.n c.in-None.ensures.none)

pub returns-in-None-clause-waits : goal.returns-in-None-clause-waits
returns-in-None-clause-waits g c = unchanged_in number_of_shard shard_in c.args.shards.now.items.items c.args.wait.n (λ o. None) c.in-None.ensures.none
