use Rattle.std.proofs.Common.{refl, ap, option_map}
use Rattle.ca_commit.specs.Contents.{home}
use Rattle.ca_commit.specs.Numbers.{number_of_shard}
use Rattle.ca_commit.specs.Showing.{parked_view, shard_in, waits_of}
use Rattle.ca_commit.proofs.Listed.{part_stays, part_there, part_unheld}
use Rattle.ca_commit.proofs.Outcomes.{on_ok}
use Rattle.ca_commit.proofs.reserving.reserve_shard.Goals as goal

pub returns-in-Some-clause-waits : goal.returns-in-Some-clause-waits
returns-in-Some-clause-waits g c = part_stays number_of_shard shard_in c.args.shards.now.items.items (home c.args.wait.n) c.in-Some.place c.index_mut.result.now _ _ c.in-Some.ensures.found c.index_mut.ensures.value refl (ap waits_of c.deref_mut.ensures.value) (λ q. ap (option_map parked_view) (c.reserve.ensures.waits q))

pub returns-in-Some-clause-room : goal.returns-in-Some-clause-room
returns-in-Some-clause-room g c = on_ok c.reserve.result (λ room. (_, part_there number_of_shard c.args.shards.now.items.items (home c.args.wait.n) c.in-Some.place c.index_mut.result.now _ c.in-Some.ensures.found c.index_mut.ensures.value refl, room)) c.reserve.ensures.spare

pub returns-in-None-clause-room : goal.returns-in-None-clause-room
returns-in-None-clause-room g c = absurd (part_unheld number_of_shard shard_in c.args.shards.now.items.items (home c.args.wait.n) c.in-None.ensures.none c.requires)
