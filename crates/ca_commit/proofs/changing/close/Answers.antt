use Rattle.std.proofs.Common.{refl, option_map, ap}
use Rattle.ca_bank.specs.Bank.{kept_at, registry_at}
use Rattle.ca_bank.specs.Kept.{closed_channel}
use Rattle.ca_commit.specs.Contents.{home}
use Rattle.ca_commit.specs.Numbers.{number_of_bank}
use Rattle.ca_commit.specs.Showing.{bank_in, registries_in}
use Rattle.ca_commit.proofs.Listed.{none_first, part_changes, part_stays, unchanged_in}
use Rattle.ca_commit.proofs.changing.close.Goals as goal

pub returns-in-Some-clause-channels : goal.returns-in-Some-clause-channels
returns-in-Some-clause-channels c = part_changes number_of_bank bank_in c.args.banks.now.items.items c.args.port.n c.in-Some.place c.index_mut.result.now _ _ (option_map closed_channel) c.in-Some.ensures.found c.index_mut.ensures.value refl (ap kept_at c.deref_mut.ensures.value) (c.close.ensures.kept)

pub returns-in_default-clause-channels : goal.returns-in_default-clause-channels
returns-in_default-clause-channels c = unchanged_in number_of_bank bank_in c.args.banks.now.items.items c.args.port.n (option_map closed_channel) (none_first number_of_bank c.args.banks.now.items.items (home c.args.port.n) c.place.result c.in_default.not-Some c.place.ensures.none)

pub returns-in-Some-clause-registries : goal.returns-in-Some-clause-registries
returns-in-Some-clause-registries c = part_stays number_of_bank registries_in c.args.banks.now.items.items (home c.args.port.n) c.in-Some.place c.index_mut.result.now _ _ c.in-Some.ensures.found c.index_mut.ensures.value refl (ap registry_at c.deref_mut.ensures.value) (c.close.ensures.others.0)
