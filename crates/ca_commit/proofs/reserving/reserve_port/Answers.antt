use Rattle.std.proofs.Common.{refl, ap}
use Rattle.ca_bank.specs.Bank.{kept_at, registry_at}
use Rattle.ca_commit.specs.Contents.{home}
use Rattle.ca_commit.specs.Numbers.{number_of_bank}
use Rattle.ca_commit.specs.Showing.{bank_in, registries_in}
use Rattle.ca_commit.proofs.Listed.{part_stays, part_there, part_unheld}
use Rattle.ca_commit.proofs.Outcomes.{on_both}
use Rattle.ca_commit.proofs.reserving.reserve_port.Goals as goal

pub returns-in-Some-clause-channels : goal.returns-in-Some-clause-channels
returns-in-Some-clause-channels c = part_stays number_of_bank bank_in c.args.banks.now.items.items (home c.args.port.n) c.in-Some.place c.index_mut.result.now _ _ c.in-Some.ensures.found c.index_mut.ensures.value refl (ap kept_at c.deref_mut.ensures.value) (c.reserve_port.ensures.kept)

pub returns-in-Some-clause-registries : goal.returns-in-Some-clause-registries
returns-in-Some-clause-registries c = part_stays number_of_bank registries_in c.args.banks.now.items.items (home c.args.port.n) c.in-Some.place c.index_mut.result.now _ _ c.in-Some.ensures.found c.index_mut.ensures.value refl (ap registry_at c.deref_mut.ensures.value) (c.reserve_port.ensures.others.0)

pub returns-in-Some-clause-room : goal.returns-in-Some-clause-room
returns-in-Some-clause-room c = on_both c.reserve_port.result (λ a b. (_, part_there number_of_bank c.args.banks.now.items.items (home c.args.port.n) c.in-Some.place c.index_mut.result.now _ c.in-Some.ensures.found c.index_mut.ensures.value refl, a, b)) c.reserve_port.ensures.channels c.reserve_port.ensures.registries

pub returns-in-None-clause-room : goal.returns-in-None-clause-room
returns-in-None-clause-room c = absurd (part_unheld number_of_bank bank_in c.args.banks.now.items.items (home c.args.port.n) c.in-None.ensures.none c.requires)
