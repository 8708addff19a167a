use Rattle.std.proofs.Common.{◌≡◌, ◌<◌, refl, subst, Option, option_map, ap}
use Rattle.ca_value.specs.View.{view}
use Rattle.ca_term.specs.declared.event.Side.TheVariants.{Put}
use Rattle.ca_bank.specs.Bank.{kept_at, registry_at, spares_at}
use Rattle.ca_bank.specs.Kept.{Kept, Spares, buffer_spare}
use Rattle.ca_commit.specs.Contents.{home}
use Rattle.ca_commit.specs.Numbers.{number_of_bank}
use Rattle.ca_commit.specs.Settling.{HasRoomToServe, settle_change}
use Rattle.ca_commit.specs.Showing.{bank_in, registries_in, spares_in}
use Rattle.ca_commit.proofs.Listed.{part_changes, part_is, part_stays, unchanged_in}
use Rattle.ca_commit.proofs.changing.serve_in.Goals as goal

pub change_settled-requires-clause-room : goal.change_settled-requires-clause-room
change_settled-requires-clause-room c = subst (λ (o : Option Kept). HasRoomToServe o c.args.side) (part_is number_of_bank bank_in c.args.banks.now.items.items c.args.port.n c.in-Some.place c.index_mut.result.now _ c.in-Some.ensures.found c.index_mut.ensures.value (ap kept_at c.deref_mut.ensures.value)) c.requires.room

pub change_settled-requires-clause-spare : goal.change_settled-requires-clause-spare
change_settled-requires-clause-spare c = subst (λ (o : Option Spares). c.args.side ≡ Put → 0 < buffer_spare o) (part_is number_of_bank spares_in c.args.banks.now.items.items c.args.port.n c.in-Some.place c.index_mut.result.now _ c.in-Some.ensures.found c.index_mut.ensures.value (ap spares_at c.deref_mut.ensures.value)) c.requires.spare

pub returns-in-Some-clause-channels : goal.returns-in-Some-clause-channels
returns-in-Some-clause-channels c = part_changes number_of_bank bank_in c.args.banks.now.items.items c.args.port.n c.in-Some.place c.index_mut.result.now _ _ (option_map (settle_change c.args.side (view c.args.value))) c.in-Some.ensures.found c.index_mut.ensures.value refl (ap kept_at c.deref_mut.ensures.value) c.change_settled.ensures.0

pub returns-in-None-clause-channels : goal.returns-in-None-clause-channels
returns-in-None-clause-channels c = unchanged_in number_of_bank bank_in c.args.banks.now.items.items c.args.port.n (option_map (settle_change c.args.side (view c.args.value))) c.in-None.ensures.none

pub returns-in-Some-clause-registries : goal.returns-in-Some-clause-registries
returns-in-Some-clause-registries c = part_stays number_of_bank registries_in c.args.banks.now.items.items (home c.args.port.n) c.in-Some.place c.index_mut.result.now _ _ c.in-Some.ensures.found c.index_mut.ensures.value refl (ap registry_at c.deref_mut.ensures.value) c.change_settled.ensures.2.0
