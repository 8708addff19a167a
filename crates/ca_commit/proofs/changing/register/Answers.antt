use Rattle.std.proofs.Common.{◌≡◌, ◌≤◌, refl, sym, ap, ◌∙◌, subst, Option, is_some, true, false, option_map}
use Rattle.ca_value.specs.Seq.{list}
use Rattle.ca_value.specs.View.{trees}
use Rattle.ca_meaning.specs.Registry.{Registry}
use Rattle.ca_bank.specs.Bank.{members_spare_at, kept_at, registry_at}
use Rattle.ca_registry.specs.Registries.{members_added}
use Rattle.ca_registry.specs.Registry.{registry_after}
use Rattle.ca_bank.specs.declared.bank.Bank.{Bank}
use Rattle.ca_commit.specs.Contents.{home}
use Rattle.ca_commit.specs.Numbers.{number_of_bank}
use Rattle.ca_commit.specs.Showing.{bank_in, registries_in}
use Rattle.ca_commit.specs.declared.held.HeldBank.{HeldBank}
use Rattle.ca_commit.proofs.Listed.{listed_at, no_part, part_changes, part_stays}
use Rattle.ca_commit.proofs.changing.register.Goals as goal

pub returns-in-Some-clause-channels : goal.returns-in-Some-clause-channels
returns-in-Some-clause-channels c = part_stays number_of_bank bank_in c.args.banks.now.items.items (home c.args.port.n) c.in-Some.place c.index_mut.result.now _ _ c.in-Some.ensures.found c.index_mut.ensures.value refl (ap kept_at c.deref_mut.ensures.value) (c.register.ensures.others.0)

pub returns-in-Some-clause-registries : goal.returns-in-Some-clause-registries
returns-in-Some-clause-registries c = part_changes number_of_bank registries_in c.args.banks.now.items.items c.args.port.n c.in-Some.place c.index_mut.result.now _ _ (option_map (registry_after c.args.name (trees (list c.args.rest)))) c.in-Some.ensures.found c.index_mut.ensures.value refl (ap registry_at c.deref_mut.ensures.value) (c.register.ensures.registered)

pub returns-in-None-clause-registries : goal.returns-in-None-clause-registries
returns-in-None-clause-registries c = absurd (let k : false ≡ true = sym (ap (λ (o : Option Registry). is_some o) (no_part number_of_bank registries_in c.args.banks.now.items.items c.args.port.n c.in-None.ensures.none)) ∙ c.requires.there in cc)

pub register-requires-clause-room : goal.register-requires-clause-room
register-requires-clause-room c =
    let k = listed_at number_of_bank c.args.banks.now.items.items (home c.args.port.n) c.in-Some.place c.index_mut.result.now c.in-Some.ensures.found c.index_mut.ensures.value in
    let e : c.requires.room.0 ≡ c.index_mut.result.now = let j = sym c.requires.room.1 ∙ k in cc in
    subst (λ (b : Bank). members_added c.args.name (trees (list c.args.rest)) ≤ members_spare_at b c.args.port.n) (ap (λ (x : HeldBank). x.bank.value) e ∙ sym c.deref_mut.ensures.value) c.requires.room.2
