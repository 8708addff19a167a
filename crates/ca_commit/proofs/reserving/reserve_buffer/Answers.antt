use Rattle.std.proofs.Common.{◌≡◌, ◌<◌, refl, sym, ap, ◌∙◌, subst, Option, is_some, true, false}
use Rattle.ca_bank.specs.Bank.{kept_at, registry_at}
use Rattle.ca_commit.specs.Contents.{home}
use Rattle.ca_commit.specs.Numbers.{number_of_bank}
use Rattle.ca_commit.specs.Showing.{bank_in, registries_in, spares_in}
use Rattle.ca_commit.proofs.Listed.{no_part, part_after, part_is, part_stays}
use Rattle.ca_commit.proofs.Outcomes.{on_ok}
use Rattle.ca_bank.specs.Kept.{Kept, Spares, buffer_at, buffer_spare}
use Rattle.ca_commit.proofs.reserving.reserve_buffer.Goals as goal

pub returns-in-Some-clause-channels : goal.returns-in-Some-clause-channels
returns-in-Some-clause-channels c = part_stays number_of_bank bank_in c.args.banks.now.items.items (home c.args.port.n) c.in-Some.place c.index_mut.result.now _ _ c.in-Some.ensures.found c.index_mut.ensures.value refl (ap kept_at c.deref_mut.ensures.value) (c.reserve_buffer.ensures.kept)

pub returns-in-Some-clause-registries : goal.returns-in-Some-clause-registries
returns-in-Some-clause-registries c = part_stays number_of_bank registries_in c.args.banks.now.items.items (home c.args.port.n) c.in-Some.place c.index_mut.result.now _ _ c.in-Some.ensures.found c.index_mut.ensures.value refl (ap registry_at c.deref_mut.ensures.value) (c.reserve_buffer.ensures.others.0)

pub returns-in-Some-clause-room : goal.returns-in-Some-clause-room
returns-in-Some-clause-room c =
    let was = part_is number_of_bank bank_in c.args.banks.now.items.items c.args.port.n c.in-Some.place c.index_mut.result.now _ c.in-Some.ensures.found c.index_mut.ensures.value (ap kept_at c.deref_mut.ensures.value) in
    let is = part_after number_of_bank spares_in c.args.banks.now.items.items c.args.port.n c.in-Some.place c.index_mut.result.now _ c.in-Some.ensures.found c.index_mut.ensures.value refl in
    on_ok c.reserve_buffer.result (λ f t. subst (λ (o : Option Spares). 0 < buffer_spare o) (sym is) (f (ap (λ (o : Option Kept). is_some (buffer_at o)) (sym was) ∙ t))) c.reserve_buffer.ensures.spare

pub returns-in-None-clause-room : goal.returns-in-None-clause-room
returns-in-None-clause-room c =
    let none = no_part number_of_bank bank_in c.args.banks.now.items.items c.args.port.n c.in-None.ensures.none in
    λ t. absurd (let k : false ≡ true = sym (ap (λ (o : Option Kept). is_some (buffer_at o)) none) ∙ t in cc)
