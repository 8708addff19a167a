use Rattle.std.proofs.Common.{◌≡◌, ◌<◌, refl, sym, ◌∙◌, subst, ap}
use Rattle.ca_bank.specs.Bank.{channels_spare, kept_at, kept_made, registries_spare, registry_at, new_registry}
use Rattle.ca_bank.specs.declared.bank.Bank.{Bank}
use Rattle.ca_commit.specs.Contents.{home}
use Rattle.ca_commit.specs.Numbers.{number_of_bank}
use Rattle.ca_commit.specs.Running.{or_was}
use Rattle.ca_commit.specs.Showing.{bank_in, registries_in}
use Rattle.ca_commit.specs.declared.held.HeldBank.{HeldBank}
use Rattle.ca_commit.proofs.Listed.{listed_at, listed_none, part_changes}
use Rattle.ca_commit.proofs.Updates.{made_at}
use Rattle.ca_commit.proofs.changing.make.Goals as goal

pub returns-in-Some-clause-channels : goal.returns-in-Some-clause-channels
returns-in-Some-clause-channels c = part_changes number_of_bank bank_in c.args.banks.now.items.items c.args.port.n c.in-Some.place c.index_mut.result.now _ _ (or_was (kept_made c.args.made)) c.in-Some.ensures.found c.index_mut.ensures.value refl (ap kept_at c.deref_mut.ensures.value) (λ q. c.make.ensures.kept q ∙ made_at (kept_made c.args.made) (kept_at c.deref_mut.result.now) c.args.port.n q)

pub returns-in-Some-clause-registries : goal.returns-in-Some-clause-registries
returns-in-Some-clause-registries c = part_changes number_of_bank registries_in c.args.banks.now.items.items c.args.port.n c.in-Some.place c.index_mut.result.now _ _ (or_was (new_registry c.args.made)) c.in-Some.ensures.found c.index_mut.ensures.value refl (ap registry_at c.deref_mut.ensures.value) (λ q. c.make.ensures.registered q ∙ made_at (new_registry c.args.made) (registry_at c.deref_mut.result.now) c.args.port.n q)

pub returns-in-None-clause-channels : goal.returns-in-None-clause-channels
returns-in-None-clause-channels c = absurd (let k = sym c.requires.1 ∙ listed_none number_of_bank c.args.banks.now.items.items (home c.args.port.n) c.in-None.ensures.none in cc)

pub returns-in-None-clause-registries : goal.returns-in-None-clause-registries
returns-in-None-clause-registries c = absurd (let k = sym c.requires.1 ∙ listed_none number_of_bank c.args.banks.now.items.items (home c.args.port.n) c.in-None.ensures.none in cc)

pub make-requires-clause-channels : goal.make-requires-clause-channels
make-requires-clause-channels c =
    let k = listed_at number_of_bank c.args.banks.now.items.items (home c.args.port.n) c.in-Some.place c.index_mut.result.now c.in-Some.ensures.found c.index_mut.ensures.value in
    let e : c.requires.0 ≡ c.index_mut.result.now = let j = sym c.requires.1 ∙ k in cc in
    subst (λ (b : Bank). 0 < channels_spare b) (ap (λ (x : HeldBank). x.bank.value) e ∙ sym c.deref_mut.ensures.value) c.requires.2

pub make-requires-clause-registries : goal.make-requires-clause-registries
make-requires-clause-registries c =
    let k = listed_at number_of_bank c.args.banks.now.items.items (home c.args.port.n) c.in-Some.place c.index_mut.result.now c.in-Some.ensures.found c.index_mut.ensures.value in
    let e : c.requires.0 ≡ c.index_mut.result.now = let j = sym c.requires.1 ∙ k in cc in
    subst (λ (b : Bank). 0 < registries_spare b) (ap (λ (x : HeldBank). x.bank.value) e ∙ sym c.deref_mut.ensures.value) c.requires.3
