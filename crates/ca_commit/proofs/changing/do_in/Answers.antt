use Rattle.std.proofs.Common.{refl, subst, Option, option_map, ap}
use Rattle.ca_value.specs.View.{view}
use Rattle.ca_bank.specs.Bank.{kept_at, registry_at, spares_at}
use Rattle.ca_bank.specs.Kept.{Kept, Spares}
use Rattle.ca_commit.specs.Branching.{branch_by}
use Rattle.ca_commit.specs.Contents.{home, whole}
use Rattle.ca_commit.specs.Numbers.{number_of_bank}
use Rattle.ca_commit.specs.Replies.{HasDoneRoom, done_change}
use Rattle.ca_commit.specs.Showing.{bank_in, registries_in, spares_held, spares_in}
use Rattle.ca_commit.proofs.Listed.{part_changes, part_is, part_stays, unchanged_in}
use Rattle.ca_commit.proofs.changing.do_in.Goals as goal

pub change_done-requires : goal.change_done-requires
change_done-requires c =
    let b = branch_by c.args.port.n (option_map view c.args.brought) in
    let kept = part_is number_of_bank bank_in c.args.banks.now.items.items c.args.port.n c.in-Some.place c.index_mut.result.now _ c.in-Some.ensures.found c.index_mut.ensures.value (ap kept_at c.deref_mut.ensures.value) in
    let spare = part_is number_of_bank spares_in c.args.banks.now.items.items c.args.port.n c.in-Some.place c.index_mut.result.now _ c.in-Some.ensures.found c.index_mut.ensures.value (ap spares_at c.deref_mut.ensures.value) in
    subst (λ (o : Option Spares). HasDoneRoom (kept_at c.deref_mut.result.now c.args.port.n) o b) spare (subst (λ (o : Option Kept). HasDoneRoom o (whole (spares_held c.args.banks.now) c.args.port.n) b) kept c.requires)

pub returns-in-Some-clause-channels : goal.returns-in-Some-clause-channels
returns-in-Some-clause-channels c = part_changes number_of_bank bank_in c.args.banks.now.items.items c.args.port.n c.in-Some.place c.index_mut.result.now _ _ (option_map (done_change (branch_by c.args.port.n (option_map view c.args.brought)))) c.in-Some.ensures.found c.index_mut.ensures.value refl (ap kept_at c.deref_mut.ensures.value) c.change_done.ensures.0

pub returns-in-None-clause-channels : goal.returns-in-None-clause-channels
returns-in-None-clause-channels c = unchanged_in number_of_bank bank_in c.args.banks.now.items.items c.args.port.n (option_map (done_change (branch_by c.args.port.n (option_map view c.args.brought)))) c.in-None.ensures.none

pub returns-in-Some-clause-registries : goal.returns-in-Some-clause-registries
returns-in-Some-clause-registries c = part_stays number_of_bank registries_in c.args.banks.now.items.items (home c.args.port.n) c.in-Some.place c.index_mut.result.now _ _ c.in-Some.ensures.found c.index_mut.ensures.value refl (ap registry_at c.deref_mut.ensures.value) c.change_done.ensures.2.0
