use Rattle.std.proofs.Common.{◌≡◌, map, Option, Some, None, Bor}
use Rattle.std.specs.Prelude.{option_map, IfNone}
use Rattle.ca_journal.specs.Merge.{Numbered, entry_view}
use Rattle.ca_journal.specs.Least.{least_from}
use Rattle.ca_journal.specs.Left.{entries_waiting}
use Rattle.ca_journal.specs.declared.entry.Entry.{Entry}
use Rattle.ca_journal.proofs.Merging.{Took, took, none_left}
use Rattle.ca_journal.proofs.least.next.Goals as goal

taken : (c : goal.After-pop_at) → Took (map (entries_waiting c.args.lists.now) c.args.fronts.now.items) (map (entries_waiting c.args.lists.now) c.pop_at.new.fronts.items) (option_map (λ (e : Bor Entry). entry_view e.now) c.pop_at.result)
taken c =
    let found : Some c.in-Some.least ≡ least_from 0 (map (entries_waiting c.args.lists.now) c.args.fronts.now.items) = rw c.as_slice.ensures.value at c.in-Some.ensures.least in
    took (map (entries_waiting c.args.lists.now) c.args.fronts.now.items) (map (entries_waiting c.args.lists.now) c.pop_at.new.fronts.items) c.in-Some.least (option_map (λ (e : Bor Entry). entry_view e.now) c.pop_at.result) c.requires found c.pop_at.ensures.front c.pop_at.ensures.rest

-- an answer that stands for an entry is no None
there : (r : Option (Bor Entry)) (e : Numbered) (P : Type 0) → option_map (λ (b : Bor Entry). entry_view b.now) r ≡ Some e → IfNone r P
there None e P h = absurd (let q : None ≡ Some e = h in cc)
there (Some x) e P h = tt

pub returns-in-Some-clause-order : goal.returns-in-Some-clause-order
returns-in-Some-clause-order c = (taken c).order

pub returns-in-Some-clause-none : goal.returns-in-Some-clause-none
returns-in-Some-clause-none c = there c.pop_at.result (taken c).entry _ (taken c).is

pub returns-in-Some-clause-ascends : goal.returns-in-Some-clause-ascends
returns-in-Some-clause-ascends c = (taken c).ascends

pub returns-in-None-clause-none : goal.returns-in-None-clause-none
returns-in-None-clause-none c =
    let found : None ≡ least_from 0 (map (entries_waiting c.args.lists.now) c.args.fronts.now.items) = rw c.as_slice.ensures.value at c.in-None.ensures.least in
    none_left (map (entries_waiting c.args.lists.now) c.args.fronts.now.items) c.requires found
