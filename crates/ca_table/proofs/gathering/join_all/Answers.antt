use Rattle.std.proofs.Common.{◌≡◌, ◌∙◌, ℕ, ◌+◌, List, [], ◌∷◌, ◌++◌, length, refl, sym, ap, subst, arith, length-append, Some}
use Rattle.std.proofs.lemmas.List.Elements.{All-pop}
use Rattle.std.specs.Prelude.{option_to_list}
use Rattle.ca_term.specs.Program.{program_view}
use Rattle.ca_states.specs.ValidCode.{valid_code}
use Rattle.ca_journal.specs.declared.entries.Entries.{Entries}
use Rattle.ca_turns.specs.Places.{total}
use Rattle.ca_turns.proofs.Lists.{total-snoc}
use Rattle.ca_table.specs.Workers.{IsJoined, IsReady, stands_for, turns_of}
use Rattle.ca_table.specs.Worked.{spent}
use Rattle.ca_table.proofs.Joining.{alone, joins, no_total}
use Rattle.ca_table.proofs.Having.{turns_join, turns_joined}
use Rattle.ca_table.proofs.Spending.{cost_alone, spent_join, spent_joined}
use Rattle.ca_table.proofs.gathering.join_all.Goals as goal

pub loop-other-init : goal.loop-other-init
loop-other-init g c = let p = c.push_reserved.ensures in let room = c.requires.room in let first = c.args.first in let P = program_view c.args.program.now in let K = valid_code c.args.code.now in let id = c.args.table.now.id in (
  (let a = p.len in let b = p.capacity in omega (arith, a, b, room)),
  λ n r all. (stands_for first, subst (λ (ls : List Entries). IsJoined {A = g.row.A.Denot} {C = g.row.C.Denot} g.A.Agent.over g.A.Agent.stands P K id n (stands_for first) first.hand ls) (sym (p.items ∙ ap (λ l. l ++ first.entries ∷ []) c.requires.none)) (alone g.A.Agent.over g.A.Agent.stands P K id n first r), all, refl),
  refl,
  λ none. (none, refl),
  refl,
  cost_alone first.entries (total spent c.args.others.items) (p.items ∙ ap (λ l. l ++ first.entries ∷ []) c.requires.none),
)

pub join_hands-requires-clause-table : goal.join_hands-requires-clause-table
join_hands-requires-clause-table g c = let q = c.requires.ready in let j = c.loop-other.invariant.1 q.0 q.1 q.2 in let other = c.in-Some.other in
    let popped = c.pop.ensures.items ∙ ap (λ o. c.pop.new.self.items ++ option_to_list o) c.in-Some.is in
    let both = All-pop (IsReady g.A.Agent.over g.A.Agent.stands (program_view c.args.program.now) (valid_code c.args.code.now) c.args.table.now.id q.0) c.loop-other.others.items c.pop.new.self.items (Some other) popped j.2 in (j.1.table, both.1.one.table)

pub join_hands-requires-clause-nothing : goal.join_hands-requires-clause-nothing
join_hands-requires-clause-nothing g c = let q = c.requires.ready in let j = c.loop-other.invariant.1 q.0 q.1 q.2 in let other = c.in-Some.other in
    let popped = c.pop.ensures.items ∙ ap (λ o. c.pop.new.self.items ++ option_to_list o) c.in-Some.is in
    let both = All-pop (IsReady g.A.Agent.over g.A.Agent.stands (program_view c.args.program.now) (valid_code c.args.code.now) c.args.table.now.id q.0) c.loop-other.others.items c.pop.new.self.items (Some other) popped j.2 in both.1.nothing

pub loop-other-preserved : goal.loop-other-preserved
loop-other-preserved g c = let i = c.loop-other.invariant in let other = c.in-Some.other in let xs = c.loop-other.others.items in let ys = c.pop.new.self.items in let P = program_view c.args.program.now in let K = valid_code c.args.code.now in let id = c.args.table.now.id in
    let popped : xs ≡ ys ++ other ∷ [] = c.pop.ensures.items ∙ ap (λ o. ys ++ option_to_list o) c.in-Some.is in
    let shorter : length xs ≡ length ys + 1 = ap length popped ∙ length-append ys (other ∷ []) in
    let less : total stands_for xs ≡ total stands_for ys + stands_for other = ap (total stands_for) popped ∙ total-snoc stands_for ys other in
    let p = c.push_reserved-in-Some.ensures in let h = c.join_hands.ensures in (
      (let a = p.len in let b = p.capacity in let room = i.0 in omega (arith, a, b, room, shorter)),
      λ n r all. let j = i.1 n r all in let both = All-pop (IsReady g.A.Agent.over g.A.Agent.stands P K id n) xs ys (Some other) popped j.2 in (
        j.0 + stands_for other,
        subst (λ (ls : List Entries). IsJoined {A = g.row.A.Denot} {C = g.row.C.Denot} g.A.Agent.over g.A.Agent.stands P K id n (j.0 + stands_for other) c.join_hands.new.into ls) (sym p.items) (joins g.A.Agent.over g.A.Agent.stands P K id n j.0 c.loop-other.hand c.join_hands.new.into c.loop-other.lists.items other j.1 both.1 h.table h.parts h.view),
        both.0,
        (let sum = j.3 in omega (arith, less, sum)),
      ),
      turns_join c.loop-other.hand.view.turns other xs ys (c.args.first.hand.view.turns ++ turns_of c.args.others.items) (ap (λ v. v.turns) h.view) popped i.2,
      λ none. absurd (let long : length xs ≡ 0 = ap length (i.3 none).0 in omega (arith, shorter, long)),
      ap (λ v. v.opening) h.view ∙ i.4,
      spent_join c.loop-other.lists.items other xs ys (spent c.args.first + total spent c.args.others.items) p.items popped i.5,
    )

pub returns-clause-joined : goal.returns-clause-joined
returns-clause-joined g c = λ n r all. let j = c.loop-other.invariant.1 n r all in
    let zero = no_total (stands_for {A = g.row.A.Denot} {C = g.row.C.Denot}) c.loop-other.others.items (let none = c.in_default.ensures.cases.0 in let long = c.loop-other.others.ok.0 in omega (arith, none, long)) in
    subst (λ (k : ℕ). IsJoined {A = g.row.A.Denot} {C = g.row.C.Denot} g.A.Agent.over g.A.Agent.stands (program_view c.args.program.now) (valid_code c.args.code.now) c.args.table.now.id n k c.loop-other.hand c.loop-other.lists.items) (let sum = j.3 in omega (arith, zero, sum)) j.1

pub returns-clause-turns : goal.returns-clause-turns
returns-clause-turns g c = turns_joined c.loop-other.hand.view.turns c.loop-other.others.items (c.args.first.hand.view.turns ++ turns_of c.args.others.items) (let none = c.in_default.ensures.cases.0 in let long = c.loop-other.others.ok.0 in omega (arith, none, long)) c.loop-other.invariant.2

pub returns-clause-spent : goal.returns-clause-spent
returns-clause-spent g c = spent_joined c.loop-other.lists.items c.loop-other.others.items (spent c.args.first + total spent c.args.others.items) (let none = c.in_default.ensures.cases.0 in let long = c.loop-other.others.ok.0 in omega (arith, none, long)) c.loop-other.invariant.5

pub returns-clause-opening : goal.returns-clause-opening
returns-clause-opening g c = c.loop-other.invariant.4

pub returns-clause-alone : goal.returns-clause-alone
returns-clause-alone g c = λ none. (c.loop-other.invariant.3 none).1
