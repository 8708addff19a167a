use Rattle.std.proofs.Common.{◌≡◌, ℕ, suc, ◌<◌, ◌-◌, ◌+◌, List, [], ◌∷◌, ◌++◌, length, map, rules, Some, Err, true, false, sym, subst, ◌∙◌, arith}
use Rattle.ca_value.specs.Seq.{list}
use Rattle.ca_value.specs.declared.seq.Seq.{Seq}
use Rattle.ca_term.specs.declared.event.Branch.{Branch}
use Rattle.ca_term.specs.Event.{BranchView, branch_view}
use Rattle.ca_journal_reader.specs.ValueText.{uncomma}
use Rattle.ca_journal_reader.specs.FieldText.{branch_in, branches_read}
use Rattle.ca_journal_reader.specs.Found.{Found, Finds, FindsAtEnd}
use Rattle.ca_journal_reader.specs.Words.{is_first}
use Rattle.ca_journal_reader.proofs.Loops.{list_step, list_end, list_bad}
use Rattle.ca_journal_reader.proofs.cursor.Cursor.branches.Goals as goal

abbrev each_branch : List ℕ → Found BranchView
each_branch s = branch_in (uncomma s)

pub returns-then-is_at : goal.returns-then-is_at
returns-then-is_at c =
    let n = length c.args.self.now.rest.now - c.loop.counter in
    let more : 0 < n = omega (arith, c.loop-test.true) in
    let at : is_first 10 c.loop.self.rest.now ≡ true = search rules in
    sym c.loop.invariant ∙ list_end each_branch n (map branch_view (list c.loop.branches)) c.loop.self.rest.now more at

pub returns-in_err-branch : goal.returns-in_err-branch
returns-in_err-branch c =
    let n = length c.args.self.now.rest.now - c.loop.counter in
    let more : 0 < n = omega (arith, c.loop-test.true) in
    let at : is_first 10 c.loop.self.rest.now ≡ false = search rules in
    let whole = branches_read c.args.self.now.rest.now in
    let refused = c.in_err-branch.field-0.0 in
    let same : c.from_residual.result ≡ Err refused = search rules in
    let is : Finds branch_view (Err refused) c.branch-self.new.self.rest.now (each_branch c.loop.self.rest.now) = subst (λ (z : List ℕ). Finds branch_view (Err refused) c.branch-self.new.self.rest.now (branch_in z)) c.skip_comma.ensures c.in_err-branch.ensures in
    subst (λ r. FindsAtEnd (λ (xs : Seq Branch). map branch_view (list xs)) r whole) (sym same) (list_bad branch_view (λ (xs : Seq Branch). map branch_view (list xs)) each_branch n (map branch_view (list c.loop.branches)) c.loop.self.rest.now c.branch-self.new.self.rest.now whole refused more at is c.loop.invariant)

pub loop-preserved : goal.loop-preserved
loop-preserved c =
    let n = length c.args.self.now.rest.now in
    let count : n - c.loop.counter ≡ suc (n - (c.loop.counter + 1)) = omega (arith, c.loop-test.true) in
    let at : is_first 10 c.loop.self.rest.now ≡ false = search rules in
    let is : each_branch c.loop.self.rest.now ≡ Some (branch_view c.in_ok-branch.branch, c.branch-self.new.self.rest.now) = subst (λ (z : List ℕ). branch_in z ≡ Some (branch_view c.in_ok-branch.branch, c.branch-self.new.self.rest.now)) c.skip_comma.ensures c.in_ok-branch.ensures in
    let more : map branch_view (list c.add_branch.new.branches) ≡ map branch_view (list c.loop.branches) ++ branch_view c.in_ok-branch.branch ∷ [] = search rules in
    list_step each_branch (n - c.loop.counter) (n - (c.loop.counter + 1)) (map branch_view (list c.loop.branches)) (map branch_view (list c.add_branch.new.branches)) c.loop.self.rest.now c.branch-self.new.self.rest.now (branch_view c.in_ok-branch.branch) count at is more
    ∙ c.loop.invariant
