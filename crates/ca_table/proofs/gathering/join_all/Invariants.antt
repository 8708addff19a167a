use Rattle.std.proofs.Common.{◌≡◌, ℕ, ◌+◌, ◌++◌, ◌≤◌, [], All, length, map}
use Rattle.std.specs.Vec.{vec_len, vec_capacity}
use Rattle.ca_term.specs.Program.{program_view}
use Rattle.ca_states.specs.ValidCode.{valid_code}
use Rattle.ca_journal.specs.Merge.{entries, joined}
use Rattle.ca_turns.specs.Places.{total}
use Rattle.ca_table.specs.Workers.{IsJoined, IsReady, stands_for, turns_of}
use Rattle.ca_table.specs.Worked.{spent}
use Rattle.ca_table.proofs.Spending.{cost_in}
use Rattle.ca_table.proofs.gathering.join_all.Given as goal

abbrev pub invariant-loop-other : goal.invariant-loop-other
invariant-loop-other g l = (vec_len l.lists + length l.others.items ≤ vec_capacity l.lists)
    × ((n : ℕ) → IsReady {A = g.row.A.Denot} {C = g.row.C.Denot} g.A.Agent.over g.A.Agent.stands (program_view l.program) (valid_code l.code) l.table.id n l.fn.first → All (IsReady g.A.Agent.over g.A.Agent.stands (program_view l.program) (valid_code l.code) l.table.id n) l.fn.others.items
    → (count : ℕ) × IsJoined {A = g.row.A.Denot} {C = g.row.C.Denot} g.A.Agent.over g.A.Agent.stands (program_view l.program) (valid_code l.code) l.table.id n count l.hand l.lists.items
    × All (IsReady g.A.Agent.over g.A.Agent.stands (program_view l.program) (valid_code l.code) l.table.id n) l.others.items × (count + total stands_for l.others.items ≡ stands_for l.fn.first + total stands_for l.fn.others.items))
    × (l.hand.view.turns ++ turns_of l.others.items ≡ l.fn.first.hand.view.turns ++ turns_of l.fn.others.items)
    × (l.fn.others.items ≡ [] → (l.others.items ≡ []) × (l.hand ≡ l.fn.first.hand))
    × (l.hand.view.opening ≡ l.fn.first.hand.view.opening)
    × (cost_in (joined (map entries l.lists.items)) + total spent l.others.items ≡ spent l.fn.first + total spent l.fn.others.items)

abbrev pub decreases-loop-other : goal.decreases-loop-other
decreases-loop-other g l = length l.others.items
