use Rattle.std.proofs.Common.{◌∙◌, ℕ, ◌<◌, sym, ap, subst}
use Rattle.ca_term.specs.Program.{ProgramView, program_view}
use Rattle.ca_states.specs.ValidCode.{valid_code}
use Rattle.ca_table.specs.Running.{Knows}
use Rattle.ca_table.specs.Workers.{part_count}
use Rattle.ca_table.proofs.Carriers.{held_more}
use Rattle.ca_table.proofs.Trying.{held_same, if_busy, if_held, not_held}
use Rattle.ca_table.proofs.handling.try_hold_at.Goals as goal

pub try_out-requires-clause-table : goal.try_out-requires-clause-table
try_out-requires-clause-table g c = c.requires.one.4.one.table

pub try_out-requires-clause-slots : goal.try_out-requires-clause-slots
try_out-requires-clause-slots g c = let one = c.requires.one.4.one in one.slots ∙ ap (λ (k : ℕ). part_count k) (sym one.of)

pub try_out-requires-clause-range : goal.try_out-requires-clause-range
try_out-requires-clause-range g c = let r = c.requires.one in subst (λ (k : ℕ). c.args.at < part_count k) (sym r.4.one.of) r.8

pub try_out-requires-clause-knows : goal.try_out-requires-clause-knows
try_out-requires-clause-knows g c = let a = g.A.Agent in let one = c.requires.one.4.one in let code = valid_code c.args.code.now in let view = c.args.worker.now.hand.view in
    subst (λ (k : ℕ). Knows a.over a.stands (program_view c.args.worker.now.program.value) code k view) (sym one.of) (subst (λ (P : ProgramView). Knows a.over a.stands P code c.requires.one.1 view) (sym one.of_program) one.knows)

pub try_out-requires-clause-free : goal.try_out-requires-clause-free
try_out-requires-clause-free g c = let r = c.requires.one in not_held g.A.Agent.over g.A.Agent.stands r.0 c.args.code.now c.args.table.now.id r.1 c.args.worker.now c.args.at r.3 r.5 r.6 r.2 r.7 r.4

pub returns-clause-carries : goal.returns-clause-carries
returns-clause-carries g c = let K = g.C.Clock in let q = c.try_out.ensures in
    if_held c.try_out.result (λ x kind grips program n h z s is e. held_more g.A.Agent.over g.A.Agent.stands program c.args.code.now c.args.table.now.id n c.args.worker.now c.try_out.new.hand q.same q.left c.args.at z is e K.least K.faults K.readings x h kind grips s) q.kind q.grips

pub returns-clause-busy : goal.returns-clause-busy
returns-clause-busy g c = let q = c.try_out.ensures in
    if_busy c.try_out.result (λ keeps program n h s. held_same g.A.Agent.over g.A.Agent.stands program c.args.code.now c.args.table.now.id n c.args.worker.now c.try_out.new.hand q.same q.left h keeps s) q.kept
