use Rattle.std.proofs.Common.{sym, subst}
use Rattle.ca_term.specs.Program.{ProgramView, program_view}
use Rattle.ca_lower.specs.Gos.{SameGos}
use Rattle.ca_lower.specs.Lowered.{Lowered}
use Rattle.ca_states.specs.ValidCode.{valid_code}
use Rattle.ca_pool.proofs.Rounding.{own_ready}
use Rattle.ca_run_rows.proofs.beside.make_or_hold.Goals as goal

pub work-worker-requires-clause-ready : goal.work-worker-requires-clause-ready
work-worker-requires-clause-ready g c = own_ready g.A.Agent.over g.A.Agent.stands (program_view c.args.program.now.value) (valid_code c.args.code.now) c.args.table.now.id c.args.count c.args.worker.now c.requires.ready

pub work-worker-requires-clause-lowered : goal.work-worker-requires-clause-lowered
work-worker-requires-clause-lowered g c = subst (λ (p : ProgramView). Lowered p (valid_code c.args.code.now)) (sym c.requires.ready.one.of_program) c.requires.lowered

pub work-worker-requires-clause-gos : goal.work-worker-requires-clause-gos
work-worker-requires-clause-gos g c = subst (λ (p : ProgramView). SameGos p (valid_code c.args.code.now)) (sym c.requires.ready.one.of_program) c.requires.gos
