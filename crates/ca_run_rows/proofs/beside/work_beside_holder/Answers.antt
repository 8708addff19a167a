use Rattle.std.proofs.Common.{All, sym, subst}
use Rattle.ca_term.specs.Program.{ProgramParts, program_view}
use Rattle.ca_states.specs.ValidCode.{valid_code}
use Rattle.ca_lower.specs.Gos.{SameGos}
use Rattle.ca_lower.specs.Lowered.{Lowered}
use Rattle.ca_table.specs.Workers.{IsReady}
use Rattle.ca_run_rows.proofs.beside.work_beside_holder.Goals as goal

pub make_and_hold-requires-clause-ready : goal.make_and_hold-requires-clause-ready
make_and_hold-requires-clause-ready g c κs within = subst (λ (p : ProgramParts). All (IsReady g.A.Agent.over g.A.Agent.stands (program_view p) (valid_code c.args.code.now) c.args.table.now.id c.args.count) c.args.workers.now) (sym c.of-text.ensures) c.requires.ready

pub make_and_hold-requires-clause-lowered : goal.make_and_hold-requires-clause-lowered
make_and_hold-requires-clause-lowered g c κs within = subst (λ (p : ProgramParts). Lowered (program_view p) (valid_code c.args.code.now)) (sym c.of-text.ensures) c.requires.lowered

pub make_and_hold-requires-clause-gos : goal.make_and_hold-requires-clause-gos
make_and_hold-requires-clause-gos g c κs within = subst (λ (p : ProgramParts). SameGos (program_view p) (valid_code c.args.code.now)) (sym c.of-text.ensures) c.requires.gos
