use Rattle.std.proofs.Common.{All, length, sym, subst}
use Rattle.ca_term.specs.Program.{ProgramParts, program_view}
use Rattle.ca_states.specs.ValidCode.{valid_code}
use Rattle.ca_lower.specs.Gos.{SameGos}
use Rattle.ca_lower.specs.Lowered.{Lowered}
use Rattle.ca_table.specs.Workers.{IsReady}
use Rattle.ca_pool.specs.Answers.{WorkedAt}
use Rattle.ca_pool.proofs.Rounding.{kept_all, round_alone, round_of_all}
use Rattle.ca_pool.proofs.rounds.round.Goals as goal

pub work_all-requires-clause-ready : goal.work_all-requires-clause-ready
work_all-requires-clause-ready g c κs within = let xs = c.args.workers.now in subst (λ (p : ProgramParts). All (IsReady g.A.Agent.over g.A.Agent.stands (program_view p) (valid_code c.args.code.now) c.args.table.now.id (length xs)) xs) (sym c.of-text.ensures) c.requires.ready

pub work_all-requires-clause-lowered : goal.work_all-requires-clause-lowered
work_all-requires-clause-lowered g c κs within = subst (λ (p : ProgramParts). Lowered (program_view p) (valid_code c.args.code.now)) (sym c.of-text.ensures) c.requires.lowered

pub work_all-requires-clause-gos : goal.work_all-requires-clause-gos
work_all-requires-clause-gos g c κs within = subst (λ (p : ProgramParts). SameGos (program_view p) (valid_code c.args.code.now)) (sym c.of-text.ensures) c.requires.gos

pub returns-clause-ready : goal.returns-clause-ready
returns-clause-ready g c = let xs = c.args.workers.now in let w = c.work_all.ensures in let worked = subst (λ (p : ProgramParts). WorkedAt g.A.Agent.over g.A.Agent.stands (program_view p) (valid_code c.args.code.now) c.args.table.now.id (length xs) c.args.allowance xs c.work_all.new.workers) c.of-text.ensures (λ k d lt. (w.called k d lt).worked) in
    (round_of_all g.A.Agent.over g.A.Agent.stands (program_view c.args.program.now) (valid_code c.args.code.now) c.args.table.now.id (length xs) c.args.allowance c.answer_of.result xs c.work_all.new.workers c.requires.ready c.answer_of.ensures w.many worked).ready

pub returns-clause-failed : goal.returns-clause-failed
returns-clause-failed g c = let xs = c.args.workers.now in let w = c.work_all.ensures in let worked = subst (λ (p : ProgramParts). WorkedAt g.A.Agent.over g.A.Agent.stands (program_view p) (valid_code c.args.code.now) c.args.table.now.id (length xs) c.args.allowance xs c.work_all.new.workers) c.of-text.ensures (λ k d lt. (w.called k d lt).worked) in
    (round_of_all g.A.Agent.over g.A.Agent.stands (program_view c.args.program.now) (valid_code c.args.code.now) c.args.table.now.id (length xs) c.args.allowance c.answer_of.result xs c.work_all.new.workers c.requires.ready c.answer_of.ensures w.many worked).failed

pub returns-clause-kept : goal.returns-clause-kept
returns-clause-kept g c = let xs = c.args.workers.now in let w = c.work_all.ensures in let worked = subst (λ (p : ProgramParts). WorkedAt g.A.Agent.over g.A.Agent.stands (program_view p) (valid_code c.args.code.now) c.args.table.now.id (length xs) c.args.allowance xs c.work_all.new.workers) c.of-text.ensures (λ k d lt. (w.called k d lt).worked) in
    kept_all g.A.Agent.over g.A.Agent.stands (program_view c.args.program.now) (valid_code c.args.code.now) c.args.table.now.id (length xs) c.args.allowance c.answer_of.result xs c.work_all.new.workers w.many worked

pub returns-clause-worked : goal.returns-clause-worked
returns-clause-worked g c = λ k d lt. (c.work_all.ensures.called k d lt).worked.worked

pub returns-clause-solo : goal.returns-clause-solo
returns-clause-solo g c = let a = g.A.Agent in let w = c.work_all.ensures in round_alone a.over a.place a.stands a.advances a.gives a.starts c.args.code.now c.args.allowance c.args.workers.now c.work_all.new.workers c.answer_of.result c.answer_of.ensures w.many (λ k d lt. (w.called k d lt).alone)
