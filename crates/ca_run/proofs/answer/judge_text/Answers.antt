use Rattle.ca_term.specs.Program.{program_view}
use Rattle.ca_run.proofs.answer.judge_text.Goals as goal

pub returns-in-Ok-Program-clause-ran : goal.returns-in-Ok-Program-clause-ran
returns-in-Ok-Program-clause-ran g c = λ x e.
    (c.answer_of.ensures.ran x e, (program_view c.in-Ok-Program.program, rw c.in-Ok-Program.field-0-is at c.in-Ok-Program.ensures))
