use Rattle.ca_value.specs.Builtins.{builtin_result}
use Rattle.ca_value.proofs.builtin.direct.give_conj.Goals as goal

pub returns : goal.returns
unfolding builtin_result
returns c = c.applied.ensures _ (c.judge_answer.ensures _ c.conj_one.ensures)
