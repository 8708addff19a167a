use Rattle.std.proofs.Common.{sym, ap, ◌∙◌}
use Rattle.ca_states.specs.Code.{code_view}
use Rattle.ca_states.specs.Valid.{is_valid}
use Rattle.ca_states.specs.ValidCode.{valid_code}
use Rattle.ca_moves.specs.Plain.{plain_code}
use Rattle.ca_moves.proofs.Moved.{moved}
use Rattle.ca_moves.proofs.moves.moves.Goals as goal

pub returns-in-Ok-clause-lowered : goal.returns-in-Ok-clause-lowered
returns-in-Ok-clause-lowered c program valid low =
    let same = c.in-Ok.ensures.same in
    moved program (code_view c.args.code) (valid_code c.in-Ok.valid) valid (ap is_valid same ∙ c.in-Ok.ensures.valid) (sym (ap plain_code same ∙ c.in_ok-moved_if_small.ensures)) low
