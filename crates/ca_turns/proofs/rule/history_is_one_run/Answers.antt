use Rattle.ca_turns.proofs.Bridge.{one_run}
use Rattle.ca_turns.proofs.rule.history_is_one_run.Goals as goal

pub returns : goal.returns
returns g c = λ opening hands s r. one_run g.O.Object.content g.O.Object.touches g.O.Object.moves opening hands g.O.Object.distinct s r
