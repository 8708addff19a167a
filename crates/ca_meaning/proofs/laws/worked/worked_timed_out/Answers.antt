use Rattle.ca_meaning.proofs.TimingOut.{legal, too_early, before_tick, other_branch, other_answer}
use Rattle.ca_meaning.proofs.TimingOutSolo.{solo}
use Rattle.ca_meaning.proofs.laws.worked.worked_timed_out.Goals as goal

pub returns : goal.returns
returns c = record { legal = legal; one_worker = solo; too_early = too_early; before_tick = before_tick; other_branch = other_branch; other_answer = other_answer }
