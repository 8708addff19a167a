use Rattle.ca_meaning.proofs.Rests.{rests, one_rest}
use Rattle.ca_meaning.proofs.rest.each_body_rests_once.Goals as goal

pub returns : goal.returns
returns c = record { rests = rests; once = one_rest }
