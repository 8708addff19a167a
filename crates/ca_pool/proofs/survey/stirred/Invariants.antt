use Rattle.ca_pool.proofs.StillParts.{RestBefore}
use Rattle.ca_pool.proofs.survey.stirred.Given as goal

abbrev pub invariant-loop-place : goal.invariant-loop-place
invariant-loop-place l = RestBefore l.bank l.place
