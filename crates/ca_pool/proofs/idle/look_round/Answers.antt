use Rattle.ca_table.proofs.Drawing.{drew_before, drew_both}
use Rattle.ca_pool.proofs.Lone.{stayed_both, stayed_same}
use Rattle.ca_pool.proofs.idle.look_round.Goals as goal

pub survey-found-requires : goal.survey-found-requires
survey-found-requires g c = let r = c.requires.seated in record { ready = (r.0, r.1, c.rise.ensures.ready r.0 r.1 r.2) }

pub sit-requires : goal.sit-requires
sit-requires g c = let r = c.requires.seated in record { ready = (r.0, r.1, c.survey-found.ensures.ready r.0 r.1 (c.rise.ensures.ready r.0 r.1 r.2)) }

pub returns-clause-same : goal.returns-clause-same
returns-clause-same g c = (drew_before (drew_both c.rise.ensures.drew c.survey-found.ensures.drew) c.sit.ensures.same c.sit.ensures.turns).same

pub returns-clause-drew : goal.returns-clause-drew
returns-clause-drew g c = drew_before (drew_both c.rise.ensures.drew c.survey-found.ensures.drew) c.sit.ensures.same c.sit.ensures.turns

pub returns-clause-seated : goal.returns-clause-seated
returns-clause-seated g c = λ P n s. c.sit.ensures.seated P n (c.survey-found.ensures.ready P n (c.rise.ensures.ready P n s))

pub returns-clause-stayed : goal.returns-clause-stayed
returns-clause-stayed g c = let r = c.rise.ensures in let s = c.sit.ensures in stayed_both (stayed_both (stayed_same r.same r.turns) c.survey-found.ensures.stayed) (stayed_same s.same s.turns)
