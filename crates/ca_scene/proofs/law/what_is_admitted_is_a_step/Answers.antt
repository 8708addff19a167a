use Rattle.ca_scene.proofs.Complete.{complete}
use Rattle.ca_scene.proofs.Soundly.{admitted, step_there}
use Rattle.ca_scene.proofs.law.what_is_admitted_is_a_step.Goals as goal

pub returns-clause-leads : goal.returns-clause-leads
returns-clause-leads c = λ program s e a. step_there program s e (admitted s e a)

pub returns-clause-admitted : goal.returns-clause-admitted
returns-clause-admitted c = λ program s s2 e step. complete program s s2 e step
