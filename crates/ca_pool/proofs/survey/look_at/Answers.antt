use Rattle.std.proofs.Common.{subst, sym}
use Rattle.ca_table.specs.Parts.{contents_seen}
use Rattle.ca_table.specs.Seen.{held_of}
use Rattle.ca_table.specs.declared.part.Contents.{Contents}
use Rattle.ca_table.proofs.Bearing.{channels_seen}
use Rattle.ca_pool.specs.Surveys.{AllRest, IsStill}
use Rattle.ca_bank.specs.Bank.{kept_at}
use Rattle.ca_bank.specs.declared.bank.Bank.{Bank}
use Rattle.ca_pool.proofs.survey.look_at.Goals as goal

pub returns-in-None : goal.returns-in-None
returns-in-None g c = λ e. let K = g.C.Clock in subst (λ (x : Contents g.row.A.Denot g.row.C.Denot). IsStill (held_of (contents_seen K.least K.faults K.readings x))) (sym c.in-Bank.is)
    (subst AllRest (sym (channels_seen c.in-Bank.bank.bank.value)) (subst (λ (b : Bank). AllRest (kept_at b)) c.bank.ensures c.in-None.ensures))
