use Rattle.std.proofs.Common.{ℕ, ◌++◌, subst}
use Rattle.ca_commit.specs.Touched.{touches}
use Rattle.ca_commit.specs.Running.{contents_written}
use Rattle.ca_table.specs.Moments.{turn_asked}
use Rattle.ca_alone.specs.Answers.{HasGiven}
use Rattle.ca_alone.proofs.Answering.{answers_go_on, gave_none}
use Rattle.ca_alone.proofs.clocks.clocks_give_their_answers.Goals as goal

pub returns-clause-none : goal.returns-clause-none
returns-clause-none g c = gave_none

pub returns-clause-more : goal.returns-clause-more
returns-clause-more g c = λ what now d before after first ms h t.
    subst (λ x. (least : ℕ) × HasGiven first (ms ++ turn_asked x least) (contents_written now (touches d) after)) t.is
    (answers_go_on g.A.Agent.place g.A.Agent.advances g.A.Agent.gives g.A.Agent.starts d now before after t.one t.found t.moves first ms h)
