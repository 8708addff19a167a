use Rattle.ca_commit.proofs.Gathering.{parts_in, picks_within}
use Rattle.ca_commit.specs.Agents.{place_of, stands_of}
use Rattle.ca_commit.specs.Gathered.{parts_of, pick}
use Rattle.ca_alone.proofs.Choosing.{plan_takes_first}
use Rattle.ca_alone.proofs.deciding.plans_take_the_first_branch.Goals as goal

pub returns : goal.returns
returns g c = λ program n now s is cs op start k run at e plain. plan_takes_first (place_of g.A.Agent.place) (stands_of g.A.Agent.stands) program n (parts_of n now) (parts_of n (pick is cs)) s op start k run.stand (parts_in n (pick is cs) now (picks_within now is cs at)) e plain
