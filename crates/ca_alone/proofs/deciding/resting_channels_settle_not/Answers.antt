use Rattle.ca_commit.proofs.Gathering.{parts_in, picks_within}
use Rattle.ca_commit.specs.Agents.{place_of, stands_of}
use Rattle.ca_commit.specs.Gathered.{parts_of, pick}
use Rattle.ca_alone.proofs.Resting.{rests_settle_not}
use Rattle.ca_alone.proofs.deciding.resting_channels_settle_not.Goals as goal

pub returns : goal.returns
returns g c = λ program n now s is cs p f run at bank e. rests_settle_not (place_of g.A.Agent.place) (stands_of g.A.Agent.stands) program n (parts_of n now) (parts_of n (pick is cs)) s p f run.stand (parts_in n (pick is cs) now (picks_within now is cs at)) bank e
