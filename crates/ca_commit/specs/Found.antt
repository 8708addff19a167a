-- What the code's findings stand for.
use Rattle.ca_commit.specs.Finding as pure
use Rattle.ca_commit.specs.declared.finding.Glance.{Glance}
use Rattle.ca_commit.specs.declared.finding.Finding.{Finding}
use Rattle.ca_commit.specs.declared.serving.Serving.{Serving}

abbrev pub glance_view : Glance → pure.Glance
glance_view Glance.Here = pure.here
glance_view Glance.Gone = pure.gone
glance_view Glance.Unseen = pure.unseen

abbrev pub finding_view : Finding → pure.Finding
finding_view Finding.Unready = pure.unready
finding_view Finding.Alone = pure.alone
finding_view (Finding.Partner w o) = pure.partner w.n o
finding_view (Finding.Stale side) = pure.stale side
finding_view (Finding.Unheld w) = pure.unheld w.n

abbrev pub serving_view : Serving → pure.Serving
serving_view Serving.Rests = pure.rests
serving_view (Serving.Serves side w o) = pure.serves side w.n o
serving_view (Serving.Stale side) = pure.rests_on_stale side
serving_view (Serving.Unheld w) = pure.rests_on_unheld w.n
