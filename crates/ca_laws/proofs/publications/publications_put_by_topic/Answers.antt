use Rattle.ca_laws.proofs.Publishing.{pubs_keep_to}
use Rattle.ca_laws.proofs.publications.publications_put_by_topic.Goals as goal

pub returns : goal.returns
returns c = pubs_keep_to
