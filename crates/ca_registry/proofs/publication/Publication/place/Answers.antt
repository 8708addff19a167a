use Rattle.std.proofs.Common.{rules, ap}
use Rattle.ca_meaning.specs.Registry.{a_publication}
use Rattle.ca_registry.proofs.Topics.{placed_push}
use Rattle.ca_registry.proofs.publication.Publication.place.Goals as goal

pub returns : goal.returns
returns c = ap (a_publication c.args.self.now.source) (placed_push _ _ _ c.push.ensures (search rules))
