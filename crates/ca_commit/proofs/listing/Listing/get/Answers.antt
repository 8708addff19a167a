use Rattle.std.proofs.Common.{sym}
use Rattle.ca_commit.specs.Listings.{parts}
use Rattle.ca_commit.proofs.Listed.{listed_at, listed_none}
use Rattle.ca_commit.proofs.listing.Listing.get.Goals as goal

pub returns-in-Some : goal.returns-in-Some
returns-in-Some g c = sym (listed_at g.T.Numbered.number (parts c.args.self.now) c.args.number c.in-Some.place c.index.result.now c.in-Some.ensures.found c.index.ensures)

pub returns-in-None : goal.returns-in-None
returns-in-None g c = sym (listed_none g.T.Numbered.number (parts c.args.self.now) c.args.number c.in-None.ensures.none)
