use Rattle.ca_commit.specs.Listing.{NoneBefore}
use Rattle.ca_commit.specs.Listings.{parts}
use Rattle.ca_commit.proofs.listing.Listing.place.Given as goal

abbrev pub invariant-loop-i : goal.invariant-loop-i
invariant-loop-i g l = NoneBefore g.T.Numbered.number (parts l.self) l.number l.i
