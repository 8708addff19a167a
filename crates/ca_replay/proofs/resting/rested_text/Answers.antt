use Rattle.std.proofs.Common.{refl}
use Rattle.ca_meaning.specs.BodyViews.{body_view}
use Rattle.ca_replay.proofs.resting.rested_text.Goals as goal

pub returns-clause-rested : goal.returns-clause-rested
returns-clause-rested c = record {
  rests = (body_view c.rest.new.self, c.in_ok-rest.ensures.rest, refl);
  runs = refl;
  shown = c.in_ok-standing.ensures;
  known = c.rest.ensures.known;
}
