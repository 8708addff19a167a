use Rattle.std.proofs.Common.{◌≢◌, length, rules}
use Rattle.ca_registry.specs.Marks.{topic_view}
use Rattle.ca_registry.specs.Publications.{topic_channel}
use Rattle.ca_registry.proofs.Listed.{given_differ}
use Rattle.ca_registry.proofs.judging.list_channels.Goals as goal

pub returns-then-items-topics : goal.returns-then-items-topics
returns-then-items-topics c = let h : length c.args.items.now ≢ length c.args.topics.now = search rules in given_differ topic_view topic_channel c.args.items.now c.args.topics.now h
