use Rattle.std.proofs.Common.{◌≢◌, rules, length}
use Rattle.ca_scene.proofs.SameEvents.{ports_differ}
use Rattle.ca_scene.proofs.same_event.same_ports.Goals as goal

pub returns-then-a-b : goal.returns-then-a-b
returns-then-a-b c = let h : length c.args.a.now ≢ length c.args.b.now = search rules in ports_differ c.args.a.now c.args.b.now h
