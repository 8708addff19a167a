use Rattle.std.proofs.Common.{rules, sym, arith}
use Rattle.ca_meaning.specs.Registry.{tap_value}
use Rattle.ca_registry.specs.Registries.{tap_view}
use Rattle.ca_registry.proofs.Members.{listed_more}
use Rattle.ca_registry.proofs.mult.Mult.list.Goals as goal

pub loop-place-preserved : goal.loop-place-preserved
loop-place-preserved c = record {
  same = listed_more tap_view tap_value _ _ _ c.args.self.now.taps.entries c.loop-place.place _ c.push.ensures.added c.loop-place.invariant.same (sym c.in-Some.ensures.entry) (search rules);
  room = omega (arith, c.loop-place.invariant.room, c.push.ensures.spare);
}
