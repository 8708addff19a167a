use Rattle.std.proofs.Common.{rules, sym, arith}
use Rattle.ca_meaning.specs.Registry.{source_value}
use Rattle.ca_registry.specs.Mixes.{source_view}
use Rattle.ca_registry.proofs.Members.{listed_behind}
use Rattle.ca_registry.proofs.mix.Mix.list.Goals as goal

pub loop-place-preserved : goal.loop-place-preserved
loop-place-preserved c = record {
  same = listed_behind source_view source_value _ _ _ _ c.args.self.now.sources.entries c.loop-place.place _ c.push-in-loop-place.ensures.added c.loop-place.invariant.same (sym c.in-Some.ensures.entry) (search rules);
  room = omega (arith, c.loop-place.invariant.room, c.push-in-loop-place.ensures.spare);
}
