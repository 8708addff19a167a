use Rattle.std.proofs.Common.{◌≢◌, sym, ◌∙◌, length, rules}
use Rattle.ca_meaning.specs.Registry.{source_value}
use Rattle.ca_registry.specs.Mixes.{source_view}
use Rattle.ca_registry.proofs.Listed.{given_differ, given_other, given_same}
use Rattle.ca_registry.proofs.mix.Mix.lists_sources.Goals as goal

pub returns-then-items-len : goal.returns-then-items-len
returns-then-items-len c = let h : length c.args.items.now ≢ length c.args.self.now.sources.entries = search rules in given_differ source_view source_value c.args.items.now c.args.self.now.sources.entries h

pub returns-then-not-is_source : goal.returns-then-not-is_source
returns-then-not-is_source c = sym c.loop-place.invariant ∙ given_other source_view source_value c.args.items.now c.args.self.now.sources.entries c.loop-place.place c.index-items-place.result _ c.loop-place-test.true (sym c.in-Some.ensures.entry) c.index-items-place.is (sym c.is_source.ensures ∙ c.if-not-is_source.true)

pub loop-place-preserved : goal.loop-place-preserved
loop-place-preserved c = sym (given_same source_view source_value c.args.items.now c.args.self.now.sources.entries c.loop-place.place c.index-items-place.result _ c.loop-place-test.true (sym c.in-Some.ensures.entry) c.index-items-place.is (sym c.is_source.ensures ∙ c.if-not-is_source.false)) ∙ c.loop-place.invariant
