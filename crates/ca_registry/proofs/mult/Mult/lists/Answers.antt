use Rattle.std.proofs.Common.{◌≢◌, sym, ◌∙◌, length, rules}
use Rattle.ca_meaning.specs.Registry.{tap_value}
use Rattle.ca_registry.specs.Registries.{tap_view}
use Rattle.ca_registry.proofs.Listed.{given_differ, given_other, given_same}
use Rattle.ca_registry.proofs.mult.Mult.lists.Goals as goal

pub returns-then-items-len : goal.returns-then-items-len
returns-then-items-len c = let h : length c.args.items.now ≢ length c.args.self.now.taps.entries = search rules in given_differ tap_view tap_value c.args.items.now c.args.self.now.taps.entries h

pub returns-then-not-is_tap : goal.returns-then-not-is_tap
returns-then-not-is_tap c = sym c.loop-place.invariant ∙ given_other tap_view tap_value c.args.items.now c.args.self.now.taps.entries c.loop-place.place c.index-items-place.result _ c.loop-place-test.true (sym c.in-Some.ensures.entry) c.index-items-place.is (sym c.is_tap.ensures ∙ c.if-not-is_tap.true)

pub loop-place-preserved : goal.loop-place-preserved
loop-place-preserved c = sym (given_same tap_view tap_value c.args.items.now c.args.self.now.taps.entries c.loop-place.place c.index-items-place.result _ c.loop-place-test.true (sym c.in-Some.ensures.entry) c.index-items-place.is (sym c.is_tap.ensures ∙ c.if-not-is_tap.false)) ∙ c.loop-place.invariant
