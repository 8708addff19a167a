use Rattle.std.proofs.Common.{◌≡◌, ◌++◌, drop, map}
use Rattle.ca_meaning.specs.MultTable.{closing_of}
use Rattle.ca_mult.specs.Taps.{mult_tap_view}
use Rattle.ca_mult.proofs.taps.closing_of.Given as goal

abbrev pub invariant-loop-tap : goal.invariant-loop-tap
invariant-loop-tap l = map (λ p. p.n) l.closing.items ++ closing_of (map mult_tap_view (drop l.tap-index l.taps)) ≡ closing_of (map mult_tap_view l.taps)
