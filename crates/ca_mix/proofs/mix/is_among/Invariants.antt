use Rattle.std.proofs.Common.{◌≡◌, eqb, drop, map}
use Rattle.ca_meaning.specs.MixTable.{any_of}
use Rattle.ca_mix.proofs.mix.is_among.Given as goal

abbrev pub invariant-loop-other : goal.invariant-loop-other
invariant-loop-other l = any_of (eqb l.channel.n) (map (λ p. p.n) (drop l.other-index l.heard)) ≡ any_of (eqb l.channel.n) (map (λ p. p.n) l.heard)
