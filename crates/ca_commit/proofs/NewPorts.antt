-- What is made at a new port.
use Rattle.std.proofs.Common.{◌≡◌, ℕ, zero, suc, ◌<◌, refl, arith}
use Rattle.ca_value.specs.Buffer.{Policy}
use Rattle.ca_meaning.specs.Channel.{new_channel, with_buffer}

-- a buffer of at least one value
pub with_some : (policy : Policy) (n : ℕ) → 0 < n → with_buffer policy n ≡ new_channel policy n
with_some policy zero lt = absurd (omega (arith, lt))
with_some policy (suc n) lt = refl
