-- What a buffer of any kind shows.
use Rattle.std.specs.Prelude.{ℕ, List}
use Rattle.ca_value.specs.Tree.{Tree}
use Rattle.ca_value.specs.Buffer.{Policy, fixed_buffer, dropping_buffer, sliding_buffer, promise_buffer}
use Rattle.ca_buffers.specs.Buffers.{fixed_held, fixed_capacity, fixed_spare, dropping_held, dropping_capacity, dropping_spare, sliding_held, sliding_capacity, sliding_spare, promise_held}
use Rattle.ca_buffers.specs.declared.any.AnyBuffer.{AnyBuffer}
use Rattle.ca_buffers.specs.declared.any.AnyBuffer.TheVariants.{Fixed, Dropping, Sliding, Promise}

abbrev pub any_policy : AnyBuffer → Policy
any_policy (Fixed b) = fixed_buffer
any_policy (Dropping b) = dropping_buffer
any_policy (Sliding b) = sliding_buffer
any_policy (Promise b) = promise_buffer

abbrev pub any_capacity : AnyBuffer → ℕ
any_capacity (Fixed b) = fixed_capacity b
any_capacity (Dropping b) = dropping_capacity b
any_capacity (Sliding b) = sliding_capacity b
any_capacity (Promise b) = 1

abbrev pub any_held : AnyBuffer → List Tree
any_held (Fixed b) = fixed_held b
any_held (Dropping b) = dropping_held b
any_held (Sliding b) = sliding_held b
any_held (Promise b) = promise_held b

abbrev pub any_spare : AnyBuffer → ℕ
any_spare (Fixed b) = fixed_spare b
any_spare (Dropping b) = dropping_spare b
any_spare (Sliding b) = sliding_spare b
any_spare (Promise b) = 1
