-- The number of a held part.
use Rattle.std.specs.Prelude.{ℕ}
use Rattle.ca_commit.specs.declared.held.HeldBank.{HeldBank}
use Rattle.ca_commit.specs.declared.held.HeldShard.{HeldShard}

abbrev pub number_of_bank : HeldBank → ℕ
number_of_bank b = b.number

abbrev pub number_of_shard : {A : Type 0} → HeldShard A → ℕ
number_of_shard s = s.number
