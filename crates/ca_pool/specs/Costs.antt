-- What the events of a call cost together.
use Rattle.std.specs.Prelude.{ℕ, Bool, false, true}
use Rattle.ca_pool.specs.declared.clock.Asked.{Asked}
use Rattle.ca_pool.specs.declared.clock.Asked.TheVariants as A
use Rattle.ca_pool.specs.declared.idle.Rested.{Rested}
use Rattle.ca_pool.specs.declared.idle.Rested.TheVariants as I
use Rattle.ca_pool.specs.declared.settle.Settling.{Settling}
use Rattle.ca_pool.specs.declared.settle.Settling.TheVariants as S

abbrev pub cost_settling : Settling → ℕ
cost_settling S.Rests = 0
cost_settling S.Again = 0
cost_settling (S.Settled cost) = cost

abbrev pub cost_asked : Asked → ℕ
cost_asked A.Nothing = 0
cost_asked A.Marked = 0
cost_asked (A.Ticked cost) = cost

-- the run's mark was found set
abbrev pub is_marked : Asked → Bool
is_marked A.Nothing = false
is_marked A.Marked = true
is_marked (A.Ticked cost) = false

abbrev pub cost_idle : Rested → ℕ
cost_idle I.Busy = 0
cost_idle I.Over = 0
cost_idle (I.Ticked cost) = cost

-- the worker found the run's end
abbrev pub is_over : Rested → Bool
is_over I.Busy = false
is_over I.Over = true
is_over (I.Ticked cost) = false
