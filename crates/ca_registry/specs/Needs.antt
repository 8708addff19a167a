-- What the code's needs stand for, operands by their places, and the keys of a toggle.
use Rattle.std.specs.Prelude.{ℕ, zero, suc, Bool, true}
use Rattle.ca_value.specs.Tree.{Trees}
use Rattle.ca_term.specs.declared.head.RegisterName.{RegisterName}
use Rattle.ca_term.specs.declared.head.RegisterName.TheVariants.{Toggle}
use Rattle.ca_meaning.specs.Operands.{first_of, rest_of}
use Rattle.ca_meaning.specs.Refusal as pure
use Rattle.ca_meaning.specs.Registry.{all_channels, pairs_in}
use Rattle.ca_meaning.specs.State.{State}
use Rattle.ca_registry.specs.declared.need.Need.{Need}

abbrev pub need_view : Need → pure.Need
need_view Need.Channel = pure.a_channel
need_view Need.Mult = pure.the_mult
need_view Need.Mix = pure.the_mix
need_view Need.Publication = pure.the_publication
need_view Need.Anything = pure.anything

-- the operands from a place on
abbrev pub from_place : ℕ → Trees → Trees
from_place zero vs = vs
from_place (suc n) vs = from_place n (rest_of vs)

-- each key of a toggle is a channel
abbrev pub keys_pass : State → RegisterName → Trees → Bool
keys_pass s Toggle args = all_channels (pure.is_channel s) (pairs_in (first_of args))
keys_pass s other args = true
