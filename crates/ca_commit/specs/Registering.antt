-- What an operation on a registry has to be for its bank to answer it.
use Rattle.std.specs.Prelude.{◌≡◌, true}
use Rattle.ca_value.specs.Tree.{Trees}
use Rattle.ca_term.specs.declared.head.RegisterName.{RegisterName}
use Rattle.ca_term.specs.Operation.{OpView, registering}
use Rattle.ca_meaning.specs.Operands.{first_of, rest_of}
use Rattle.ca_meaning.specs.Registry.{all_channels, pairs_in}
use Rattle.ca_meaning.specs.Refusal.{is_channel}
use Rattle.ca_meaning.specs.State.{State}
pub use Rattle.ca_registry.specs.Needs.{keys_pass}
use Rattle.ca_registry.specs.Mixes.{TogglesApart}
use Rattle.ca_registry.specs.Publications.{PlacesItself}

-- the keys of a toggle, where each is a channel, are different ones, and a topic that is placed is equal to itself
abbrev pub RegistersApart : State → RegisterName → Trees → Type 0
RegistersApart s name args = (all_channels (is_channel s) (pairs_in (first_of (rest_of args))) ≡ true → TogglesApart name (rest_of args)) × PlacesItself name (rest_of args)

abbrev pub AreApart : State → OpView → Type 0
AreApart s (registering name args) = RegistersApart s name args
AreApart s op = Unit {0}
