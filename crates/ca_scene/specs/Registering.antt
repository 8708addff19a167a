-- What an operation on a registry has to bring for the registry to judge it.
use Rattle.ca_term.specs.Operation.{OpView, registering}
use Rattle.ca_meaning.specs.RunValues.{BringsApart}

-- the channels of a toggle are different ones, and a topic is equal to itself
abbrev pub OpApart : OpView → Type 0
OpApart (registering name args) = BringsApart args
OpApart op = Unit {0}
