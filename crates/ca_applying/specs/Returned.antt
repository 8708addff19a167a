-- What a runner that halted came to as a plain function of a value.
use Rattle.std.specs.Prelude.{Ok, Err}
use Rattle.ca_value.specs.View.{view}
use Rattle.ca_term.specs.declared.fault.Fault.TheVariants.{WrongKind}
use Rattle.ca_meaning.specs.Applied.{Returned}
use Rattle.ca_states.specs.declared.runner.Halt.{Halt}
use Rattle.ca_states.specs.declared.runner.Halt.TheVariants.{Ended, Faulted, Cut}

abbrev pub halt_returned : Halt → Returned
halt_returned (Ended v) = Ok (view v)
halt_returned (Faulted f q) = Err f
halt_returned (Cut w) = Err WrongKind
