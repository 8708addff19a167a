-- An application, and what it comes to, in the words of the meaning.
use Rattle.std.specs.Prelude.{Ok, Err}
use Rattle.ca_value.specs.View.{view}
use Rattle.ca_meaning.specs.Applied.{Returned}
use Rattle.ca_system.specs.Applications.{ApplicationView}
use Rattle.ca_system.specs.declared.application.Application.{Application}
use Rattle.ca_system.specs.declared.returned.Returned.{Returned as ReturnedCode}
use Rattle.ca_system.specs.declared.returned.Returned.TheVariants.{Value, Fault}

abbrev pub application_view : Application → ApplicationView
application_view a = record { function = a.function; keyword = view a.keyword.now; place = a.place; value = view a.value.now }

abbrev pub returned_view : ReturnedCode → Returned
returned_view (Value v) = Ok (view v)
returned_view (Fault f) = Err f
