-- The code that a `ValidCode` holds.
use Rattle.ca_states.specs.declared.valid_code.ValidCode.{ValidCode}
use Rattle.ca_states.specs.Code.{CodeView, code_view}

abbrev pub valid_code : ValidCode → CodeView
valid_code v = code_view v.code
