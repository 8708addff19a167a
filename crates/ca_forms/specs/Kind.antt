-- The word for each kind of error.
use Rattle.std.specs.Prelude.{ℕ, List, codes}
use Rattle.ca_forms.specs.declared.error.CheckErrorKind.{CheckErrorKind}
use Rattle.ca_forms.specs.declared.error.CheckErrorKind.TheVariants.{UnknownName, Redefined, BadArity, BadForm, RecurNotTail, ParkOutsideGo, BlockOutsideMain, NotPlain, TooMany}

abbrev pub check_error_name : CheckErrorKind → List ℕ
check_error_name UnknownName = codes "UnknownName"
check_error_name Redefined = codes "Redefined"
check_error_name BadArity = codes "BadArity"
check_error_name BadForm = codes "BadForm"
check_error_name RecurNotTail = codes "RecurNotTail"
check_error_name ParkOutsideGo = codes "ParkOutsideGo"
check_error_name BlockOutsideMain = codes "BlockOutsideMain"
check_error_name NotPlain = codes "NotPlain"
check_error_name TooMany = codes "TooMany"
