-- The word for each kind of error.
use Rattle.std.specs.Prelude.{ℕ, List, codes}
use Rattle.ca_reader.specs.declared.error.ReadErrorKind.{ReadErrorKind}
use Rattle.ca_reader.specs.declared.error.ReadErrorKind.TheVariants.{BadByte, UnclosedList, StrayClose, UnclosedText, BadEscape, BadNumber, OddMap, TooDeep}

abbrev pub kind_name : ReadErrorKind → List ℕ
kind_name BadByte = codes "BadByte"
kind_name UnclosedList = codes "UnclosedList"
kind_name StrayClose = codes "StrayClose"
kind_name UnclosedText = codes "UnclosedText"
kind_name BadEscape = codes "BadEscape"
kind_name BadNumber = codes "BadNumber"
kind_name OddMap = codes "OddMap"
kind_name TooDeep = codes "TooDeep"
