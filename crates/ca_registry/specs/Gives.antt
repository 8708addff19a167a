-- Whether an answer is the one that an operation on a registry has.
use Rattle.std.specs.Prelude.{Bool, false}
use Rattle.ca_value.specs.Tree.{Tree}
use Rattle.ca_value.specs.Same.{same}
use Rattle.ca_meaning.specs.Registry.{Registered, answers, refuses}

abbrev pub gives_answer : Tree → Registered → Bool
gives_answer v (answers u r) = same v u
gives_answer v (refuses f) = false
