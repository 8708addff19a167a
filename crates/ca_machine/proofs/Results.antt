-- What a call gives.
use Rattle.std.specs.Prelude.{Result, Ok, Err, IfOk}

-- what holds of the value of a call holds of what follows from it
pub if_ok : {T E : Type 0} (r : Result T E) (F G : T → Type 0) → ((x : T) → F x → G x) → IfOk r F → IfOk r G
if_ok (Ok x) F G h f = h x f
if_ok (Err e) F G h f = f
