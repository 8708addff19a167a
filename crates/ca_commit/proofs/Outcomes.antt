-- What holds where a call succeeds.
use Rattle.std.proofs.Common.{Result, Ok, Err, OnOk}

pub on_ok : {T E P Q : Type 0} (r : Result T E) → (P → Q) → OnOk r P → OnOk r Q
on_ok (Ok t) f p = f p
on_ok (Err e) f p = tt

pub ever : {T E Q : Type 0} (r : Result T E) → Q → OnOk r Q
ever (Ok t) q = q
ever (Err e) q = tt

pub on_both : {T E P Q R : Type 0} (r : Result T E) → (P → Q → R) → OnOk r P → OnOk r Q → OnOk r R
on_both (Ok t) f p q = f p q
on_both (Err e) f p q = tt
