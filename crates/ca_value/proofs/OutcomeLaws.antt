-- A call that gives an outcome, clause by clause.
use Rattle.std.proofs.Common.{◌≡◌, Ok, Err, Result}
use Rattle.std.specs.Prelude.{IfOk, IfErr}
use Rattle.ca_value.specs.declared.value.Value.{Value}
use Rattle.ca_value.specs.declared.builtin.Builtin.{Builtin}
use Rattle.ca_value.specs.declared.fault.ApplyError.{ApplyError}
use Rattle.ca_value.specs.Tree.{Trees}
use Rattle.ca_value.specs.View.{view}
use Rattle.ca_value.specs.Outcome.{Outcome, IsFault, Gives}
use Rattle.ca_value.specs.IsValue.{Scalars, IsValue, AreValues}
use Rattle.ca_value.specs.Builtins.{builtin_result}
use Rattle.ca_value.proofs.SoundBuiltins.{result_is_value}

pub given_value : (r : Result Value ApplyError) (o : Outcome) → Gives r o → IfOk r (λ v. o ≡ Ok (view v))
given_value (Ok v) o h = h
given_value (Err e) o h = tt

pub given_fault : (r : Result Value ApplyError) (o : Outcome) → Gives r o → IfErr r (λ e. IsFault e o)
given_fault (Ok v) o h = tt
given_fault (Err e) o h = h

pub given_sound : (w : Scalars) (b : Builtin) (ts : Trees) (r : Result Value ApplyError) → Gives r (builtin_result b ts) → AreValues w ts → IfOk r (λ v. IsValue w (view v))
given_sound w b ts (Ok v) h values = result_is_value w b ts (view v) values h
given_sound w b ts (Err e) h values = tt
