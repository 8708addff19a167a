-- The names that a task's operation on a registry brings are apart, in whatever state it is judged.
use Rattle.std.proofs.Common.{◌≡◌, ℕ, refl, subst, true, Some}
use Rattle.ca_value.specs.Tree.{Tree, Trees, nil, bool, int, text, key, vector, map, port}
use Rattle.ca_value.specs.IsValue.{Scalars, IsRegular}
use Rattle.ca_term.specs.declared.head.RegisterName.{RegisterName}
use Rattle.ca_term.specs.Operation.{registering}
use Rattle.ca_meaning.specs.Operands.{second_of}
use Rattle.ca_meaning.specs.Registry.{pairs_in, all_channels, channels_differ}
use Rattle.ca_meaning.specs.Refusal.{is_channel}
use Rattle.ca_meaning.specs.State.{State, Task}
use Rattle.ca_meaning.specs.Going.{IsAtOp}
use Rattle.ca_meaning.specs.RunValues.{Holds, AtHas, BringsApart}
use Rattle.ca_meaning.proofs.ValuesAsked.{second_is}
use Rattle.ca_meaning.proofs.ValueRuns.{body_asking}
use Rattle.ca_meaning.proofs.ValuesEqual.{equals_self, apart}

module _ (scalars : Scalars) where
  keys_apart : (s : State) (v : Tree) → IsRegular scalars v → all_channels (is_channel s) (pairs_in v) ≡ true → channels_differ (pairs_in v) ≡ true
  keys_apart s (map ps) h e = apart s ps h.0 e
  keys_apart s nil h e = refl
  keys_apart s (bool b) h e = refl
  keys_apart s (int z) h e = refl
  keys_apart s (text t) h e = refl
  keys_apart s (key k) h e = refl
  keys_apart s (vector ts) h e = refl
  keys_apart s (port n) h e = refl

  -- of a task of the state that stands there
  pub brings_apart : (s : State) (t : ℕ) (x : Task) (name : RegisterName) (args : Trees) → Holds scalars s → s.tasks t ≡ Some x → IsAtOp x.body (registering name args) → BringsApart args
  brings_apart s t x name args h there at =
      let op = subst (AtHas scalars) at.1 (body_asking scalars x.body (h.bodies t x there)) in
      let v = second_is scalars args op.0 in
      (λ other. keys_apart other (second_of args) v.regular, equals_self scalars (second_of args) v.regular)
