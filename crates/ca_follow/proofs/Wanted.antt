-- What the operation of a task brings is apart as a registry wants it, where the values of the state are values.
use Rattle.std.proofs.Common.{◌≡◌, ℕ, sym, ◌∙◌, Some}
use Rattle.ca_value.specs.IsValue.{any}
use Rattle.ca_value.specs.Tree.{Trees}
use Rattle.ca_term.specs.declared.head.RegisterName.{RegisterName}
use Rattle.ca_term.specs.declared.head.RegisterName.TheVariants.{Place, Toggle}
use Rattle.ca_term.specs.Operation.{OpView, WantView, registering}
use Rattle.ca_term.specs.Program.{ProgramView}
use Rattle.ca_meaning.specs.Body.{At, at_op}
use Rattle.ca_meaning.specs.Going.{IsAtOp}
use Rattle.ca_meaning.specs.RunValues.{BringsApart, Holds}
use Rattle.ca_meaning.specs.State.{State, Task}
use Rattle.ca_meaning.specs.Task.{TaskBody}
use Rattle.ca_meaning.proofs.ValuesApart.{brings_apart}
use Rattle.ca_commit.specs.Agents.{TaskAgent}
use Rattle.ca_commit.specs.Registering.{AreApart, RegistersApart}
use Rattle.ca_follow.specs.Follows.{IsAt}
use Rattle.ca_follow.specs.Has.{Has}

brought_apart : (name : RegisterName) (args : Trees) (z : State) → BringsApart args → RegistersApart z name args
brought_apart Toggle args z b = (λ e. b.0 z e, tt)
brought_apart Place args z b = (λ e. tt, b.1)
brought_apart n args z b = (λ e. tt, tt)

op_apart : (s : State) (t : ℕ) (x : Task) (op : OpView) → Holds any s → s.tasks t ≡ Some x → IsAtOp x.body op → (z : State) → AreApart z op
op_apart s t x (registering name args) h there at z = brought_apart name args z (brings_apart any s t x name args h there at)
op_apart s t x op h there at z = tt

module _ {A : Type 0} (place : A → At) (stands : ProgramView → A → TaskBody → Type 0) (program : ProgramView) where
  pub wanted_apart : (h : Has A) (s : State) (t : ℕ) (a : TaskAgent A) (w : WantView) → IsAt place stands program h s t a → Holds any s → place a.agent ≡ at_op w → (z : State) → AreApart z w.op
  wanted_apart h s t a w is holds here z = let k = is.1 in op_apart s t k.0 w.op holds k.1.0 (w.place, sym k.3 ∙ here) z
