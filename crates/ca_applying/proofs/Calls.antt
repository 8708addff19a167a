-- What a runner halts as, the body that it stands for comes to rest as.
use Rattle.std.proofs.Common.{◌≡◌, ◌≢◌, sym, ap, ◌∙◌, subst}
use Rattle.ca_value.specs.View.{view}
use Rattle.ca_term.specs.Operation.{WantView, want_view}
use Rattle.ca_term.specs.Program.{ProgramView}
use Rattle.ca_meaning.specs.Applied.{returned_at}
use Rattle.ca_meaning.specs.Body.{BodyView, At, local, at_op, ended, faulted, nowhere, at}
use Rattle.ca_meaning.specs.Rest.{Rest}
use Rattle.ca_states.specs.declared.runner.Halt.{Halt}
use Rattle.ca_states.specs.declared.runner.Halt.TheVariants.{Cut, Ended, Faulted}
use Rattle.ca_states.specs.declared.runner.Runner.{Runner}
use Rattle.ca_states.specs.Code.{CodeView}
use Rattle.ca_states.specs.Machine.{Move, RunnerState}
use Rattle.ca_states.specs.Standing.{HaltedAs, HaltsAs}
use Rattle.ca_lower.specs.Lowered.{After, StandsFor}
use Rattle.ca_lower.proofs.Lowers.{comes}
use Rattle.ca_applying.specs.Returned.{halt_returned}

-- anywhere but at a local step
abbrev IsOff : At → Type 0
IsOff local = ⊥
IsOff (at_op w) = Unit {0}
IsOff (ended v) = Unit {0}
IsOff (faulted f p) = Unit {0}
IsOff nowhere = Unit {0}

off : (a b : At) → a ≡ b → IsOff b → a ≢ local
off a b e o l = subst IsOff (sym e ∙ l) o

module _ (P : ProgramView) (C : CodeView) (b : BodyView) where
  halted : (m : Move) (h : Halt) (r : Runner) → HaltedAs m h r → After P (StandsFor P C) m b → (c : BodyView) × Rest P b c × (halt_returned h ≡ returned_at (at c))
  halted m (Ended v) r e g =
      let z = subst (λ x. After P (StandsFor P C) x b) e g in
      (z.0, record { reached = z.1; over = off (at z.0) (ended (view v)) z.2 tt }, sym (ap returned_at z.2))
  halted m (Faulted f q) r e g =
      let z = subst (λ x. After P (StandsFor P C) x b) e g in
      (z.0, record { reached = z.1; over = off (at z.0) (faulted f q) z.2 tt }, sym (ap returned_at z.2))
  halted m (Cut w) r e g =
      let z = subst (λ x. After P (StandsFor P C) x b) e g in
      (z.0, record { reached = z.1; over = off (at z.0) (at_op (want_view w)) z.2 tt }, sym (ap returned_at z.2))

  pub came_to : (c : RunnerState) (h : Halt) (r : Runner) → StandsFor P C c b → HaltsAs C c h r → (d : BodyView) × Rest P b d × (halt_returned h ≡ returned_at (at d))
  came_to c h r g (m, k, e) = halted m h r e (comes P C b g k)
