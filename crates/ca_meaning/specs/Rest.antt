-- A body after all its local steps.
use Rattle.std.specs.Prelude.{◌≡◌, ◌≢◌}
use Rattle.ca_term.specs.Program.{ProgramView}
use Rattle.ca_meaning.specs.Body.{BodyView, at, local, step}

-- c is reached from b by local steps
pub data LocalSteps (program : ProgramView) : BodyView → BodyView → Type 0 where
  here : {b : BodyView} → LocalSteps program b b
  after : {b c : BodyView} → at b ≡ local → LocalSteps program (step program b) c → LocalSteps program b c

-- c is the first body reached from b by local steps that isn't local
pub record Rest (program : ProgramView) (b c : BodyView) : Type 0 where
  pub reached : LocalSteps program b c
  pub over : at c ≢ local
