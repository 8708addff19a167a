-- What the code of a runner comes to.
use Rattle.std.specs.Prelude.{◌≡◌, List, [], ◌∷◌}
use Rattle.ca_value.specs.Tree.{Tree}
use Rattle.ca_states.specs.declared.stop.Stop.{Stop}
use Rattle.ca_states.specs.Code.{Instruction}
use Rattle.ca_states.specs.Machine.{Effect, done, failed, effect}

-- it stops at the effect's fault; want of memory says nothing
abbrev pub StopsAt : Stop → Effect → Type 0
StopsAt (Stop.Fault f p) e = e ≡ failed f p
StopsAt Stop.OutOfMemory e = Unit {0}

-- several instructions in order, up to the first fault
abbrev pub effects_follow : Effect → (List Tree → Effect) → Effect
effects_follow (done s) f = f s
effects_follow (failed f p) g = failed f p

abbrev pub effects : List Instruction → List Tree → Effect
effects [] s = done s
effects (i ∷ is) s = effects_follow (effect i s) (effects is)
