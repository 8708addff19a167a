-- The clock that a call of the program leaves where it has no answer.
use Rattle.std.specs.Prelude.{Option, Some, Result, Ok, Err}
use Rattle.ca_run.specs.declared.answer.Answer.{Answer}
use Rattle.ca_run.specs.declared.stop.Stop.{Stop}
use Rattle.ca_run.specs.declared.stop.Stop.TheVariants.{ClockFailed, OutOfMemory, SourceFailed}

-- the clock as the call leaves it; it has none where it was given to a run that wanted memory
abbrev pub clock_left : {C : Type 0} → Result (Answer × C) (Stop C) → Option C
clock_left (Ok judged) = Some judged.1
clock_left (Err (SourceFailed clock)) = Some clock
clock_left (Err (OutOfMemory clock)) = clock
clock_left (Err (ClockFailed clock)) = Some clock
