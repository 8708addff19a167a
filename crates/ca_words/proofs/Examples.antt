-- The definition at words that are written out.
use Rattle.std.proofs.Common.{◌≡◌, refl, true, false, [], ◌∷◌, Some, None, codes}
use Rattle.ca_words.specs.Words.{command_in}
use Rattle.ca_words.specs.declared.command.Command.TheVariants.{Run, Load, Replay, Follow, Report}

number_last : command_in (codes "load" ∷ codes "--workers=2" ∷ codes "5" ∷ []) ≡ Some (Load 5 2)
number_last = refl

number_between : command_in (codes "load" ∷ codes "--workers" ∷ codes "2" ∷ codes "5" ∷ []) ≡ Some (Load 5 2)
number_between = refl

twice : command_in (codes "run" ∷ codes "--budget" ∷ codes "5" ∷ codes "--budget" ∷ codes "5" ∷ []) ≡ None
twice = refl

short : command_in (codes "run" ∷ codes "-x" ∷ []) ≡ None
short = refl

dashes : command_in (codes "run" ∷ codes "--" ∷ []) ≡ None
dashes = refl

zero : command_in (codes "load" ∷ codes "0" ∷ []) ≡ None
zero = refl

stray : command_in (codes "check" ∷ codes "x" ∷ []) ≡ None
stray = refl

help : command_in (codes "--help" ∷ []) ≡ None
help = refl

all_budget : command_in (codes "run" ∷ codes "--budget" ∷ codes "4000000" ∷ []) ≡ Some (Run 1 4000000 false)
all_budget = refl

all_three : command_in (codes "run" ∷ codes "--journal" ∷ codes "--workers=16" ∷ codes "--budget" ∷ codes "1" ∷ []) ≡ Some (Run 16 1 true)
all_three = refl

replayed : command_in (codes "replay" ∷ []) ≡ Some Replay
replayed = refl

followed : command_in (codes "follow" ∷ []) ≡ Some Follow
followed = refl

reported : command_in (codes "report" ∷ []) ≡ Some Report
reported = refl

no_options : command_in (codes "replay" ∷ codes "--workers=2" ∷ []) ≡ None
no_options = refl
