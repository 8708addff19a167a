-- How the main text ends, as a journal's events tell it.
use Rattle.std.specs.Prelude.{ℕ, zero, suc, List, [], ◌∷◌, Option, Some, None}
use Rattle.ca_term.specs.declared.event.Ending.{Ending}
use Rattle.ca_term.specs.declared.event.Ending.TheVariants.{Ended, Faulted}
use Rattle.ca_term.specs.Event.{EventView, over}
use Rattle.ca_replay.specs.declared.main_end.MainEnd.{MainEnd}

abbrev pub main_text_end_by : ℕ → Ending → Option MainEnd
main_text_end_by zero Ended = Some MainEnd.Ended
main_text_end_by zero (Faulted fault place result) = Some MainEnd.Faulted
main_text_end_by (suc t) how = None

-- the end of the main text, where the event is that
abbrev pub main_text_end : EventView → Option MainEnd
main_text_end (over t how) = main_text_end_by t how
main_text_end e = None

-- the end of the main text, where the last event is that
abbrev pub last_end : List EventView → Option MainEnd
last_end [] = None
last_end (e ∷ []) = main_text_end e
last_end (e ∷ (f ∷ es)) = last_end (f ∷ es)
