-- Whether the weight that an event's line shows fits 64 bits, as it does for every event of a run.
use Rattle.std.specs.Prelude.{◌^◌, Bool, nat_lt}
use Rattle.ca_term.specs.Cost.{weight_shown}
use Rattle.ca_term.specs.Event.{EventView}

abbrev pub is_light : EventView → Bool
is_light e = nat_lt (weight_shown e) (2 ^ 64)
