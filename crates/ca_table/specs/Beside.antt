-- What a worker carries beside its lane.
use Rattle.std.specs.Prelude.{None}
use Rattle.ca_table.specs.Carrying.{Carries, each_by, lane_place, with_at}
use Rattle.ca_table.specs.Grips.{settled_one}

abbrev pub beside_lane : {X : Type 0} → Carries X → Carries X
beside_lane h = with_at lane_place None h

-- all of it settled as it is, and the lane as it was
abbrev pub settled_beside : {P C : Type 0} → (P → C) → Carries (P × C) → Carries (P × C)
settled_beside content h = with_at lane_place h.lane (each_by (settled_one content) (beside_lane h))
