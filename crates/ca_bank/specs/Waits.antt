-- What a table of waits shows: a map by number, as `indexmap` shows one.
use Rattle.std.specs.Prelude.{ℕ}
use Rattle.std.specs.Coded.{Coded, coded_ℕ}
use base.Stored.{coded_unit}
use Rattle.indexmap.specs.IndexMap.{IndexMap}
use Rattle.indexmap.specs.Layout.{hash_map_code}

abbrev pub WaitMap : Type 0 → Type 0
WaitMap V = IndexMap ℕ V (Unit {0})

abbrev pub waits_code : {V : Type 0} → Coded V → Coded (WaitMap V)
waits_code v = hash_map_code coded_ℕ v coded_unit
