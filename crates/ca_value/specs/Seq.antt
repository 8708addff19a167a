-- What a contract sees of a `Seq`: its items, and how many more fit with no growth.
use Rattle.std.specs.Prelude.{ℕ, ◌-◌, List, vec_len, vec_capacity}
use Rattle.ca_value.specs.declared.seq.Seq.{Seq}

abbrev pub list : {T : Type 0} → Seq T → List T
list s = s.items.items

abbrev pub spare : {T : Type 0} → Seq T → ℕ
spare s = vec_capacity s.items - vec_len s.items
