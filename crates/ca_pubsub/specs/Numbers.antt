-- Ports by their numbers.
use Rattle.std.specs.Prelude.{ℕ, List, map as each_of}
use Rattle.ca_value.specs.Seq.{list}
use Rattle.ca_value.specs.declared.seq.Seq.{Seq}
use Rattle.ca_value.specs.declared.value.PortId.{PortId}

abbrev pub port_numbers : Seq PortId → List ℕ
port_numbers ps = each_of (λ p. p.n) (list ps)
