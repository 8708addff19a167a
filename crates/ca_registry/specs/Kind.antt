-- What a port is that names a registry.
use Rattle.std.specs.Prelude.{Option, Some, None}
use Rattle.ca_meaning.specs.Registry.{Registry, a_mult, a_mix, a_publication}
use Rattle.ca_registry.specs.declared.kind.PortKind.{PortKind}
use Rattle.ca_registry.specs.declared.kind.PortKind.TheVariants.{Mult, Mix, Pub}

abbrev pub kind_of_registry : Option Registry → Option PortKind
kind_of_registry None = None
kind_of_registry (Some (a_mult s ts)) = Some Mult
kind_of_registry (Some (a_mix o g mode xs)) = Some Mix
kind_of_registry (Some (a_publication s ts)) = Some Pub
