-- What a registry shows, and what an operation on it comes to.
use Rattle.std.specs.Prelude.{ℕ, Option, Some, None, true}
use Rattle.ca_value.specs.Tree.{Trees}
use Rattle.ca_term.specs.declared.fault.Fault.TheVariants.{NotAPort}
use Rattle.ca_term.specs.declared.head.RegisterName.{RegisterName}
use Rattle.ca_meaning.specs.Registry.{Registry as RegistryView, register, Registered, refuses}
use Rattle.ca_registry.specs.Registries.{mult_view, mult_spare, left_by}
use Rattle.ca_registry.specs.Mixes.{mix_view, mix_spare}
use Rattle.ca_registry.specs.Publications.{publication_view, topics_spare}
use Rattle.ca_registry.specs.declared.registry.Registry.{Registry}
use Rattle.ca_registry.specs.declared.registry.Registry.TheVariants.{Mult, Mix, Publication}

abbrev pub registry_view : Registry → RegistryView
registry_view (Mult m) = mult_view m
registry_view (Mix m) = mix_view m
registry_view (Publication p) = publication_view p

-- how many more members it has room for with no growth
abbrev pub spare_in : Registry → ℕ
spare_in (Mult m) = mult_spare m
spare_in (Mix m) = mix_spare m
spare_in (Publication p) = topics_spare p

abbrev pub members_spare : Option Registry → ℕ
members_spare None = 0
members_spare (Some r) = spare_in r

-- what the operation comes to, by the table, where each key of a toggle names a channel
abbrev pub comes_to : Option RegistryView → RegisterName → Trees → Registered
comes_to None name args = refuses NotAPort
comes_to (Some r) name args = register (λ v. true) r name args

-- the registry afterwards; a fault changes nothing
abbrev pub registry_after : RegisterName → Trees → RegistryView → RegistryView
registry_after name args r = left_by (comes_to (Some r) name args) r
