-- What `auto` is told of parts.
pub use Rattle.ca_forms.proofs.PartLaws.{two_parts, three_parts}
