-- What a `Body` holds.
use Rattle.std.specs.Prelude.{ℕ, Option}
use Rattle.ca_term.specs.declared.term.Term.{Term}
use Rattle.ca_meaning.specs.declared.body.FaultAt.{FaultAt}

pub record BodyParts : Type 0 where
  pub term : Term
  pub turns : ℕ
  pub depth : ℕ
  pub fault : Option FaultAt
