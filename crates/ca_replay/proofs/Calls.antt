-- What a body that was called came to.
use Rattle.std.proofs.Common.{◌≡◌, Some, None, Err, refl, ap}
use Rattle.ca_value.specs.Tree.{Tree}
use Rattle.ca_term.specs.declared.fault.Fault.{Fault}
use Rattle.ca_term.specs.declared.fault.Fault.TheVariants.{WrongKind}
use Rattle.ca_term.specs.declared.place.Place.{Place}
use Rattle.ca_meaning.specs.Applied.{returned_at}
use Rattle.ca_meaning.specs.Body.{At, local, at_op, ended, faulted, nowhere}
use Rattle.ca_meaning.specs.BodyViews.{stand_of, ended_value}
use Rattle.ca_meaning.specs.declared.body.Stand.{Stand}
use Rattle.std.specs.Prelude.{Ok}

pub value_returned : (a : At) (v : Tree) → Some v ≡ ended_value a → Ok v ≡ returned_at a
value_returned local v e = absurd cc
value_returned (at_op w) v e = absurd cc
value_returned (ended u) v e = let k : v ≡ u = cc in ap (λ z. Ok z) k
value_returned (faulted f p) v e = absurd cc
value_returned nowhere v e = absurd cc

-- where it has no value
pub fault_returned : (a : At) (f : Fault) (p : Place) → Stand.Faulted f p ≡ stand_of a → Err f ≡ returned_at a
fault_returned local f p e = absurd cc
fault_returned (at_op w) f p e = absurd cc
fault_returned (ended u) f p e = absurd cc
fault_returned (faulted g q) f p e = let k : f ≡ g = cc in ap (λ z. Err z) k
fault_returned nowhere f p e = absurd cc

pub local_returned : (a : At) → Stand.Local ≡ stand_of a → Err WrongKind ≡ returned_at a
local_returned local e = refl
local_returned (at_op w) e = absurd cc
local_returned (ended u) e = absurd cc
local_returned (faulted g q) e = absurd cc
local_returned nowhere e = absurd cc

pub op_returned : (a : At) → Stand.AtOp ≡ stand_of a → Err WrongKind ≡ returned_at a
op_returned local e = absurd cc
op_returned (at_op w) e = refl
op_returned (ended u) e = absurd cc
op_returned (faulted g q) e = absurd cc
op_returned nowhere e = absurd cc

pub end_returned : (a : At) → None ≡ ended_value a → Stand.Ended ≡ stand_of a → Err WrongKind ≡ returned_at a
end_returned local n e = absurd cc
end_returned (at_op w) n e = absurd cc
end_returned (ended u) n e = absurd cc
end_returned (faulted g q) n e = absurd cc
end_returned nowhere n e = refl
