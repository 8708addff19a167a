use Rattle.std.proofs.Common.{◌∙◌, map, sym, subst}
use Rattle.ca_turns.specs.Steps.{IsWhole, Sees}
use Rattle.ca_turns.proofs.Rows.{some_alike}
use Rattle.ca_turns.proofs.table.Table.close.Goals as goal

pub returns-clause-history : goal.returns-clause-history
returns-clause-history g c = let r = c.close_slots.ensures.history in let same = some_alike c.emptied.result.items r.0 (c.emptied.ensures.parts ∙ r.2) in let view = c.into_seat.ensures.seat.1 in (
  r.1,
  subst (λ v. Sees g.O.Object.touches g.O.Object.moves v r.1 (map g.O.Object.content c.emptied.result.items)) view (subst (λ ps. Sees g.O.Object.touches g.O.Object.moves c.into_seat.result.me.0 r.1 (map g.O.Object.content ps)) (sym same) r.3),
  subst (λ v. IsWhole v r.1) view r.4,
)
