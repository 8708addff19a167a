use Rattle.std.proofs.Common.{◌∙◌, ap, subst, length, map}
use Rattle.std.specs.Prelude.{All}
use Rattle.ca_turns.specs.Hands.{IsFresh}
use Rattle.ca_turns.proofs.Endings.{length-hand_numbers}
use Rattle.ca_turns.proofs.table.Table.open.Goals as goal

pub deal-requires-clause-hands : goal.deal-requires-clause-hands
deal-requires-clause-hands g c = (ap (λ m. length m.0.stands_for) c.in-Ok.ensures.ok.3 ∙ length-hand_numbers c.args.hands, c.requires.hands.0)

pub returns-clause-fresh : goal.returns-clause-fresh
returns-clause-fresh g c = subst (λ cs. All (IsFresh c.in-Ok.owned.shared.table_id cs c.args.hands) c.in_ok-all.all.items) (ap (λ m. m.0.opening) c.in-Ok.ensures.ok.3 ∙ ap (λ v. map g.O.Object.content v.items) c.of.ensures) c.in_ok-all.ensures.1
