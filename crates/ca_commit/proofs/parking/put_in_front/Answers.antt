use Rattle.std.proofs.Common.{sym, ap, ◌∙◌, Some}
use Rattle.ca_value.specs.Seq.{list}
use Rattle.ca_commit.proofs.Parkings.{front_none, front_some}
use Rattle.ca_commit.proofs.parking.put_in_front.Goals as goal

pub returns-in-Some-Put-clause-port : goal.returns-in-Some-Put-clause-port
returns-in-Some-Put-clause-port c = sym (front_some (list c.args.branches) _ (sym c.into_item.ensures ∙ c.in-Some-Put.is ∙ ap Some c.in-Some-Put.field-0-is)).0

pub returns-in-Some-Put-clause-value : goal.returns-in-Some-Put-clause-value
returns-in-Some-Put-clause-value c = sym (front_some (list c.args.branches) _ (sym c.into_item.ensures ∙ c.in-Some-Put.is ∙ ap Some c.in-Some-Put.field-0-is)).1

pub returns-in-Some-Take-clause-port : goal.returns-in-Some-Take-clause-port
returns-in-Some-Take-clause-port c = sym (front_some (list c.args.branches) _ (sym c.into_item.ensures ∙ c.in-Some-Take.is ∙ ap Some c.in-Some-Take.field-0-is)).0

pub returns-in-Some-Take-clause-value : goal.returns-in-Some-Take-clause-value
returns-in-Some-Take-clause-value c = sym (front_some (list c.args.branches) _ (sym c.into_item.ensures ∙ c.in-Some-Take.is ∙ ap Some c.in-Some-Take.field-0-is)).1

pub returns-in-None-clause-port : goal.returns-in-None-clause-port
returns-in-None-clause-port c = sym (front_none (list c.args.branches) (sym c.into_item.ensures ∙ c.in-None.is)).0

pub returns-in-None-clause-value : goal.returns-in-None-clause-value
returns-in-None-clause-value c = sym (front_none (list c.args.branches) (sym c.into_item.ensures ∙ c.in-None.is)).1
