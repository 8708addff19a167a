use Rattle.std.proofs.Common.{◌≢◌, length, sym, ap₂, ◌∙◌, rules}
use Rattle.ca_value.specs.Seq.{list}
use Rattle.ca_value.specs.Pairs.{pairs_list}
use Rattle.ca_value.specs.View.{view}
use Rattle.ca_value.specs.Same.{same}
use Rattle.ca_value.specs.declared.value.Value.{Value}
use Rattle.ca_value.proofs.SameLaws.{items_differ, pairs_differ, same_tells}
use Rattle.ca_value.proofs.+same.Goals as goal

pub same::Seq+Value::same-returns-then-len : goal.same::Seq+Value::same-returns-then-len
same::Seq+Value::same-returns-then-len t c =
    let a = c.args.self.now in
    let b = c.args.other.now in
    let h : length (list a) ≢ length (list b) = search rules in
    sym (items_differ (list a) (list b) h)

pub value::Pairs::same-returns-then-len : goal.value::Pairs::same-returns-then-len
value::Pairs::same-returns-then-len t c =
    let a = c.args.self.now in
    let b = c.args.other.now in
    let h : length (pairs_list a) ≢ length (pairs_list b) = search rules in
    sym (pairs_differ (pairs_list a) (pairs_list b) h)

pub value::Value::same-returns-in-Vector-Vector-clause-exact : goal.value::Value::same-returns-in-Vector-Vector-clause-exact
value::Value::same-returns-in-Vector-Vector-clause-exact t c =
    let both = ap₂ (λ (u v : Value). same (view u) (view v)) c.in-Vector-Vector.is-0 c.in-Vector-Vector.is-1 in
    same_tells (view c.args.self.now) (view c.args.other.now) c.same.result (c.same.ensures ∙ sym both)

pub value::Value::same-returns-in-Map-Map-clause-exact : goal.value::Value::same-returns-in-Map-Map-clause-exact
value::Value::same-returns-in-Map-Map-clause-exact t c =
    let both = ap₂ (λ (u v : Value). same (view u) (view v)) c.in-Map-Map.is-0 c.in-Map-Map.is-1 in
    same_tells (view c.args.self.now) (view c.args.other.now) c.same-in-Map-Map.result (c.same-in-Map-Map.ensures ∙ sym both)
