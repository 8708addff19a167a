use Rattle.std.proofs.Common.{◌≡◌, suc, ◌<◌, ◌-◌, ◌+◌, [], ◌∷◌, ◌++◌, length, rules, Some, Err, true, false, sym, subst, ◌∙◌, arith}
use Rattle.ca_value.specs.Seq.{list}
use Rattle.ca_value.specs.declared.seq.Seq.{Seq}
use Rattle.ca_value.specs.declared.value.Value.{Value}
use Rattle.ca_value.specs.View.{view, views}
use Rattle.ca_journal_reader.specs.ValueText.{value_field}
use Rattle.ca_journal_reader.specs.FieldText.{values_read}
use Rattle.ca_journal_reader.specs.Found.{Finds, FindsAtEnd}
use Rattle.ca_journal_reader.specs.Words.{is_first}
use Rattle.ca_journal_reader.proofs.Loops.{list_step, list_end, list_bad}
use Rattle.ca_journal_reader.proofs.cursor.Cursor.values.Goals as goal

pub returns-then-is_at : goal.returns-then-is_at
returns-then-is_at c =
    let n = length c.args.self.now.rest.now - c.loop.counter in
    let more : 0 < n = omega (arith, c.loop-test.true) in
    let at : is_first 10 c.loop.self.rest.now ≡ true = search rules in
    sym c.loop.invariant ∙ list_end value_field n (views (list c.loop.items)) c.loop.self.rest.now more at

pub returns-in_err-value : goal.returns-in_err-value
returns-in_err-value c =
    let n = length c.args.self.now.rest.now - c.loop.counter in
    let more : 0 < n = omega (arith, c.loop-test.true) in
    let at : is_first 10 c.loop.self.rest.now ≡ false = search rules in
    let whole = values_read c.args.self.now.rest.now in
    let refused = c.in_err-value.field-0.0 in
    let same : c.from_residual.result ≡ Err refused = search rules in
    let is : Finds view (Err refused) c.value.new.self.rest.now (value_field c.loop.self.rest.now) = c.in_err-value.ensures in
    subst (λ r. FindsAtEnd (λ (xs : Seq Value). views (list xs)) r whole) (sym same) (list_bad view (λ (xs : Seq Value). views (list xs)) value_field n (views (list c.loop.items)) c.loop.self.rest.now c.value.new.self.rest.now whole refused more at is c.loop.invariant)

pub loop-preserved : goal.loop-preserved
loop-preserved c =
    let n = length c.args.self.now.rest.now in
    let count : n - c.loop.counter ≡ suc (n - (c.loop.counter + 1)) = omega (arith, c.loop-test.true) in
    let at : is_first 10 c.loop.self.rest.now ≡ false = search rules in
    let is : value_field c.loop.self.rest.now ≡ Some (view c.in_ok-value.value, c.value.new.self.rest.now) = search rules in
    let more : views (list c.add_item.new.items) ≡ views (list c.loop.items) ++ view c.in_ok-value.value ∷ [] = search rules in
    list_step value_field (n - c.loop.counter) (n - (c.loop.counter + 1)) (views (list c.loop.items)) (views (list c.add_item.new.items)) c.loop.self.rest.now c.value.new.self.rest.now (view c.in_ok-value.value) count at is more
    ∙ c.loop.invariant
