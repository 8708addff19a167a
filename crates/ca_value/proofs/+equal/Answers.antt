use Rattle.std.proofs.Common.{◌≡◌, ◌≢◌, true, false, length, sym, ◌∙◌, arith, rules}
use Rattle.std.proofs.lemmas.Bool.Decides.{nat_tests}
use Rattle.ca_value.specs.Seq.{list}
use Rattle.ca_value.specs.View.{pair_view, pairs_view}
use Rattle.ca_value.specs.Equality.{equals, has_pair}
use Rattle.ca_value.proofs.Views.{pair_count-pairs_view, equal_items-lengths, within-next}
use Rattle.ca_value.proofs.+equal.Goals as goal

pub equal::Seq+Value::equal-returns-then-len : goal.equal::Seq+Value::equal-returns-then-len
equal::Seq+Value::equal-returns-then-len t c =
    let a = c.args.self.now in
    let b = c.args.other.now in
    let h : length (list a) ≢ length (list b) = search rules in
    sym (equal_items-lengths (list a) (list b) h)

pub value::Pairs::equal-returns-then-len : goal.value::Pairs::equal-returns-then-len
value::Pairs::equal-returns-then-len t c =
    rw (pair_count-pairs_view c.args.self.now, pair_count-pairs_view c.args.other.now) (grind (arith, nat_tests))

pub value::Pairs::equal-returns-else-len : goal.value::Pairs::equal-returns-else-len
value::Pairs::equal-returns-else-len t c =
    rw (pair_count-pairs_view c.args.self.now, pair_count-pairs_view c.args.other.now) (grind (arith, nat_tests))

pub value::Pairs::is_within-loop-pair-preserved : goal.value::Pairs::is_within-loop-pair-preserved
value::Pairs::is_within-loop-pair-preserved t c =
    let next = within-next c.as_slice-pair-items.result.now c.loop-pair.pair-index c.pair-item.result (pairs_view c.args.other.now) c.pair-item.is c.loop-pair-test.true in
    let found : has_pair (equals (pair_view c.pair-item.result).0) (equals (pair_view c.pair-item.result).1) (pairs_view c.args.other.now) ≡ true = search rules in
    sym (rw found at next) ∙ c.loop-pair.invariant

pub value::Pairs::is_within-returns-then-not-is_in : goal.value::Pairs::is_within-returns-then-not-is_in
value::Pairs::is_within-returns-then-not-is_in t c =
    let next = within-next c.as_slice-pair-items.result.now c.loop-pair.pair-index c.pair-item.result (pairs_view c.args.other.now) c.pair-item.is c.loop-pair-test.true in
    let lost : has_pair (equals (pair_view c.pair-item.result).0) (equals (pair_view c.pair-item.result).1) (pairs_view c.args.other.now) ≡ false = search rules in
    sym (rw lost at next) ∙ c.loop-pair.invariant
