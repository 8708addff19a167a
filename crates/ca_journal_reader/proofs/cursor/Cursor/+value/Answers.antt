use Rattle.std.proofs.Common.{◌≡◌, ◌∷◌, ◌++◌, [], rules, Some, false, ◌∙◌, suc, ◌-◌, ◌+◌, arith, length, subst, sym}
use Rattle.ca_value.specs.Seq.{list}
use Rattle.ca_value.specs.View.{view, views, pair_view, map_pairs}
use Rattle.ca_value.specs.Maps.{put_pair}
use Rattle.ca_value.specs.Tree.{Tree}
use Rattle.ca_journal_reader.specs.Found.{Found, Finds}
use Rattle.ca_journal_reader.specs.Words.{is_first}
use Rattle.ca_journal_reader.specs.ValueText.{pair_in, value_read}
use Rattle.ca_journal_reader.proofs.Loops.{items_step, pairs_step, scalar_step}
use Rattle.ca_journal_reader.proofs.cursor.Cursor.+value.Goals as goal

pub items-loop-preserved : goal.items-loop-preserved
items-loop-preserved t c =
    let n = length c.args.self.now.rest.now in
    let s1 = c.skip_space.new.self.rest.now in
    let count : n - c.loop.counter ≡ suc (n - (c.loop.counter + 1)) = omega (arith, c.loop-test.true) in
    let at : is_first 93 s1 ≡ false = search rules in
    let is : value_read c.args.depth s1 ≡ Some (view c.in_ok-value.value, c.value_within.new.self.rest.now) = search rules in
    let more : views (list c.add_item.new.items) ≡ views (list c.loop.items) ++ view c.in_ok-value.value ∷ [] = search rules in
    items_step (value_read c.args.depth) (n - c.loop.counter) (n - (c.loop.counter + 1)) (views (list c.loop.items)) (views (list c.add_item.new.items)) c.loop.self.rest.now s1 c.value_within.new.self.rest.now (view c.in_ok-value.value) count c.skip_space.ensures at is more
    ∙ c.loop.invariant

pub pairs-loop-preserved : goal.pairs-loop-preserved
pairs-loop-preserved t c =
    let n = c.min-end.result in
    let s1 = c.skip_comma.new.self.rest.now in
    let count : n - c.loop.counter ≡ suc (n - (c.loop.counter + 1)) = omega (arith, c.loop-test.true) in
    let at : is_first 125 s1 ≡ false = search rules in
    let is : pair_in (value_read c.args.depth) s1 ≡ Some (pair_view c.in_ok-pair.pair, c.pair.new.self.rest.now) = search rules in
    let more : map_pairs c.add_pair.new.map ≡ put_pair (map_pairs c.loop.map) (pair_view c.in_ok-pair.pair).0 (pair_view c.in_ok-pair.pair).1 = search rules in
    pairs_step (value_read c.args.depth) (n - c.loop.counter) (n - (c.loop.counter + 1)) (map_pairs c.loop.map) (map_pairs c.add_pair.new.map) c.loop.self.rest.now s1 c.pair.new.self.rest.now (pair_view c.in_ok-pair.pair) count c.skip_comma.ensures at is more
    ∙ c.loop.invariant

pub value_within-returns : goal.value_within-returns
value_within-returns t c =
    let s = c.args.self.now.rest.now in
    let whole : s ≡ c.in-Some.byte.now ∷ c.in-Some.rest.now = search rules in
    subst (λ (o : Found Tree). Finds view c.scalar.result c.scalar.new.self.rest.now o) (sym (scalar_step c.args.depth c.in-Some.byte.now s c.in-Some.rest.now whole c.if-depth-eq0.false c.if-byte-eq91.false c.if-byte-eq123.false)) c.scalar.ensures
