use Rattle.std.proofs.Common.{◌≡◌, ◌+◌, ◌-◌, ◌++◌, [], ◌∷◌, ◌≤◌, length, ◌∙◌, ap, arith}
use Rattle.ca_value.specs.View.{view, views}
use Rattle.ca_states.specs.Machine.{read, reads, slots_from, left_in_slot}
use Rattle.ca_states.proofs.RowLaws.{row_within}
use Rattle.ca_states.proofs.SlotLaws.{read_next, read_other, take_next, views_push}
use Rattle.ca_states.proofs.slots.take_into.Goals as goal

pub overflow_add-from : goal.overflow_add-from
overflow_add-from c =
    let h = row_within (length c.args.slots.now) c.args.from c.args.count c.loop-i.i c.requires c.loop-i-test.true in
    omega (arith, h, c.width_of-width.type_inv, c.width_of-width.ensures)

pub take_at-requires : goal.take_at-requires
take_at-requires c =
    let h = row_within (length c.args.slots.now) c.args.from c.args.count c.loop-i.i c.requires c.loop-i-test.true in
    omega (arith, h, c.loop-i.invariant.same)

pub loop-i-preserved : goal.loop-i-preserved
loop-i-preserved c =
    let i = c.loop-i.i in
    let a = c.args.from in
    let n = c.args.count in
    let s = views c.loop-i.slots in
    let s0 = views c.args.slots.now in
    let xs = c.loop-i.values.items in
    let here : a + i ≤ a + i = omega arith in
    let e : view c.take_at.result ≡ read s0 (a + i) = c.take_at.ensures.value ∙ c.loop-i.invariant.later (a + i) here in record {
      same = c.take_at.ensures.same ∙ c.loop-i.invariant.same;
      taken = take_next s (views c.take_at.new.slots) a i n c.loop-i-test.true c.take_at.ensures.taken ∙ c.loop-i.invariant.taken;
      later = λ k le.
          ap (λ z. read z k) c.take_at.ensures.taken
          ∙ read_other s (a + i) k (left_in_slot (read s (a + i))) (omega (arith, le))
          ∙ c.loop-i.invariant.later k (omega (arith, le));
      count = omega (arith, c.in_ok-push.ensures.len, c.loop-i.invariant.count);
      moved = ap (λ z. views z ++ reads s0 (slots_from (a + (i + 1)) (n - (i + 1)))) c.in_ok-push.ensures.items
          ∙ ap (λ z. z ++ reads s0 (slots_from (a + (i + 1)) (n - (i + 1)))) (views_push xs c.take_at.result)
          ∙ read_next s0 (views xs) a i n (view c.take_at.result) c.loop-i-test.true e
          ∙ c.loop-i.invariant.moved;
    }
