use Rattle.std.proofs.Common.{◌≡◌, ℕ, ◌+◌, ◌-◌, ◌≤◌, ◌++◌, length}
use Rattle.ca_value.specs.View.{views}
use Rattle.ca_states.specs.Machine.{read, reads, taken_all, slots_from}
use Rattle.ca_states.proofs.slots.take_into.Given as goal

abbrev pub invariant-loop-i : goal.invariant-loop-i
invariant-loop-i l = record {
  same : length l.slots ≡ length l.fn.slots;
  taken : taken_all (views l.slots) (slots_from (l.from + l.i) (l.count - l.i)) ≡ taken_all (views l.fn.slots) (slots_from l.from l.count);
  later : (k : ℕ) → l.from + l.i ≤ k → read (views l.slots) k ≡ read (views l.fn.slots) k;
  count : length l.values.items ≡ length l.fn.values.items + l.i;
  moved : views l.values.items ++ reads (views l.fn.slots) (slots_from (l.from + l.i) (l.count - l.i)) ≡ views l.fn.values.items ++ reads (views l.fn.slots) (slots_from l.from l.count);
}
