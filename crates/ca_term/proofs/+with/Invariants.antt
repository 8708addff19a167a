use Rattle.std.proofs.Common.{◌≡◌, ◌≤◌, ◌+◌, map, take, length}
use Rattle.ca_value.specs.Seq.{list, spare}
use Rattle.ca_value.specs.View.{view}
use Rattle.ca_term.specs.Kernel.{put}
use Rattle.ca_term.specs.View.{kernel, binding_view}
use Rattle.ca_term.proofs.PutLaws.{put_named}
use Rattle.ca_term.proofs.+with.Given as goal

abbrev pub invariant-put::terms_with-loop-term : goal.invariant-put::terms_with-loop-term
invariant-put::terms_with-loop-term l = record {
  same : map kernel (list l.copies) ≡ map (λ t. put l.name (view l.value) (kernel t)) (take l.term-index l.term-items);
  room : length l.term-items ≤ spare l.copies + l.term-index;
}

abbrev pub invariant-put::bindings_with-loop-binding :
    goal.invariant-put::bindings_with-loop-binding
invariant-put::bindings_with-loop-binding l = record {
  same : map binding_view (list l.copies) ≡ map (λ b. put_named l.name (view l.value) (binding_view b)) (take l.binding-index l.rest);
  room : length l.rest ≤ spare l.copies + l.binding-index;
}
