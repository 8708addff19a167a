use Rattle.std.proofs.Common.{◌≡◌, ◌≤◌, ◌+◌, ◌++◌, length}
use Rattle.ca_value.specs.Seq.{list}
use Rattle.ca_check.specs.Again.{widths, again_terms, whole_names, binders_of}
use Rattle.ca_forms.specs.WalkView.{gathered, terms_of}
use Rattle.ca_forms.proofs.LoopLaws.{binders_from}
use Rattle.ca_check.proofs.walk.Walker.bind_again.Given as goal

abbrev pub invariant-loop-i : goal.invariant-loop-i
invariant-loop-i l = record {
  same : terms_of (list l.values) ++ again_terms l.number (binders_from l.items l.i) ≡ again_terms l.first (binders_of l.items);
  names : l.self.scope ++ whole_names (binders_from l.items l.i) ≡ l.fn.self.scope ++ whole_names (binders_of l.items);
  longer : length l.self.scope ≡ length l.fn.self.scope + length (list l.values);
  kept : gathered l.self.gathered ≡ gathered l.fn.self.gathered;
  room : l.number + widths (binders_from l.items l.i) ≤ length l.fn.self.scope;
}
