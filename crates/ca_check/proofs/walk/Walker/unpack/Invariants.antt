use Rattle.std.proofs.Common.{◌≡◌, ◌+◌, ◌++◌, ◌-◌, length, drop}
use Rattle.ca_value.specs.Seq.{list}
use Rattle.ca_reader.specs.View.{form_trees}
use Rattle.ca_forms.specs.Judged.{part_terms, total_names}
use Rattle.ca_forms.specs.WalkView.{gathered, terms_of}
use Rattle.ca_check.proofs.walk.Walker.unpack.Given as goal

abbrev pub invariant-loop-i : goal.invariant-loop-i
invariant-loop-i l = record {
  same : terms_of (list l.values) ++ part_terms l.place l.whole l.i (length l.names - l.i) ≡ terms_of (list l.fn.values) ++ part_terms l.place l.whole 0 (length l.names);
  names : l.self.scope ++ total_names (form_trees (drop l.i l.names)) ≡ l.fn.self.scope ++ total_names (form_trees l.names);
  longer : length (list l.values) ≡ length (list l.fn.values) + l.i;
  kept : gathered l.self.gathered ≡ gathered l.fn.self.gathered;
}
