use Rattle.std.proofs.Common.{◌≡◌, ◌+◌, ◌++◌, length}
use Rattle.ca_value.specs.Seq.{list}
use Rattle.ca_reader.specs.View.{form_trees}
use Rattle.ca_check.specs.TopsView.{total_binders, pattern_parts, pattern_names}
use Rattle.ca_forms.specs.WalkView.{gathered, terms_of}
use Rattle.ca_check.proofs.PatternLaws.{parts_from, inner_from}
use Rattle.ca_check.proofs.walk.Walker.unpack_patterns.Given as goal

abbrev pub invariant-loop-i : goal.invariant-loop-i
invariant-loop-i l = record {
  same : terms_of (list l.values) ++ parts_from l.place l.first l.parameters l.i ≡ pattern_parts l.place l.first (total_binders (form_trees l.parameters));
  names : l.self.scope ++ inner_from l.parameters l.i ≡ l.fn.self.scope ++ pattern_names (total_binders (form_trees l.parameters));
  longer : length l.self.scope ≡ length l.fn.self.scope + length (list l.values);
  kept : gathered l.self.gathered ≡ gathered l.fn.self.gathered;
}
