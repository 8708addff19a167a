use Rattle.std.proofs.Common.{◌≡◌, ◌≤◌, ◌+◌, ◌++◌, length}
use Rattle.ca_value.specs.Seq.{list}
use Rattle.ca_check.specs.Again.{binders_of}
use Rattle.ca_check.specs.TopsView.{pattern_names, pattern_parts, AreCounted}
use Rattle.ca_forms.specs.WalkView.{gathered, terms_of}
use Rattle.ca_forms.proofs.LoopLaws.{binders_from}
use Rattle.ca_check.proofs.walk.Walker.unpack_bindings.Given as goal

abbrev pub invariant-loop-i : goal.invariant-loop-i
invariant-loop-i l = record {
  same : terms_of (list l.values) ++ pattern_parts l.place (l.first + l.i) (binders_from l.items l.i) ≡ pattern_parts l.place l.first (binders_of l.items);
  names : l.self.scope ++ pattern_names (binders_from l.items l.i) ≡ l.fn.self.scope ++ pattern_names (binders_of l.items);
  longer : length l.self.scope ≡ length l.fn.self.scope + length (list l.values);
  kept : gathered l.self.gathered ≡ gathered l.fn.self.gathered;
  counted : AreCounted (binders_from l.items l.i);
  room : l.first + l.i + length (binders_from l.items l.i) ≤ length l.fn.self.scope;
}
