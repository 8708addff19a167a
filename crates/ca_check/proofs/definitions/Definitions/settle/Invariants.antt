use Rattle.std.proofs.Common.{◌≡◌, length}
use Rattle.ca_forms.specs.Tops.{body_settled}
use Rattle.ca_check.specs.TopsView.{tops_of, written_as, AreBelow}
use Rattle.ca_forms.specs.WalkView.{gathered}
use Rattle.ca_check.proofs.definitions.Definitions.settle.Given as goal

abbrev pub invariant-loop-left : goal.invariant-loop-left
invariant-loop-left l = record {
  same : body_settled l.left l.looping l.hidden.keys (written_as l.defn) l.place (tops_of l.self) (gathered l.self.walker.gathered)
      ≡ body_settled 66 l.fn.hints.looping l.fn.hints.hidden.keys (written_as l.defn) l.place (tops_of l.fn.self) (gathered l.fn.self.walker.gathered);
  kept : tops_of l.self ≡ tops_of l.fn.self;
  below : AreBelow (length l.fn.self.walker.scope) l.hidden.keys;
}

abbrev pub decreases-loop-left : goal.decreases-loop-left
decreases-loop-left l = l.left
