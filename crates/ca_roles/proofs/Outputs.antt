-- What a plain function gives of a public value is public, and so are the outputs of a pipeline's job.
use Rattle.std.proofs.Common.{◌≡◌, refl, sym, subst, Bool, true, false, cond}
use Rattle.std.specs.Prelude.{Ok, Err}
use Rattle.ca_value.specs.declared.builtin.Builtin.{Builtin}
use Rattle.ca_value.specs.Tree.{Tree, Trees, vector, none as no_trees}
use Rattle.ca_value.specs.Outcome.{Outcome}
use Rattle.ca_value.specs.Builtins.{builtin_result}
use Rattle.ca_term.specs.declared.place.Place.{Place}
use Rattle.ca_term.specs.declared.fault.Fault.{Fault}
use Rattle.ca_term.specs.declared.head.PlainFunction.{PlainFunction}
use Rattle.ca_term.specs.declared.head.PlainFunction.TheVariants.{Defined, Keyword}
use Rattle.ca_term.specs.declared.head.Transform.{Transform}
use Rattle.ca_term.specs.declared.head.Transform.TheVariants.{Map, Filter, Mapcat}
use Rattle.ca_term.specs.Program.{ProgramView}
use Rattle.ca_meaning.specs.Operands.{truth}
use Rattle.ca_meaning.specs.Body.{BodyView, At, local, at_op, ended, faulted, nowhere, at, value_in}
use Rattle.ca_meaning.specs.Asks.{one_of, two_of}
use Rattle.ca_meaning.specs.Applied.{Returned, returned_at, of_builtin, Applied, Work, Outputs, outputs, no_outputs, has_nil, without_nil, items_output, outputs_of, outputs_by, Outs}
use Rattle.ca_roles.specs.Roles.{Roles, IsPublic, ArePublic}
use Rattle.ca_roles.specs.Sealed.{IsSealed}
use Rattle.ca_roles.proofs.Clean.{builtins_make_no_ports}
use Rattle.ca_roles.proofs.PublicTerms.{PublicTerm}
use Rattle.ca_roles.proofs.PublicSteps.{steps_public, ended_public}

module _ (roles : Roles) where
  abbrev pub ReturnsPublic : Returned → Type 0
  ReturnsPublic (Ok v) = IsPublic roles v
  ReturnsPublic (Err f) = Unit {0}

  returned_public : (b : BodyView) → PublicTerm roles b.term → ReturnsPublic (returned_at (at b))
  returned_public b h = by (at b) refl where
    by : (a : At) → at b ≡ a → ReturnsPublic (returned_at a)
    by (ended v) e = ended_public roles b v h e
    by (faulted f p) e = tt
    by (at_op w) e = tt
    by local e = tt
    by nowhere e = tt

  builtin_public : (o : Outcome) → IsPublic roles (value_in o) → ReturnsPublic (of_builtin o)
  builtin_public (Ok v) h = h
  builtin_public (Err f) h = tt

  abbrev OutsPublic : Outputs → Type 0
  OutsPublic (outputs ys) = ArePublic roles ys
  OutsPublic (no_outputs f) = Unit {0}

  no_nil_public : (ys : Trees) → ArePublic roles ys → OutsPublic (without_nil ys)
  no_nil_public ys h = by (has_nil ys) where
    by : (b : Bool) → OutsPublic (cond b (no_outputs Fault.NilPut) (outputs ys))
    by true = tt
    by false = h

  items_public : (w : Tree) → IsPublic roles w → OutsPublic (items_output w)
  items_public (vector ys) h = no_nil_public ys h
  items_public w h = tt

  outputs_public : (x : Transform) (v w : Tree) → IsPublic roles v → IsPublic roles w → OutsPublic (outputs_of x v w)
  outputs_public Map v w hv hw = no_nil_public (one_of w) (hw, tt)
  outputs_public Filter v w hv hw = no_nil_public (cond (truth w) (one_of v) no_trees) (by (truth w)) where
    by : (b : Bool) → ArePublic roles (cond b (one_of v) no_trees)
    by true = (hv, tt)
    by false = tt
  outputs_public Mapcat v w hv hw = items_public w hw

module _ (program : ProgramView) (sealed : IsSealed program) (roles : Roles) where
  pub applied_public : (f : PlainFunction) (k : Tree) (p : Place) (v : Tree) (r : Returned) → IsPublic roles v → IsPublic roles k → Applied program f k p v r → ReturnsPublic roles r
  applied_public (Defined n) k p v r h hk a = subst (ReturnsPublic roles) (sym a.2) (returned_public roles a.0 (steps_public program sealed roles a.1.reached (h, tt)))
  applied_public (PlainFunction.Builtin b) k p v r h hk a = subst (ReturnsPublic roles) (sym a) (builtin_public roles (builtin_result b (one_of v)) (builtins_make_no_ports roles b (one_of v) (h, tt)))
  applied_public Keyword k p v r h hk a = subst (ReturnsPublic roles) (sym a) (builtin_public roles (builtin_result Builtin.Get (two_of v k)) (builtins_make_no_ports roles Builtin.Get (two_of v k) (h, (hk, tt))))

  -- a publication's topic
  pub topic_public : (f : PlainFunction) (k : Tree) (p : Place) (v topic : Tree) → IsPublic roles v → IsPublic roles k → Applied program f k p v (Ok topic) → IsPublic roles topic
  topic_public f k p v topic h hk a = applied_public f k p v (Ok topic) h hk a

  pub outs_public : (w : Work) (v : Tree) (ys : Trees) → IsPublic roles v → IsPublic roles w.keyword → Outs program w v (outputs ys) → ArePublic roles ys
  outs_public w v ys h hk o = by o.0 (applied_public w.function w.keyword w.place v o.0 h hk o.1) o.2 where
    by : (r : Returned) → ReturnsPublic roles r → outputs ys ≡ outputs_by w.transform v r → ArePublic roles ys
    by (Ok u) k e = subst (OutsPublic roles) (sym e) (outputs_public roles w.transform v u h k)
    by (Err f) k e = absurd (let j : outputs ys ≡ no_outputs f = e in cc)
