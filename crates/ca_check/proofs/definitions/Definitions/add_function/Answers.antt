use Rattle.std.proofs.Common.{rules, ◌<◌, ◌≤◌}
use Rattle.ca_term.specs.View.{kernel}
use Rattle.ca_forms.specs.Depth.{kernel_depth}
use Rattle.ca_forms.specs.Tops.{add_function}
use Rattle.ca_check.specs.TopsView.{tops_of, written_as, settled_view}
use Rattle.ca_forms.specs.WalkView.{gathered, Fails}
use Rattle.ca_check.proofs.SettledLaws.{add_fails, add_deep, add_done}
use Rattle.ca_check.proofs.DefnLaws.{if_on_by}
use Rattle.ca_check.proofs.definitions.Definitions.add_function.Goals as goal

pub returns-in_err-body-clause-err : goal.returns-in_err-body-clause-err
returns-in_err-body-clause-err c =
    let w = written_as c.args.defn.now in
    let t = tops_of c.args.self.now in
    let s = gathered c.args.self.now.walker.gathered in
    let h : Fails c.in_err-body.field-0.0 (add_function w c.args.place t s)
    = add_fails c.in_ok-hints.hints.looping c.in_ok-hints.hints.hidden.keys w c.args.place t (tops_of c.first_pass.new.self) s (gathered c.first_pass.new.self.walker.gathered)
    c.in_ok-hints.ensures.ok c.in_ok-hints.ensures.kept c.in_ok-hints.ensures.gathered c.in_err-body.field-0.0 c.in_err-body.ensures.err in
    search rules

pub returns-then-depth-gt60-clause-err : goal.returns-then-depth-gt60-clause-err
returns-then-depth-gt60-clause-err c =
    let w = written_as c.args.defn.now in
    let t = tops_of c.args.self.now in
    let s = gathered c.args.self.now.walker.gathered in
    let deep : 60 < kernel_depth (kernel c.in_ok-body.body.made) = search rules in
    add_deep c.in_ok-hints.hints.looping c.in_ok-hints.hints.hidden.keys w c.args.place t (tops_of c.first_pass.new.self) s (gathered c.first_pass.new.self.walker.gathered)
    c.in_ok-hints.ensures.ok c.in_ok-hints.ensures.kept c.in_ok-hints.ensures.gathered (settled_view c.in_ok-body.body.made c.in_ok-body.body.hidden.keys) (gathered c.settle.new.self.walker.gathered) c.in_ok-body.ensures.ok deep

pub returns-clause-ok : goal.returns-clause-ok
returns-clause-ok c =
    let w = written_as c.args.defn.now in
    let t = tops_of c.args.self.now in
    let s = gathered c.args.self.now.walker.gathered in
    let flat : kernel_depth (kernel c.in_ok-body.body.made) ≤ 60 = search rules in
    if_on_by c.define.result _ _ (λ h.
    add_done c.in_ok-hints.hints.looping c.in_ok-hints.hints.hidden.keys w c.args.place t (tops_of c.first_pass.new.self) s (gathered c.first_pass.new.self.walker.gathered)
    c.in_ok-hints.ensures.ok c.in_ok-hints.ensures.kept c.in_ok-hints.ensures.gathered (settled_view c.in_ok-body.body.made c.in_ok-body.body.hidden.keys) (gathered c.settle.new.self.walker.gathered) (gathered c.define.new.self.walker.gathered)
    (tops_of c.settle.new.self) (tops_of c.define.new.self) c.in_ok-body.ensures.ok flat c.in_ok-body.ensures.kept h c.define.ensures.gathered) c.define.ensures.ok
