use Rattle.std.proofs.Common.{Some, ap, sym, ◌∙◌}
use Rattle.ca_forms.specs.Tops.{straight}
use Rattle.ca_check.specs.TopsView.{in_function, written_as, body_in}
use Rattle.ca_forms.specs.WalkView.{gathered}
use Rattle.ca_check.proofs.DefnLaws.{if_ok_by, if_err_by, fails_same, binders_length}
use Rattle.ca_check.proofs.walk.Walker.body.Goals as goal

pub returns-in-First-clause-ok : goal.returns-in-First-clause-ok
returns-in-First-clause-ok c =
    let w = written_as c.args.defn.now in
    let e = in_function c.args.self.now.scope c.args.functions.now in
    let s = gathered c.args.self.now.gathered in
    if_ok_by c.straight.result _ _ (λ t h. ap (λ pass. body_in pass w c.args.place e s) c.in-First.is ∙ ap (λ n. straight (Some n) w c.args.place e s) (binders_length c.args.defn.now.parameters.now) ∙ h) c.straight.ensures.ok

pub returns-in-First-clause-err : goal.returns-in-First-clause-err
returns-in-First-clause-err c =
    let w = written_as c.args.defn.now in
    let e = in_function c.args.self.now.scope c.args.functions.now in
    let s = gathered c.args.self.now.gathered in
    if_err_by c.straight.result _ _ (λ x h. fails_same x _ _ (sym (ap (λ pass. body_in pass w c.args.place e s) c.in-First.is ∙ ap (λ n. straight (Some n) w c.args.place e s) (binders_length c.args.defn.now.parameters.now))) h) c.straight.ensures.err
