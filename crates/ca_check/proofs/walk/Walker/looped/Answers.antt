use Rattle.std.proofs.Common.{rules, ◌≡◌, ◌+◌, length, arith, ap, sym, ◌∙◌}
use Rattle.std.proofs.lemmas.List.{length-append, length-map}
use Rattle.ca_value.specs.Seq.{list}
use Rattle.ca_term.specs.View.{kernel}
use Rattle.ca_forms.specs.Tops.{looped, names_of, numbers}
use Rattle.ca_check.specs.TopsView.{in_function, written_as}
use Rattle.ca_forms.specs.WalkView.{gathered, terms_of, Fails}
use Rattle.ca_check.proofs.DefnLaws.{if_ok_by, looped_walked, looped_fails, terms_are_vars, binders_length, vars_many, names_many}
use Rattle.ca_check.proofs.walk.Walker.looped.Goals as goal

pub returns-in_err-body-clause-err : goal.returns-in_err-body-clause-err
returns-in_err-body-clause-err c =
    let w = written_as c.args.defn.now in
    let h : Fails c.in_err-body.field-0.0 (looped w c.args.place (in_function c.args.self.now.scope c.args.functions.now) (gathered c.args.self.now.gathered))
    = looped_fails w c.args.place c.args.self.now.scope c.args.functions.now (gathered c.args.self.now.gathered) c.bind_parameters.new.self.scope c.bind_parameters-2.new.self.scope (gathered c.bind_parameters-2.new.self.gathered)
    c.len-first.result (length c.args.defn.now.parameters.now) c.len-first.ensures c.in_ok-bind_parameters.ensures.ok c.in_ok-bind_parameters-2.ensures.ok (sym (binders_length c.args.defn.now.parameters.now))
    (c.in_ok-bind_parameters-2.ensures.gathered ∙ c.in_ok-bind_parameters.ensures.gathered) c.in_err-body.field-0.0 c.in_err-body.ensures.err in
    search rules

pub repeat-requires : goal.repeat-requires
repeat-requires c =
    let w = written_as c.args.defn.now in
    let many : length (names_of w.parameters) ≡ length c.args.defn.now.parameters.now = length-map w.parameters _ ∙ binders_length c.args.defn.now.parameters.now in
    let first : c.len-first.result ≡ length c.args.self.now.scope + length (names_of w.parameters) = c.len-first.ensures ∙ ap length c.in_ok-bind_parameters.ensures.ok ∙ length-append c.args.self.now.scope (names_of w.parameters) in
    let vars : length (list c.in_ok-values.values) ≡ length (names_of w.parameters) = vars_many (list c.in_ok-values.values) c.len-size.result (names_of w.parameters) (search rules) in
    omega (arith, many, first, vars, c.requires.few, c.requires.short)

pub returns-clause-ok : goal.returns-clause-ok
returns-clause-ok c =
    let w = written_as c.args.defn.now in
    let vars : terms_of (list c.in_ok-values.values) ≡ _ = terms_are_vars (list c.in_ok-values.values) (numbers (length c.args.self.now.scope) (names_of w.parameters)) (search rules) in
    if_ok_by c.repeat.result _ _ (λ t h.
    looped_walked w c.args.place c.args.self.now.scope c.args.functions.now (gathered c.args.self.now.gathered) c.bind_parameters.new.self.scope c.bind_parameters-2.new.self.scope (gathered c.bind_parameters-2.new.self.gathered)
    c.len-first.result (length c.args.defn.now.parameters.now) c.len-first.ensures c.in_ok-bind_parameters.ensures.ok c.in_ok-bind_parameters-2.ensures.ok (sym (binders_length c.args.defn.now.parameters.now))
    (c.in_ok-bind_parameters-2.ensures.gathered ∙ c.in_ok-bind_parameters.ensures.gathered) (kernel c.in_ok-body.body) (gathered c.unpacked.new.self.gathered) (list c.in_ok-values.values) c.in_ok-body.ensures.ok vars ∙ h) c.repeat.ensures.ok

pub unpacked-requires-clause-room : goal.unpacked-requires-clause-room
unpacked-requires-clause-room c = omega (arith, c.len-first.ensures, names_many c.bind_parameters.new.self.scope c.bind_parameters-2.new.self.scope c.args.defn.now.parameters.now c.in_ok-bind_parameters-2.ensures.ok)
