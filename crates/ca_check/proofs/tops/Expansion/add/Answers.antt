use Rattle.std.proofs.Common.{rules, Err, arith, ◌≡◌, ◌≤◌, length, false, ap, sym, ◌∙◌}
use Rattle.ca_value.specs.Seq.{list}
use Rattle.ca_term.specs.View.{bindings}
use Rattle.ca_forms.specs.Tops.{one_top, function, is_taken}
use Rattle.ca_check.specs.TopsView.{tops_of, written_as}
use Rattle.ca_check.specs.ScriptView.{ScriptRest, ahead, rest_of_script}
use Rattle.ca_forms.specs.WalkView.{gathered, Fails}
use Rattle.ca_check.proofs.DefnLaws.{binders_length, err_is}
use Rattle.ca_check.proofs.TopLaws.{function_leads, function_fails, function_many, or_left}
use Rattle.ca_check.proofs.tops.Expansion.add.Goals as goal

pub returns-clause-ok : goal.returns-clause-ok
returns-clause-ok c rest =
    let w = written_as c.args.defn.now in
    let t = tops_of c.args.self.now.definitions in
    let free : is_taken w.name t ≡ false = sym c.is_taken.ensures ∙ c.if-is_taken.false in
    let few : length w.parameters ≤ 16 = omega (arith, binders_length c.args.defn.now.parameters.now) in
    ap (ahead (bindings (list c.args.self.now.bindings))) (function_leads w c.args.place rest t (tops_of c.add_function.new.self) (gathered c.args.self.now.definitions.walker.gathered) (gathered c.add_function.new.self.walker.gathered) free few c.in_ok-add_function.ensures.ok (search rules))

pub add_function-requires-clause-free : goal.add_function-requires-clause-free
add_function-requires-clause-free c = or_left _ _ (sym c.is_taken.ensures ∙ c.if-is_taken.false)

pub returns-then-defn-gt16-clause-err : goal.returns-then-defn-gt16-clause-err
returns-then-defn-gt16-clause-err c rest =
    let w = written_as c.args.defn.now in
    function_many w c.args.place rest (tops_of c.args.self.now.definitions) (gathered c.args.self.now.definitions.walker.gathered) (sym c.is_taken.ensures ∙ c.if-is_taken.false)
    (omega (arith, binders_length c.args.defn.now.parameters.now))

pub returns-in_err-add_function-clause-err : goal.returns-in_err-add_function-clause-err
returns-in_err-add_function-clause-err c =
    let w = written_as c.args.defn.now in
    let t = tops_of c.args.self.now.definitions in
    let free : is_taken w.name t ≡ false = sym c.is_taken.ensures ∙ c.if-is_taken.false in
    let few : length w.parameters ≤ 16 = omega (arith, binders_length c.args.defn.now.parameters.now) in
    let h : (rest : ScriptRest) → Fails c.in_err-add_function.field-0.0 (rest_of_script c.args.self.now (one_top (function w) c.args.place rest))
    = λ rest. function_fails c.in_err-add_function.field-0.0 w c.args.place rest t (gathered c.args.self.now.definitions.walker.gathered) free few c.in_err-add_function.ensures.err in
    let same : c.from_residual.result ≡ Err c.in_err-add_function.field-0.0 = search rules in
    err_is c.from_residual.result c.in_err-add_function.field-0.0 _ same h
